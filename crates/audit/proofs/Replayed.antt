-- What the replay writes is what a script's lines mean and the plain machine answers.
use Prim.Native.Nat.{ℕ}
use mathlib.Core.Path.{◌≡◌, refl, sym, ap, ◌∙◌}
use mathlib.Core.List.{List, [], ◌∷◌, ◌++◌, append_assoc}
use lib.Dec.{eqb}
use Rattle.std.specs.Prelude.{if◌then◌else◌}
use Rattle.plain.specs.Lent.{Lent}
use Rattle.playing.specs.declared.Replay.{Replay}
use Rattle.playing.specs.Runs.{Run, run, ended, fed, run_over, told_over, closing, told}
use Rattle.playing.proofs.Answers.{script-answers}
use Rattle.playing.proofs.Told.{told-parts}
use Rattle.audit.specs.Replayed.{Writes, ends, goes, joined, ReplayAnswers}

-- a run over two parts is one over the first and one over the second
runs_on : (s : Run) (one two : List ℕ) → run_over s (one ++ two) ≡ run_over (run_over s one) two
unfolding run_over
runs_on s [] two = refl
runs_on s (b ∷ one) two = runs_on (if eqb b 10 then ended s else fed s b) one two

whole-on : (s : Run) (one two : List ℕ) → told s (one ++ two) ≡ told_over s one ++ told (run_over s one) two
whole-on s one two = rw (told-parts s one two, runs_on s one two) (append_assoc (told_over s one) (told_over (run_over s one) two) (closing (run_over (run_over s one) two)))

writes-told : {r : Replay} {l : Lent} {words : List ℕ} {parts : List (List ℕ)} {written : List ℕ} → Writes r l words parts written → written ≡ told (run r l words) (joined parts)
unfolding run_over told_over
writes-told (ends t at by of to n l' out words' out' d) = d.filled
writes-told {r} {l} {words} (goes t from at by of to y l' out words' out' {part = part} {parts = parts} d w) =
    rw (d.1.filled, writes-told w, d.0) (sym (whole-on (run r l words) part (joined parts)))

pub replay-answers : ReplayAnswers
replay-answers first l words parts written is size bytes w =
    writes-told w ∙ ap (λ (r : Replay). told (run r l words) (joined parts)) is ∙ script-answers (joined parts) l words size bytes
