-- What is told of the bytes up to one and that byte: an LF adds the line's answer, another byte nothing.
use Rattle.std.proofs.Common.{◌≡◌, ℕ, ◌+◌, ◌<◌, eqb, List, [], ◌∷◌, ◌++◌, length, get_or, take, refl, append_assoc, append-nil, ne_eqb}
use Rattle.std.specs.Prelude.{if◌then◌else◌}
use Rattle.playing.specs.Runs.{Run, run_over, told_over, ended, fed, answered}
use Rattle.playing.proofs.Runs.{next}

-- input in parts is told like the whole
pub told-parts : (s : Run) (bytes more : List ℕ) → told_over s (bytes ++ more) ≡ told_over s bytes ++ told_over (run_over s bytes) more
unfolding run_over told_over
told-parts s [] more = refl
told-parts s (b ∷ bytes) more =
    rw (told-parts (if eqb b 10 then ended s else fed s b) bytes more, append_assoc)

module _ (s : Run) (bytes : List ℕ) (at : ℕ) (inside : at < length bytes) where
  pub told-end : get_or bytes at 0 ≡ 10 → told_over s (take (at + 1) bytes) ≡ told_over s (take at bytes) ++ answered (run_over s (take at bytes))
  unfolding told_over
  told-end lf = rw (next s bytes at inside, told-parts, lf, append-nil)

  pub told-on : (get_or bytes at 0 ≡ 10 → ⊥) → told_over s (take (at + 1) bytes) ≡ told_over s (take at bytes)
  unfolding told_over
  told-on other = rw (next s bytes at inside, told-parts, ne_eqb (get_or bytes at 0) 10 other, append-nil)
