-- What the run over a script's bytes tells is what the language and the plain machine say.
use Rattle.std.proofs.Common.{◌≡◌, ℕ, ◌+◌, ◌%◌, ◌^◌, Bool, true, false, eqb, List, [], ◌∷◌, ◌++◌, length, refl, ap, ◌∙◌, append_assoc}
use Rattle.plain.specs.declared.Device.{Device}
use Rattle.std.specs.Prelude.{if◌then◌else◌}
use Rattle.plain.specs.Lent.{Lent}
use Rattle.plain.specs.Record.{fresh}
use Rattle.script.specs.declared.Line.{Line}
use Rattle.language.specs.Language.{Bytes, Meaning, meaning}
use Rattle.script.specs.Lines.{no_line, fed_line, fed_words, ended_words}
use Rattle.conformance.specs.Reading.{read_from}
use Rattle.conformance.proofs.LineBytes.{reads-meaning, fed-size, ended-size}
use Rattle.deeds.specs.Events.{State, state}
use Rattle.deeds.specs.Tells.{tells}
use Rattle.playing.specs.Runs.{run, replay, begun, ended, fed, run_over, answered, told_over, left, closing, told}
use Rattle.deeds.specs.Answers.{answers_on, answers_from, answers}

-- two readings of a line that agree are answered alike
same-answers : (bytes : List ℕ) (f g : List ℕ → Meaning) (n : ℕ) (s : State) → Bytes bytes → ((rest : List ℕ) → Bytes rest → f rest ≡ g rest)
    → answers_from f n bytes s ≡ answers_from g n bytes s
unfolding answers_from
same-answers [] f g n s p same = rw (same [] tt)
same-answers (b ∷ bytes) f g n s p same =
    by (eqb b 10) (same-answers bytes (λ rest. f (b ∷ rest)) (λ rest. g (b ∷ rest)) n s p.1 (λ rest q. same (b ∷ rest) (p.0, q)))
  where
    by : (e : Bool) → answers_from (λ rest. f (b ∷ rest)) n bytes s ≡ answers_from (λ rest. g (b ∷ rest)) n bytes s
        → answers_on e f n b (λ next m. answers_from next m bytes) s ≡ answers_on e g n b (λ next m. answers_from next m bytes) s
    by true go = rw (same [] tt)
    by false go = go

answers-on : (bytes : List ℕ) (r : Device) (l : Line) (n : ℕ) (lent : Lent) (words : List ℕ) → length words ≡ 16384 → Bytes bytes
    → told (run (replay r l n) lent words) bytes ≡ answers_from (read_from l words) n bytes (state r lent)
unfolding run_over told_over answers_from ended fed answered read_from
answers-on [] r l n lent words size p = refl
answers-on (b ∷ bytes) r l n lent words size p =
    by (eqb b 10)
    (λ s m stored held. answers-on bytes s.device no_line m s.lent stored held p.1)
    (answers-on bytes r (fed_line l b (length words)) n lent (fed_words l b words) (fed-size l b words ∙ size) p.1)
  where
    by : (e : Bool)
        → ((s : State) (m : ℕ) (stored : List ℕ) → length stored ≡ 16384 → told (run (replay s.device no_line m) s.lent stored) bytes ≡ answers_from (read_from no_line stored) m bytes s)
        → told (fed (run (replay r l n) lent words) b) bytes ≡ answers_from (read_from (fed_line l b (length words)) (fed_words l b words)) n bytes (state r lent)
        → (if e then answered (run (replay r l n) lent words) else [])
        ++ told_over (if e then ended (run (replay r l n) lent words) else fed (run (replay r l n) lent words) b) bytes
        ++ closing (run_over (if e then ended (run (replay r l n) lent words) else fed (run (replay r l n) lent words) b) bytes)
        ≡ answers_on e (read_from l words) n b (λ next m. answers_from next m bytes) (state r lent)
    by true next on =
        let s = left (run (replay r l n) lent words) in
        let m = (n + 1) % 2 ^ 64 in
        let held = ended-size l words ∙ size in
        rw append_assoc
        (ap (λ (rest : List ℕ). tells (read_from l words []) n r lent ++ rest)
        (next s m (ended_words l words) held
        ∙ same-answers bytes (read_from no_line (ended_words l words)) meaning m s p.1 (λ rest q. reads-meaning (ended_words l words) rest held q)))
    by false next on = on

-- ---- the whole: what is written for a script, to the byte
pub script-answers : (bytes : List ℕ) (lent : Lent) (words : List ℕ) → length words ≡ 16384 → Bytes bytes → told (run begun lent words) bytes ≡ answers bytes (state fresh lent)
script-answers bytes lent words size p =
    answers-on bytes fresh no_line 1 lent words size p
    ∙ same-answers bytes (read_from no_line words) meaning 1 (state fresh lent) p (λ rest q. reads-meaning words rest size q)
