-- No operation ends in a block then protected, and a sound record stays sound: of the public functions.
use Prim.Native.Nat.{ℕ}
use mathlib.Core.Path.{◌≡◌, ap, sym, ◌∙◌}
use mathlib.Core.Bool.{true}
use native.Mathlib.Omega.{arith}
use Rattle.geometry.specs.declared.Part.{Part}
use Rattle.plain.specs.declared.Refusal.TheVariants.{Done, State}
use Rattle.plain.specs.declared.Device.{Device}
use Rattle.plain.specs.declared.Answer.{Answer}
use Rattle.plain.specs.Events.{wait}
use Rattle.plain.specs.Lent.{Lent}
use Rattle.plain.specs.Machine.{wait_event, step}
use Rattle.plain.specs.Refusals.{number}
use Rattle.plain.specs.Sound.{sound}
use Rattle.plain.proofs.Ends.{never-ends-protected}
use Rattle.plain.proofs.EventLaws.{wait-barred}
use Rattle.plain.proofs.Ladder.{entry-state}
use Rattle.plain.proofs.Tools.{by_cases}
use Rattle.history.proofs.Kept.{step-sound, no-run-ends-protected}
use Rattle.audit.specs.Performed.{Allowed}
use Rattle.audit.specs.Promises.{WaitsSpareProtected, RunsSpareProtected, AnswersStaySound}
use Rattle.audit.proofs.Same.{allowed-is, runs-are}

-- a wait that is taken was of a sound record
taken-sound : (p : Part) (r : Device) (l : Lent) (n : ℕ) → (wait_event p r l n).answer.refusal ≡ Done → sound p r ≡ true
unfolding number
taken-sound p r l n e =
    by_cases (sound p r) (λ s. s)
    (λ s.
    let state : State ≡ Done = ap (λ (y : Answer). y.refusal) (sym (ap (λ o. o.answer) (wait-barred p r l n State (entry-state p r l s)))) ∙ e in
    let wrong : 1 ≡ 0 = ap number state in
    absurd (omega (arith, wrong)))

wait-is : {p : Part} {r : Device} {l after : Lent} {n : ℕ} {y : Answer} → Allowed p r l (wait n) y after → y ≡ (wait_event p r l n).answer
unfolding step
wait-is f = (allowed-is f).answer

pub waits-spare-protected : (p : Part) → WaitsSpareProtected p
waits-spare-protected p r l after n y f e =
    never-ends-protected p r l n (taken-sound p r l n (ap (λ (x : Answer). x.refusal) (sym (wait-is f)) ∙ e))

pub runs-spare-protected : (p : Part) → RunsSpareProtected p
runs-spare-protected p start es ran l n f = rw (runs-are f) (no-run-ends-protected p start es l n)

pub answers-stay-sound : (p : Part) → AnswersStaySound p
answers-stay-sound p r l after e y f s = rw (allowed-is f).answer (step-sound p r l e s)
