-- A range, however it is answered, has the word 0 and leaves the record as it is.
use Prim.Native.Nat.{ℕ}
use mathlib.Core.Path.{◌≡◌, refl, sym}
use mathlib.Core.Bool.{not}
use Rattle.geometry.specs.declared.Part.{Part}
use Rattle.plain.specs.declared.Device.{Device}
use Rattle.plain.specs.declared.Refusal.{Refusal}
use Rattle.plain.specs.declared.Refusal.TheVariants.{Address}
use Rattle.plain.specs.Lent.{Lent}
use Rattle.plain.specs.Machine.{Outcome, stays_inside, hands_back, range_event}
use Rattle.plain.specs.Record.{answer}
use Rattle.plain.proofs.Ladder.{by-ladder}
use Rattle.plain.proofs.Tools.{by-test}

abbrev Bare : Device → Outcome → Type 0
Bare r o = o.answer ≡ answer o.answer.refusal 0 r

bare : (p : Part) (r : Device) (l : Lent) (first count : ℕ) → Bare r (range_event p r l first count)
unfolding range_event
bare p r l first count =
    by-ladder p r l (not (stays_inside p r.operation first count)) Address _ (Bare r) (λ s. refl) refl (λ f. refl)
    (λ f t. by-test (Bare r) (hands_back r.operation) (λ _. refl) (λ _. refl))

-- so its answer is known by its refusal
pub told-as : (p : Part) (r : Device) (l : Lent) (first count : ℕ) {n : Refusal} → n ≡ (range_event p r l first count).answer.refusal
    → answer n 0 r ≡ (range_event p r l first count).answer
told-as p r l first count e = rw e (sym (bare p r l first count))
