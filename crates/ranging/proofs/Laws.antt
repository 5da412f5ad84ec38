-- What a range is answered, and that one which is DONE lies in the array that it selects.
use Rattle.std.specs.Prelude.{Err}
use Prim.Native.Nat.{ℕ, ◌+◌, ◌-◌, ◌<◌, ◌≤◌}
use mathlib.Core.Path.{◌≡◌, refl, sym, ap, ◌∙◌}
use mathlib.Core.Bool.{true, false, not}
use mathlib.Core.List.{List}
use native.Mathlib.Omega.{arith}
use lib.Dec.{ltb}
use lib.ListN.{length}
use borrow.Author.Tests.{ltb-true, lt-ltb, le-ltb, leb-true, le-leb, lt-leb}
use Rattle.geometry.specs.declared.Part.{Part}
use Rattle.geometry.specs.Parts.{word_count}
use Rattle.plain.specs.declared.Array.{Array}
use Rattle.plain.specs.declared.Device.{Device}
use Rattle.plain.specs.declared.Operation.{Operation}
use Rattle.plain.specs.declared.Refusal.{Refusal}
use Rattle.plain.specs.declared.Refusal.TheVariants.{Done, Address, Busy}
use Rattle.plain.specs.declared.Suspension.{Suspension}
use Rattle.plain.specs.declared.Suspension.TheVariants.{Unsuspended, OfProgram, OfErase, Entered}
use Rattle.std.specs.Prelude.{if◌then◌else◌}
use Rattle.plain.specs.Lent.{Lent, otp_words, array_of, words_of}
use Rattle.plain.specs.Machine.{Outcome, outcome, Fit, refused, entry, range_array, stays_inside, hands_back, range_event}
use Rattle.plain.specs.Operations.{suspension_of, selected}
use Rattle.plain.specs.Record.{answer}
use Rattle.plain.specs.Refusals.{number}
use Rattle.plain.proofs.Ladder.{entry-admitted, ladder-barred, ladder-own, ladder-taken, by-ladder}
use Rattle.plain.proofs.Tools.{by-test, by_cases, both, both_right, clash}
use Rattle.ranging.specs.Ranged.{ranged}

-- ---- the answer

pub range-barred : (p : Part) (r : Device) (l : Lent) (first count : ℕ) (n : Refusal) → entry p r l ≡ Err n → n ≡ (range_event p r l first count).answer.refusal
unfolding range_event
range-barred p r l first count n e = sym (ap (λ (o : Outcome). o.answer.refusal) (ladder-barred p r l _ Address _ n e))

pub range-admitted : (p : Part) (r : Device) (l : Lent) (first count : ℕ) → Fit p r l → ranged p r.operation first count ≡ (range_event p r l first count).answer.refusal
unfolding range_event
range-admitted p r l first count f =
    let fails = not (stays_inside p r.operation first count) in
    let taken = if hands_back r.operation then outcome (answer Done 0 r) l else refused Busy r l in
    by_cases (stays_inside p r.operation first count)
    (λ t. rw (ladder-taken p r l fails Address taken (entry-admitted p r l f) (rw t), t) (by_cases (hands_back r.operation) (λ h. rw h) (λ h. rw h)))
    (λ t. rw (ladder-own p r l fails Address taken (entry-admitted p r l f) (rw t), t))

-- ---- where it lies

-- where the first address is one of the part, it is one of the array that it selects
pub first-inside : (p : Part) (s : Suspension) (first : ℕ) → first < word_count p → first < words_of p (selected s first)
first-inside p Unsuspended first h = h
first-inside p (OfProgram q) first h = h
first-inside p (OfErase e) first h = h
first-inside p Entered first h = by-test (λ (y : Array). first < words_of p y) (ltb first otp_words) (λ t. ltb-true first otp_words t) (λ t. h)

-- the code's test, a difference, for the definition's, a sum that does not wrap
module _ (p : Part) (o : Operation) (first count : ℕ) {size : ℕ} (w : size ≡ words_of p (range_array o first)) where
  pub begins-past : word_count p ≤ first → stays_inside p o first count ≡ false
  begins-past h = rw (le-ltb first (word_count p) h)

  pub leaves : first < word_count p → size - first < count → stays_inside p o first count ≡ false
  leaves l h =
      let past : words_of p (range_array o first) < first + count = omega (arith, w, first-inside p (suspension_of o) first l) in
      rw (lt-ltb first (word_count p) l, lt-leb (first + count) (words_of p (range_array o first)) past)

  pub stays : first < word_count p → count ≤ size - first → stays_inside p o first count ≡ true
  stays l h =
      both _ _ (lt-ltb first (word_count p) l)
      (le-leb (first + count) (words_of p (range_array o first)) (omega (arith, w, first-inside p (suspension_of o) first l)))

-- a range that is DONE
pub range-lies : (p : Part) (r : Device) (l : Lent) (first count : ℕ) → number (range_event p r l first count).answer.refusal ≡ 0
    → first + count ≤ length (array_of (range_array r.operation first) l)
unfolding range_event number
range-lies p r l first count =
    by-ladder p r l (not (stays_inside p r.operation first count)) Address _
    (λ (o : Outcome). number o.answer.refusal ≡ 0 → first + count ≤ length (array_of (range_array r.operation first) l))
    (λ s e. absurd (omega (arith, e))) (λ e. absurd (omega (arith, e))) (λ f e. absurd (omega (arith, e))) (λ f t e. inside f t)
  where
    inside : Fit p r l → not (stays_inside p r.operation first count) ≡ false → first + count ≤ length (array_of (range_array r.operation first) l)
    inside f t =
        let y = range_array r.operation first in
        let within = both_right (ltb first (word_count p)) _ (by_cases (stays_inside p r.operation first count) (λ e. e) (λ e. clash refl (rw e at t))) in
        omega (arith, f.whole y, leb-true (first + count) (words_of p y) within)

-- by what `refusal`, `number_of`, `array` and `select` answered
pub range-fits : (p : Part) (r : Device) (l : Lent) (first count : ℕ) {x : Refusal} {n : ℕ} {y : Array} {words : List ℕ}
    → x ≡ (range_event p r l first count).answer.refusal → n ≡ number x → n ≡ 0 → y ≡ range_array r.operation first → words ≡ array_of y l
    → first + count ≤ length words
range-fits p r l first count e k z a w = rw (w, a) (range-lies p r l first count (rw e at (sym k ∙ z)))
