-- A range that is not refused is handed back whole, of the array that is told, and a refused one is empty: of the public functions, and
-- through C.
use Prim.Native.Nat.{ℕ}
use mathlib.Core.Path.{◌≡◌, refl, sym, ap, ◌∙◌}
use mathlib.Core.List.{List, []}
use native.Mathlib.Omega.{arith}
use lib.Dec.{eqb}
use lib.ListN.{length, drop, take, length-drop}
use lib.Seq.{length-take-le}
use borrow.Author.Tests.{eqb-true}
use Rattle.geometry.specs.declared.Part.{Part}
use Rattle.plain.specs.declared.Refusal.TheVariants.{Done}
use Rattle.plain.specs.declared.Device.{Device}
use Rattle.plain.specs.Lent.{Lent, array_of}
use Rattle.plain.specs.Machine.{range_array, range_event, range_words}
use Rattle.plain.specs.Refusals.{number}
use Rattle.plain.proofs.Tools.{by_cases}
use Rattle.ranging.proofs.Laws.{range-lies}
use Rattle.face.specs.Face.{stands}
use Rattle.face.proofs.Ranges.{range_none, words-some, ranges-lie}
use Rattle.audit.specs.Ranges.{RangesLieCode, RangesLieCalls}
use Rattle.audit.proofs.Calls.{same-refusal}

-- ---- of the public functions

module _ (p : Part) (r : Device) (l : Lent) (first count : ℕ) where
  abbrev there : List ℕ
  there = drop first (array_of (range_array r.operation first) l)

  handed : (range_event p r l first count).answer.refusal ≡ Done
      → (length (range_words p r l first count) ≡ count) × (range_words p r l first count ≡ take count there)
  unfolding range_words number
  handed e =
      let long : length (take count there) ≡ count = length-take-le count there (rw length-drop (omega (arith, range-lies p r l first count (rw e)))) in
      rw e (long, refl)

  empty : ((range_event p r l first count).answer.refusal ≡ Done → ⊥) → range_words p r l first count ≡ []
  unfolding range_words number
  empty other =
      let n = (range_event p r l first count).answer.refusal in
      by_cases (eqb (number n) 0) (λ t. absurd (other (same-refusal n Done (eqb-true (number n) 0 t)))) (λ t. rw t)

pub ranges-lie-code : (p : Part) → RangesLieCode p
ranges-lie-code p r l first count t u at by n y words refuses selects hands =
    rw (refuses, selects, hands) (handed p r l first count, empty p r l first count)

-- ---- through C

pub ranges-lie-calls : RangesLieCalls
unfolding number
ranges-lie-calls part words l first count t at by of n is done =
    by_cases (stands part words)
    (λ s.
    let lie = ranges-lie part words l.cells l.otp first count (rw is at done) in
    rw is (ap length (sym lie.1) ∙ lie.0, sym lie.1 ∙ words-some part words l.cells l.otp first count s))
    (λ s. absurd (omega (arith, is ∙ range_none part words l.cells l.otp first count s, done)))
