-- Words that are not in use, by the OR of them.
use Prim.Native.Nat.{ℕ, suc, ◌+◌, ◌-◌, ◌<◌, ◌≤◌}
use mathlib.Core.Path.{◌≡◌, refl, ◌∙◌}
use mathlib.Core.Bool.{Bool, true, false, ◌&&◌}
use mathlib.Core.List.{List}
use native.Mathlib.Numerals.{add-one}
use native.Mathlib.Omega.{arith}
use lib.Bits.{bit_or, or_add_and, and_le_l, and_le_r}
use lib.Dec.{eqb}
use borrow.Author.Tests.{eqb-true}
use Rattle.plain.proofs.Tools.{by_cases}
use Rattle.layout.specs.Places.{command_at, place_at, operation_at, list_at, dyb_at}
use Rattle.layout.specs.Image.{word, words_from, zeros, unused}

or-zero : (a b : ℕ) → eqb (bit_or a b) 0 ≡ (eqb a 0 && eqb b 0)
or-zero a b =
    by_cases (eqb (bit_or a b) 0)
    (λ t. let h = eqb-true (bit_or a b) 0 t in
    let p : a ≡ 0 = omega (arith, or_add_and a b, and_le_l a b, and_le_r a b, h) in
    let q : b ≡ 0 = omega (arith, or_add_and a b, and_le_l a b, and_le_r a b, h) in
    rw (p, q))
    (λ f. by_cases (eqb a 0)
    (λ s. by_cases (eqb b 0) (λ t. rw (eqb-true a 0 s, eqb-true b 0 t)) (λ t. rw (f, s, t)))
    (λ s. rw (f, s)))

and-and : (a b c : Bool) → ((a && b) && c) ≡ (a && (b && c))
and-and true b c = refl
and-and false b c = refl

true-and : (a : Bool) → a ≡ (a && true)
true-and true = refl
true-and false = refl

-- ---- the numbers first, then what they tell of

three-and : (a b c d : Bool) → ((a && (b && (c && true))) && d) ≡ (a && (b && (c && d)))
three-and true true c d = and-and c true d
three-and true false c d = refl
three-and false b c d = refl

pub numbers-first : (i : List ℕ) → (unused i command_at list_at && unused i list_at dyb_at) ≡ unused i command_at dyb_at
unfolding words_from zeros
numbers-first i =
    three-and (eqb (word i command_at) 0) (eqb (word i place_at) 0) (eqb (word i operation_at) 0) (unused i list_at dyb_at)

-- ---- by the OR

-- the words before k are joined, and with those from k on unused if all are
pub record Joined (i : List ℕ) (from end joined k : ℕ) : Type 0 where
  pub within : k ≤ end
  pub same : (eqb joined 0 && unused i k end) ≡ unused i from end

module _ {i : List ℕ} {from end joined k : ℕ} (so : Joined i from end joined k) where
  pub joined-on : k < end → Joined i from end (bit_or joined (word i k)) (k + 1)
  unfolding words_from zeros
  joined-on h =
      let left : end - k ≡ suc (end - suc k) = omega arith in
      let on : (eqb (bit_or joined (word i k)) 0 && unused i (k + 1) end) ≡ (eqb joined 0 && unused i k end) =
      rw (or-zero joined (word i k), add-one, left) (and-and (eqb joined 0) (eqb (word i k) 0) (unused i (suc k) end)) in
      record { within = omega arith; same = on ∙ so.same }

  pub joined-all : end ≤ k → eqb joined 0 ≡ unused i from end
  unfolding words_from zeros
  joined-all h =
      let none : end - k ≡ 0 = omega arith in
      let all : eqb joined 0 ≡ (eqb joined 0 && unused i k end) = rw none (true-and (eqb joined 0)) in
      all ∙ so.same
