-- Words by their places: sections and what is unused, bits, and what holds of each number below another.
use Prim.Native.Nat.{ℕ, zero, suc, ◌+◌, ◌-◌, ◌<◌, ◌≤◌, ◌/◌, ◌%◌}
use mathlib.Core.Path.{◌≡◌, refl, ap, ap₂, ◌∙◌}
use mathlib.Core.Bool.{Bool, true, false}
use mathlib.Core.List.{List, [], ◌∷◌}
use native.Mathlib.Omega.{arith}
use lib.Dec.{eqb, ltb}
use lib.ListN.{length, replicate}
use borrow.Author.Tests.{eqb-true, ltb-true, eq-eqb}
use Rattle.plain.proofs.Tools.{by_order, both, both_left, both_right}
use Rattle.layout.specs.Image.{flag, toggles, word, words_from, section, zeros, unused}

-- ---- sections

words-past : (x : ℕ) (i : List ℕ) (from n : ℕ) → words_from (x ∷ i) (suc from) n ≡ words_from i from n
unfolding words_from
words-past x i from zero = refl
words-past x i from (suc n) = rw (words-past x i (suc from) n)

words-whole : (i : List ℕ) → words_from i 0 (length i) ≡ i
unfolding words_from
words-whole [] = refl
words-whole (x ∷ i) = ap (λ (z : List ℕ). x ∷ z) (words-past x i 0 (length i) ∙ words-whole i)

pub section-whole : (i : List ℕ) (n : ℕ) → length i ≡ n → section i 0 n ≡ i
section-whole i n e = let all : n - 0 ≡ length i = omega arith in rw all (words-whole i)

-- ---- what is unused

pub zeros-are : (xs : List ℕ) → zeros xs ≡ true → xs ≡ replicate (length xs) 0
unfolding zeros
zeros-are [] h = refl
zeros-are (x ∷ xs) h =
    ap₂ (λ (a : ℕ) (b : List ℕ). a ∷ b) (eqb-true x 0 (both_left (eqb x 0) (zeros xs) h)) (zeros-are xs (both_right (eqb x 0) (zeros xs) h))

module _ (i : List ℕ) where
  zeros-at : (from n k : ℕ) → zeros (words_from i from n) ≡ true → from ≤ k → k < from + n → word i k ≡ 0
  unfolding words_from zeros
  zeros-at from zero k h low high = absurd (omega arith)
  zeros-at from (suc n) k h low high =
      by_order from k (λ past. zeros-at (suc from) n k (both_right (eqb (word i from) 0) _ h) (omega arith) (omega arith))
      (λ here. let e : k ≡ from = omega arith in rw e (eqb-true (word i from) 0 (both_left _ _ h)))

  zeros-all : (from n : ℕ) → ((k : ℕ) → from ≤ k → k < from + n → word i k ≡ 0) → zeros (words_from i from n) ≡ true
  unfolding words_from zeros
  zeros-all from zero f = refl
  zeros-all from (suc n) f =
      both _ _ (eq-eqb _ _ (f from (omega arith) (omega arith))) (zeros-all (suc from) n (λ k low high. f k (omega arith) (omega arith)))

  pub unused-at : (from end k : ℕ) → unused i from end ≡ true → from ≤ k → k < end → word i k ≡ 0
  unused-at from end k h low high = zeros-at from (end - from) k h low (omega arith)

  pub unused-part : (from end a b : ℕ) → unused i from end ≡ true → from ≤ a → a ≤ b → b ≤ end → unused i a b ≡ true
  unused-part from end a b h low within high = zeros-all a (b - a) (λ k l m. unused-at from end k h (omega arith) (omega arith))

-- ---- bits

pub flag_is : (b : Bool) → eqb (flag b) 1 ≡ b
flag_is true = refl
flag_is false = refl

pub flag-fits : (b : Bool) → ltb (flag b) 2 ≡ true
flag-fits true = refl
flag-fits false = refl

pub toggles-low : (a b : Bool) → eqb (toggles a b % 2) 1 ≡ a
toggles-low true true = refl
toggles-low true false = refl
toggles-low false true = refl
toggles-low false false = refl

pub toggles-high : (a b : Bool) → eqb (toggles a b / 2) 1 ≡ b
toggles-high true true = refl
toggles-high true false = refl
toggles-high false true = refl
toggles-high false false = refl

pub toggles-fit : (a b : Bool) → ltb (toggles a b) 4 ≡ true
toggles-fit true true = refl
toggles-fit true false = refl
toggles-fit false true = refl
toggles-fit false false = refl

-- ---- each number below another

abbrev pub Each : (n : ℕ) → (ℕ → Type 0) → Type 0
Each zero P = Unit {0}
Each (suc n) P = P 0 × Each n (λ k. P (suc k))

each_below : (n : ℕ) (P : ℕ → Type 0) → Each n P → (k : ℕ) → k < n → P k
each_below zero P e k h = absurd (omega arith)
each_below (suc n) P e zero h = e.0
each_below (suc n) P e (suc k) h = each_below n (λ m. P (suc m)) e.1 k (omega arith)

pub each : (n : ℕ) (P : ℕ → Type 0) → Each n P → (k : ℕ) → ltb k n ≡ true → P k
each n P e k h = each_below n P e k (ltb-true k n h)

pub flag-back : (n : ℕ) → ltb n 2 ≡ true → flag (eqb n 1) ≡ n
flag-back = each 2 (λ n. flag (eqb n 1) ≡ n) (refl, (refl, tt))

pub toggles-back : (n : ℕ) → ltb n 4 ≡ true → toggles (eqb (n % 2) 1) (eqb (n / 2) 1) ≡ n
toggles-back = each 4 (λ n. toggles (eqb (n % 2) 1) (eqb (n / 2) 1) ≡ n) (refl, (refl, (refl, (refl, tt))))
