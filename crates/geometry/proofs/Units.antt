-- The rules in units of the boot block: which blocks lie where, as plain arithmetic.
use Prim.Native.Nat.{ℕ, suc, ◌+◌, ◌-◌, ◌*◌, ◌/◌, ◌<◌, ◌≤◌}
use mathlib.Core.Path.{◌≡◌}
use mathlib.Core.Bool.{cond}
use native.Mathlib.Omega.{arith}
use lib.Dec.{ltb}
use Rattle.std.proofs.lemmas.Bool.Decides.{nat_tests}
use Rattle.geometry.specs.Parts.{size_in, first_in, block_in, bank_in}

-- ---- a block by its run

-- the number n of block b is this among the lower boot blocks, the main blocks, the upper boot blocks, and past the last
pub record ByRun (b n low main top past : ℕ) : Type 0 where
  pub in-low : b < 8 → n ≡ low
  pub in-main : 8 ≤ b → b < 262 → n ≡ main
  pub in_top : 262 ≤ b → b < 270 → n ≡ top
  pub in-none : 270 ≤ b → n ≡ past

-- the units before block b
abbrev First : ℕ → ℕ → Type 0
First b n = ByRun b n b (8 * (b - 7)) (2040 + (b - 262)) 2048

first-is : (b : ℕ) → First b (first_in b)
unfolding first_in
first-is b =
    record { in-low = grind (arith, nat_tests); in-main = grind (arith, nat_tests); in_top = grind (arith, nat_tests); in-none = grind (arith, nat_tests) }

-- a number is that, if each run says so
pub first_by : (b n : ℕ) → First b n → n ≡ first_in b
unfolding first_in
first_by b n s = grind (arith, nat_tests)

size_is : (b : ℕ) → ByRun b (size_in b) 1 8 1 0
unfolding size_in
size_is b =
    record { in-low = grind (arith, nat_tests); in-main = grind (arith, nat_tests); in_top = grind (arith, nat_tests); in-none = grind (arith, nat_tests) }

-- the block that unit k is in, by the unit's run
pub record InRun (k n : ℕ) : Type 0 where
  pub in-low : k < 8 → n ≡ k
  pub in-main : 8 ≤ k → k < 2040 → n ≡ 7 + k / 8
  pub in_top : 2040 ≤ k → n ≡ 262 + (k - 2040)

block-is : (k : ℕ) → InRun k (block_in k)
unfolding block_in
block-is k = record { in-low = grind (arith, nat_tests); in-main = grind (arith, nat_tests); in_top = grind (arith, nat_tests) }

-- ---- the rules

pub first_le : (b : ℕ) → first_in b ≤ 2048
unfolding first_in
first_le b = grind (arith, nat_tests)

pub end-le : (b : ℕ) → first_in b + size_in b ≤ 2048
unfolding first_in size_in
end-le b = grind (arith, nat_tests)

pub record Within (k b : ℕ) : Type 0 where
  pub below : b < 270
  pub from_first : first_in b ≤ k
  pub to_last : k < first_in b + size_in b

pub within : (k : ℕ) → k < 2048 → Within k (block_in k)
unfolding first_in size_in block_in
within k h = record { below = grind (arith, nat_tests); from_first = grind (arith, nat_tests); to_last = grind (arith, nat_tests) }

pub no_other : (k b : ℕ) → first_in b ≤ k → k < first_in b + size_in b → block_in k ≡ b
unfolding first_in size_in block_in
no_other k b h g = grind (arith, nat_tests)

pub goes_on : (b : ℕ) → b < 270 → first_in b + size_in b ≡ first_in (suc b)
unfolding first_in size_in
goes_on b h = grind (arith, nat_tests)

pub some-units : (b : ℕ) → b < 270 → 0 < size_in b
unfolding size_in
some-units b h = grind (arith, nat_tests)

-- two tests that say the same
pub same_test : (a b c d : ℕ) → (a < b → c < d) → (b ≤ a → d ≤ c) → ltb a b ≡ ltb c d
same_test a b c d f g = grind (arith, nat_tests)

pub bank-in : (k : ℕ) → cond (ltb k 256) 0 (cond (ltb k 1024) 1 (cond (ltb k 1792) 2 3)) ≡ bank_in (block_in k)
unfolding bank_in block_in
bank-in k = grind (arith, nat_tests)
