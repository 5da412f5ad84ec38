-- How many blocks and banks a part has, and which numbers are theirs.
use Prim.Native.Nat.{ℕ, zero, suc, ◌<◌, ◌≤◌}
use mathlib.Core.Path.{◌≡◌, refl}
use native.Mathlib.Omega.{arith}
use lib.Dec.{lit<, lit≤}
use Rattle.std.proofs.lemmas.Bool.Decides.{nat_tests}
use Rattle.geometry.specs.declared.Part.{Part}
use Rattle.geometry.specs.declared.Part.TheVariants.{Small, Full}
use Rattle.geometry.specs.Parts.{block_count, bank_count, bank_in, bank_of, bank_of_block}

pub blocks-are : (p : Part) → block_count p ≡ 270
unfolding block_count
blocks-are Small = refl
blocks-are Full = refl

pub bank-is : (p : Part) (b : ℕ) → bank_of_block p b ≡ bank_in b
unfolding bank_of_block
bank-is Small b = refl
bank-is Full b = refl

banks-are : (p : Part) → bank_count p ≡ 4
unfolding bank_count
banks-are Small = refl
banks-are Full = refl

-- a set of blocks can hold every block of a part
pub blocks-most : (p : Part) → block_count p ≤ 320
blocks-most p = rw (blocks-are p) (lit≤ tt)

-- the bank of an address is one of the part's
pub bank-below : (p : Part) (a : ℕ) → bank_of p a < bank_count p
unfolding bank_of
bank-below p a = rw (banks-are p) (grind (arith, nat_tests))

-- and so is the bank of a block
pub block-bank-below : (p : Part) (b : ℕ) → bank_of_block p b < bank_count p
unfolding bank_in
block-bank-below p b = rw (banks-are p, bank-is p b) (grind (arith, nat_tests))

-- every bank has a block
pub record Held (p : Part) (bank : ℕ) : Type 0 where
  pub block : ℕ
  pub below : block < block_count p
  pub of-bank : bank_of_block p block ≡ bank

pub held : (p : Part) (bank : ℕ) → bank < bank_count p → Held p bank
unfolding bank_in
held p bank h = go bank (rw (banks-are p) at h)
  where
    at : (b : ℕ) → b < 270 → Held p (bank_in b)
    at b l = record { block = b; below = rw (blocks-are p) l; of-bank = bank-is p b }

    go : (k : ℕ) → k < 4 → Held p k
    go zero l = at 0 (lit< tt)
    go (suc zero) l = at 39 (lit< tt)
    go (suc (suc zero)) l = at 135 (lit< tt)
    go (suc (suc (suc zero))) l = at 231 (lit< tt)
    go (suc (suc (suc (suc k)))) l = absurd (omega (arith, l))
