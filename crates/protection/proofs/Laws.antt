-- The laws of protection that callers use.
use Prim.Native.Nat.{ℕ}
use mathlib.Core.Path.{◌≡◌, ap}
use mathlib.Core.Bool.{Bool, false, ◌&&◌, ◌||◌, not}
use native.Mathlib.Omega.{arith}
use lib.Dec.{ltb}
use borrow.Author.Tests.{le-ltb}
use Rattle.blocks.specs.Blocks.{has, set_of, minus_of}
use Rattle.blocks.proofs.View.{has-past}
use Rattle.blocks.proofs.Laws.{has_of, has-empty}
use Rattle.geometry.specs.declared.Part.{Part}
use Rattle.geometry.specs.Parts.{block_count}
use Rattle.geometry.proofs.Counts.{blocks-most}
use Rattle.regions.specs.Regions.{blocks_of}
use Rattle.regions.proofs.Laws.{has-blocks-of}
use Rattle.protection.specs.declared.Protection.{Protection}
use Rattle.protection.specs.Protection.{protected_by, protected, protected_blocks, unprotected, fresh_bits, after_cut}

-- a fresh device has no protected block
pub none-fresh : (b : ℕ) → protected fresh_bits b ≡ false
unfolding protected_by
none-fresh b = rw (has-empty b)

-- after a cut the PPBs alone protect
pub protected-cut : (p : Protection) (b : ℕ) → protected (after_cut p) b ≡ has p.ppb b
unfolding protected_by
protected-cut p b = ap (λ (t : Bool). t || has p.ppb b) (has-empty b)

-- the one check and the one set agree, at every number
pub has-protected-blocks : (p : Protection) (b : ℕ) → has (protected_blocks p) b ≡ protected p b
unfolding protected_by
has-protected-blocks p b = has_of (λ n. protected p n) b (λ l. rw (has-past p.dyb b l, has-past p.ppb b l))

-- a chip erase's list has the unprotected blocks, and nothing else
pub has-unprotected : (part : Part) (p : Protection) (b : ℕ) → has (unprotected part p) b ≡ (ltb b (block_count part) && not (protected p b))
unfolding unprotected
has-unprotected part p b =
    has_of (λ n. ltb n (block_count part) && not (protected p n)) b (λ l. rw (le-ltb b (block_count part) (omega (arith, blocks-most part))))

-- how the code makes the set: the part's blocks, less the protected
pub unprotected-is : (part : Part) (p : Protection) → minus_of (blocks_of part) (protected_blocks p) ≡ unprotected part p
unfolding unprotected
unprotected-is part p = λ i. set_of (λ b. has-blocks-of part b i && not (has-protected-blocks p b i))
