-- How whole words test a list, and its first number the block in hand.
use Prim.Native.Nat.{ℕ, ◌<◌, ◌≤◌}
use mathlib.Core.Path.{◌≡◌, refl, ap}
use mathlib.Core.Bool.{Bool, true, false, ◌&&◌, ◌||◌, not, and_assoc}
use native.Mathlib.Omega.{arith}
use lib.Dec.{ltb, eqb}
use borrow.Author.Tests.{eqb-true, eqb-false}
use Rattle.blocks.specs.declared.Blocks.{Blocks}
use Rattle.blocks.specs.Blocks.{has, some, set_of, union_of, meets_of, first_from}
use Rattle.blocks.proofs.View.{has-set_of, has-past}
use Rattle.blocks.proofs.Laws.{some-none, some-here, some_same, has-union}
use Rattle.blocks.proofs.Lowest.{first-has, first-none}
use Rattle.geometry.specs.declared.Part.{Part}
use Rattle.geometry.specs.Parts.{block_count, bank_of_block}
use Rattle.regions.specs.Regions.{strangers, outside_bank}
use Rattle.protection.specs.declared.Protection.{Protection}
use Rattle.protection.specs.Protection.{protected, protected_blocks}
use Rattle.protection.proofs.Laws.{has-protected-blocks}
use Rattle.plain.specs.Sound.{may_erase, may_chip_erase, only_those}
use Rattle.plain.proofs.Tools.{by_order, clash}

-- ---- a list that meets neither the protected blocks nor the others

-- if the others are those that fail a test, then every listed number passes it, and is unprotected
clear_of : (list : Blocks) (bits : Protection) (inside may : ℕ → Bool) → ((b : ℕ) → (inside b && not (protected bits b)) ≡ may b)
    → not (meets_of list (union_of (protected_blocks bits) (set_of (λ n. not (inside n))))) ≡ only_those may list
clear_of list bits inside may h =
    ap not
    (some_same (λ b. has list b && has (union_of (protected_blocks bits) others) b) (λ b. has list b && not (may b)) 320
    (λ b l. rw (has-union (protected_blocks bits) others b, has-protected-blocks bits b, has-set_of (λ n. not (inside n)) b l, ← h b) (shuffled (has list b) (protected bits b) (inside b))))
  where
    others : Blocks
    others = set_of (λ n. not (inside n))

    shuffled : (t p n : Bool) → (t && (p || not n)) ≡ (t && not (n && not p))
    shuffled false p n = refl
    shuffled true true true = refl
    shuffled true true false = refl
    shuffled true false true = refl
    shuffled true false false = refl

module _ (p : Part) (list : Blocks) (bits : Protection) where
  pub in_bank : (hand : ℕ) → not (meets_of list (union_of (protected_blocks bits) (outside_bank p (bank_of_block p hand)))) ≡ only_those (may_erase p bits hand) list
  in_bank hand =
      clear_of list bits (λ b. ltb b (block_count p) && eqb (bank_of_block p b) (bank_of_block p hand)) (may_erase p bits hand)
      (λ b. and_assoc (ltb b (block_count p)) (eqb (bank_of_block p b) (bank_of_block p hand)) (not (protected bits b)))

  pub in_part : not (meets_of list (union_of (protected_blocks bits) (strangers p))) ≡ only_those (may_chip_erase p bits) list
  in_part = clear_of list bits (λ b. ltb b (block_count p)) (may_chip_erase p bits) (λ b. refl)

-- ---- a listed block is the lowest if the list starts with it

member_below : (s : Blocks) (n : ℕ) → has s n ≡ true → n < 320
member_below s n listed = by_order n 320 (λ l. l) (λ l. clash listed (has-past s n l))

first-before : (s : Blocks) (n : ℕ) → has s n ≡ true → first_from s 0 ≤ n
first-before s n listed =
    by_order n (first_from s 0) (λ l. clash listed (first-none s 0 n (omega arith) l)) (λ l. l)

pub starts : (s : Blocks) (n : ℕ) → has s n ≡ true → eqb (first_from s 0) n ≡ not (some (has s) n)
starts s n listed = go (eqb (first_from s 0) n) refl
  where
    go : (t : Bool) → eqb (first_from s 0) n ≡ t → t ≡ not (some (has s) n)
    go true e =
        let q : first_from s 0 ≡ n = eqb-true _ _ e in
        rw (some-none (has s) n (λ m l. first-none s 0 m (omega arith) (omega (arith, q, l))))
    go false e =
        let q : first_from s 0 ≡ n → ⊥ = eqb-false _ _ e in
        let l : first_from s 0 < n = omega (arith, q, first-before s n listed) in
        rw (some-here (has s) n (first_from s 0) l (first-has s 0 (omega (arith, l, member_below s n listed))))
