-- Erase lists as writes and time make them.
use Prim.Native.Nat.{ℕ, ◌<◌, min}
use mathlib.Core.Path.{◌≡◌, refl, sym, ap, ◌∙◌}
use mathlib.Core.Bool.{Bool, true, false, ◌||◌}
use native.Mathlib.Omega.{arith}
use lib.Dec.{ltb, eqb}
use borrow.Author.Tests.{ltb-true, eqb-true, eq-eqb, ne_eqb, not-false}
use Rattle.blocks.specs.declared.Blocks.{Blocks}
use Rattle.blocks.specs.Blocks.{has, some, empty_of, with_of, first_from}
use Rattle.blocks.proofs.Laws.{some-none, has-empty, has-with}
use Rattle.blocks.proofs.Lowest.{first-has, first-none}
use Rattle.geometry.specs.declared.Part.{Part}
use Rattle.geometry.specs.Parts.{block_count, bank_of_block}
use Rattle.geometry.proofs.Counts.{blocks-most}
use Rattle.protection.specs.declared.Protection.{Protection}
use Rattle.protection.specs.Protection.{protected, unprotected, all_protected}
use Rattle.protection.proofs.Laws.{has-unprotected}
use Rattle.plain.specs.declared.Erase.{Erase}
use Rattle.plain.specs.Figures.{window_time, chip_time}
use Rattle.plain.specs.Record.{erase}
use Rattle.plain.specs.Sound.{erasable, may_chip_erase}
use Rattle.plain.proofs.Tools.{both_left, both_right, by_cases, by_order, clash}
use Rattle.plain.proofs.Facts.{EraseFacts, BlockEraseFacts}
use Rattle.plain.proofs.FigureLaws.{window-some, chip-some}

-- ---- a block more

-- a number of the longer set is the added one, or was there before
with-split : {P : Type 0} (p : Part) (s : Blocks) (b n : ℕ) → b < block_count p → has (with_of s b) n ≡ true → (n ≡ b → P) → (has s n ≡ true → P) → P
with-split p s b n l h f g =
    by_cases (eqb n b) (λ e. f (eqb-true n b e)) (λ e. g (ap (λ (t : Bool). t || has s n) (sym e) ∙ sym (has-with s b n (omega (arith, blocks-most p))) ∙ h))

with-here : (p : Part) (s : Blocks) (b : ℕ) → b < block_count p → has (with_of s b) b ≡ true
with-here p s b l = rw (has-with s b b (omega (arith, blocks-most p)), eq-eqb b b refl)

with-other : (p : Part) (s : Blocks) (b n : ℕ) → b < block_count p → (n ≡ b → ⊥) → has (with_of s b) n ≡ has s n
with-other p s b n l d = rw (has-with s b n (omega (arith, blocks-most p)), ne_eqb n b d)

-- may the block stand on a list with this one in hand?
record Erasable (p : Part) (bits : Protection) (hand b : ℕ) : Type 0 where
  below : b < block_count p
  erasable : erasable bits b ≡ true
  one-bank : bank_of_block p b ≡ bank_of_block p hand

module _ (p : Part) (bits : Protection) (list : Blocks) (b hand : ℕ) (six two : Bool) where
  with-facts : has (with_of list b) hand ≡ true → Erasable p bits hand b → ((n : ℕ) → has list n ≡ true → Erasable p bits hand n)
      → BlockEraseFacts p bits (erase (with_of list b) hand (window_time p) six two) (window_time p)
  with-facts listed new old =
      record {
        erase = record {
          hand-listed = listed;
          below = λ n h. (each n h).below;
          erasable = λ n h. (each n h).erasable;
          some_left = window-some p;
          most-left = omega arith;
        };
        one-bank = λ n h. (each n h).one-bank;
      }
    where
      each : (n : ℕ) → has (with_of list b) n ≡ true → Erasable p bits hand n
      each n h = with-split p list b n new.below h (λ e. rw e new) (old n)

-- the list of one block
pub opened : (p : Part) (bits : Protection) (b : ℕ) → b < block_count p → protected bits b ≡ false
    → BlockEraseFacts p bits (erase (with_of empty_of b) b (window_time p) false false) (window_time p)
opened p bits b l free =
    with-facts p bits empty_of b b false false (with-here p empty_of b l) (record { below = l; erasable = rw free; one-bank = refl })
    (λ n h. clash h (has-empty n))

pub opened-low : (p : Part) (b n : ℕ) → b < block_count p → n < b → has (with_of empty_of b) n ≡ false
opened-low p b n l h = with-other p empty_of b n l (λ e. omega (arith, e, h)) ∙ has-empty n

-- the list of a window with a block of its bank added
module _ (p : Part) (bits : Protection) (e : Erase) (b : ℕ) (l : b < block_count p) (free : protected bits b ≡ false) (bank : bank_of_block p b ≡ bank_of_block p e.hand) where
  pub added : BlockEraseFacts p bits e (window_time p)
      → BlockEraseFacts p bits (erase (with_of e.list b) (min e.hand b) (window_time p) e.dq6 e.dq2) (window_time p)
  added f =
      by_order b e.hand
      (λ h. let q : min e.hand b ≡ b = omega arith in rw q (in-hand b (with-here p e.list b l) (sym bank)))
      (λ h. let q : min e.hand b ≡ e.hand = omega arith in rw q (in-hand e.hand still refl))
    where
      still : has (with_of e.list b) e.hand ≡ true
      still =
          by_cases (eqb e.hand b) (λ q. rw (has-with e.list b e.hand (omega (arith, blocks-most p)), q))
          (λ q. rw (has-with e.list b e.hand (omega (arith, blocks-most p)), q) f.erase.hand-listed)

      in-hand : (hand : ℕ) → has (with_of e.list b) hand ≡ true → bank_of_block p e.hand ≡ bank_of_block p hand
          → BlockEraseFacts p bits (erase (with_of e.list b) hand (window_time p) e.dq6 e.dq2) (window_time p)
      in-hand hand listed same =
          with-facts p bits e.list b hand e.dq6 e.dq2 listed (record { below = l; erasable = rw free; one-bank = bank ∙ same })
          (λ n h. record { below = f.erase.below n h; erasable = f.erase.erasable n h; one-bank = f.one-bank n h ∙ same })

pub added-low : (p : Part) (e : Erase) (b : ℕ) → b < block_count p → ((n : ℕ) → n < e.hand → has e.list n ≡ false)
    → (n : ℕ) → n < min e.hand b → has (with_of e.list b) n ≡ false
added-low p e b l low n h = with-other p e.list b n l (λ q. omega (arith, q, h)) ∙ low n (omega arith)

-- ---- every unprotected block

pub chip-opened : (p : Part) (bits : Protection) → all_protected p bits ≡ false
    → EraseFacts p bits (erase (unprotected p bits) (first_from (unprotected p bits) 0) (chip_time p) false false) (chip_time p)
chip-opened p bits some-free =
    record {
      hand-listed = first-has list 0 found;
      below = λ b h. ltb-true _ _ (both_left (ltb b (block_count p)) _ (may b h));
      erasable = λ b h. both_right (ltb b (block_count p)) _ (may b h);
      some_left = chip-some p;
      most-left = omega arith;
    }
  where
    list : Blocks
    list = unprotected p bits

    found : first_from list 0 < 320
    found =
        by_order (first_from list 0) 320 (λ h. h)
        (λ h. clash (not-false (some (has list) 320) some-free) (some-none (has list) 320 (λ n l. first-none list 0 n (omega arith) (omega (arith, h, l)))))

    may : (b : ℕ) → has list b ≡ true → may_chip_erase p bits b ≡ true
    may b h = sym (has-unprotected p bits b) ∙ h
