-- The laws of a part's sets that callers use.
use Prim.Native.Nat.{ℕ, ◌<◌}
use mathlib.Core.Path.{◌≡◌, refl, sym, ap, ◌∙◌}
use mathlib.Core.Bool.{Bool, true, false, true≢false, ◌&&◌, not, and-false, and_comm}
use native.Mathlib.Decide.{dec_lt}
use native.Mathlib.Omega.{arith}
use lib.Dec.{ltb, eqb}
use borrow.Author.Tests.{ltb-true, lt-ltb, le-ltb}
use Rattle.blocks.specs.declared.Blocks.{Blocks}
use Rattle.blocks.specs.Blocks.{has, empty_of, with_of, without_of, meets_of}
use Rattle.blocks.proofs.View.{has-set_of, has-past}
use Rattle.blocks.proofs.Laws.{has_of, has-empty, has-without, with-split, some-not, some-none, some_same}
use Rattle.geometry.specs.declared.Part.{Part}
use Rattle.geometry.specs.Parts.{block_count}
use Rattle.geometry.proofs.Counts.{blocks-most}
use Rattle.regions.specs.Regions.{blocks_of, strangers}
use Rattle.regions.specs.Stray.{stray_in}

pub has-blocks-of : (p : Part) (b : ℕ) → has (blocks_of p) b ≡ ltb b (block_count p)
has-blocks-of p b = has_of (λ n. ltb n (block_count p)) b (λ l. le-ltb b (block_count p) (omega (arith, blocks-most p)))

-- how the code tests a set: does it meet the strangers?
pub stray-is : (p : Part) (s : Blocks) → meets_of s (strangers p) ≡ stray_in p s
stray-is p s =
    some_same (λ b. has s b && has (strangers p) b) (λ b. not (ltb b (block_count p)) && has s b) 320
    (λ b l. rw (has-set_of (λ n. not (ltb n (block_count p))) b l) (and_comm (has s b) (not (ltb b (block_count p)))))

-- ---- a set without strangers has blocks alone

module _ (p : Part) (s : Blocks) where
  pub within : (n : ℕ) → stray_in p s ≡ false → has s n ≡ true → n < block_count p
  within n e m = go (ltb n (block_count p)) refl (dec_lt n 320)
    where
      go : (t : Bool) → ltb n (block_count p) ≡ t → Dec (n < 320) → n < block_count p
      go true f d = ltb-true n (block_count p) f
      go false f (yes l) =
          let none = some-not (λ b. not (ltb b (block_count p)) && has s b) 320 n e l in
          absurd (true≢false (sym m ∙ ap (λ (t : Bool). not t && has s n) (sym f) ∙ none))
      go false f (no l) = absurd (true≢false (sym m ∙ has-past s n (omega arith)))

  pub none-stray : ((n : ℕ) → has s n ≡ true → n < block_count p) → stray_in p s ≡ false
  none-stray h = some-none (λ b. not (ltb b (block_count p)) && has s b) 320 (λ n l. go n (has s n) refl)
    where
      go : (n : ℕ) (t : Bool) → has s n ≡ t → (not (ltb n (block_count p)) && has s n) ≡ false
      go n true e = rw (lt-ltb n (block_count p) (h n e))
      go n false e = rw e (and-false (not (ltb n (block_count p))))

-- ---- and so has one with a block more, with a number fewer, and the empty one

pub stray-with : (p : Part) (s : Blocks) (b : ℕ) → b < block_count p → stray_in p s ≡ false → stray_in p (with_of s b) ≡ false
stray-with p s b l e =
    none-stray p (with_of s b) (λ n h. with-split s b n (omega (arith, l, blocks-most p)) h (λ q. rw q l) (within p s n e))

pub stray-without : (p : Part) (s : Blocks) (b : ℕ) → stray_in p s ≡ false → stray_in p (without_of s b) ≡ false
stray-without p s b e =
    none-stray p (without_of s b) (λ n h. within p s n e (second (not (eqb n b)) (has s n) (sym (has-without s b n) ∙ h)))
  where
    second : (t u : Bool) → (t && u) ≡ true → u ≡ true
    second true u h = h
    second false u h = absurd (true≢false (sym h))

pub stray-empty : (p : Part) → stray_in p empty_of ≡ false
stray-empty p = none-stray p empty_of (λ n h. absurd (true≢false (sym h ∙ has-empty n)))
