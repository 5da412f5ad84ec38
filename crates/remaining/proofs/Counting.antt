-- How many listed blocks are still to come: counted from the lowest to the next.
use Prim.Native.Nat.{ℕ, zero, suc, ◌+◌, ◌-◌, ◌*◌, ◌^◌, ◌<◌, ◌≤◌}
use mathlib.Core.Path.{◌≡◌, refl, sym, ap, ◌∙◌}
use mathlib.Core.Bool.{Bool, true, false, cond}
use native.Mathlib.Nat.{zero-add, suc-add, add-zero, add-suc, mul-le-mul}
use native.Mathlib.Numerals.{add-one}
use native.Mathlib.Omega.{arith}
use Rattle.blocks.specs.declared.Blocks.{Blocks}
use Rattle.blocks.specs.Blocks.{has, first_from}
use Rattle.blocks.proofs.Lowest.{first-from, first-has, first-none}
use Rattle.geometry.specs.declared.Part.{Part}
use Rattle.geometry.specs.Parts.{block_count}
use Rattle.geometry.proofs.Counts.{blocks-most}
use Rattle.plain.proofs.Tools.{by_order}
use Rattle.remaining.specs.Remaining.{counted, to_come}

module _ (test : ℕ → Bool) where
  one-most : (b : Bool) → cond b 1 0 ≤ 1
  one-most true = omega arith
  one-most false = omega arith

  counted-most : (k n : ℕ) → counted test k n ≤ k
  unfolding counted
  counted-most zero n = omega arith
  counted-most (suc k) n = omega (arith, one-most (test n), counted-most k (suc n))

  counted_skip : (d k n : ℕ) → ((j : ℕ) → n ≤ j → j < n + d → test j ≡ false) → counted test (d + k) n ≡ counted test k (n + d)
  unfolding counted
  counted_skip zero k n none = rw (zero-add k, add-zero n)
  counted_skip (suc d) k n none =
      rw (suc-add d k, none n (omega arith) (omega arith), zero-add, counted_skip d k (suc n) (λ j l g. none j (omega (arith, l)) (omega (arith, g))), suc-add n d, ← add-suc n d)

-- the listed blocks from n on
abbrev pub listed : Part → Blocks → (n : ℕ) → ℕ
listed p list n = counted (has list) (block_count p - n) n

module _ (p : Part) (list : Blocks) where
  pub listed-most : (n : ℕ) → listed p list n ≤ 320
  listed-most n = omega (arith, counted-most (has list) (block_count p - n) n, blocks-most p)

  pub listed-end : (n : ℕ) → block_count p ≤ n → listed p list n ≡ 0
  unfolding counted
  listed-end n h =
      let none : block_count p - n ≡ 0 = omega arith in
      rw none

  pub listed-one : (n : ℕ) → n < block_count p → has list n ≡ true → listed p list n ≡ suc (listed p list (suc n))
  unfolding counted
  listed-one n h on =
      let more : block_count p - n ≡ suc (block_count p - suc n) = omega arith in
      rw (more, on) (omega arith)

  skip-to : (n b : ℕ) → n ≤ b → b ≤ block_count p → ((j : ℕ) → n ≤ j → j < b → has list j ≡ false) → listed p list n ≡ listed p list b
  skip-to n b from to none =
      let whole : block_count p - n ≡ (b - n) + (block_count p - b) = omega arith in
      let at : n + (b - n) ≡ b = omega arith in
      ap (λ (k : ℕ). counted (has list) k n) whole
      ∙ counted_skip (has list) (b - n) (block_count p - b) n (λ j l g. none j l (omega (arith, g)))
      ∙ ap (counted (has list) (block_count p - b)) at

  -- none is missed on the way to the lowest
  pub listed-first : (n : ℕ) → listed p list n ≡ listed p list (first_from list n)
  listed-first n =
      by_order (block_count p) (first_from list n) (λ h. past (omega arith)) (λ h. skip-to n (first_from list n) (first-from list n) h (first-none list n))
    where
      past : block_count p ≤ first_from list n → listed p list n ≡ listed p list (first_from list n)
      past h =
          by_order (block_count p) n (λ g. listed-end n (omega arith) ∙ sym (listed-end (first_from list n) h))
          (λ g. skip-to n (block_count p) g (omega arith) (λ j l k. first-none list n j l (omega arith)) ∙ listed-end (block_count p) (omega arith) ∙ sym (listed-end (first_from list n) h))

  -- ---- what lies above the block in hand

  pub come-listed : (hand : ℕ) → to_come p list hand ≡ listed p list (suc hand)
  unfolding to_come
  come-listed hand = refl

  pub come-next : (hand : ℕ) → first_from list (suc hand) < block_count p → to_come p list hand ≡ suc (to_come p list (first_from list (suc hand)))
  unfolding to_come
  come-next hand h =
      listed-first (suc hand) ∙ listed-one (first_from list (suc hand)) h (first-has list (suc hand) (omega (arith, blocks-most p)))

  pub come-none : (hand : ℕ) → block_count p ≤ first_from list (suc hand) → to_come p list hand ≡ 0
  unfolding to_come
  come-none hand h = listed-first (suc hand) ∙ listed-end (first_from list (suc hand)) h

  -- ---- the time that they take, of a block's time that is below 2^32

  come-most : (hand : ℕ) → to_come p list hand ≤ 320
  come-most hand = omega (arith, come-listed hand, listed-most (suc hand))

  rest-most : (hand full : ℕ) → full < 4294967296 → to_come p list hand * full ≤ 320 * 4294967296
  rest-most hand full h =
      let most : full ≤ 4294967296 = omega arith in
      mul-le-mul (come-most hand) most

  pub rest-fits : (hand full : ℕ) → full < 4294967296 → to_come p list hand * full < 2 ^ 64
  rest-fits hand full h = omega (arith, rest-most hand full h)

  pub rest-sums : (hand full left : ℕ) → left < 4294967296 → full < 4294967296
      → (left + to_come p list hand * full < 2 ^ 64) × (left + to_come p list hand * full + full < 2 ^ 64)
  rest-sums hand full left g h = (omega (arith, rest-most hand full h), omega (arith, rest-most hand full h))

  -- ---- the turns of a count

  -- what has been counted, and what is still listed from here on
  pub record Counting (hand count at : ℕ) : Type 0 where
    pub all : count + listed p list at ≡ to_come p list hand
    pub on : at < block_count p → has list at ≡ true

  on-first : (n : ℕ) → first_from list n < block_count p → has list (first_from list n) ≡ true
  on-first n h = first-has list n (omega (arith, blocks-most p))

  pub count-begins : (hand : ℕ) → Counting hand 0 (first_from list (hand + 1))
  count-begins hand =
      rw (add-one hand) (record { all = omega (arith, come-listed hand, listed-first (suc hand)); on = on-first (suc hand) })

  module _ {hand count at : ℕ} (c : Counting hand count at) where
    pub count-goes-on : at < block_count p → Counting hand (count + 1) (first_from list (at + 1))
    count-goes-on h =
        rw (add-one at) (record { all = omega (arith, c.all, listed-one at h (c.on h), listed-first (suc at)); on = on-first (suc at) })

    pub count_most : count ≤ 320
    count_most = omega (arith, c.all, come-listed hand, listed-most (suc hand))

    pub count-ends : block_count p ≤ at → count ≡ to_come p list hand
    count-ends h = omega (arith, c.all, listed-end at h)
