-- No command and no cut leaves a bit for a number that is no block's.
use Prim.Native.Nat.{ℕ, ◌<◌}
use mathlib.Core.Path.{◌≡◌}
use mathlib.Core.Bool.{false}
use Rattle.std.proofs.lemmas.Bool.{or_from, or_parts}
use Rattle.regions.specs.Stray.{stray_in}
use Rattle.regions.proofs.Laws.{stray-with, stray-without, stray-empty}
use Rattle.geometry.specs.declared.Part.{Part}
use Rattle.geometry.specs.Parts.{block_count}
use Rattle.protection.specs.declared.Protection.{Protection}
use Rattle.protection.specs.Protection.{fresh_bits, dyb_set, dyb_cleared, ppb_set, ppbs_cleared, after_cut, stray_bits}

pub stray-fresh : (p : Part) → stray_bits p fresh_bits ≡ false
stray-fresh p = or_from _ _ (stray-empty p) (stray-empty p)

module _ (p : Part) (bits : Protection) (none : stray_bits p bits ≡ false) where
  pub stray-dyb : stray_in p bits.dyb ≡ false
  stray-dyb = (or_parts (stray_in p bits.dyb) (stray_in p bits.ppb) none).0

  pub stray-ppb : stray_in p bits.ppb ≡ false
  stray-ppb = (or_parts (stray_in p bits.dyb) (stray_in p bits.ppb) none).1

  pub stray-dyb-set : (b : ℕ) → b < block_count p → stray_bits p (dyb_set bits b) ≡ false
  stray-dyb-set b l = or_from _ _ (stray-with p bits.dyb b l stray-dyb) stray-ppb

  pub stray-dyb-cleared : (b : ℕ) → stray_bits p (dyb_cleared bits b) ≡ false
  stray-dyb-cleared b = or_from _ _ (stray-without p bits.dyb b stray-dyb) stray-ppb

  pub stray-ppb-set : (b : ℕ) → b < block_count p → stray_bits p (ppb_set bits b) ≡ false
  stray-ppb-set b l = or_from _ _ stray-dyb (stray-with p bits.ppb b l stray-ppb)

  pub stray-ppbs-cleared : stray_bits p (ppbs_cleared bits) ≡ false
  stray-ppbs-cleared = or_from _ _ stray-dyb (stray-empty p)

  pub stray-after-cut : stray_bits p (after_cut bits) ≡ false
  stray-after-cut = or_from _ _ (stray-empty p) stray-ppb
