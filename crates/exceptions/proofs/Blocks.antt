-- A block of the small part ends within it, and not before its first word.
use Prim.Native.Nat.{ℕ, ◌+◌, ◌*◌, ◌-◌, ◌<◌, ◌≤◌}
use mathlib.Core.Bool.{Bool, true, false, cond}
use mathlib.Core.Path.{◌≡◌, refl}
use native.Mathlib.Omega.{arith}
use borrow.Author.Tests.{ltb-true, ltb-false}
use lib.Dec.{ltb}
use Rattle.geometry.specs.declared.Part.TheVariants.{Small}
use Rattle.geometry.specs.Parts.{unit_of, first_of, size_of, first_in, size_in}

pub block_end : (b : ℕ) → (0 < first_of Small b + size_of Small b) × (first_of Small b + size_of Small b ≤ 16384)
unfolding unit_of first_in size_in
block_end b = by (ltb b 8) (ltb b 262) (ltb b 270) refl refl refl
  where
    by : (x y z : Bool) → ltb b 8 ≡ x → ltb b 262 ≡ y → ltb b 270 ≡ z
        → (0 < 8 * cond x b (cond y (8 * (b - 7)) (cond z (2040 + (b - 262)) 2048)) + 8 * cond x 1 (cond y 8 (cond z 1 0)))
        × (8 * cond x b (cond y (8 * (b - 7)) (cond z (2040 + (b - 262)) 2048)) + 8 * cond x 1 (cond y 8 (cond z 1 0)) ≤ 16384)
    by true y z p q r = omega (arith, ltb-true)
    by false true z p q r = omega (arith, ltb-true, ltb-false)
    by false false true p q r = omega (arith, ltb-true, ltb-false)
    by false false false p q r = omega (arith, ltb-false)
