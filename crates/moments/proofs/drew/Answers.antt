use native.Mathlib.Omega.{arith}
use Rattle.moments.proofs.Rooms.{sums-fit}
use Rattle.moments.proofs.drew.Goals as goal

pub overflow_mul-n : goal.overflow_mul-n
overflow_mul-n c =
    omega (arith, (sums-fit _ _ _ c.requires.room _ c.requires.most).1)

pub advanced-requires : goal.advanced-requires
advanced-requires c =
    sums-fit _ _ _ c.requires.room _ c.requires.most
