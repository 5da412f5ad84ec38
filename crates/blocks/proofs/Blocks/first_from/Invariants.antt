use Prim.Native.Nat.{◌-◌}
use mathlib.Core.Path.{◌≡◌}
use Rattle.blocks.specs.Blocks.{first_from}
use Rattle.blocks.proofs.Blocks.first_from.Given as goal

abbrev pub invariant-loop-at : goal.invariant-loop-at
invariant-loop-at l = first_from l.self l.at ≡ first_from l.self l.initial.at

abbrev pub decreases-loop-at : goal.decreases-loop-at
decreases-loop-at l = 320 - l.at
