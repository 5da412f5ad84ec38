use Prim.Native.Nat.{◌-◌}
use Rattle.remaining.proofs.Counting.{Counting}
use Rattle.remaining.proofs.to_come.Given as goal

abbrev pub invariant-loop-at : goal.invariant-loop-at
invariant-loop-at l = Counting l.part l.list l.hand l.count l.at

abbrev pub decreases-loop-at : goal.decreases-loop-at
decreases-loop-at l = 320 - l.at
