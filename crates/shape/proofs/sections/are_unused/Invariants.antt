use Prim.Native.Nat.{◌+◌}
use Rattle.shape.proofs.Unused.{Joined}
use Rattle.shape.proofs.sections.are_unused.Given as goal

abbrev pub invariant-loop-word : goal.invariant-loop-word
invariant-loop-word l = Joined l.words l.from l.end l.joined (l.from + l.word-index)
