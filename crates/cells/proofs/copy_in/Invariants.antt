use lib.ListN.{length, take}
use Rattle.cells.proofs.Copied.{Copied}
use Rattle.cells.proofs.copy_in.Given as goal

abbrev pub invariant-loop-i : goal.invariant-loop-i
invariant-loop-i l = Copied (take (length l.initial.part) l.debris) l.initial.part l.part l.i
