use Rattle.layout.specs.Places.{record_words}
use Rattle.layout.specs.Image.{section}
use Rattle.cells.proofs.Copied.{Copied}
use Rattle.carrying.proofs.copy.Given as goal

abbrev pub invariant-loop-i : goal.invariant-loop-i
invariant-loop-i l = Copied (section l.stored 0 record_words) l.initial.words l.words l.i
