use Rattle.plain.specs.Lent.{lent}
use Rattle.plain.specs.Time.{moment}
use Rattle.erasing.specs.Kinds.{erasing}
use Rattle.erasing.proofs.Laws.{Underway}
use Rattle.erasing.proofs.pass_erase.Given as goal

abbrev pub invariant-loop-at : goal.invariant-loop-at
invariant-loop-at l =
    Underway l.part l.kind l.n (moment l.initial.spent (erasing l.kind l.initial.at) (lent l.initial.cells l.otp)) (lent l.cells l.otp) l.at l.spent l.rest

abbrev pub decreases-loop-at : goal.decreases-loop-at
decreases-loop-at l = l.rest
