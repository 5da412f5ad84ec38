use Rattle.recovering.proofs.Laws.{goes_on, ends}
use Rattle.recovering.proofs.pass_recovery.Goals as goal

pub returns-then-n-left : goal.returns-then-n-left
returns-then-n-left c =
    rw c.ran.ensures (goes_on _ _ _ _ c.if-n-left.true)

pub returns : goal.returns
returns c =
    rw (c.stood_by.ensures, c.ran-recovered.ensures) (ends _ _ _ _ c.requires.le_left c.if-n-left.false)
