use Rattle.regions.proofs.Laws.{stray-is}
use Rattle.regions.proofs.has_stray.Goals as goal

pub returns : goal.returns
returns c =
    rw (c.meets.ensures, c.strangers.ensures) (stray-is _ _)
