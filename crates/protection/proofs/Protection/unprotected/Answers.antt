use Rattle.protection.proofs.Laws.{unprotected-is}
use Rattle.protection.proofs.Protection.unprotected.Goals as goal

pub returns : goal.returns
returns c =
    rw (c.minus.ensures, c.protected_blocks.ensures, c.blocks_of.ensures) (unprotected-is _ _)
