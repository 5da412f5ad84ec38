use native.Mathlib.Omega.{arith}
use Rattle.geometry.proofs.Laid.{block-fits}
use Rattle.erasing.proofs.finish.Goals as goal

pub erase-requires : goal.erase-requires
erase-requires c =
    omega (arith, c.requires, c.size_of.ensures, c.first_of.ensures, block-fits c.args.part c.args.e.hand)
