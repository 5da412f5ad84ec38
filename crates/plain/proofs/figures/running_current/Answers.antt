use mathlib.Core.Path.{refl}
use Rattle.plain.specs.Figures.{running_current}
use Rattle.plain.proofs.figures.running_current.Goals as goal

pub returns : goal.returns
unfolding running_current
returns c =
    refl
