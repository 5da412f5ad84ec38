use mathlib.Core.Path.{refl}
use Rattle.plain.specs.Figures.{standby_current}
use Rattle.plain.proofs.figures.standby_current.Goals as goal

pub returns : goal.returns
unfolding standby_current
returns c =
    refl
