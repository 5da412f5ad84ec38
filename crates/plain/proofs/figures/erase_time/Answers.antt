use mathlib.Core.Path.{refl}
use Rattle.plain.specs.Figures.{erase_time}
use Rattle.plain.proofs.figures.erase_time.Goals as goal

pub returns : goal.returns
unfolding erase_time
returns c =
    refl
