use mathlib.Core.Path.{refl}
use Rattle.plain.specs.Figures.{chip_time}
use Rattle.plain.proofs.figures.chip_time.Goals as goal

pub returns : goal.returns
unfolding chip_time
returns c =
    refl
