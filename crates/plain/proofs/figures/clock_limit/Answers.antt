use mathlib.Core.Path.{refl}
use Rattle.plain.specs.Figures.{clock_limit}
use Rattle.plain.proofs.figures.clock_limit.Goals as goal

pub returns : goal.returns
unfolding clock_limit
returns c =
    refl
