use mathlib.Core.Path.{refl}
use Rattle.plain.specs.Figures.{recovery_time}
use Rattle.plain.proofs.figures.recovery_time.Goals as goal

pub returns : goal.returns
unfolding recovery_time
returns c =
    refl
