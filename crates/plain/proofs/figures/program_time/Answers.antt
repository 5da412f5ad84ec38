use mathlib.Core.Path.{refl}
use Rattle.plain.specs.Figures.{program_time}
use Rattle.plain.proofs.figures.program_time.Goals as goal

pub returns : goal.returns
unfolding program_time
returns c =
    refl
