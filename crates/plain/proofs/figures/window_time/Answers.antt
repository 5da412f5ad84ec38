use mathlib.Core.Path.{refl}
use Rattle.plain.specs.Figures.{window_time}
use Rattle.plain.proofs.figures.window_time.Goals as goal

pub returns : goal.returns
unfolding window_time
returns c =
    refl
