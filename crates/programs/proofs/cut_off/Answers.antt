use Rattle.programs.proofs.Inside.{inside}
use Rattle.programs.proofs.cut_off.Goals as goal

pub cut_program-requires : goal.cut_program-requires
cut_program-requires c =
    inside _ _ _ _ c.in-Main.is c.requires.whole.0 c.requires.whole.1

pub cut_program-requires-in-OneTime : goal.cut_program-requires-in-OneTime
cut_program-requires-in-OneTime c =
    inside _ _ _ _ c.in-OneTime.is c.requires.whole.0 c.requires.whole.1
