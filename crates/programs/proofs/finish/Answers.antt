use Rattle.programs.proofs.Inside.{inside}
use Rattle.programs.proofs.finish.Goals as goal

pub program-requires : goal.program-requires
program-requires c =
    inside _ _ _ _ c.in-Main.is c.requires.0 c.requires.1

pub program-requires-in-OneTime : goal.program-requires-in-OneTime
program-requires-in-OneTime c =
    inside _ _ _ _ c.in-OneTime.is c.requires.0 c.requires.1
