use borrow.Author.Rules.{rules}
use Rattle.plain.specs.Operations.{running_of}
use Rattle.plain.specs.Sound.{sound, operation_sound, command_sound, is_still, still_command}
use Rattle.soundness.proofs.is_sound_idle.Goals as goal

pub returns-then-meter_sound : goal.returns-then-meter_sound
unfolding sound operation_sound command_sound is_still still_command running_of
returns-then-meter_sound c =
    search rules
