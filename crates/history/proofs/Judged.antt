-- Each clause of soundness tells the record just within it from the one just beyond.
use mathlib.Core.Path.{refl}
use Rattle.blocks.specs.Blocks.{has, pack, set_of, some, seek}
use Rattle.geometry.specs.Parts.{block_count, bank_count, unit_of, block_in, bank_in, bank_of_block}
use Rattle.protection.specs.Protection.{protected_by, word_locked_by}
use Rattle.plain.specs.Figures.{program_time, window_time, erase_time, recovery_time, chip_time, running_current, clock_limit}
use Rattle.plain.specs.Programs.{first_word, array_written, lies_in, block_written, barred}
use Rattle.plain.specs.Operations.{running_inside, running_of, suspension_of}
use Rattle.plain.specs.Sound.{meter_sound, program_sound, list_sound, chip_list_sound, lowest, inside_sound, operation_sound, cycle_unsuspended, reading_sound, cycle_in_suspension, cycle_sound, still_command, is_ground, is_still, command_sound, sound}
use Rattle.plain.specs.Judged.{JudgedRight}

pub judged-right : JudgedRight
unfolding has pack set_of some seek block_count bank_count unit_of block_in bank_in bank_of_block protected_by word_locked_by program_time window_time erase_time recovery_time chip_time running_current clock_limit
    first_word array_written lies_in block_written barred running_inside running_of suspension_of
    meter_sound program_sound list_sound chip_list_sound lowest inside_sound operation_sound
    cycle_unsuspended reading_sound cycle_in_suspension cycle_sound still_command is_ground is_still command_sound sound
judged-right = refl
