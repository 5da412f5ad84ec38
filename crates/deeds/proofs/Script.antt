-- The definitions give the script's answers.
use mathlib.Core.Path.{refl}
use Rattle.blocks.specs.Blocks.{has, pack, set_of, some, seek}
use Rattle.cells.specs.Cells as cells
use Rattle.cells.specs.Cells.{programmed, erased, littered, cut_short}
use Rattle.geometry.specs.Parts.{block_count, bank_count, unit_of, size_in, first_in, block_in, bank_of, bank_in, bank_of_block}
use Rattle.geometry.specs.Asked.{refusal_asked, block_asked}
use Rattle.protection.specs.Protection.{protected_by, word_locked_by, unprotected}
use Rattle.plain.specs.Refusals.{number}
use Rattle.plain.specs.Figures.{program_time, window_time, erase_time, chip_time, running_current, standby_current, clock_limit}
use Rattle.plain.specs.Programs.{writes, datum, first_word, array_written, lies_in, block_written, bank_written, barred, barred_as, dq7, raises, finished, debris_words, debris_for, cut_off}
use Rattle.plain.specs.Operations.{running_inside, running_of, suspension_of}
use Rattle.plain.specs.Sound.{meter_sound, program_sound, list_sound, chip_list_sound, lowest, inside_sound, operation_sound, cycle_unsuspended, reading_sound, cycle_in_suspension, cycle_sound, still_command, is_ground, is_still, command_sound, sound}
use Rattle.plain.specs.Commands.{is_suspended, program_is_suspended, resumes, keeps_out, begins, resets, at_ground, after_unlock, after_unlocked, after_a0, after80, after_80_unlock, after_80_unlocked, after48, after60, after68, after6060, after_lock_68, exits, after_reading, continued, entered, add_block, in_window, in_suspended_erase, written, effected}
use Rattle.plain.specs.Time.{current, inside_tick, operation_tick, lent_tick, tick, ticks}
use Rattle.plain.specs.Status.{polls, inside_polled, polled, status, given_at, given_word, reading_on, reading_word, rests, rest_word, rested, look}
use Rattle.plain.specs.Cut.{begun_block, begun_inside, begun_program, word_of, block_debris, program_debris, debris_needed, block_cut, program_cut, cut_lent}
use Rattle.plain.specs.Machine.{entry, climbed, ladder, read_event, write_event, wait_event, cut_event, range_event, range_words}
use Rattle.language.specs.Language.{without_cr, items_from, digit_of, digits, any_number, words_from, words, same, means}
use Rattle.judged.specs.Asked.{exposed_now}
use Rattle.sums.specs.Sums.{summed}
use Rattle.printing.specs.Text.{digit, decimal_within}
use Rattle.refusals.specs.Names.{name}
use Rattle.telling.specs.Lines.{event_line, malformed_line, end_line, block_line, word_line, range_line}
use Rattle.exceptions.specs.Exceptions.{block_lines, word_lines, word_in}
use Rattle.deeds.specs.Deeds.{does}
use Rattle.deeds.specs.Tells.{tells}
use Rattle.deeds.specs.Answers.{answers_from}
use Rattle.deeds.specs.Script.{ScriptAnswered}

pub script-answered : ScriptAnswered
unfolding has pack set_of some seek programmed cells.raises erased littered cut_short block_count bank_count unit_of size_in first_in block_in bank_of bank_in bank_of_block refusal_asked block_asked protected_by word_locked_by unprotected number program_time window_time erase_time chip_time running_current standby_current clock_limit writes datum first_word array_written lies_in block_written bank_written barred barred_as dq7 raises finished debris_words debris_for cut_off running_inside running_of suspension_of meter_sound program_sound list_sound chip_list_sound lowest inside_sound operation_sound cycle_unsuspended reading_sound cycle_in_suspension cycle_sound still_command is_ground is_still command_sound sound is_suspended program_is_suspended resumes keeps_out begins resets at_ground after_unlock after_unlocked after_a0 after80 after_80_unlock after_80_unlocked after48 after60 after68 after6060 after_lock_68 exits after_reading continued entered add_block in_window in_suspended_erase written effected current inside_tick operation_tick lent_tick tick ticks polls inside_polled polled status given_at given_word reading_on reading_word rests rest_word rested look begun_block begun_inside begun_program word_of block_debris program_debris debris_needed block_cut program_cut cut_lent entry climbed ladder read_event write_event wait_event cut_event range_event range_words without_cr items_from digit_of digits any_number words_from words same means exposed_now summed digit decimal_within name event_line malformed_line end_line block_line word_line range_line block_lines word_lines word_in does tells answers_from
script-answered = refl
