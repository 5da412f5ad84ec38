-- At each moment the definitions tell what is stated: computed, with the waits in leaps.
use Prim.Native.Nat.{ℕ}
use mathlib.Core.Path.{◌≡◌, refl, ap, ◌∙◌}
use mathlib.Core.Bool.{true}
use mathlib.Core.List.{List, [], ◌∷◌, map}
use lib.ListN.{length-replicate}
use borrow.Author.Tests.{eq-eqb}
use Rattle.blocks.specs.Blocks.{has, pack, set_of, some, seek}
use Rattle.cells.specs.Cells as cells
use Rattle.cells.specs.Cells.{programmed, erased}
use Rattle.geometry.specs.declared.Part.TheVariants.{Small}
use Rattle.geometry.specs.Parts.{block_count, bank_count, unit_of, size_in, first_in, block_in, bank_of, bank_in, bank_of_block}
use Rattle.protection.specs.Protection.{protected_by, word_locked_by, unprotected}
use Rattle.plain.specs.Refusals.{number}
use Rattle.plain.specs.Figures.{program_time, window_time, erase_time, recovery_time, chip_time, running_current, standby_current, clock_limit}
use Rattle.plain.specs.Lent.{otp_words, is_whole}
use Rattle.plain.specs.Programs.{first_word, array_written, lies_in, block_written, bank_written, barred, barred_as, raises, finished, debris_words}
use Rattle.plain.specs.Operations.{running_inside, running_of, suspension_of}
use Rattle.plain.specs.Sound.{meter_sound, program_sound, list_sound, chip_list_sound, lowest, inside_sound, operation_sound, cycle_unsuspended, reading_sound, cycle_in_suspension, cycle_sound, still_command, is_ground, is_still, command_sound, sound}
use Rattle.plain.specs.Commands.{is_suspended, program_is_suspended, resumes, keeps_out, begins, resets, at_ground, after_unlock, after_unlocked, after_a0, after80, after_80_unlock, after_80_unlocked, after48, after60, after68, after6060, after_lock_68, exits, after_reading, continued, entered, add_block, in_window, in_suspended_erase, written, effected}
use Rattle.plain.specs.Time.{current, inside_tick, operation_tick, lent_tick, tick, ticks}
use Rattle.plain.specs.Cut.{begun_block, begun_inside, begun_program, block_debris, program_debris, debris_needed}
use Rattle.plain.specs.Machine.{Ran, climbed}
use Rattle.plain.proofs.Tools.{both}
use Rattle.plain.proofs.Leaps.{inside_due, due_of, inside_less, less, drifted, leap}
use Rattle.plain.proofs.Quick.{quick_ticks, quick_ladder, quick_step, quick_run, quick-run}
use Rattle.plain.proofs.QuickSound.{some_at, some_of, quick_only, quick_list, quick_chip_list, quick_operation, quick_sound, quick_entry}
use Rattle.remaining.specs.Remaining.{change_of, counted, to_come, until_end}
use Rattle.judged.specs.Foreseen.{end_now, change_now, debris_now}
use Rattle.outlook.specs.Foreseen.{change_time, change_block, change_word, change_array}
use Rattle.timetable.specs.Timetable.{Told, tells, Moment, blank, found, chip, erase, one_time, unsound, AsForeseen}

are-whole : is_whole Small blank ≡ true
unfolding unit_of
are-whole =
    both _ _ (eq-eqb _ _ (length-replicate {A = ℕ} 16384 0xFFFF)) (eq-eqb _ _ (length-replicate {A = ℕ} otp_words 0xFFFF))

abbrev quick_found : Moment → Told
quick_found m = tells (quick_run Small m.from blank true m.events).device

quick-moments : (ms : List Moment) → map found ms ≡ map quick_found ms
quick-moments [] = refl
quick-moments (m ∷ ms) =
    rw (ap (λ (r : Ran). tells r.device) (quick-run Small m.from blank true are-whole m.events), quick-moments ms)

record Computed : Type 0 where
  chips : map quick_found chip ≡ map (λ (m : Moment). m.stated) chip
  erases : map quick_found erase ≡ map (λ (m : Moment). m.stated) erase
  in_one_time : map quick_found one_time ≡ map (λ (m : Moment). m.stated) one_time
  unsounds : map quick_found unsound ≡ map (λ (m : Moment). m.stated) unsound

computed : Computed
unfolding has pack set_of some seek programmed cells.raises erased
    block_count bank_count unit_of size_in first_in block_in bank_of bank_in bank_of_block protected_by word_locked_by unprotected
    number program_time window_time erase_time recovery_time chip_time running_current standby_current clock_limit
    first_word array_written lies_in block_written bank_written barred barred_as raises finished debris_words
    running_inside running_of suspension_of
    meter_sound program_sound list_sound chip_list_sound lowest inside_sound operation_sound
    cycle_unsuspended reading_sound cycle_in_suspension cycle_sound still_command is_ground is_still command_sound sound
    is_suspended program_is_suspended resumes keeps_out begins resets at_ground after_unlock after_unlocked after_a0 after80 after_80_unlock after_80_unlocked
    after48 after60 after68 after6060 after_lock_68 exits after_reading continued entered add_block in_window in_suspended_erase written effected
    current inside_tick operation_tick lent_tick tick
    begun_block begun_inside begun_program block_debris program_debris debris_needed
    climbed some_at some_of quick_only quick_list quick_chip_list quick_operation quick_sound quick_entry quick_ladder
    inside_due due_of inside_less less drifted leap ticks quick_ticks quick_step quick_run
    change_of counted to_come until_end end_now change_now debris_now change_time change_block change_word change_array
computed = record { chips = refl; erases = refl; in_one_time = refl; unsounds = refl }

-- a chip erase of 270 blocks
pub chip-foreseen : AsForeseen chip
chip-foreseen = quick-moments chip ∙ computed.chips

-- an erase of two blocks with its window, suspended, with a program inside, and resumed
pub erase-foreseen : AsForeseen erase
erase-foreseen = quick-moments erase ∙ computed.erases

-- a program while the one-time block is entered
pub one-time-foreseen : AsForeseen one_time
one-time-foreseen = quick-moments one_time ∙ computed.in_one_time

-- a record that is not sound
pub unsound-foreseen : AsForeseen unsound
unsound-foreseen = quick-moments unsound ∙ computed.unsounds
