-- The definitions and the answers written out agree: each by computing.
use Rattle.std.specs.Prelude.{None, Some}
use Prim.Native.Nat.{ℕ}
use mathlib.Core.Path.{◌≡◌, refl}
use mathlib.Core.List.{List, [], ◌∷◌, map}
use lib.ListN.{replicate}
use Rattle.blocks.specs.Blocks.{has, pack, set_of, some}
use Rattle.cells.specs.Cells.{programmed, cut_short}
use Rattle.geometry.specs.declared.Part.TheVariants.{Small, Full}
use Rattle.geometry.specs.Parts.{block_count, unit_of, size_in, first_in}
use Rattle.protection.specs.Protection.{word_locked_by}
use Rattle.plain.specs.declared.Array.TheVariants.{Main, OneTime}
use Rattle.plain.specs.Commands.{is_suspended, at_ground, after_unlocked, after_lock_68, continued, entered as cycled, in_suspended_erase, written, effected}
use Rattle.plain.specs.Cut.{begun_block, begun_inside, begun_program, block_debris, program_debris, debris_needed, block_cut, program_cut, cut_lent, spot}
use Rattle.plain.specs.Figures.{running_current, program_time, clock_limit}
use Rattle.plain.specs.Machine.{entry, climbed, ladder, read_event, write_event, wait_event, cut_event, range_event, range_words}
use Rattle.plain.specs.Operations.{running_inside, running_of, suspension_of}
use Rattle.plain.specs.Programs.{array_written, first_word, lies_in, barred, finished, debris_words, debris_for, cut_off}
use Rattle.plain.specs.Refusals.{number}
use Rattle.plain.specs.Sound.{meter_sound, program_sound, operation_sound, cycle_unsuspended, cycle_sound, reading_sound, still_command, is_ground, is_still, command_sound, sound}
use Rattle.plain.specs.Status.{polls, given_at, given_word, reading_on, reading_word, rests, look}
use Rattle.plain.specs.Time.{current, inside_tick, operation_tick, lent_tick, tick, ticks}
use Rattle.layout.specs.Commands.{cycle_words, reading_words, command_words, command_fits, cycle_of, command_of}
use Rattle.layout.specs.Operations.{operation_parts, operation_numbered, operation_outside, operation_inside, operation_of}
use Rattle.layout.specs.Image.{image_of, words_from, zeros, marked, erase_fits, program_fits, operation_fits, recovery_fits, entered_fits, well_formed, device_of}
use Rattle.layout.specs.Carried.{carriable, carried}
use Rattle.face.specs.Face.{part_named, stands, stands_sound, packed, face_read, face_write, face_wait, face_cut, fresh_refusal, fresh_image, carried_refusal, carried_image, place_number, spot_number, spot_array, face_clock, face_charge, face_first_word, face_block_words}
use Rattle.face.specs.Range.{face_range, face_range_words}
use Rattle.face.specs.Worked.{idle, sealed, entered, idle_before₁, idle_before₂, Judged, judgements, Row, rows, refused_reads, ranges, range_numbers, words_handed, handed, no_number}

pub parts : map part_named (0 ∷ 1 ∷ []) ≡ Small ∷ Full ∷ []
parts = refl

pub judges : map (λ (j : Judged). stands_sound j.part j.words) judgements ≡ map (λ (j : Judged). j.sound) judgements
unfolding stands_sound stands well_formed marked command_fits operation_fits recovery_fits entered_fits erase_fits program_fits words_from zeros
    device_of command_of cycle_of operation_numbered operation_outside operation_inside operation_of sound meter_sound operation_sound program_sound lies_in barred word_locked_by array_written first_word command_sound is_ground is_still still_command cycle_sound cycle_unsuspended reading_sound running_of running_inside suspension_of running_current program_time clock_limit block_count has pack set_of some
judges = refl

pub answers : map (λ (r : Row). r.faced) rows ≡ map (λ (r : Row). r.stated) rows
unfolding face_read read_event look polls reading_on reading_word given_at given_word rests face_write write_event written cycled in_suspended_erase continued at_ground after_unlocked after_lock_68 is_suspended effected
    face_wait wait_event ticks tick current inside_tick operation_tick lent_tick finished programmed face_cut cut_event begun_block begun_inside begun_program block_debris program_debris debris_words debris_needed debris_for block_cut program_cut cut_off cut_short cut_lent
    stands well_formed marked command_fits operation_fits recovery_fits entered_fits erase_fits program_fits words_from zeros
    device_of command_of cycle_of operation_numbered operation_outside operation_inside operation_of sound meter_sound operation_sound program_sound lies_in barred word_locked_by array_written first_word command_sound is_ground is_still still_command cycle_sound cycle_unsuspended reading_sound running_of running_inside suspension_of running_current program_time clock_limit block_count has pack set_of some
    number image_of command_words cycle_words reading_words operation_parts unit_of climbed ladder entry
answers = refl

-- the refusal above the word, which is 0
pub reads-refused : map packed refused_reads ≡ 0x10000 ∷ 0x10000 ∷ 0x20000 ∷ 0x20000 ∷ 0x30000 ∷ []
unfolding face_read read_event stands well_formed marked command_fits operation_fits recovery_fits entered_fits erase_fits program_fits words_from zeros
    device_of command_of cycle_of operation_numbered operation_outside operation_inside operation_of sound meter_sound operation_sound program_sound lies_in barred word_locked_by array_written first_word command_sound is_ground is_still still_command cycle_sound cycle_unsuspended reading_sound running_of running_inside suspension_of running_current program_time clock_limit block_count has pack set_of some
    number image_of command_words cycle_words reading_words operation_parts unit_of climbed ladder entry
reads-refused = refl

pub ranges-answered : ranges ≡ range_numbers
unfolding face_range range_event stands well_formed marked command_fits operation_fits recovery_fits entered_fits erase_fits program_fits words_from zeros
    device_of command_of cycle_of operation_numbered operation_outside operation_inside operation_of sound meter_sound operation_sound program_sound lies_in barred word_locked_by array_written first_word command_sound is_ground is_still still_command cycle_sound cycle_unsuspended reading_sound running_of running_inside suspension_of running_current program_time clock_limit block_count has pack set_of some
    number image_of command_words cycle_words reading_words operation_parts unit_of climbed ladder entry
ranges-answered = refl

pub ranges-handed : words_handed ≡ handed
unfolding face_range_words range_event range_words stands well_formed marked command_fits operation_fits recovery_fits entered_fits erase_fits program_fits words_from zeros
    device_of command_of cycle_of operation_numbered operation_outside operation_inside operation_of sound meter_sound operation_sound program_sound lies_in barred word_locked_by array_written first_word command_sound is_ground is_still still_command cycle_sound cycle_unsuspended reading_sound running_of running_inside suspension_of running_current program_time clock_limit block_count has pack set_of some
    number image_of command_words cycle_words reading_words operation_parts unit_of climbed ladder entry
ranges-handed = refl

pub makes-fresh : map fresh_refusal (replicate 32 9 ∷ replicate 30 9 ∷ []) ≡ 0 ∷ 1 ∷ []
unfolding number
makes-fresh = refl

pub fresh-words : map fresh_image (replicate 32 9 ∷ replicate 30 9 ∷ []) ≡ idle 0 0 ∷ replicate 30 9 ∷ []
unfolding image_of command_words operation_parts set_of pack
fresh-words = refl

-- a record of layout 1, of layout 2, two of this layout, one of none, and too little room
pub carries : map (λ (i : List ℕ). carried_refusal i (replicate 32 9)) (idle_before₁ 2 34000 ∷ idle_before₂ 2 34000 ∷ idle 2 34000 ∷ sealed (entered (idle 0 0)) ∷ replicate 32 9 ∷ []) ≡ 0 ∷ 0 ∷ 0 ∷ 0 ∷ 1 ∷ []
unfolding number carriable
carries = refl

pub carried-words : map (λ (i : List ℕ). carried_image i (replicate 32 9)) (idle_before₁ 2 34000 ∷ idle_before₂ 2 34000 ∷ idle 2 34000 ∷ sealed (entered (idle 0 0)) ∷ replicate 32 9 ∷ [])
    ≡ idle 2 34000 ∷ idle 2 34000 ∷ idle 2 34000 ∷ sealed (entered (idle 0 0)) ∷ replicate 32 9 ∷ []
unfolding carriable carried words_from
carried-words = refl

pub no_room : carried_refusal (idle_before₁ 2 34000) (replicate 30 9) ≡ 1
unfolding number carriable
no_room = refl

pub places : map place_number (Some 0 ∷ Some 269 ∷ None ∷ []) ≡ 0 ∷ 269 ∷ no_number ∷ []
unfolding place_number
places = refl

pub spots : map spot_number (Some (spot Main 0) ∷ Some (spot OneTime 255) ∷ None ∷ []) ≡ 0 ∷ 255 ∷ no_number ∷ []
unfolding spot_number
spots = refl

pub spot-arrays : map spot_array (Some (spot Main 0) ∷ Some (spot OneTime 255) ∷ None ∷ []) ≡ 0 ∷ 1 ∷ no_number ∷ []
unfolding spot_array
spot-arrays = refl

pub clocks : map (face_clock 1) (idle 2 34000 ∷ idle 2 34001 ∷ []) ≡ 2 ∷ no_number ∷ []
unfolding face_clock stands_sound stands well_formed marked command_fits operation_fits recovery_fits entered_fits erase_fits program_fits words_from zeros
    device_of command_of cycle_of operation_numbered operation_outside operation_inside operation_of sound meter_sound operation_sound program_sound lies_in barred word_locked_by array_written first_word command_sound is_ground is_still still_command cycle_sound cycle_unsuspended reading_sound running_of running_inside suspension_of running_current program_time clock_limit block_count has pack set_of some
clocks = refl

pub charges : map (face_charge 1) (idle 2 34000 ∷ idle 2 34001 ∷ []) ≡ 34000 ∷ no_number ∷ []
unfolding face_charge stands_sound stands well_formed marked command_fits operation_fits recovery_fits entered_fits erase_fits program_fits words_from zeros
    device_of command_of cycle_of operation_numbered operation_outside operation_inside operation_of sound meter_sound operation_sound program_sound lies_in barred word_locked_by array_written first_word command_sound is_ground is_still still_command cycle_sound cycle_unsuspended reading_sound running_of running_inside suspension_of running_current program_time clock_limit block_count has pack set_of some
charges = refl

-- the last block of each part, the number after it, and no part
pub first-words : face_first_word 0 269 ∷ face_first_word 1 269 ∷ face_first_word 1 270 ∷ face_first_word 2 1 ∷ [] ≡ 16376 ∷ 8384512 ∷ 8388608 ∷ 0 ∷ []
unfolding face_first_word block_count unit_of first_in size_in
first-words = refl

pub block_words : face_block_words 0 269 ∷ face_block_words 1 269 ∷ face_block_words 1 270 ∷ face_block_words 2 1 ∷ [] ≡ 8 ∷ 4096 ∷ 0 ∷ 0 ∷ []
unfolding face_block_words block_count unit_of size_in
block_words = refl
