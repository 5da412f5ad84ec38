-- The table of rulings, "Window and suspension", "Time and charge", "Status words", "The cut".
use Rattle.std.specs.Prelude.{ℕ, false, true, List, [], ◌∷◌, ◌++◌, replicate}
use Rattle.blocks.specs.Blocks.{with_of}
use Rattle.protection.specs.Protection.{fresh_bits}
use Rattle.plain.specs.declared.Array.TheVariants.{Main}
use Rattle.plain.specs.declared.Inside.{Inside}
use Rattle.plain.specs.declared.Inside.TheVariants.{Nothing, Runs}
use Rattle.plain.specs.declared.Operation.TheVariants.{Programming, ProgramSuspended, Erasing, EraseSuspended, ChipErasing}
use Rattle.plain.specs.declared.Command.TheVariants.{Ground}
use Rattle.plain.specs.declared.Device.{Device}
use Rattle.plain.specs.Events.{write, wait, cut}
use Rattle.plain.specs.Programs.{writing}
use Rattle.plain.specs.Record.{program, erase, suspended, fresh}
use Rattle.plain.specs.Rows.{Row, runs, takes, waits, gives, refuses, holds, blank, but, enters, program_of, erase_of, chip_erase_of, dyb_of, standing, only}

-- a suspended erase of blocks 8 and 9 (words 64 to 127, 128 to 191): the block in hand, its time left, and what runs inside
abbrev pausing : (hand left : ℕ) → Inside → Device
pausing hand left inside = standing Ground (EraseSuspended (suspended (erase (with_of (only 8) 9) hand left false false) inside)) fresh_bits

-- ---- "Window and suspension"

-- a block already listed is taken and restarts the 50 µs; it is erased once
abbrev listed_again : Row
listed_again =
    runs fresh (but (holds 64 0 ∷ [])) (takes (erase_of 64 ++ (wait 40 ∷ write 100 0x30 ∷ wait 49 ∷ write 64 0x30 ∷ wait 700050 ∷ [])) ++ gives 64 0xFFFF) [] 700139
    11900002085

-- a lower block becomes the block in hand; the toggles stay
abbrev lower_block_first : Row
lower_block_first =
    runs fresh (but (holds 64 0 ∷ holds 128 0 ∷ [])) (takes (erase_of 128) ++ gives 128 0x44 ++ takes (write 64 0x30 ∷ wait 700050 ∷ []) ++ gives 128 0x08)
    (holds 64 0xFFFF ∷ holds 128 0 ∷ []) 700050 11900000750

-- after 49 µs 30H is taken, after 50 it is BUSY: then the erase runs, DQ3 is 1, and nothing has begun
abbrev window_of_50 : Row
window_of_50 =
    runs fresh blank (takes (erase_of 64) ++ gives 2048 0xFFFF ++ takes (wait 49 ∷ write 128 0x30 ∷ wait 50 ∷ []) ++ refuses 6 (write 192 0x30) ++ gives 64 0x4C ++ takes (cut [] ∷ [])) [] 99 1485

-- a block that is refused, by its bank or its protection, does not restart the window
abbrev refused_block : Row
refused_block =
    runs fresh blank
    (takes (dyb_of 128 1 ++ erase_of 64 ++ (wait 40 ∷ [])) ++ refuses 8 (write 2048 0x30) ++ refuses 9 (write 128 0x30) ++ waits 10 ++ gives 64 0x4C) [] 50 750

-- suspended in the window, full time is left; 30H at any address starts the first block, adds none and opens no window
abbrev suspended_in_window : Row
suspended_in_window =
    runs fresh (but (holds 64 0 ∷ holds 128 0 ∷ []))
    (takes (erase_of 64 ++ (wait 10 ∷ write 0 0xB0 ∷ wait 100 ∷ write 128 0x30 ∷ [])) ++ gives 64 0x4C ++ waits 699999 ++ gives 64 0x08 ++ waits 1 ++ gives 64 0xFFFF)
    (holds 128 0 ∷ []) 700110 11900001650

-- and it has not begun
abbrev suspended_unbegun : Row
suspended_unbegun = runs fresh (but (holds 64 0 ∷ [])) (takes (erase_of 64 ++ (wait 10 ∷ write 0 0xB0 ∷ cut [] ∷ []))) (holds 64 0 ∷ []) 10 150

-- a program inside a suspended erase lies off the list, finished listed blocks being on it
abbrev program_inside : Row
program_inside =
    runs (pausing 9 1 Nothing) blank
    (takes (enters 0xA0) ++ refuses 10 (write 64 0) ++ takes (enters 0xA0) ++ refuses 10 (write 128 0) ++ takes (program_of 192 0 ++ (wait 6 ∷ []))
    ++ gives 192 0 ++ gives 128 0xC4)
    [] 6 102000

-- no least distance between resume and suspend: B0H is taken as soon as 30H is, and again once it has recovered
abbrev suspended_anew : Row
suspended_anew =
    runs (pausing 8 1 Nothing) blank (takes (write 0 0x30 ∷ write 0 0xB0 ∷ wait 20 ∷ write 0 0x30 ∷ write 0 0xB0 ∷ wait 20 ∷ []) ++ gives 64 0xC4) [] 40 680000

-- every write to a program inside a suspended erase is BUSY, B0H and 30H too
abbrev inside_busy : Row
inside_busy =
    runs (pausing 8 1 (Runs (program (writing Main 200 0) 1 false))) blank (refuses 6 (write 0 0xB0) ++ refuses 6 (write 0 0x30) ++ refuses 6 (write 0 0xF0) ++ waits 1)
    (holds 200 0 ∷ []) 1 17000

-- ---- "Time and charge"

-- a wait is split exactly: blocks 8 and 9 finish in rising number, and 10 µs are left
abbrev long_wait : Row
long_wait =
    runs (standing Ground (Erasing (erase (with_of (only 8) 9) 8 700000 false false)) fresh_bits) (but (holds 64 0 ∷ holds 128 0 ∷ holds 192 0 ∷ [])) (waits 1400010 ++ gives 64 0xFFFF)
    (holds 64 0xFFFF ∷ holds 128 0xFFFF ∷ holds 192 0 ∷ []) 1400010 23800000150

-- what is left of a wait after one block goes to the next: 1 µs ends block 8, and 2 µs begin block 9
abbrev rest_of_wait : Row
rest_of_wait =
    runs (standing Ground (Erasing (erase (with_of (only 8) 9) 8 1 false false)) fresh_bits) (but (holds 64 0 ∷ [])) (waits 3 ++ refuses 5 (cut [])) (holds 64 0xFFFF ∷ []) 3 51000

-- a program that changes nothing still takes 6 µs at the running current, and begins after 1
abbrev changes_nothing : Row
changes_nothing =
    runs fresh blank (takes (program_of 100 0xFFFF) ++ waits 1 ++ refuses 5 (cut []) ++ waits 4 ++ gives 100 0x44 ++ waits 1 ++ gives 100 0xFFFF) [] 6 102000

-- ---- "Status words"

-- in suspension the new DQ2 is shown, and the stored DQ6 does not move
abbrev resting_toggles : Row
resting_toggles =
    runs (standing Ground (EraseSuspended (suspended (erase (only 8) 8 1 true false) Nothing)) fresh_bits) blank
    (gives 64 0xC4 ++ gives 64 0xC0 ++ takes (write 0 0x30 ∷ []) ++ gives 64 0x0C) [] 0 0

-- a finished listed block reads C0H plus DQ2 as the block in hand does (8 is finished, 9 in hand), and a block off the list its cell
abbrev finished_rests : Row
finished_rests = runs (pausing 9 1 Nothing) blank (gives 64 0xC4 ++ gives 128 0xC0 ++ gives 127 0xC4 ++ gives 192 0xFFFF ++ gives 63 0xFFFF) [] 0 0

-- DQ2 flips for every listed block, finished or not
abbrev finished_flips : Row
finished_flips = runs (standing Ground (Erasing (erase (with_of (only 8) 9) 9 1 false false)) fresh_bits) blank (gives 64 0x4C ++ gives 128 0x08 ++ gives 127 0x4C) [] 0 0

-- a suspended program of a stored record shows the complement of data bit 7, in every word of its block and not in the bank's rest
abbrev resting_program : Row
resting_program =
    runs (standing Ground (ProgramSuspended (program (writing Main 100 0x0080) 4 false)) fresh_bits) blank (gives 100 0x44 ++ gives 64 0x44 ++ gives 127 0x44 ++ gives 128 0xFFFF) [] 0 0

-- DQ7 is of the written data, not of what the cell will hold: a stored program, over a word that takes no bit of it
abbrev dq7_of_data : Row
dq7_of_data = runs (standing Ground (Programming (program (writing Main 100 0x0080) 6 false)) fresh_bits) (but (holds 100 0 ∷ [])) (gives 100 0x44) [] 0 0

-- a program inside a suspended erase: its own bank reads its status and leaves the erase's DQ2
abbrev inside_own_bank : Row
inside_own_bank =
    runs (pausing 8 1 (Runs (program (writing Main 200 0x1234) 6 false))) blank (gives 64 0xC4 ++ gives 200 0x84 ++ gives 200 0xC4 ++ waits 6 ++ gives 64 0xC4 ++ gives 200 0x1234) [] 6
    102000

-- a listed block in another bank reads C0H plus DQ2; program and erase have toggles of their own
abbrev inside_other_bank : Row
inside_other_bank =
    runs (pausing 8 1 (Runs (program (writing Main 3000 0x1234) 6 false))) blank (gives 64 0xC4 ++ gives 3000 0xC4 ++ gives 64 0xC0 ++ gives 3000 0x84 ++ gives 192 0xFFFF) [] 0 0

-- DQ2 off the list is shown unflipped; DQ6 flips all the same
abbrev dq2_off_list : Row
dq2_off_list = runs (standing Ground (Erasing (erase (only 8) 8 1 false false)) fresh_bits) blank (gives 0 0x48 ++ gives 64 0x0C ++ gives 0 0x4C ++ gives 2048 0xFFFF) [] 0 0

-- so at a protected block in a chip erase, whose status is in all four banks; it takes no B0H
abbrev chip_status : Row
chip_status =
    runs fresh blank (takes (dyb_of 0 1 ++ chip_erase_of) ++ gives 0 0x48 ++ gives 8 0x0C ++ gives 2048 0x48 ++ gives 8192 0x0C ++ gives 16383 0x48 ++ refuses 6 (write 0 0xB0)) [] 0 0

-- ---- "The cut", and "Cells"

-- "begun" is judged by the block in hand: exactly between two blocks nothing has begun
abbrev between_blocks : Row
between_blocks =
    runs (standing Ground (Erasing (erase (with_of (only 8) 9) 8 1 false false)) fresh_bits) (but (holds 64 0 ∷ holds 128 0 ∷ [])) (waits 1 ++ takes (cut [] ∷ []))
    (holds 64 0xFFFF ∷ holds 128 0 ∷ []) 1 17000

-- a suspended erase that has begun still counts
abbrev resting_begun : Row
resting_begun = runs (pausing 9 699999 Nothing) blank (refuses 5 (cut (replicate 63 0)) ++ takes (cut (replicate 64 0) ∷ [])) (holds 127 0xFFFF ∷ holds 128 0 ∷ holds 191 0 ∷ holds 192 0xFFFF ∷ []) 0 0

-- debris counts from the block's first word, and what is left over is ignored (block 1 is words 8 to 15)
abbrev debris_from_first : Row
debris_from_first =
    runs (standing Ground (Erasing (erase (only 1) 1 1 false false)) fresh_bits) blank (takes (cut (1 ∷ 2 ∷ 3 ∷ 4 ∷ 5 ∷ 6 ∷ 7 ∷ 8 ∷ 9 ∷ []) ∷ []))
    (holds 7 0xFFFF ∷ holds 8 1 ∷ holds 15 8 ∷ holds 16 0xFFFF ∷ []) 0 0

-- "old" in a cut program's word is the cell at the cut
abbrev old_at_cut : Row
old_at_cut = runs fresh (but (holds 100 0x0F0F ∷ [])) (takes (program_of 100 0x0204 ++ (wait 1 ∷ cut (0xFF00 ∷ []) ∷ []))) (holds 100 0x0F04 ∷ []) 1 17000

-- with no begun erase the program's debris word is the first
abbrev programs_debris : Row
programs_debris =
    runs (pausing 8 700000 (Runs (program (writing Main 3000 0x1234) 1 false))) blank (refuses 5 (cut []) ++ takes (cut (0xFF00 ∷ []) ∷ []))
    (holds 64 0xFFFF ∷ holds 3000 0xFF34 ∷ []) 0 0

-- a chip erase's cut is judged by its 500,000 µs, and touches the block in hand only
abbrev chip_cut : Row
chip_cut =
    runs (standing Ground (ChipErasing (erase (with_of (only 0) 1) 1 499999 false false)) fresh_bits) blank (refuses 5 (cut []) ++ takes (cut (replicate 8 0) ∷ []))
    (holds 7 0xFFFF ∷ holds 8 0 ∷ holds 15 0 ∷ holds 16 0xFFFF ∷ []) 0 0

abbrev chip_unbegun : Row
chip_unbegun = runs (standing Ground (ChipErasing (erase (with_of (only 0) 1) 1 500000 false false)) fresh_bits) blank (takes (cut [] ∷ [])) (holds 8 0xFFFF ∷ []) 0 0

abbrev pub operation_rulings : List Row
operation_rulings =
    listed_again ∷ lower_block_first ∷ window_of_50 ∷ refused_block ∷ suspended_in_window ∷ suspended_unbegun ∷ program_inside ∷ suspended_anew
    ∷ inside_busy ∷ long_wait ∷ rest_of_wait ∷ changes_nothing ∷ resting_toggles ∷ finished_rests ∷ finished_flips ∷ resting_program ∷ dq7_of_data ∷ inside_own_bank ∷ inside_other_bank
    ∷ dq2_off_list ∷ chip_status ∷ between_blocks ∷ resting_begun ∷ debris_from_first ∷ old_at_cut ∷ programs_debris ∷ chip_cut ∷ chip_unbegun ∷ []
