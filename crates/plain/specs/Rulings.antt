-- The table of rulings: a short run for each reading of docs/DECISIONS.md that an answer, a word or a cell can show; the line of that
-- reading names the row. Here are those of parts, protection, records and refusals; commands and operations have files of their own.
use Rattle.std.specs.Prelude.{ℕ, false, true, List, [], ◌∷◌, ◌++◌, set}
use Rattle.blocks.specs.Blocks.{empty_of, with_of}
use Rattle.protection.specs.Protection.{bits, fresh_bits}
use Rattle.plain.specs.declared.Array.TheVariants.{Main}
use Rattle.plain.specs.declared.Inside.TheVariants.{Runs}
use Rattle.plain.specs.declared.Operation.{Operation}
use Rattle.plain.specs.declared.Operation.TheVariants.{Idle, Programming, Window, Erasing, EraseSuspended, ChipErasing}
use Rattle.plain.specs.declared.Command.TheVariants.{Ground, Entering, Reads}
use Rattle.plain.specs.declared.Cycle.TheVariants.{Unlock, ProgramData, DybData, PpbSetting}
use Rattle.plain.specs.declared.Reading.TheVariants.{Identity}
use Rattle.plain.specs.CommandRulings.{command_rulings}
use Rattle.plain.specs.Events.{Event, read, write, wait, cut}
use Rattle.plain.specs.OperationRulings.{operation_rulings}
use Rattle.plain.specs.Programs.{writing}
use Rattle.plain.specs.RaiseRulings.{raise_rulings}
use Rattle.plain.specs.Record.{program, erase, suspended, fresh}
use Rattle.plain.specs.RecoveryRulings.{recovery_rulings}
use Rattle.plain.specs.OneTimeRulings.{one_time_rulings}
use Rattle.plain.specs.Rows.{Row, lookups, runs, takes, waits, gives, refuses, lies, past, holds, blank, but, unlock, enters, program_of, erase_of, dyb_of, dyb_gives, suspended_third, metered, standing, guarded, only, resting}

-- a program at 100 (block 8) in its last microsecond
abbrev ending : Operation
ending = Programming (program (writing Main 100 0x1234) 1 false)

-- ---- "Geometry"

-- every 64-bit number may be asked; block 0 is a real one, so with ADDRESS the refusal is read first
abbrev addresses64 : Row
addresses64 = lookups (lies 0 0 ∷ past 16384 ∷ past 18446744073709551615 ∷ [])

-- command addresses do not scale: their low 11 bits are compared on the small part, too
abbrev command_addresses : Row
command_addresses =
    runs fresh blank (refuses 7 (write 0x155 0xAA) ++ takes (write 0xD55 0xAA ∷ write 0x3AAA 0x55 ∷ write 0x1555 0xA0 ∷ write 100 0x1234 ∷ wait 6 ∷ []))
    (holds 100 0x1234 ∷ []) 6 102000

-- ---- "Protection"

abbrev ppb_of : ℕ → List Event
ppb_of a = enters 0x60 ++ (write a 0x68 ∷ write a 0x48 ∷ [])

-- each block has a PPB of its own: block 10 (192 to 255) is protected, 9 and 11 are not
abbrev ppb_of_one_block : Row
ppb_of_one_block =
    runs fresh blank
    (takes (ppb_of 192 ++ enters 0xA0) ++ refuses 9 (write 192 0) ++ takes (program_of 191 0 ++ (wait 6 ∷ []) ++ program_of 256 0 ++ (wait 6 ∷ [])))
    (holds 191 0 ∷ holds 192 0xFFFF ∷ holds 256 0 ∷ []) 12 204000

-- 1 means protected: a DYB of 1 protects, and one of 0 does not
abbrev one_protects : Row
one_protects =
    runs fresh blank (takes (dyb_of 100 1 ++ enters 0xA0) ++ refuses 9 (write 100 0x1234) ++ takes (dyb_of 100 0 ++ program_of 100 0x1234 ++ (wait 6 ∷ [])))
    (holds 100 0x1234 ∷ []) 6 102000

-- the lock binds PPBs only: a DYB is set, and a PPB is LOCKED
abbrev lock_binds_ppbs : Row
lock_binds_ppbs =
    runs fresh blank (takes (enters 0x78 ++ dyb_of 100 1) ++ dyb_gives 100 3 ++ takes (enters 0x60 ++ (write 100 0x68 ∷ [])) ++ refuses 11 (write 100 0x48)) [] 0 0

-- a cut clears DYBs and the lock bit, and leaves PPBs (block 11 is words 256 to 319)
abbrev cut_clears_dybs : Row
cut_clears_dybs =
    runs (standing Ground Idle (bits (only 0) (only 11) true false)) blank (dyb_gives 0 3 ++ takes (cut [] ∷ []) ++ dyb_gives 0 0 ++ takes (enters 0x90) ++ gives 258 1) [] 0 0

-- a bit for a number from 270 up, in the protection bits or in a list, is STATE
abbrev stray_bit : Row
stray_bit = runs (guarded (only 270) empty_of) blank (refuses 1 (read 0)) [] 0 0

abbrev stray_listed : Row
stray_listed = runs (standing Ground (ChipErasing (erase (with_of (only 8) 270) 8 1 false false)) fresh_bits) blank (refuses 1 (read 0)) [] 0 0

-- ---- "Record and soundness"

-- all four events judge the length, a write too, and before the address
abbrev short_cells : Row
short_cells =
    runs fresh (record { count = 16383; others = [] }) (refuses 2 (read 16384) ++ refuses 2 (write 0x555 0xAA) ++ refuses 2 (wait 0) ++ refuses 2 (cut [])) [] 0 0

-- a stored bank of identity reading is 0 to 3, and 68H's block is below 270
abbrev identity_bank_4 : Row
identity_bank_4 = runs (standing (Reads (Identity 4)) Idle fresh_bits) blank (refuses 1 (read 0)) [] 0 0

abbrev ppb_block_270 : Row
ppb_block_270 = runs (standing (Entering (PpbSetting 270)) Idle fresh_bits) blank (refuses 1 (write 0 0xF0)) [] 0 0

-- no tie between clock and progress: a program all but done at clock 0 is sound
abbrev progress_at_clock_0 : Row
progress_at_clock_0 = runs (standing Ground ending fresh_bits) blank (waits 1) (holds 100 0x1234 ∷ []) 1 17000

-- of the charge an upper bound alone is asked: 17,000 times the clock
abbrev charge_at_bound : Row
charge_at_bound = runs (metered 1 17000) blank (waits 0) [] 1 17000

abbrev charge_past_bound : Row
charge_past_bound = runs (metered 1 17001) blank (refuses 1 (wait 0)) [] 1 17001

-- a clock past its limit is STATE, whatever the charge
abbrev clock_past_limit : Row
clock_past_limit = runs (metered 100000000000001 0) blank (refuses 1 (wait 0)) [] 100000000000001 0

-- a chip erase's list may be smaller than all unprotected blocks
abbrev chip_list_smaller : Row
chip_list_smaller =
    runs (standing Ground (ChipErasing (erase (only 8) 8 1 false false)) fresh_bits) (but (holds 64 0 ∷ holds 128 0 ∷ [])) (waits 1 ++ gives 64 0xFFFF ++ gives 128 0) [] 1
    17000

-- finished blocks need not hold FFFFH: those listed below the block in hand count as finished, and are not erased again
abbrev finished_not_blank : Row
finished_not_blank =
    runs (standing Ground (Erasing (erase (with_of (only 8) 9) 9 1 false false)) fresh_bits) (but (holds 64 0 ∷ holds 128 0 ∷ [])) (waits 1 ++ gives 64 0 ++ gives 128 0xFFFF) []
    1 17000

-- while a program runs inside a suspended erase no command is half entered
abbrev half_entered_inside : Row
half_entered_inside =
    runs (standing (Entering Unlock) (EraseSuspended (suspended (erase (only 8) 8 1 false false) (Runs (program (writing Main 200 0) 1 false)))) fresh_bits) blank
    (refuses 1 (read 0)) [] 0 0

-- in a suspended erase A0H may be half entered, and 48H may not
abbrev past_a0_suspended : Row
past_a0_suspended = runs (resting (Entering ProgramData)) blank (takes (write 3000 0 ∷ wait 6 ∷ [])) (holds 3000 0 ∷ []) 6 102000

abbrev past_48_suspended : Row
past_48_suspended = runs (resting (Entering DybData)) blank (refuses 1 (write 3000 0)) [] 0 0

-- ---- "Refusals and their order"

-- a refusal by 2 to 5 keeps a half-entered command
abbrev address_keeps_command : Row
address_keeps_command =
    runs fresh blank (takes (enters 0xA0) ++ refuses 3 (write 16384 0x1234) ++ takes (write 100 0x1234 ∷ wait 6 ∷ [])) (holds 100 0x1234 ∷ []) 6 102000

-- SEQUENCE is back to ground and no more: AAH out of turn begins nothing
abbrev sequence_begins_nothing : Row
sequence_begins_nothing = runs fresh blank (takes (write 0x555 0xAA ∷ []) ++ refuses 7 (write 0x555 0xAA) ++ refuses 7 (write 0x2AA 0x55)) [] 0 0

-- 30H out of turn does not resume
abbrev sequence_resumes_nothing : Row
sequence_resumes_nothing = runs (resting Ground) blank (takes (write 0x555 0xAA ∷ []) ++ refuses 7 (write 64 0x30) ++ gives 64 0xC4) [] 0 0

-- SEQUENCE ends identity and 58H reading
abbrev sequence_ends_reading : Row
sequence_ends_reading =
    runs fresh blank (takes (enters 0x90) ++ gives 0 0xEC ++ refuses 7 (write 0 0x30) ++ gives 0 0xFFFF ++ takes (enters 0x58) ++ gives 0 0 ++ refuses 7 (write 0 0xB0) ++ gives 0 0xFFFF)
    [] 0 0

-- F0H in the erase window is SEQUENCE, and drops the list
abbrev window_f0 : Row
window_f0 = runs fresh (but (holds 64 0 ∷ [])) (takes (erase_of 64) ++ refuses 7 (write 64 0xF0) ++ gives 64 0 ++ waits 700050) (holds 64 0 ∷ []) 700050 10500750

-- BUSY does not depend on the bank; ADDRESS comes before BUSY
abbrev busy_in_every_bank : Row
busy_in_every_bank = runs (standing Ground ending fresh_bits) blank (refuses 6 (write 16383 0xF0) ++ refuses 3 (write 16384 0xF0) ++ gives 100 0xC4) [] 0 0

-- CLOCK refuses the whole wait; a wait of 0 is taken even at the limit
abbrev clock_whole_wait : Row
clock_whole_wait = runs (metered 99999999999998 0) blank (refuses 4 (wait 3) ++ waits 2 ++ waits 0) [] 100000000000000 30

-- a record with an operation in a protected block is STATE; an unsound record refuses a cut, too
abbrev protected_program : Row
protected_program =
    runs (standing Ground ending (bits (only 8) empty_of false false)) blank (refuses 1 (cut (0 ∷ [])) ++ refuses 1 (wait 1) ++ refuses 1 (read 100) ++ refuses 1 (write 0 0xF0))
    (holds 100 0xFFFF ∷ []) 0 0

-- a refused read flips nothing
abbrev refused_read : Row
refused_read = runs (standing Ground (Window (erase (only 8) 8 50 false false)) fresh_bits) blank (refuses 3 (read 16384) ++ gives 64 0x44) [] 0 0

-- SUSPENDED costs the unlock writes, and leaves the suspension, its time and its toggles
abbrev suspended_stands : Row
suspended_stands =
    runs (resting Ground) blank
    (suspended_third 0x80 ++ refuses 7 (write 0x2AA 0x55) ++ suspended_third 0x48 ++ suspended_third 0x78 ++ suspended_third 0x60 ++ gives 64 0xC4 ++ takes (write 0 0x30 ∷ []) ++ gives 64 0x48 ++ takes (cut [] ∷ [])) [] 0 0

-- ---- the table

abbrev pub rulings : List Row
rulings =
    addresses64 ∷ command_addresses ∷ ppb_of_one_block ∷ one_protects ∷ lock_binds_ppbs ∷ cut_clears_dybs ∷ stray_bit ∷ stray_listed ∷ short_cells
    ∷ identity_bank_4 ∷ ppb_block_270 ∷ progress_at_clock_0 ∷ charge_at_bound ∷ charge_past_bound ∷ clock_past_limit ∷ chip_list_smaller ∷ finished_not_blank
    ∷ half_entered_inside ∷ past_a0_suspended ∷ past_48_suspended ∷ address_keeps_command ∷ sequence_begins_nothing ∷ sequence_resumes_nothing
    ∷ sequence_ends_reading ∷ window_f0 ∷ busy_in_every_bank ∷ clock_whole_wait ∷ protected_program ∷ refused_read ∷ suspended_stands
    ∷ command_rulings ++ raise_rulings ++ operation_rulings ++ recovery_rulings ++ one_time_rulings
