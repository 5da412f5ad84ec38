-- The table of rulings, "The one-time block" (document 02, request 4): what Enter, Exit, lock and range do, and what they do not.
use Rattle.std.specs.Prelude.{ℕ, true, false, List, [], ◌∷◌, ◌++◌, replicate}
use Rattle.blocks.specs.Blocks.{empty_of}
use Rattle.protection.specs.declared.Protection.{Protection}
use Rattle.protection.specs.Protection.{bits, fresh_bits}
use Rattle.plain.specs.declared.Inside.TheVariants.{Nothing}
use Rattle.plain.specs.declared.Operation.TheVariants.{InOneTime}
use Rattle.plain.specs.declared.Command.TheVariants.{Ground}
use Rattle.plain.specs.declared.Device.{Device}
use Rattle.plain.specs.Events.{Event, write, wait, cut}
use Rattle.plain.specs.Record.{fresh}
use Rattle.plain.specs.Rows.{Row, runs, hands, takes, waits, gives, refuses, holds, holds_otp, Cells, blank, but, enters, unlock, program_of, reset, resting, standing, suspended_third, only}

-- entered, with nothing under way and these bits
abbrev entered : Protection → Device
entered b = standing Ground InOneTime b

abbrev inside : Device
inside = entered fresh_bits

abbrev locked : Protection
locked = bits empty_of empty_of false true

-- the factory's first word, and the cell at its address
abbrev numbered : Cells
numbered = but (holds_otp 0 0x5E51 ∷ holds 0 0xC0DE ∷ [])

-- Enter and the lock, as Table 6 of 000 has them
abbrev enter : List Event
enter = enters 0x88

abbrev lock_at : (first second : ℕ) → List Event
lock_at a b = enters 0x60 ++ (write a 0x68 ∷ write b 0x48 ∷ [])

-- ---- Enter and what leaves the block

-- words 0 to 255 are the one-time words, from 256 on they are the cells; entered again, it stays
abbrev enters_the_block : Row
enters_the_block =
    runs fresh (but (holds_otp 255 0x1234 ∷ holds 255 0 ∷ holds 256 0x5678 ∷ [])) (gives 255 0 ++ takes (enter ++ enter) ++ gives 255 0x1234 ++ gives 256 0x5678) [] 0 0

-- Exit: 90H turns identity reading on as ever, and 00H, by its low 8 bits and at any address, leaves
abbrev exit_by_00 : Row
exit_by_00 = runs inside numbered (gives 0 0x5E51 ++ takes (enters 0x90) ++ gives 0 0x00EC ++ takes (write 9 0x1200 ∷ []) ++ gives 0 0xC0DE) [] 0 0

-- an F0H that is taken leaves, the one that ends a reading too
abbrev exit_by_f0 : Row
exit_by_f0 = runs inside numbered (takes (enters 0x58) ++ gives 0 0 ++ takes reset ++ gives 0 0xC0DE) [] 0 0

-- a refusal stays in the block: 00H out of turn, after 58H, an F0H past the last address
abbrev refusals_stay : Row
refusals_stay =
    runs inside numbered (refuses 7 (write 0 0) ++ takes (enters 0x58) ++ refuses 7 (write 0 0) ++ refuses 3 (write 16384 0xF0) ++ gives 0 0x5E51) [] 0 0

-- outside the block 90H and then 00H is SEQUENCE as ever
abbrev no_exit_outside : Row
no_exit_outside = runs fresh blank (takes (enters 0x90) ++ refuses 7 (write 0 0)) [] 0 0

-- F0H as program data is data, and stays
abbrev reset_is_data_there : Row
reset_is_data_there = runs inside numbered (takes (program_of 200 0xF0 ++ (wait 6 ∷ [])) ++ gives 200 0x00F0 ++ gives 0 0x5E51) (holds 200 0xFFFF ∷ []) 6 102000

-- 80H is SEQUENCE, and does not leave
abbrev no_erase_there : Row
no_erase_there = runs inside numbered (takes unlock ++ refuses 7 (write 0x555 0x80) ++ gives 0 0x5E51) [] 0 0

-- Enter in suspension is SUSPENDED
abbrev enter_suspended : Row
enter_suspended = runs (resting Ground) blank (suspended_third 0x88 ++ gives 64 0xC4 ++ gives 0 0xFFFF) [] 0 0

-- ---- programs

-- the factory's words are locked, before RAISE is asked
abbrev factory_word_refused : Row
factory_word_refused =
    runs fresh (but (holds_otp 127 0x1234 ∷ [])) (takes (enter ++ enters 0xA0) ++ refuses 13 (write 127 0xFFFF) ++ waits 6) (holds_otp 127 0x1234 ∷ []) 6 90

-- a customer's word is programmed, and its cell is not; its status shows in bank 1A alone
abbrev customer_word_programmed : Row
customer_word_programmed =
    runs inside blank (takes (program_of 128 0x1234) ++ gives 2047 0xC4 ++ gives 2048 0xFFFF ++ gives 128 0x84 ++ waits 6 ++ gives 128 0x1234)
    (holds_otp 128 0x1234 ∷ holds 128 0xFFFF ∷ []) 6 102000

-- RAISE goes by the one-time word, and not by the cell
abbrev raise_by_one_time_word : Row
raise_by_one_time_word =
    runs inside (but (holds_otp 200 0x1234 ∷ holds 201 0x1234 ∷ [])) (takes (enters 0xA0) ++ refuses 14 (write 200 0x00FF) ++ takes (program_of 201 0x00FF))
    (holds_otp 200 0x1234 ∷ []) 0 0

-- while it runs every write is BUSY, B0H and F0H too, and the block stays entered
abbrev busy_there : Row
busy_there =
    runs inside numbered (takes (program_of 200 0) ++ refuses 6 (write 0 0xB0) ++ refuses 6 (write 0 0xF0) ++ waits 6 ++ gives 0 0x5E51) (holds_otp 200 0 ∷ []) 6 102000

-- no DYB, PPB or PPB lock bit stops it: block 10 is words 192 to 255; from 256 on it is an ordinary program, and PROTECTED
abbrev protection_apart : Row
protection_apart =
    runs (entered (bits (only 10) (only 11) true false)) blank (takes (program_of 200 0 ++ (wait 6 ∷ [])) ++ takes (enters 0xA0) ++ refuses 9 (write 256 0) ++ takes (program_of 320 0 ++ (wait 6 ∷ [])))
    (holds_otp 200 0 ∷ holds 320 0 ∷ []) 12 204000

-- a cut in the middle: one word of debris, in the one-time word, and the block is left
abbrev cut_in_the_middle : Row
cut_in_the_middle =
    runs fresh blank (takes (enter ++ program_of 129 0x0F0F ++ (wait 5 ∷ [])) ++ refuses 5 (cut []) ++ takes (cut (0xFF00 ∷ []) ∷ []) ++ gives 129 0xFFFF)
    (holds_otp 129 0xFF0F ∷ holds 129 0xFFFF ∷ []) 5 85000

-- ---- the lock

-- one lock for all of the customer's words, at once and for ever
abbrev lock_refuses : Row
lock_refuses = runs inside blank (takes (lock_at 0x1A 0x1A ++ enters 0xA0) ++ refuses 13 (write 128 0) ++ takes (enters 0xA0) ++ refuses 13 (write 255 0)) [] 0 0

-- the lock's address goes by its low 8 bits; a second time is DONE; the PPB lock bit has no part in it
abbrev lock_by_low_bits : Row
lock_by_low_bits = runs (entered (bits empty_of empty_of true false)) blank (takes (lock_at 0x51A 0x361A ++ lock_at 0x1A 0x1A ++ enters 0xA0) ++ refuses 13 (write 128 0)) [] 0 0

-- 68H alone locks nothing
abbrev lock_half_entered : Row
lock_half_entered = runs inside blank (takes (enters 0x60 ++ (write 0x1A 0x68 ∷ [])) ++ refuses 7 (write 0x1B 0x48) ++ takes (program_of 128 0)) [] 0 0

-- its status: bit 0 of every read in every bank, and only F0H is taken after it
abbrev lock_status : Row
lock_status =
    runs inside blank
    (takes (enters 0x60 ++ (write 0x1A 0x48 ∷ [])) ++ gives 0 0 ++ gives 9000 0 ++ refuses 7 (write 0 0) ++ takes (lock_at 0x1A 0x1A ++ enters 0x60 ++ (write 0x1A 0x48 ∷ [])) ++ gives 0 1 ++ gives 9000 1
    ++ takes reset ++ gives 0 0xFFFF)
    [] 0 0

-- outside the block that address is a PPB's as ever: block 3 is words 24 to 31
abbrev lock_needs_enter : Row
lock_needs_enter = runs fresh blank (takes (lock_at 0x1A 0x1A ++ enters 0xA0) ++ refuses 9 (write 24 0) ++ takes (enter ++ program_of 128 0)) [] 0 0

-- in it the two writes are both the lock's or both a PPB's; 60H and 40H at its address are SEQUENCE
abbrev lock_not_mixed : Row
lock_not_mixed =
    runs inside blank
    (takes (enters 0x60 ++ (write 24 0x68 ∷ [])) ++ refuses 7 (write 0x1A 0x48) ++ takes (enters 0x60 ++ (write 0 0x60 ∷ [])) ++ refuses 7 (write 0x1A 0x40) ++ takes (enters 0x60) ++ refuses 7 (write 0x1A 0x60)
    ++ takes (lock_at 24 25 ++ program_of 128 0))
    [] 0 0

-- a cut leaves the lock as it is
abbrev lock_through_cut : Row
lock_through_cut = runs (entered locked) blank (takes ((cut [] ∷ []) ++ enter ++ enters 0xA0) ++ refuses 13 (write 128 0)) [] 0 0

-- ---- the range

abbrev range_of_both : Row
range_of_both = hands inside (but (holds_otp 128 0x1234 ∷ [])) (takes (program_of 129 0x5678 ++ (wait 6 ∷ []))) 127 3 0 (0xFFFF ∷ 0x1234 ∷ 0x5678 ∷ [])

abbrev range_of_all : Row
range_of_all = hands inside blank [] 0 256 0 (replicate 256 0xFFFF)

-- from 256 on it is the main array's
abbrev range_of_cells : Row
range_of_cells = hands inside (but (holds 256 0x1234 ∷ [])) [] 256 2 0 (0x1234 ∷ 0xFFFF ∷ [])

-- it does not go on from the one array into the other, nor past the last cell
abbrev range_past_the_end : Row
range_past_the_end = hands inside blank [] 255 2 3 []

abbrev range_past_the_cells : Row
range_past_the_cells = hands inside blank [] 16383 2 3 []

-- of no words it is DONE where an address is, and ADDRESS where none is
abbrev range_of_none : Row
range_of_none = hands inside blank [] 16383 0 0 []

abbrev range_of_none_outside : Row
range_of_none_outside = hands inside blank [] 16384 0 3 []

-- BUSY while the block is not entered, there by the main array; and while a program runs, after ADDRESS
abbrev range_not_entered : Row
range_not_entered = hands fresh blank [] 0 257 6 []

abbrev range_while_running : Row
range_while_running = hands inside blank (takes (program_of 200 0)) 0 2 6 []

abbrev range_past_while_running : Row
range_past_while_running = hands inside blank (takes (program_of 200 0)) 0 257 3 []

-- a half-entered command does not stop it, nor a reading
abbrev range_half_entered : Row
range_half_entered = hands inside numbered (takes (enters 0x90)) 0 1 0 (0x5E51 ∷ [])

abbrev pub one_time_rulings : List Row
one_time_rulings =
    enters_the_block ∷ exit_by_00 ∷ exit_by_f0 ∷ refusals_stay ∷ no_exit_outside ∷ reset_is_data_there ∷ no_erase_there ∷ enter_suspended ∷ factory_word_refused ∷ customer_word_programmed
    ∷ raise_by_one_time_word ∷ busy_there ∷ protection_apart ∷ cut_in_the_middle ∷ lock_refuses ∷ lock_by_low_bits ∷ lock_half_entered ∷ lock_status ∷ lock_needs_enter ∷ lock_not_mixed
    ∷ lock_through_cut ∷ range_of_both ∷ range_of_all ∷ range_of_cells ∷ range_past_the_end ∷ range_past_the_cells ∷ range_of_none ∷ range_of_none_outside ∷ range_not_entered ∷ range_while_running
    ∷ range_past_while_running ∷ range_half_entered ∷ []
