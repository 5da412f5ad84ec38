-- The table of rulings, "Suspend is too quick" (document 02, request 1): what the 20 µs after B0H are, and what they are not.
use Rattle.std.specs.Prelude.{ℕ, false, List, [], ◌∷◌, ◌++◌, replicate}
use Rattle.blocks.specs.Blocks.{with_of}
use Rattle.protection.specs.Protection.{fresh_bits}
use Rattle.plain.specs.declared.Operation.TheVariants.{Erasing}
use Rattle.plain.specs.declared.Command.TheVariants.{Ground}
use Rattle.plain.specs.declared.Device.{Device}
use Rattle.plain.specs.Events.{Event, write, wait, cut}
use Rattle.plain.specs.Record.{erase, fresh}
use Rattle.plain.specs.Rows.{Row, runs, takes, waits, gives, refuses, holds, blank, but, program_of, erase_of, standing, only}

-- an erase of blocks 8 and 9 (words 64 to 127, 128 to 191) that runs: block 8 is in hand, with its time left
abbrev running : (left : ℕ) → Device
running left = standing Ground (Erasing (erase (with_of (only 8) 9) 8 left false false)) fresh_bits

abbrev b0 : List Event
b0 = write 0 0xB0 ∷ []

-- for 20 µs the bank gives the erase status: DQ6 flips, DQ3 is 1, DQ2 flips in listed blocks; then they read C0H plus DQ2
abbrev twenty_microseconds : Row
twenty_microseconds =
    runs (running 1000) blank (takes b0 ++ gives 64 0x4C ++ gives 128 0x08 ++ gives 0 0x48 ++ waits 19 ++ gives 64 0x0C ++ waits 1 ++ gives 64 0xC0 ++ gives 0 0xFFFF) [] 20
    340000

-- 17,000 pC in each of them, 15 after them; the wait may end in them or go past them: 1,000 µs of erasing, 20 of recovery
abbrev running_current_drawn : Row
running_current_drawn = runs fresh blank (takes (erase_of 64 ++ (wait 1050 ∷ []) ++ b0 ++ (wait 20 ∷ []))) [] 1070 17340750

abbrev wait_goes_past : Row
wait_goes_past = runs (running 1) (but (holds 64 0 ∷ [])) (takes (b0 ++ (wait 5 ∷ wait 1000000 ∷ [])) ++ gives 64 0xC4) (holds 64 0 ∷ []) 1000005 15339775

-- a block with 1 µs left is not finished in them, nor in suspension; resumed, it takes that 1 µs
abbrev no_progress : Row
no_progress =
    runs (running 1) (but (holds 64 0 ∷ [])) (takes (b0 ++ (wait 100 ∷ write 0 0x30 ∷ [])) ++ gives 64 0x4C ++ waits 1 ++ refuses 6 (write 0 0xF0)) (holds 64 0xFFFF ∷ []) 101
    358200

-- every write is BUSY and changes nothing, F0H, 30H and a second B0H too, in every bank; ADDRESS comes first
abbrev every_write_busy : Row
every_write_busy =
    runs (running 1) blank
    (takes b0 ++ waits 10 ++ refuses 6 (write 0 0xB0) ++ refuses 6 (write 64 0x30) ++ refuses 6 (write 9000 0xF0) ++ refuses 6 (write 0x555 0xAA) ++ refuses 3 (write 16384 0xB0)
    ++ waits 10 ++ gives 64 0xC4)
    [] 20 340000

-- other banks read their cells at once, and flip nothing
abbrev other_banks : Row
other_banks = runs (running 1) (but (holds 2048 0x1234 ∷ [])) (takes b0 ++ gives 2048 0x1234 ++ gives 16383 0xFFFF ++ gives 64 0x4C) [] 0 0

-- DQ6 and DQ2 stay as they are through recovery and suspension
abbrev toggles_stay : Row
toggles_stay = runs (running 1) blank (gives 64 0x4C ++ takes (b0 ++ (wait 20 ∷ write 0 0x30 ∷ [])) ++ gives 0 0x0C ++ takes b0 ++ gives 0 0x4C) [] 20 340000

-- a program inside the erase has to wait for the end of it
abbrev program_after : Row
program_after =
    runs (running 1) blank (takes b0 ++ refuses 6 (write 0x555 0xAA) ++ waits 20 ++ takes (program_of 200 0x1234 ++ (wait 6 ∷ []))) (holds 200 0x1234 ∷ []) 26 442000

-- in the window B0H suspends at once, at the standby current: 49 µs of it are over
abbrev window_at_once : Row
window_at_once = runs fresh blank (takes (erase_of 64 ++ (wait 49 ∷ []) ++ b0) ++ gives 64 0xC4 ++ waits 10 ++ takes (write 0 0x30 ∷ [])) [] 59 885

-- resumed, it is past its window: B0H takes its 20 µs then, with full time left, and a cut asks for no debris
abbrev past_window : Row
past_window =
    runs fresh blank (takes (erase_of 64 ++ b0 ++ (write 0 0x30 ∷ []) ++ b0) ++ refuses 6 (write 0 0x30) ++ waits 19 ++ gives 64 0x4C ++ waits 1 ++ gives 64 0xC0 ++ takes (cut [] ∷ [])) [] 20
    340000

-- so as the window has just ended; after 1 µs of progress the cut asks for the block's words
abbrev cut_unbegun : Row
cut_unbegun = runs (running 700000) (but (holds 64 0 ∷ [])) (takes (b0 ++ (wait 5 ∷ cut [] ∷ []))) (holds 64 0 ∷ []) 5 85000

abbrev cut_begun : Row
cut_begun =
    runs (running 700000) blank (waits 1 ++ takes b0 ++ waits 5 ++ refuses 5 (cut (replicate 63 0)) ++ takes (cut (replicate 64 0) ∷ []) ++ gives 64 0)
    (holds 63 0xFFFF ∷ holds 64 0 ∷ holds 127 0 ∷ holds 128 0xFFFF ∷ []) 6 102000

-- and as the next block has just come in hand
abbrev between_blocks : Row
between_blocks = runs (running 1) (but (holds 64 0 ∷ holds 128 0 ∷ [])) (waits 1 ++ takes (b0 ++ (wait 5 ∷ cut [] ∷ []))) (holds 64 0xFFFF ∷ holds 128 0 ∷ []) 6 102000

abbrev pub recovery_rulings : List Row
recovery_rulings =
    twenty_microseconds ∷ running_current_drawn ∷ wait_goes_past ∷ no_progress ∷ every_write_busy ∷ other_banks ∷ toggles_stay ∷ program_after ∷ window_at_once
    ∷ past_window ∷ cut_unbegun ∷ cut_begun ∷ between_blocks ∷ []
