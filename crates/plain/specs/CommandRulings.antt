-- The table of rulings, "Command cycles".
use Rattle.std.specs.Prelude.{true, false, List, [], ◌∷◌, ◌++◌, ltb, set}
use Rattle.blocks.specs.Blocks.{set_of, empty_of}
use Rattle.protection.specs.Protection.{bits}
use Rattle.plain.specs.declared.Operation.TheVariants.{Idle}
use Rattle.plain.specs.declared.Command.TheVariants.{Ground}
use Rattle.plain.specs.Events.{write, wait}
use Rattle.plain.specs.Record.{fresh}
use Rattle.plain.specs.Rows.{Row, runs, takes, waits, gives, refuses, holds, blank, but, unlock, enters, program_of, erase_of, dyb_of, dyb_gives, reset, standing, guarded, only, resting}

-- F0H is taken at ground and after each half-entered cycle, at any address, with any upper data byte: also in the 60H sequences
abbrev f0_resets : Row
f0_resets =
    runs fresh blank
    (takes (reset ++ (write 0x555 0xAA ∷ []) ++ reset ++ unlock ++ reset ++ enters 0x80 ++ reset ++ enters 0x80 ++ (write 0x555 0xAA ∷ []) ++ reset ++ enters 0x80 ++ unlock ++ reset)
    ++ takes (enters 0x60 ++ reset ++ enters 0x60 ++ (write 0 0x68 ∷ []) ++ reset ++ enters 0x60 ++ (write 0 0x60 ∷ []) ++ reset ++ enters 0x90 ++ reset ++ enters 0x58 ++ reset)
    ++ gives 0 0xFFFF)
    [] 0 0

-- B0H and 30H in a data cycle are data
abbrev b0_is_data : Row
b0_is_data =
    runs (guarded (only 8) empty_of) blank (takes (dyb_of 100 0xB0) ++ dyb_gives 100 0 ++ takes (dyb_of 100 0x31) ++ dyb_gives 100 1 ++ takes (program_of 200 0x30 ++ (wait 6 ∷ [])))
    (holds 200 0x0030 ∷ []) 6 102000

-- command data has eight bits, DYB data four
abbrev data_widths : Row
data_widths =
    runs fresh blank (takes (write 0x555 0x12AA ∷ write 0x2AA 0xFF55 ∷ write 0x555 0x8048 ∷ write 100 0xFFF1 ∷ []) ++ dyb_gives 100 1 ++ takes (enters 0x48) ++ refuses 7 (write 100 2)) [] 0 0

-- 30H without suspension and B0H with nothing running are SEQUENCE, in suspension too
abbrev nothing_to_resume : Row
nothing_to_resume = runs fresh blank (refuses 7 (write 64 0x30) ++ refuses 7 (write 64 0xB0)) [] 0 0

abbrev nothing_to_suspend : Row
nothing_to_suspend = runs (resting Ground) blank (refuses 7 (write 64 0xB0) ++ gives 64 0xC4) [] 0 0

-- 30H resumes from ground only; F0H, 90H and 58H are usable
abbrev resumes_from_ground : Row
resumes_from_ground =
    runs (resting Ground) blank
    (takes (enters 0x58) ++ refuses 7 (write 64 0x30) ++ gives 64 0xC4 ++ takes (enters 0x90 ++ reset ++ (write 64 0x30 ∷ [])) ++ gives 64 0x48) [] 0 0

-- a sixth write 30H at 555H erases the block that holds 555H (block 28, words 1344 to 1407); 10H elsewhere is SEQUENCE
abbrev sixth_30_at_555 : Row
sixth_30_at_555 =
    runs fresh (but (holds 1344 0 ∷ holds 1365 0 ∷ holds 1408 0 ∷ [])) (takes (erase_of 0x555) ++ waits 700050) (holds 1344 0xFFFF ∷ holds 1365 0xFFFF ∷ holds 1408 0 ∷ []) 700050
    11900000750

abbrev sixth_10_elsewhere : Row
sixth_10_elsewhere = runs fresh blank (takes (enters 0x80 ++ unlock) ++ refuses 7 (write 64 0x10)) [] 0 0

-- third writes that the base does not know, or not at 555H, are SEQUENCE; 90H then 00H too
abbrev unknown_third : Row
unknown_third =
    runs fresh blank (takes unlock ++ refuses 7 (write 0x555 0x20) ++ takes unlock ++ refuses 7 (write 0x554 0xA0) ++ takes (enters 0x90) ++ refuses 7 (write 0x555 0x00)) [] 0 0

-- a wait leaves a half-entered command and the readings as they are
abbrev wait_keeps_command : Row
wait_keeps_command =
    runs fresh blank (takes (write 0x555 0xAA ∷ wait 10 ∷ write 0x2AA 0x55 ∷ wait 10 ∷ write 0x555 0x58 ∷ wait 10 ∷ []) ++ gives 0 0) [] 30 450

-- 78H with the lock set is DONE; LOCKED is given by every completed PPB sequence, also where no bit would change; 60H is DONE
abbrev locked_sequences : Row
locked_sequences =
    runs (standing Ground Idle (bits empty_of empty_of true false)) blank (takes (enters 0x78 ++ enters 0x60 ++ (write 0 0x60 ∷ [])) ++ refuses 11 (write 0 0x40)) [] 0 0

-- 68H names the block, and 48H must lie in it
abbrev ppb_other_block : Row
ppb_other_block =
    runs fresh blank (takes (enters 0x60 ++ (write 256 0x68 ∷ [])) ++ refuses 7 (write 320 0x48) ++ takes (enters 0x60 ++ (write 256 0x68 ∷ write 319 0x48 ∷ []) ++ enters 0x90) ++ gives 258 1)
    [] 0 0

-- 60H and 40H may lie anywhere
abbrev ppbs_cleared_anywhere : Row
ppbs_cleared_anywhere =
    runs (guarded empty_of (only 11)) blank (takes (enters 0x60 ++ (write 9000 0x60 ∷ write 3000 0x40 ∷ []) ++ enters 0x90) ++ gives 258 0) [] 0 0

-- 60H then 48H, 68H then 40H: SEQUENCE
abbrev ppb_pairs : Row
ppb_pairs = runs fresh blank (takes (enters 0x60) ++ refuses 7 (write 64 0x48) ++ takes (enters 0x60 ++ (write 64 0x68 ∷ [])) ++ refuses 7 (write 64 0x40)) [] 0 0

-- 48H's block is that of its data write
abbrev dyb_of_data_write : Row
dyb_of_data_write = runs fresh blank (takes (dyb_of 100 1) ++ dyb_gives 100 1 ++ dyb_gives 0x555 0) [] 0 0

-- identity reading is bound to the bank of its third address; the offsets are the low 8 address bits
abbrev identity_of_one_bank : Row
identity_of_one_bank =
    runs fresh blank
    (takes (enters 0x90) ++ gives 256 0xEC ++ gives 2048 0xFFFF ++ takes (reset ++ unlock ++ (write 0xD55 0x90 ∷ [])) ++ gives 2048 0xEC ++ gives 256 0xFFFF) [] 0 0

-- 58H reading is bound to no bank
abbrev dybs_of_every_bank : Row
dybs_of_every_bank = runs fresh blank (takes (enters 0x58) ++ gives 0 0 ++ gives 2048 0 ++ gives 8192 0 ++ gives 16383 0) [] 0 0

-- 02H is the PPB alone (block 11 has its DYB set, block 15 its PPB)
abbrev ppb_alone : Row
ppb_alone = runs (guarded (only 11) (only 15)) blank (takes (enters 0x90) ++ gives 258 0 ++ gives 514 1) [] 0 0

-- bit 0 of a 58H read is the DYB alone, bit 1 the lock
abbrev dyb_alone : Row
dyb_alone = runs (standing Ground Idle (bits (only 11) (only 15) true false)) blank (takes (enters 0x58) ++ gives 258 3 ++ gives 514 2) [] 0 0

-- with every PPB set: on the small part 02H shows those of blocks 0, 11, 15 and every fourth to 259, and no other block has such a word
abbrev ppbs_shown : Row
ppbs_shown =
    runs (guarded empty_of (set_of (λ b. ltb b 270))) blank
    (takes (enters 0x90) ++ gives 2 1 ++ gives 10 0 ++ gives 66 0 ++ gives 258 1 ++ gives 514 1 ++ takes (reset ++ unlock ++ (write 0x3D55 0x90 ∷ [])) ++ gives 16130 1 ++ gives 16194 0) [] 0 0

-- the readings come before suspension and flip nothing, on a listed block too
abbrev readings_first : Row
readings_first = runs (resting Ground) blank (dyb_gives 64 0 ++ takes (enters 0x90) ++ gives 64 0 ++ takes reset ++ gives 64 0xC4) [] 0 0

abbrev pub command_rulings : List Row
command_rulings =
    f0_resets ∷ b0_is_data ∷ data_widths ∷ nothing_to_resume ∷ nothing_to_suspend ∷ resumes_from_ground ∷ sixth_30_at_555 ∷ sixth_10_elsewhere ∷ unknown_third
    ∷ wait_keeps_command ∷ locked_sequences ∷ ppb_other_block ∷ ppbs_cleared_anywhere ∷ ppb_pairs ∷ dyb_of_data_write ∷ identity_of_one_bank ∷ dybs_of_every_bank
    ∷ ppb_alone ∷ dyb_alone ∷ ppbs_shown ∷ readings_first ∷ []
