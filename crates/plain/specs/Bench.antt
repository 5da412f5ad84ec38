-- Document 01, "Bench table": its rows, on the small part, fresh unless said.
use Rattle.std.specs.Prelude.{ℕ, Bool, true, not, ◌&&◌, List, [], ◌∷◌, ◌++◌, ltb, eqb, set, replicate}
use Rattle.blocks.specs.Blocks.{empty_of, set_of}
use Rattle.plain.specs.declared.Device.{Device}
use Rattle.plain.specs.Events.{write, wait, cut}
use Rattle.plain.specs.Record.{fresh}
use Rattle.plain.specs.Rows.{Row, lookups, runs, takes, waits, gives, refuses, lies, past, holds, blank, but, unlock, enters, program_of, erase_of, chip_erase_of, dyb_of, dyb_gives, guarded}

-- a: addresses in blocks; 16384 is ADDRESS
abbrev row_a : Row
row_a =
    lookups
    (lies 7 0 ∷ lies 8 1 ∷ lies 63 7 ∷ lies 64 8 ∷ lies 2047 38 ∷ lies 2048 39 ∷ lies 8191 134 ∷ lies 8192 135 ∷ lies 16319 261 ∷ lies 16320 262
    ∷ lies 16383 269 ∷ past 16384 ∷ [])

-- b: "Program 1234H at 100 over FFFFH: after 5 µs the cell is FFFFH and two reads at 100 give C4H, 84H; a read at 3000 gives
-- its cell; 1 µs more, 1234H."
abbrev row_b5 : Row
row_b5 =
    runs fresh blank (takes (program_of 100 0x1234) ++ waits 5 ++ gives 100 0xC4 ++ gives 100 0x84 ++ gives 3000 0xFFFF)
    (holds 100 0xFFFF ∷ []) 5 85000

abbrev row_b : Row
row_b = runs fresh blank (takes (program_of 100 0x1234) ++ waits 5 ++ waits 1 ++ gives 100 0x1234) (holds 100 0x1234 ∷ []) 6 102000

-- c: document 02, request 6: "Row c of document 01 becomes a refusal; 0034H over 1234H takes its place and leaves 0034H."
abbrev row_c1 : Row
row_c1 = runs fresh (but (holds 100 0x1234 ∷ [])) (takes (enters 0xA0) ++ refuses 14 (write 100 0x00FF) ++ waits 6) (holds 100 0x1234 ∷ []) 6 90

abbrev row_c2 : Row
row_c2 = runs fresh (but (holds 100 0x1234 ∷ [])) (takes (program_of 100 0x0034) ++ waits 6) (holds 100 0x0034 ∷ []) 6 102000

-- d: "Row b cut after 5 µs: debris FF00H leaves FF34H, 0000H leaves 1234H, no debris is DEBRIS. Cut after 0 µs: none needed,
-- FFFFH stays."
abbrev row_d1 : Row
row_d1 = runs fresh blank (takes (program_of 100 0x1234 ++ (wait 5 ∷ cut (0xFF00 ∷ []) ∷ []))) (holds 100 0xFF34 ∷ []) 5 85000

abbrev row_d2 : Row
row_d2 = runs fresh blank (takes (program_of 100 0x1234 ++ (wait 5 ∷ cut (0x0000 ∷ []) ∷ []))) (holds 100 0x1234 ∷ []) 5 85000

abbrev row_d3 : Row
row_d3 = runs fresh blank (takes (program_of 100 0x1234) ++ waits 5 ++ refuses 5 (cut [])) (holds 100 0xFFFF ∷ []) 5 85000

abbrev row_d4 : Row
row_d4 = runs fresh blank (takes (program_of 100 0x1234 ++ (cut [] ∷ []))) (holds 100 0xFFFF ∷ []) 0 0

-- e: "Block erase at 64: one read at 64 in the window gives 44H; after 50 µs two more give 08H, 4CH."
abbrev row_e : Row
row_e = runs fresh blank (takes (erase_of 64) ++ gives 64 0x44 ++ waits 50 ++ gives 64 0x08 ++ gives 64 0x4C) [] 50 750

-- f: "Row e without reads, wait 700,050: charge 11,900,000,750 pC." Over words that are not erased, its block and no more is
abbrev row_f : Row
row_f =
    runs fresh (but (holds 63 0 ∷ holds 64 0 ∷ holds 127 0 ∷ holds 128 0 ∷ [])) (takes (erase_of 64) ++ waits 700050)
    (holds 63 0 ∷ holds 64 0xFFFF ∷ holds 127 0xFFFF ∷ holds 128 0 ∷ []) 700050 11900000750

-- g: "Wait 4,294,967,296: clock the same, charge 64,424,509,440."
abbrev row_g : Row
row_g = runs fresh blank (waits 4294967296) [] 4294967296 64424509440

-- h: "Wait 100,000,000,000,000 is DONE; then wait 0 DONE, wait 1 CLOCK."
abbrev row_h : Row
row_h = runs fresh blank (waits 100000000000000 ++ waits 0 ++ refuses 4 (wait 1)) [] 100000000000000 1500000000000000

-- i: "DYB sequence with F0H as fourth data clears the DYB; F0H as program data is data." The DYB is set first, and read
abbrev row_i : Row
row_i =
    runs fresh blank
    (takes (dyb_of 100 1) ++ dyb_gives 100 1 ++ takes (dyb_of 100 0xF0) ++ dyb_gives 100 0 ++ takes (program_of 100 0xF0) ++ waits 6)
    (holds 100 0x00F0 ∷ []) 6 102000

-- j: "Block 0 in hand, begun: 7 words of debris refused, 8 taken."
abbrev row_j : Row
row_j =
    runs fresh blank (takes (erase_of 0) ++ waits 51 ++ refuses 5 (cut (replicate 7 0xAAAA)) ++ takes (cut (replicate 8 0xAAAA) ∷ []))
    (holds 0 0xAAAA ∷ holds 7 0xAAAA ∷ holds 8 0xFFFF ∷ []) 51 17750

-- k: "Chip erase with one block unprotected ends after 500,000 µs; with none, PROTECTED." Block 8 alone has no DYB, or every block has one
abbrev protected_where : (ℕ → Bool) → Device
protected_where dyb = guarded (set_of (λ b. ltb b 270 && dyb b)) empty_of

abbrev row_k1 : Row
row_k1 =
    runs (protected_where (λ b. not (eqb b 8))) (but (holds 64 0 ∷ [])) (takes chip_erase_of ++ waits 499999 ++ gives 64 0x4C ++ waits 1 ++ gives 64 0xFFFF) []
    500000 8500000000

abbrev row_k2 : Row
row_k2 = runs (protected_where (λ b. true)) blank (takes (enters 0x80 ++ unlock) ++ refuses 9 (write 0x555 0x10)) [] 0 0

-- l: "30H for a protected block of another bank in the window: BANK."
abbrev row_l : Row
row_l = runs fresh blank (takes (dyb_of 2048 1 ++ erase_of 64) ++ refuses 8 (write 2048 0x30)) [] 0 0

abbrev pub bench : List Row
bench =
    row_a ∷ row_b5 ∷ row_b ∷ row_c1 ∷ row_c2 ∷ row_d1 ∷ row_d2 ∷ row_d3 ∷ row_d4 ∷ row_e ∷ row_f ∷ row_g ∷ row_h ∷ row_i ∷ row_j ∷ row_k1 ∷ row_k2 ∷ row_l ∷ []
