-- Loss of power or RESET# low (document 01, "The cut").
use Rattle.std.specs.Prelude.{Option, None, Some}
use Rattle.std.specs.Prelude.{ℕ, ◌+◌, Bool, List, ltb, drop}
use Rattle.cells.specs.Cells.{littered}
use Rattle.geometry.specs.declared.Part.{Part}
use Rattle.geometry.specs.Parts.{first_of, size_of}
use Rattle.protection.specs.Protection.{after_cut}
use Rattle.plain.specs.declared.Program.{Program}
use Rattle.plain.specs.declared.Inside.{Inside}
use Rattle.plain.specs.declared.Inside.TheVariants.{Nothing, Runs}
use Rattle.plain.specs.declared.Operation.{Operation}
use Rattle.plain.specs.declared.Operation.TheVariants.{Idle, Programming, ProgramSuspended, Window, Erasing, Recovering, EraseSuspended, ChipErasing, InOneTime, OneTimeProgramming}
use Rattle.plain.specs.declared.Command.TheVariants.{Ground}
use Rattle.plain.specs.declared.Device.{Device}
use Rattle.plain.specs.declared.Array.{Array}
use Rattle.plain.specs.declared.Array.TheVariants.{Main}
use Rattle.plain.specs.declared.Spot.{Spot}
use Rattle.std.specs.Prelude.{if◌then◌else◌}
use Rattle.plain.specs.Figures.{program_time, erase_time, chip_time}
use Rattle.plain.specs.Lent.{Lent, with_array}
use Rattle.plain.specs.Programs.{first_word, array_written, debris_words, cut_off}
use Rattle.plain.specs.Record.{device}
use Rattle.plain.specs.declared.Written.{Written}

-- "An operation has begun when its time left is below its full time; a window has not begun."; document 02, request 1: "a cut in
-- the recovery follows the old debris rule", which goes by the block's time left
abbrev pub begun : (left full : ℕ) → Bool
begun left full = ltb left full

-- ---- which block's erase has begun, and what the program writes that has

abbrev pub if_begun : (left full block : ℕ) → Option ℕ
if_begun left full b = if begun left full then Some b else None

unfoldable pub begun_block : Part → Operation → Option ℕ
begun_block p Idle = None
begun_block p (Programming q) = None
begun_block p (ProgramSuspended q) = None
begun_block p (Window e) = None
begun_block p (Erasing e) = if_begun e.left (erase_time p) e.hand
begun_block p (Recovering r) = if_begun r.erase.left (erase_time p) r.erase.hand
begun_block p (EraseSuspended s) = if_begun s.erase.left (erase_time p) s.erase.hand
begun_block p (ChipErasing e) = if_begun e.left (chip_time p) e.hand
begun_block p InOneTime = None
begun_block p (OneTimeProgramming q) = None

abbrev pub program_begun : Part → Program → Option Written
program_begun p q = if begun q.left (program_time p) then Some q.writes else None

unfoldable pub begun_inside : Part → Inside → Option Written
begun_inside p Nothing = None
begun_inside p (Runs q) = program_begun p q

unfoldable pub begun_program : Part → Operation → Option Written
begun_program p Idle = None
begun_program p (Programming q) = program_begun p q
begun_program p (ProgramSuspended q) = program_begun p q
begun_program p (Window e) = None
begun_program p (Erasing e) = None
begun_program p (Recovering r) = None
begun_program p (EraseSuspended s) = begun_inside p s.inside
begun_program p (ChipErasing e) = None
begun_program p InOneTime = None
begun_program p (OneTimeProgramming q) = program_begun p q

-- the word that such a program is named by, and its array
abbrev pub spot : Array → (at : ℕ) → Spot
spot y x = record { array = y; at = x }

unfoldable pub word_of : Option Written → Option Spot
word_of None = None
word_of (Some d) = Some (spot (array_written d) (first_word d))

-- ---- "A begun erase needs as many debris words as the block in hand has; a begun program needs one, after those."

unfoldable pub block_debris : Part → Option ℕ → ℕ
block_debris p None = 0
block_debris p (Some b) = size_of p b

unfoldable pub program_debris : Option Written → ℕ
program_debris None = 0
program_debris (Some d) = debris_words d

unfoldable pub debris_needed : Part → Operation → ℕ
debris_needed p o = block_debris p (begun_block p o) + program_debris (begun_program p o)

-- ---- "The block takes the debris as its words. The program's word becomes old AND (data OR debris). Extra debris is ignored."

unfoldable pub block_cut : Part → Option ℕ → (debris : List ℕ) → Lent → Lent
block_cut p None debris l = l
block_cut p (Some b) debris l = with_array Main l (littered l.cells (first_of p b) (size_of p b) debris)

unfoldable pub program_cut : Option Written → (debris : List ℕ) → Lent → Lent
program_cut None debris l = l
program_cut (Some d) debris l = cut_off d debris l

unfoldable pub cut_lent : Part → Operation → (debris : List ℕ) → Lent → Lent
cut_lent p o debris l =
    program_cut (begun_program p o) (drop (block_debris p (begun_block p o)) debris) (block_cut p (begun_block p o) debris l)

-- "Then no operation, command or suspension remains, all DYBs and the PPB lock bit are 0, PPBs, clock and charge stand."; document 02,
-- request 4: "A cut or reset exits and leaves the locks as they are."
abbrev pub cut_device : Device → Device
cut_device r = device r.meter Ground Idle (after_cut r.bits)
