-- The table of rulings, "Programs that cannot work" (document 02, request 6): what RAISE comes after, and what it leaves.
use Rattle.std.specs.Prelude.{ℕ, false, List, [], ◌∷◌, ◌++◌}
use Rattle.blocks.specs.Blocks.{empty_of}
use Rattle.protection.specs.Protection.{fresh_bits}
use Rattle.plain.specs.declared.Array.TheVariants.{Main}
use Rattle.plain.specs.declared.Operation.TheVariants.{Programming}
use Rattle.plain.specs.declared.Command.TheVariants.{Ground}
use Rattle.plain.specs.Events.{write, cut}
use Rattle.plain.specs.Programs.{writing}
use Rattle.plain.specs.Record.{program, fresh}
use Rattle.plain.specs.Rows.{Row, Step, runs, takes, waits, gives, refuses, holds, but, enters, program_of, erase_of, standing, guarded, only, resting}

-- both unlock writes, A0H, and a data write that is refused
abbrev turned_down : (number address word : ℕ) → List Step
turned_down n a w = takes (enters 0xA0) ++ refuses n (write a w)

-- PROTECTED comes first: block 8 (words 64 to 127) has its DYB set
abbrev protected_first : Row
protected_first = runs (guarded (only 8) empty_of) (but (holds 100 0 ∷ [])) (turned_down 9 100 0x1234) (holds 100 0 ∷ []) 0 0

-- and SUSPENDED: block 8 is on the list of a suspended erase
abbrev suspended_first : Row
suspended_first = runs (resting Ground) (but (holds 100 0 ∷ [])) (turned_down 10 100 0x1234) (holds 100 0 ∷ []) 0 0

-- the register is at ground and the suspension stands: C0H plus DQ2, 15 pC a microsecond, and 30H resumes
abbrev suspension_stands : Row
suspension_stands =
    runs (resting Ground) (but (holds 200 0 ∷ [])) (turned_down 14 200 0x1234 ++ gives 64 0xC4 ++ waits 10 ++ takes (write 0 0x30 ∷ []) ++ gives 64 0x48)
    (holds 200 0 ∷ []) 10 150

-- one bit is enough, the lowest or the highest; bits that stay 0 or go to 0 ask for nothing
abbrev every_bit : Row
every_bit =
    runs fresh (but (holds 100 0x7FFF ∷ holds 101 0xFFFE ∷ [])) (turned_down 14 100 0x8000 ++ turned_down 14 101 0x0001 ++ takes (program_of 100 0x0001) ++ waits 6)
    (holds 100 0x0001 ∷ holds 101 0xFFFE ∷ []) 6 102000

-- the cell's own word is no raise: it takes its 6 µs at the running current, and begins after 1
abbrev same_word : Row
same_word =
    runs fresh (but (holds 100 0x1234 ∷ [])) (takes (program_of 100 0x1234) ++ waits 1 ++ refuses 5 (cut []) ++ waits 5) (holds 100 0x1234 ∷ []) 6 102000

-- an erase first, and then it works
abbrev erase_first : Row
erase_first =
    runs fresh (but (holds 100 0 ∷ [])) (turned_down 14 100 0x1234 ++ takes (erase_of 100) ++ waits 700050 ++ takes (program_of 100 0x1234) ++ waits 6)
    (holds 100 0x1234 ∷ []) 700056 11900102750

-- it is judged at the data write alone: a stored program that runs over such a word ends as old AND data
abbrev judged_once : Row
judged_once =
    runs (standing Ground (Programming (program (writing Main 100 0x00FF) 6 false)) fresh_bits) (but (holds 100 0x1234 ∷ [])) (waits 6) (holds 100 0x0034 ∷ []) 6 102000

abbrev pub raise_rulings : List Row
raise_rulings = protected_first ∷ suspended_first ∷ suspension_stands ∷ every_bit ∷ same_word ∷ erase_first ∷ judged_once ∷ []
