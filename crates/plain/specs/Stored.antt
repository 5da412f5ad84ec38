-- Records that were stored with a suspended program (document 02, request 9): "they can be read, identified, resumed with 30H or cut, by
-- the old rules". Rows of the small part.
use Rattle.std.specs.Prelude.{false, List, [], ◌∷◌, ◌++◌}
use Rattle.protection.specs.Protection.{fresh_bits}
use Rattle.plain.specs.declared.Array.TheVariants.{Main}
use Rattle.plain.specs.declared.Operation.TheVariants.{ProgramSuspended}
use Rattle.plain.specs.declared.Command.TheVariants.{Ground}
use Rattle.plain.specs.declared.Device.{Device}
use Rattle.plain.specs.Events.{write, cut}
use Rattle.plain.specs.Programs.{writing}
use Rattle.plain.specs.Record.{device, program}
use Rattle.plain.specs.Rows.{Row, runs, takes, waits, gives, refuses, holds, blank, enters, dyb_gives, suspended_third}

-- 1234H at 100 (block 8, words 64 to 127) ran for 2 µs and was suspended for 8, or was suspended at once and for 10
abbrev rests_begun : Device
rests_begun = device (record { clock = 10; charge = 34120 }) Ground (ProgramSuspended (program (writing Main 100 0x1234) 4 false)) fresh_bits

abbrev rests_unbegun : Device
rests_unbegun = device (record { clock = 10; charge = 150 }) Ground (ProgramSuspended (program (writing Main 100 0x1234) 6 false)) fresh_bits

-- every word of the block shows DQ7 (the complement of data bit 7), DQ6 and DQ2, and none flips; time passes it by
abbrev reads : Row
reads =
    runs rests_begun blank
    (gives 100 0xC4 ++ gives 64 0xC4 ++ gives 127 0xC4 ++ waits 1000 ++ gives 100 0xC4 ++ gives 63 0xFFFF ++ gives 128 0xFFFF ++ gives 3000 0xFFFF)
    (holds 100 0xFFFF ∷ []) 1010 49120

-- 90H, 58H and F0H as ever
abbrev identifies : Row
identifies =
    runs rests_begun blank
    (takes (enters 0x90) ++ gives 0 0xEC ++ gives 2 0 ++ gives 100 0 ++ gives 2048 0xFFFF ++ takes (write 0 0xF0 ∷ []) ++ dyb_gives 100 0 ++ gives 100 0xC4)
    (holds 100 0xFFFF ∷ []) 10 34120

-- 30H resumes; B0H does not suspend it again, and finds nothing running at its end
abbrev goes_on : Row
goes_on =
    runs rests_begun blank
    (takes (write 0 0x30 ∷ []) ++ gives 100 0xC4 ++ gives 100 0x84 ++ waits 3 ++ refuses 6 (write 0 0xB0) ++ gives 100 0xC4 ++ waits 1 ++ gives 100 0x1234
    ++ refuses 7 (write 0 0xB0))
    (holds 100 0x1234 ∷ []) 14 102120

-- cut: one debris word if it had begun, and none if not
abbrev cut_begun : Row
cut_begun =
    runs rests_begun blank (refuses 5 (cut []) ++ takes (cut (0xFF00 ∷ []) ∷ []) ++ gives 100 0xFF34) (holds 100 0xFF34 ∷ []) 10 34120

abbrev cut_unbegun : Row
cut_unbegun = runs rests_unbegun blank (takes (cut [] ∷ []) ++ gives 100 0xFFFF) (holds 100 0xFFFF ∷ []) 10 150

-- A0H, 80H, 48H, 78H and 60H are SUSPENDED, B0H SEQUENCE, and it stays suspended
abbrev turns_down : Row
turns_down =
    runs rests_begun blank
    (suspended_third 0xA0 ++ suspended_third 0x80 ++ suspended_third 0x48 ++ suspended_third 0x78 ++ suspended_third 0x60 ++ refuses 7 (write 0 0xB0) ++ gives 100 0xC4)
    (holds 100 0xFFFF ∷ []) 10 34120

abbrev pub storeds : List Row
storeds = reads ∷ identifies ∷ goes_on ∷ cut_begun ∷ cut_unbegun ∷ turns_down ∷ []
