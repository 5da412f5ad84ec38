-- The record as words of 64 bits that a C program holds: what a record's words are, which words stand for a record, and for
-- which (include/k5l2931cam.h tells them word by word).
use Rattle.std.specs.Prelude.{ℕ, zero, suc, ◌+◌, ◌*◌, ◌-◌, ◌/◌, ◌%◌, Bool, true, ◌&&◌, ◌||◌, List, [], ◌∷◌, ◌++◌, eqb, ltb, length, get_or}
use Rattle.blocks.specs.declared.Blocks.{Blocks}
use Rattle.meter.specs.declared.Meter.{Meter}
use Rattle.protection.specs.declared.Protection.{Protection}
use Rattle.protection.specs.Protection.{bits}
use Rattle.plain.specs.declared.Program.{Program}
use Rattle.plain.specs.declared.Erase.{Erase}
use Rattle.plain.specs.declared.Suspension.{Suspension}
use Rattle.plain.specs.declared.Suspension.TheVariants.{Unsuspended, Entered}
use Rattle.plain.specs.declared.Device.{Device}
use Rattle.std.specs.Prelude.{if◌then◌else◌}
use Rattle.plain.specs.Operations.{selected}
use Rattle.plain.specs.Programs.{writing}
use Rattle.plain.specs.Record.{device, program, erase}
use Rattle.layout.specs.declared.CommandWords.{CommandWords}
use Rattle.layout.specs.declared.OperationParts.{OperationParts}
use Rattle.layout.specs.Places.{layout_number, record_words, layout_at, clock_at, charge_at, command_at, place_at, operation_at, list_at, hand_at, erase_left_at, toggles_at, address_at, data_at, program_left_at, toggle_at, dyb_at, ppb_at, lock_at, recovery_at, entered_at, sealed_at}
use Rattle.layout.specs.Commands.{beside, command_words, command_fits, command_of}
use Rattle.layout.specs.Operations.{parts_with, operation_parts, erases, programs, operation_of}

-- ---- what a record's words are

abbrev pub flag : Bool → ℕ
flag b = if b then 1 else 0

-- "DQ6 + 2 * DQ2"
abbrev pub toggles : (six two : Bool) → ℕ
toggles six two = flag six + 2 * flag two

-- block n is bit n % 64 of word n / 64 of five
abbrev pub blocks_section : Blocks → List ℕ
blocks_section s = s.w0 ∷ s.w1 ∷ s.w2 ∷ s.w3 ∷ s.w4 ∷ []

abbrev pub meter_section : Meter → List ℕ
meter_section m = m.clock ∷ m.charge ∷ []

abbrev pub command_section : CommandWords → List ℕ
command_section c = c.number ∷ c.place ∷ []

abbrev pub erase_section : Erase → List ℕ
erase_section e = blocks_section e.list ++ (e.hand ∷ e.left ∷ toggles e.dq6 e.dq2 ∷ [])

abbrev pub program_section : Program → List ℕ
program_section q = q.writes.at ∷ q.writes.word ∷ q.left ∷ flag q.dq6 ∷ []

abbrev pub operation_section : OperationParts → List ℕ
operation_section o = o.number ∷ (erase_section o.erase ++ program_section o.program)

abbrev pub bits_section : Protection → List ℕ
bits_section b = blocks_section b.dyb ++ (blocks_section b.ppb ++ (flag b.lock ∷ []))

-- what came with layouts 2 and 3
abbrev pub added_section : OperationParts → Protection → List ℕ
added_section o b = o.recovery ∷ flag o.entered ∷ flag b.sealed ∷ []

-- one after the other, behind the layout's number
abbrev pub sections : Meter → CommandWords → OperationParts → Protection → List ℕ
sections m c o b = layout_number ∷ (meter_section m ++ (command_section c ++ (operation_section o ++ (bits_section b ++ added_section o b))))

unfoldable pub image_of : Device → List ℕ
image_of r = sections r.meter (command_words r.command) (operation_parts r.operation) r.bits

-- ---- what stands at a place

-- a word; past the end, 0
abbrev pub word : List ℕ → ℕ → ℕ
word i n = get_or i n 0

unfoldable pub words_from : List ℕ → (from count : ℕ) → List ℕ
words_from i from zero = []
words_from i from (suc n) = word i from ∷ words_from i (suc from) n

-- those from a place on, up to another
abbrev pub section : List ℕ → (from end : ℕ) → List ℕ
section i from end = words_from i from (end - from)

unfoldable pub zeros : List ℕ → Bool
zeros [] = true
zeros (x ∷ xs) = eqb x 0 && zeros xs

abbrev pub unused : List ℕ → (from end : ℕ) → Bool
unused i from end = zeros (section i from end)

abbrev pub meter_of : List ℕ → Meter
meter_of i = record { clock = word i clock_at; charge = word i charge_at }

abbrev pub command_words_of : List ℕ → CommandWords
command_words_of i = beside (word i command_at) (word i place_at)

abbrev pub blocks_at : List ℕ → (from : ℕ) → Blocks
blocks_at i n = record { w0 = word i n; w1 = word i (n + 1); w2 = word i (n + 2); w3 = word i (n + 3); w4 = word i (n + 4) }

abbrev pub erase_of : List ℕ → Erase
erase_of i =
    erase (blocks_at i list_at) (word i hand_at) (word i erase_left_at) (eqb (word i toggles_at % 2) 1) (eqb (word i toggles_at / 2) 1)

-- is the one-time block entered?
abbrev pub entered_in : List ℕ → Bool
entered_in i = eqb (word i entered_at) 1

-- what a program's address selects by
abbrev pub mode : (entered : Bool) → Suspension
mode entered = if entered then Entered else Unsuspended

-- no word tells the array of a program: its address selects it
abbrev pub program_of : (entered : Bool) → List ℕ → Program
program_of entered i =
    program (writing (selected (mode entered) (word i address_at)) (word i address_at) (word i data_at % 65536)) (word i program_left_at) (eqb (word i toggle_at) 1)

abbrev pub parts_of : List ℕ → OperationParts
parts_of i = parts_with (word i operation_at) (erase_of i) (program_of (entered_in i) i) (word i recovery_at) (entered_in i)

-- with this lock of the customer's one-time words
abbrev pub bits_sealed : (sealed : Bool) → List ℕ → Protection
bits_sealed sealed i = bits (blocks_at i dyb_at) (blocks_at i ppb_at) (eqb (word i lock_at) 1) sealed

abbrev pub bits_of : List ℕ → Protection
bits_of i = bits_sealed (eqb (word i sealed_at) 1) i

-- ---- which words stand for a record

-- as many words as the layout has, with its number
abbrev pub of_layout : (number words : ℕ) → List ℕ → Bool
of_layout n count i = eqb (length i) count && eqb (word i layout_at) n

-- and one bit for each lock
unfoldable pub marked : List ℕ → Bool
marked i = of_layout layout_number record_words i && (ltb (word i lock_at) 2 && ltb (word i sealed_at) 2)

unfoldable pub erase_fits : List ℕ → Bool
erase_fits i = if erases (word i operation_at) then ltb (word i toggles_at) 4 else unused i list_at address_at

unfoldable pub program_fits : List ℕ → Bool
program_fits i =
    if programs (word i operation_at) then ltb (word i data_at) 65536 && ltb (word i toggle_at) 2
    else unused i address_at dyb_at

unfoldable pub operation_fits : List ℕ → Bool
operation_fits i = ltb (word i operation_at) 8 && (erase_fits i && program_fits i)

-- only a block erase past its window recovers
unfoldable pub recovery_fits : List ℕ → Bool
recovery_fits i = eqb (word i operation_at) 4 || eqb (word i recovery_at) 0

-- the one-time block is entered with nothing or a program, and nothing else
unfoldable pub entered_fits : List ℕ → Bool
entered_fits i = if ltb (word i operation_at) 2 then ltb (word i entered_at) 2 else eqb (word i entered_at) 0

unfoldable pub well_formed : List ℕ → Bool
well_formed i = marked i && (command_fits (command_words_of i) && (operation_fits i && (recovery_fits i && entered_fits i)))

-- do they stand for an idle device: at ground, with nothing that runs, is suspended or is entered?
unfoldable pub idle_words : List ℕ → Bool
idle_words i = marked i && (unused i command_at dyb_at && unused i recovery_at sealed_at)

-- ---- the record that well-formed words stand for

unfoldable pub device_of : List ℕ → Device
device_of i = device (meter_of i) (command_of (command_words_of i)) (operation_of (parts_of i)) (bits_of i)
