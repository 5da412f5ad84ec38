-- Worked figures of what is foreseen, to be held against the definitions: what C is told at several moments of some runs.
use Rattle.std.specs.Prelude.{ℕ, ◌≡◌, List, [], ◌∷◌, ◌++◌, map, replicate}
use Rattle.geometry.specs.declared.Part.TheVariants.{Small}
use Rattle.plain.specs.declared.Device.{Device}
use Rattle.plain.specs.Events.{Event, write, wait}
use Rattle.plain.specs.Lent.{Lent, lent, otp_words}
use Rattle.plain.specs.Machine.{run}
use Rattle.plain.specs.Rows.{metered, enters, program_of, erase_of, chip_erase_of}
use Rattle.judged.specs.Foreseen.{end_now, change_now, debris_now}
use Rattle.face.specs.Face.{none}
use Rattle.outlook.specs.Foreseen.{figure_number, change_time, change_block, change_word, change_array}

-- until nothing runs; until the next change, the block or the word that it finishes, and the word's array; the words that a cut would need
pub record Told : Type 0 where
  pub end : ℕ
  pub change : ℕ
  pub block : ℕ
  pub word : ℕ
  pub array : ℕ
  pub debris : ℕ

abbrev told : (end change block word array debris : ℕ) → Told
told e c b w y d = record { end = e; change = c; block = b; word = w; array = y; debris = d }

-- what the definitions tell of a record
abbrev pub tells : Device → Told
tells r =
    told (figure_number (end_now Small r)) (change_time (change_now Small r)) (change_block (change_now Small r)) (change_word (change_now Small r))
    (change_array (change_now Small r)) (figure_number (debris_now Small r))

-- a record of the small part, the events that follow, and what is told after them
pub record Moment : Type 0 where
  pub from : Device
  pub events : List Event
  pub stated : Told

abbrev pub blank : Lent
blank = lent (replicate 16384 0xFFFF) (replicate otp_words 0xFFFF)

abbrev pub found : Moment → Told
found m = tells (run Small m.from blank m.events).device

-- ---- a chip erase of all 270 blocks, 500,000 µs each, on a device whose clock is past 2^32

abbrev chip_after : List Event → Told → Moment
chip_after es t = record { from = metered 5000000000 0; events = chip_erase_of ++ es; stated = t }

abbrev pub chip : List Moment
chip =
    -- at its start; a microsecond before block 0 is finished, and just then
    chip_after [] (told 135000000 500000 0 none none 0)
    ∷ chip_after (wait 499999 ∷ []) (told 134500001 1 0 none none 8)
    ∷ chip_after (wait 500000 ∷ []) (told 134500000 500000 1 none none 0)
    -- in the middle of block 135
    ∷ chip_after (wait 67750000 ∷ []) (told 67250000 250000 135 none none 64)
    -- as the last block begins; a microsecond before its end, and at the end
    ∷ chip_after (wait 134500000 ∷ []) (told 500000 500000 269 none none 0)
    ∷ chip_after (wait 134999999 ∷ []) (told 1 1 269 none none 8)
    ∷ chip_after (wait 135000000 ∷ []) (told 0 none none none none 0)
    ∷ []

-- ---- an erase of blocks 8 and 9 (words 64 to 191), 700,000 µs each, suspended, with a program inside

abbrev erase_after : List Event → Told → Moment
erase_after es t = record { from = metered 0 0; events = erase_of 64 ++ es; stated = t }

-- block 9 comes 20 µs into the window, which then has its 50 µs again
abbrev second : List Event
second = wait 20 ∷ write 128 0x30 ∷ []

-- 1,000 µs into block 8 it is stopped, and suspended when it has recovered; the program at 200 lies in block 10
abbrev stopped : List Event
stopped = second ++ (wait 1050 ∷ write 0 0xB0 ∷ [])

abbrev resting : List Event
resting = stopped ++ (wait 20 ∷ [])

abbrev inside : List Event
inside = resting ++ program_of 200 0x1234

abbrev pub erase : List Moment
erase =
    erase_after [] (told 700050 50 none none none 0)
    ∷ erase_after second (told 1400050 50 none none none 0)
    ∷ erase_after (second ++ (wait 50 ∷ [])) (told 1400000 700000 8 none none 0)
    ∷ erase_after (second ++ (wait 1050 ∷ [])) (told 1399000 699000 8 none none 64)
    -- stopped: the recovery alone is left to run, and ends with no block or word; a cut would need the block's debris
    ∷ erase_after stopped (told 20 20 none none none 64)
    ∷ erase_after (stopped ++ (wait 19 ∷ [])) (told 1 1 none none none 64)
    -- so before the block has begun, where a cut would need none
    ∷ erase_after (second ++ (wait 50 ∷ write 0 0xB0 ∷ wait 5 ∷ [])) (told 15 15 none none none 0)
    -- suspended: nothing runs, and a cut would still need the block's debris
    ∷ erase_after resting (told 0 none none none none 64)
    ∷ erase_after inside (told 6 6 none 200 0 64)
    ∷ erase_after (inside ++ (wait 5 ∷ [])) (told 1 1 none 200 0 65)
    ∷ erase_after (inside ++ (wait 6 ∷ [])) (told 0 none none none none 64)
    -- resumed, and at the end of block 8
    ∷ erase_after (inside ++ (wait 6 ∷ write 0 0x30 ∷ [])) (told 1399000 699000 8 none none 64)
    ∷ erase_after (inside ++ (wait 6 ∷ write 0 0x30 ∷ wait 699000 ∷ [])) (told 700000 700000 9 none none 0)
    ∷ []

-- ---- a program while the one-time block is entered: of one of its words, 6 µs, and of the cell past them

abbrev entered_after : List Event → Told → Moment
entered_after es t = record { from = metered 0 0; events = enters 0x88 ++ es; stated = t }

abbrev pub one_time : List Moment
one_time =
    entered_after [] (told 0 none none none none 0)
    ∷ entered_after (program_of 255 0x1234) (told 6 6 none 255 1 0)
    ∷ entered_after (program_of 255 0x1234 ++ (wait 5 ∷ [])) (told 1 1 none 255 1 1)
    ∷ entered_after (program_of 255 0x1234 ++ (wait 6 ∷ [])) (told 0 none none none none 0)
    ∷ entered_after (program_of 256 0x1234) (told 6 6 none 256 0 0)
    ∷ entered_after (program_of 256 0x1234 ++ (wait 1 ∷ [])) (told 5 5 none 256 0 1)
    ∷ []

-- ---- a record that is not sound: more charge than its clock allows

abbrev pub unsound : List Moment
unsound = record { from = metered 1 17001; events = []; stated = told none none none none none none } ∷ []

abbrev pub AsForeseen : List Moment → Type 0
AsForeseen ms = map found ms ≡ map (λ (m : Moment). m.stated) ms
