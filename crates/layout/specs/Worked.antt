-- Images written out word by word, with the records that they stand for; and words that stand for none. The definitions give
-- just these, by computing.
use Rattle.std.specs.Prelude.{ℕ, ◌≡◌, refl, Bool, true, false, List, [], ◌∷◌, ◌++◌, map, length, set, take, drop, replicate}
use Rattle.blocks.specs.Blocks.{set_of, pack}
use Rattle.protection.specs.Protection.{bits}
use Rattle.plain.specs.declared.Array.TheVariants.{Main, OneTime}
use Rattle.plain.specs.declared.Program.{Program}
use Rattle.plain.specs.declared.Erase.{Erase}
use Rattle.plain.specs.declared.Inside.TheVariants.{Nothing, Runs}
use Rattle.plain.specs.declared.Operation.{Operation}
use Rattle.plain.specs.declared.Operation.TheVariants.{Idle, Programming, ProgramSuspended, Window, Erasing, Recovering, EraseSuspended, ChipErasing, InOneTime, OneTimeProgramming}
use Rattle.plain.specs.declared.Command.{Command}
use Rattle.plain.specs.declared.Command.TheVariants.{Ground, Entering, Reads}
use Rattle.plain.specs.declared.Cycle.TheVariants.{Unlock, Unlocked, ProgramData, EraseSetup, EraseUnlock, EraseUnlocked, DybData, PpbSetup, PpbSetting, PpbClearing, OtpLocking}
use Rattle.plain.specs.declared.Reading.TheVariants.{Identity, Dybs, OtpLock}
use Rattle.plain.specs.declared.Device.{Device}
use Rattle.plain.specs.Programs.{writing}
use Rattle.plain.specs.Record.{device, program, erase, suspended, recovery, fresh}
use Rattle.layout.specs.Commands.{cycle_words, reading_words, command_words, command_fits, cycle_of, command_of}
use Rattle.layout.specs.Operations.{suspended_parts, operation_parts, operation_numbered, operation_outside, operation_inside, operation_of}
use Rattle.layout.specs.Image.{image_of, words_from, zeros, marked, erase_fits, program_fits, operation_fits, recovery_fits, entered_fits, well_formed, idle_words, device_of}
use Rattle.layout.specs.Carried.{first, second, well_formed_in, operation_in, device_in, carriable, carried}

pub record Row : Type 0 where
  pub stands : Device
  pub idle : Bool
  pub words : List ℕ

abbrev row : Device → Bool → List ℕ → Row
row r idle words = record { stands = r; idle = idle; words = words }

-- clock 250, charge 3750; DYBs of blocks 0 and 65, PPB of block 269, locked; with this lock of the customer's one-time words
abbrev holding : (sealed : Bool) → Command → Operation → Device
holding sealed c o =
    device (record { clock = 250; charge = 3750 }) c o
    (bits (record { w0 = 1; w1 = 2; w2 = 0; w3 = 0; w4 = 0 }) (record { w0 = 0; w1 = 0; w2 = 0; w3 = 0; w4 = 8192 }) true sealed)

abbrev held : Command → Operation → Device
held = holding false

abbrev fresh_words : List ℕ
fresh_words =
    3 ∷ 0 ∷ 0 ∷ 0 ∷ 0 ∷ 0
    ∷ 0 ∷ 0 ∷ 0 ∷ 0 ∷ 0 ∷ 0 ∷ 0 ∷ 0
    ∷ 0 ∷ 0 ∷ 0 ∷ 0
    ∷ 0 ∷ 0 ∷ 0 ∷ 0 ∷ 0 ∷ 0 ∷ 0 ∷ 0 ∷ 0 ∷ 0 ∷ 0 ∷ 0 ∷ 0 ∷ 0 ∷ []

abbrev identity_words : List ℕ
identity_words =
    3 ∷ 250 ∷ 3750 ∷ 11 ∷ 2 ∷ 0
    ∷ 0 ∷ 0 ∷ 0 ∷ 0 ∷ 0 ∷ 0 ∷ 0 ∷ 0
    ∷ 0 ∷ 0 ∷ 0 ∷ 0
    ∷ 1 ∷ 2 ∷ 0 ∷ 0 ∷ 0 ∷ 0 ∷ 0 ∷ 0 ∷ 0 ∷ 8192 ∷ 1 ∷ 0 ∷ 0 ∷ 0 ∷ []

abbrev program_words : List ℕ
program_words =
    3 ∷ 250 ∷ 3750 ∷ 9 ∷ 135 ∷ 1
    ∷ 0 ∷ 0 ∷ 0 ∷ 0 ∷ 0 ∷ 0 ∷ 0 ∷ 0
    ∷ 100 ∷ 0x1234 ∷ 4 ∷ 1
    ∷ 1 ∷ 2 ∷ 0 ∷ 0 ∷ 0 ∷ 0 ∷ 0 ∷ 0 ∷ 0 ∷ 8192 ∷ 1 ∷ 0 ∷ 0 ∷ 0 ∷ []

abbrev window_words : List ℕ
window_words =
    3 ∷ 250 ∷ 3750 ∷ 0 ∷ 0 ∷ 3
    ∷ 6 ∷ 0 ∷ 0 ∷ 0 ∷ 0 ∷ 1 ∷ 50 ∷ 1
    ∷ 0 ∷ 0 ∷ 0 ∷ 0
    ∷ 1 ∷ 2 ∷ 0 ∷ 0 ∷ 0 ∷ 0 ∷ 0 ∷ 0 ∷ 0 ∷ 8192 ∷ 1 ∷ 0 ∷ 0 ∷ 0 ∷ []

abbrev suspended_words : List ℕ
suspended_words =
    3 ∷ 250 ∷ 3750 ∷ 0 ∷ 0 ∷ 6
    ∷ 0 ∷ 0 ∷ 0 ∷ 0 ∷ 12288 ∷ 268 ∷ 690000 ∷ 2
    ∷ 5 ∷ 0xFFFE ∷ 6 ∷ 0
    ∷ 1 ∷ 2 ∷ 0 ∷ 0 ∷ 0 ∷ 0 ∷ 0 ∷ 0 ∷ 0 ∷ 8192 ∷ 1 ∷ 0 ∷ 0 ∷ 0 ∷ []

abbrev recovering_words : List ℕ
recovering_words =
    3 ∷ 250 ∷ 3750 ∷ 0 ∷ 0 ∷ 4
    ∷ 0 ∷ 0 ∷ 0 ∷ 0 ∷ 12288 ∷ 268 ∷ 690000 ∷ 2
    ∷ 0 ∷ 0 ∷ 0 ∷ 0
    ∷ 1 ∷ 2 ∷ 0 ∷ 0 ∷ 0 ∷ 0 ∷ 0 ∷ 0 ∷ 0 ∷ 8192 ∷ 1 ∷ 20 ∷ 0 ∷ 0 ∷ []

abbrev sealed_words : List ℕ
sealed_words =
    3 ∷ 250 ∷ 3750 ∷ 0 ∷ 0 ∷ 0
    ∷ 0 ∷ 0 ∷ 0 ∷ 0 ∷ 0 ∷ 0 ∷ 0 ∷ 0
    ∷ 0 ∷ 0 ∷ 0 ∷ 0
    ∷ 1 ∷ 2 ∷ 0 ∷ 0 ∷ 0 ∷ 0 ∷ 0 ∷ 0 ∷ 0 ∷ 8192 ∷ 1 ∷ 0 ∷ 0 ∷ 1 ∷ []

abbrev entered_words : List ℕ
entered_words =
    3 ∷ 250 ∷ 3750 ∷ 0 ∷ 0 ∷ 0
    ∷ 0 ∷ 0 ∷ 0 ∷ 0 ∷ 0 ∷ 0 ∷ 0 ∷ 0
    ∷ 0 ∷ 0 ∷ 0 ∷ 0
    ∷ 1 ∷ 2 ∷ 0 ∷ 0 ∷ 0 ∷ 0 ∷ 0 ∷ 0 ∷ 0 ∷ 8192 ∷ 1 ∷ 0 ∷ 1 ∷ 0 ∷ []

abbrev one_time_words : List ℕ
one_time_words =
    3 ∷ 250 ∷ 3750 ∷ 0 ∷ 0 ∷ 1
    ∷ 0 ∷ 0 ∷ 0 ∷ 0 ∷ 0 ∷ 0 ∷ 0 ∷ 0
    ∷ 255 ∷ 0x1234 ∷ 4 ∷ 1
    ∷ 1 ∷ 2 ∷ 0 ∷ 0 ∷ 0 ∷ 0 ∷ 0 ∷ 0 ∷ 0 ∷ 8192 ∷ 1 ∷ 0 ∷ 1 ∷ 0 ∷ []

abbrev locking_words : List ℕ
locking_words =
    3 ∷ 250 ∷ 3750 ∷ 13 ∷ 0 ∷ 0
    ∷ 0 ∷ 0 ∷ 0 ∷ 0 ∷ 0 ∷ 0 ∷ 0 ∷ 0
    ∷ 0 ∷ 0 ∷ 0 ∷ 0
    ∷ 1 ∷ 2 ∷ 0 ∷ 0 ∷ 0 ∷ 0 ∷ 0 ∷ 0 ∷ 0 ∷ 8192 ∷ 1 ∷ 0 ∷ 1 ∷ 0 ∷ []

abbrev lock_read_words : List ℕ
lock_read_words =
    3 ∷ 250 ∷ 3750 ∷ 14 ∷ 0 ∷ 0
    ∷ 0 ∷ 0 ∷ 0 ∷ 0 ∷ 0 ∷ 0 ∷ 0 ∷ 0
    ∷ 0 ∷ 0 ∷ 0 ∷ 0
    ∷ 1 ∷ 2 ∷ 0 ∷ 0 ∷ 0 ∷ 0 ∷ 0 ∷ 0 ∷ 0 ∷ 8192 ∷ 1 ∷ 0 ∷ 1 ∷ 1 ∷ []

abbrev last : Erase
last = erase (record { w0 = 0; w1 = 0; w2 = 0; w3 = 0; w4 = 12288 }) 268 690000 false true

-- a fresh device; identity reading in bank 2; a program, and 68H taken for block 135; the window of blocks 1 and 2; an erase
-- of 268 and 269, suspended, with a program inside; and as it has 20 µs to recover; the customer's lock; the one-time block entered,
-- with a program of its last word and with one of the first cell past it; 68H taken for its lock, and that lock read
abbrev pub rows : List Row
rows =
    row fresh true fresh_words
    ∷ row (held (Reads (Identity 2)) Idle) false identity_words
    ∷ row (held (Entering (PpbSetting 135)) (Programming (program (writing Main 100 0x1234) 4 true))) false program_words
    ∷ row (held Ground (Window (erase (record { w0 = 6; w1 = 0; w2 = 0; w3 = 0; w4 = 0 }) 1 50 true false))) false window_words
    ∷ row (held Ground (EraseSuspended (suspended last (Runs (program (writing Main 5 0xFFFE) 6 false))))) false suspended_words
    ∷ row (held Ground (Recovering (recovery last 20))) false recovering_words
    ∷ row (holding true Ground Idle) true sealed_words
    ∷ row (held Ground InOneTime) false entered_words
    ∷ row (held Ground (OneTimeProgramming (program (writing OneTime 255 0x1234) 4 true))) false one_time_words
    ∷ row (held Ground (OneTimeProgramming (program (writing Main 256 0x1234) 4 true))) false (set one_time_words 14 256)
    ∷ row (held (Entering OtpLocking) InOneTime) false locking_words
    ∷ row (holding true (Reads OtpLock) InOneTime) false lock_read_words
    ∷ []

pub images : map (λ (r : Row). image_of r.stands) rows ≡ map (λ (r : Row). r.words) rows
unfolding image_of command_words cycle_words reading_words operation_parts suspended_parts set_of pack
images = refl

pub stand-for : map (λ (r : Row). device_of r.words) rows ≡ map (λ (r : Row). r.stands) rows
unfolding device_of command_of cycle_of operation_of operation_outside operation_numbered operation_inside set_of pack
stand-for = refl

pub stand : map (λ (r : Row). well_formed r.words) rows ≡ replicate (length rows) true
unfolding well_formed marked command_fits operation_fits recovery_fits entered_fits erase_fits program_fits words_from zeros
stand = refl

pub idle : map (λ (r : Row). idle_words r.words) rows ≡ map (λ (r : Row). r.idle) rows
unfolding idle_words marked words_from zeros
idle = refl

-- ---- each command and each operation, in the order of their numbers; those of the one-time block have the numbers of none and of a
-- program

abbrev pub commands : List Command
commands =
    Ground ∷ Entering Unlock ∷ Entering Unlocked ∷ Entering ProgramData ∷ Entering EraseSetup ∷ Entering EraseUnlock
    ∷ Entering EraseUnlocked ∷ Entering DybData ∷ Entering PpbSetup ∷ Entering (PpbSetting 7) ∷ Entering PpbClearing
    ∷ Reads (Identity 3) ∷ Reads Dybs ∷ Entering OtpLocking ∷ Reads OtpLock ∷ []

abbrev pub command_numbers : List ℕ
command_numbers = 0 ∷ 1 ∷ 2 ∷ 3 ∷ 4 ∷ 5 ∷ 6 ∷ 7 ∷ 8 ∷ 9 ∷ 10 ∷ 11 ∷ 12 ∷ 13 ∷ 14 ∷ []

abbrev pub command_places : List ℕ
command_places = 0 ∷ 0 ∷ 0 ∷ 0 ∷ 0 ∷ 0 ∷ 0 ∷ 0 ∷ 0 ∷ 7 ∷ 0 ∷ 3 ∷ 0 ∷ 0 ∷ 0 ∷ []

module _ (e : Erase) (q : Program) where
  abbrev pub operations : List Operation
  operations =
      Idle ∷ Programming q ∷ ProgramSuspended q ∷ Window e ∷ Erasing e ∷ EraseSuspended (suspended e Nothing)
      ∷ EraseSuspended (suspended e (Runs q)) ∷ ChipErasing e ∷ InOneTime ∷ OneTimeProgramming q ∷ []

abbrev pub operation_numbers : List ℕ
operation_numbers = 0 ∷ 1 ∷ 2 ∷ 3 ∷ 4 ∷ 5 ∷ 6 ∷ 7 ∷ 0 ∷ 1 ∷ []

pub numbered : map (λ c. (command_words c).number) commands ≡ command_numbers
unfolding command_words cycle_words reading_words
numbered = refl

pub placed : map (λ c. (command_words c).place) commands ≡ command_places
unfolding command_words cycle_words reading_words
placed = refl

pub operation-numbers : (e : Erase) (q : Program) → map (λ o. (operation_parts o).number) (operations e q) ≡ operation_numbers
unfolding operation_parts suspended_parts
operation-numbers e q = refl

-- ---- words that stand for no record

abbrev pub strangers : List (List ℕ)
strangers =
    -- none, one too few, one too many; layouts 1, 2 and 4; lock bits of 2
    [] ∷ drop 1 fresh_words ∷ (fresh_words ++ (0 ∷ [])) ∷ set fresh_words 0 1 ∷ set fresh_words 0 2 ∷ set fresh_words 0 4 ∷ set fresh_words 28 2 ∷ set fresh_words 31 2
    -- no such command; a place beside none, beside 58H and beside those of the lock; no such operation
    ∷ set fresh_words 3 15 ∷ set fresh_words 4 1 ∷ set (set fresh_words 3 12) 4 1 ∷ set locking_words 4 1 ∷ set lock_read_words 4 1 ∷ set fresh_words 5 8
    -- words of an erase and of a program where there is none
    ∷ set fresh_words 6 1 ∷ set fresh_words 10 1 ∷ set fresh_words 11 1 ∷ set fresh_words 12 1 ∷ set program_words 13 1
    ∷ set fresh_words 14 1 ∷ set fresh_words 15 1 ∷ set fresh_words 16 1 ∷ set window_words 17 1
    -- a recovery of nothing, of a program, of an erase in its window and of a suspended one
    ∷ set fresh_words 29 1 ∷ set program_words 29 1 ∷ set window_words 29 1 ∷ set suspended_words 29 1
    -- a mode of 2; the one-time block entered with a suspended program, with an erase and with a recovery
    ∷ set fresh_words 30 2 ∷ set one_time_words 30 2 ∷ set one_time_words 5 2 ∷ set window_words 30 1 ∷ set suspended_words 30 1 ∷ set recovering_words 30 1 ∷ set entered_words 29 1
    -- toggles past 3 and past 1, data past 16 bits
    ∷ set window_words 13 4 ∷ set program_words 17 2 ∷ set program_words 15 65536 ∷ []

pub stand-for-none : map well_formed strangers ≡ replicate (length strangers) false
unfolding well_formed marked command_fits operation_fits recovery_fits entered_fits erase_fits program_fits words_from zeros
stand-for-none = refl

pub not-idle : map idle_words strangers ≡ replicate (length strangers) false
unfolding idle_words marked words_from zeros
not-idle = refl

-- ---- words of layouts 1 and 2, and what is carried over

-- the words of a row as they had them
abbrev before₁ : List ℕ → List ℕ
before₁ i = set (take 29 i) 0 1

abbrev before₂ : List ℕ → List ℕ
before₂ i = set (take 30 i) 0 2

abbrev stored₁ : List Row
stored₁ = take 5 rows

abbrev stored₂ : List Row
stored₂ = take 6 rows

pub stood : map (λ (r : Row). well_formed_in first (before₁ r.words)) stored₁ ++ map (λ (r : Row). well_formed_in second (before₂ r.words)) stored₂ ≡ replicate 11 true
unfolding well_formed_in command_fits operation_fits recovery_fits erase_fits program_fits words_from zeros
stood = refl

pub stood-for : map (λ (r : Row). device_in first (before₁ r.words)) stored₁ ++ map (λ (r : Row). device_in second (before₂ r.words)) stored₂
    ≡ map (λ (r : Row). r.stands) (stored₁ ++ stored₂)
unfolding device_in operation_in command_of cycle_of operation_numbered operation_outside set_of pack
stood-for = refl

pub carried-over : map (λ (r : Row). carried (before₁ r.words)) stored₁ ++ map (λ (r : Row). carried (before₂ r.words)) stored₂
    ≡ map (λ (r : Row). r.words) (stored₁ ++ stored₂)
unfolding carried words_from
carried-over = refl

-- they had no command 13
pub unheard : well_formed_in first (set (before₁ fresh_words) 3 13) ∷ well_formed_in second (set (before₂ fresh_words) 3 13) ∷ [] ≡ false ∷ false ∷ []
unfolding well_formed_in
unheard = refl

-- no layout 0 or 4; a number of words that is another layout's, too few or too many; none
abbrev pub uncarried : List (List ℕ)
uncarried =
    set fresh_words 0 0 ∷ set fresh_words 0 4 ∷ set fresh_words 0 1 ∷ set fresh_words 0 2 ∷ set (before₁ fresh_words) 0 2 ∷ set (before₁ fresh_words) 0 3
    ∷ set (before₂ fresh_words) 0 1 ∷ set (before₂ fresh_words) 0 3 ∷ take 28 (before₁ fresh_words) ∷ take 31 fresh_words ∷ (fresh_words ++ (0 ∷ [])) ∷ [] ∷ []

pub not_carried : map carriable uncarried ≡ replicate (length uncarried) false
unfolding carriable
not_carried = refl

pub may-carry : map carriable (fresh_words ∷ before₁ fresh_words ∷ before₂ recovering_words ∷ one_time_words ∷ []) ≡ replicate 4 true
unfolding carriable
may-carry = refl
