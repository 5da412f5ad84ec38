-- Stored records of an older layout, carried over: what the words of layouts 1 and 2 stood for, and the words of this layout for the
-- same.
use Rattle.std.specs.Prelude.{ℕ, ◌≡◌, Bool, true, false, ◌&&◌, ◌||◌, List, ◌∷◌, ltb}
use Rattle.plain.specs.declared.Recovery.{Recovery}
use Rattle.plain.specs.declared.Operation.{Operation}
use Rattle.plain.specs.declared.Operation.TheVariants.{Recovering}
use Rattle.plain.specs.declared.Device.{Device}
use Rattle.plain.specs.Operations.{suspension_of, is_entered}
use Rattle.plain.specs.Record.{device}
use Rattle.layout.specs.declared.CommandWords.{CommandWords}
use Rattle.layout.specs.Places.{layout_number, record_words, first_layout, first_words, second_layout, second_words, clock_at, operation_at, lock_at, recovery_at}
use Rattle.layout.specs.Commands.{command_fits, command_of}
use Rattle.layout.specs.Operations.{operation_numbered, operation_outside}
use Rattle.layout.specs.Image.{word, section, meter_of, command_words_of, erase_of, program_of, bits_sealed, of_layout, operation_fits, recovery_fits, well_formed, device_of}

-- ---- layouts 1 and 2

pub data Older : Type 0 where
  first : Older
  second : Older

abbrev pub number_in : Older → ℕ
number_in first = first_layout
number_in second = second_layout

abbrev pub words_in : Older → ℕ
words_in first = first_words
words_in second = second_words

-- they had the commands up to 12
abbrev pub command_fitted : CommandWords → Bool
command_fitted c = ltb c.number 13 && command_fits c

-- layout 1 had no recovery
abbrev pub recovery_fitted : Older → List ℕ → Bool
recovery_fitted first i = true
recovery_fitted second i = recovery_fits i

-- did the words stand for a record?
unfoldable pub well_formed_in : Older → List ℕ → Bool
well_formed_in v i =
    (of_layout (number_in v) (words_in v) i && ltb (word i lock_at) 2)
    && (command_fitted (command_words_of i) && (operation_fits i && recovery_fitted v i))

-- neither had the one-time block: a program wrote to the cells
unfoldable pub operation_in : Older → List ℕ → Operation
operation_in first i = operation_numbered (word i operation_at) (erase_of i) (program_of false i)
operation_in second i = operation_outside (word i operation_at) (erase_of i) (program_of false i) (word i recovery_at)

-- for which record did they stand?
unfoldable pub device_in : Older → List ℕ → Device
device_in v i = device (meter_of i) (command_of (command_words_of i)) (operation_in v i) (bits_sealed false i)

-- ---- carried over

-- the words of a layout that there is or was
unfoldable pub carriable : List ℕ → Bool
carriable i = of_layout layout_number record_words i || (of_layout second_layout second_words i || of_layout first_layout first_words i)

-- the new number, and the words as they were; those that an older layout did not have are 0
unfoldable pub carried : List ℕ → List ℕ
carried i = layout_number ∷ section i clock_at record_words

-- ---- the statements

-- what stood for a record stands for the same one
abbrev pub CarriesOver : Type 0
CarriesOver = (v : Older) (i : List ℕ) → well_formed_in v i ≡ true → (well_formed (carried i) ≡ true) × (device_of (carried i) ≡ device_in v i)

-- of layout 1 that record recovers from nothing
abbrev pub NoneRecovered : Type 0
NoneRecovered = (i : List ℕ) (r : Recovery) → (device_in first i).operation ≡ Recovering r → ⊥

-- what is carried over, be it well-formed or not, has not entered the one-time block, and the customer's lock is open
abbrev pub NoneEntered : Type 0
NoneEntered =
    (v : Older) (i : List ℕ) → of_layout (number_in v) (words_in v) i ≡ true
    → (is_entered (suspension_of (device_of (carried i)).operation) ≡ false) × ((device_of (carried i)).bits.sealed ≡ false)

-- words of this layout stay as they are
abbrev pub StaysCarried : Type 0
StaysCarried = (i : List ℕ) → of_layout layout_number record_words i ≡ true → carried i ≡ i
