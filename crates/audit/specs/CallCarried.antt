-- What is stated of stored records (layout/specs/Carried), through C: of every call of `k5l_carry`.
use Rattle.std.specs.Prelude.{ℕ, ◌≡◌, true, List, length}
use contract.Lifetimes.{Lfts}
use Rattle.plain.specs.declared.Refusal.TheVariants.{Done}
use Rattle.plain.specs.Refusals.{number}
use Rattle.layout.specs.Places.{layout_number, record_words}
use Rattle.layout.specs.Image.{of_layout, well_formed, device_of}
use Rattle.layout.specs.Carried.{Older, well_formed_in, device_in}
use Rattle.emulator.proofs.k5l_carry.Reads as Carry
use Rattle.audit.specs.Slices.{Location, slice, slice_mut}

-- what a call may answer, and make of the words before
pub data Carries (stored before : List ℕ) : (answer : ℕ) → (after : List ℕ) → Type 0 where
  carries : (t : Lfts 2) (at by : Location) {n : ℕ} {after : List ℕ} → Carry.Learnt t (slice at stored, (slice_mut by before, tt)) n (slice at stored, (slice_mut by after, tt)) → Carries stored before n after

-- a record of layout 1 or 2 is the same record in the words of this one
abbrev pub CarriesOlder : Type 0
CarriesOlder =
    (v : Older) (stored before : List ℕ) (n : ℕ) (after : List ℕ) → Carries stored before n after → well_formed_in v stored ≡ true → length before ≡ record_words
    → (n ≡ number Done) × ((well_formed after ≡ true) × (device_of after ≡ device_in v stored))

-- words of this layout are copied
abbrev pub CarriesCurrent : Type 0
CarriesCurrent =
    (stored before : List ℕ) (n : ℕ) (after : List ℕ) → Carries stored before n after → of_layout layout_number record_words stored ≡ true → length before ≡ record_words
    → (n ≡ number Done) × (after ≡ stored)
