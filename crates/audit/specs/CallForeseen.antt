-- What is promised of what the header's functions foretell of a record.
use Rattle.std.specs.Prelude.{ℕ, ◌-◌, ◌<◌, ◌≤◌, ◌≡◌, true, false, List, eqb, leb, length}
use contract.Lifetimes.{Lfts}
use Rattle.plain.specs.declared.Array.{Array}
use Rattle.plain.specs.declared.Refusal.TheVariants.{Done, Debris}
use Rattle.plain.specs.declared.Running.{Running}
use Rattle.plain.specs.Events.{read, wait, cut}
use Rattle.plain.specs.Holds.{in_block}
use Rattle.plain.specs.Lent.{Lent, words_of, word_at, Whole}
use Rattle.plain.specs.OneTime.{in_one_time}
use Rattle.plain.specs.Operations.{running_of}
use Rattle.plain.specs.Refusals.{number}
use Rattle.plain.specs.Sound.{is_still}
use Rattle.layout.specs.Image.{device_of}
use Rattle.face.specs.Face.{Faced, part_named, stands_sound, none, array_number}
use Rattle.foretold.specs.Foretold.{timeless}
use Rattle.emulator.proofs.foreseen.k5l_until_end.Reads as UntilEnd
use Rattle.emulator.proofs.foreseen.k5l_until_change.Reads as UntilChange
use Rattle.emulator.proofs.foreseen.k5l_changing_block.Reads as ChangingBlock
use Rattle.emulator.proofs.foreseen.k5l_changing_word.Reads as ChangingWord
use Rattle.emulator.proofs.foreseen.k5l_changing_array.Reads as ChangingArray
use Rattle.emulator.proofs.foreseen.k5l_debris_needed.Reads as DebrisNeeded
use Rattle.audit.specs.Slices.{Location, slice}
use Rattle.audit.specs.Called.{Called, lent_after}
use Rattle.audit.specs.Foreseen.{most_debris}

-- what runs in the record that the words stand for
abbrev pub runs_in : (words : List ℕ) → Running
runs_in i = running_of (device_of i).operation

-- ---- K5L_NONE is told of no sound record, but for a next change where nothing runs

abbrev pub ToldCalls : Type 0
ToldCalls =
    (part : ℕ) (words : List ℕ) (t : Lfts 1) (at : Location) (n time : ℕ) → stands_sound part words ≡ true
    → UntilEnd.Learnt t (part, (slice at words, tt)) n (part, (slice at words, tt))
    → UntilChange.Learnt t (part, (slice at words, tt)) time (part, (slice at words, tt))
    → (n < none) × (is_still (runs_in words) ≡ eqb time none)

-- ---- the end

abbrev pub EndForeseenCalls : Type 0
EndForeseenCalls =
    (part : ℕ) (words : List ℕ) (l : Lent) (f : Faced) (t : Lfts 1) (at : Location) (n k : ℕ)
    → UntilEnd.Learnt t (part, (slice at words, tt)) n (part, (slice at words, tt)) → Called part words l (wait k) f → f.refusal ≡ number Done
    → is_still (runs_in f.image) ≡ leb n k

abbrev pub EndNearsCalls : Type 0
EndNearsCalls =
    (part : ℕ) (words : List ℕ) (l : Lent) (f : Faced) (t u : Lfts 1) (at by : Location) (n m k : ℕ)
    → UntilEnd.Learnt t (part, (slice at words, tt)) n (part, (slice at words, tt)) → Called part words l (wait k) f → f.refusal ≡ number Done
    → UntilEnd.Learnt u (part, (slice by f.image, tt)) m (part, (slice by f.image, tt)) → m ≡ n - k

-- ---- the next change, told by four numbers: its time, and the block, or the word and its array, that is finished then

pub record AsBeforeCalls (part : ℕ) (words : List ℕ) (l : Lent) (f : Faced) : Type 0 where
  pub kept : lent_after f ≡ l
  pub runs : timeless (runs_in f.image) ≡ timeless (runs_in words)
  pub reads : (a : ℕ) (g h : Faced) → Called part words l (read a) g → Called part f.image (lent_after f) (read a) h
      → (h.refusal ≡ g.refusal) × (h.word ≡ g.word)

pub record JustChangedCalls (part block word array : ℕ) (words : List ℕ) (l : Lent) (f : Faced) : Type 0 where
  pub runs : timeless (runs_in f.image) ≡ timeless (runs_in words) → ⊥
  pub mode : in_one_time (device_of f.image) ≡ in_one_time (device_of words)
  pub elsewhere : (y : Array) (x : ℕ) → x < words_of (part_named part) y → (array ≡ array_number y → word ≡ x → ⊥)
      → in_block (part_named part) block y x ≡ false → word_at (lent_after f) y x ≡ word_at l y x

abbrev pub ChangeForeseenCalls : Type 0
ChangeForeseenCalls =
    (part : ℕ) (words : List ℕ) (l : Lent) (f : Faced) (t : Lfts 1) (at : Location) (time block word array k : ℕ)
    → UntilChange.Learnt t (part, (slice at words, tt)) time (part, (slice at words, tt))
    → ChangingBlock.Learnt t (part, (slice at words, tt)) block (part, (slice at words, tt))
    → ChangingWord.Learnt t (part, (slice at words, tt)) word (part, (slice at words, tt))
    → ChangingArray.Learnt t (part, (slice at words, tt)) array (part, (slice at words, tt))
    → Called part words l (wait k) f → f.refusal ≡ number Done
    → (k < time → AsBeforeCalls part words l f) × (time ≡ k → JustChangedCalls part block word array words l f)

-- ---- the debris

abbrev pub DebrisForeseenCalls : Type 0
DebrisForeseenCalls =
    (part : ℕ) (words : List ℕ) (l : Lent) (debris : List ℕ) (f : Faced) (t : Lfts 1) (at : Location) (n : ℕ) → stands_sound part words ≡ true
    → DebrisNeeded.Learnt t (part, (slice at words, tt)) n (part, (slice at words, tt))
    → Whole (part_named part) l → Called part words l (cut debris) f
    → (n ≤ length debris → f.refusal ≡ number Done) × ((length debris < n → f.refusal ≡ number Debris) × (n ≤ most_debris (part_named part)))
