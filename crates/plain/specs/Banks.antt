-- Document 02, request 8, its second part: banks do not tell of each other.
use Rattle.std.specs.Prelude.{ℕ, ◌+◌, ◌<◌, ◌≤◌, ◌≡◌, Bool, true, false, List, [], ◌∷◌, ◌++◌, eqb, length}
use Rattle.geometry.specs.declared.Part.{Part}
use Rattle.geometry.specs.Parts.{word_count, bank_of}
use Rattle.plain.specs.declared.Array.{Array}
use Rattle.plain.specs.declared.Array.TheVariants.{Main, OneTime}
use Rattle.plain.specs.declared.Command.TheVariants.{Entering}
use Rattle.plain.specs.declared.Cycle.TheVariants.{ProgramData}
use Rattle.plain.specs.declared.Device.{Device}
use Rattle.plain.specs.Events.{Event, read, write, wait, cut, range}
use Rattle.plain.specs.Lent.{Lent, array_of, word_at, Whole}
use Rattle.plain.specs.Machine.{part, range_words, step, run}
use Rattle.plain.specs.Operations.{suspension_of, selected}

-- does a word lie in a bank? A one-time word is no cell of any
abbrev pub in_bank : Part → (bank : ℕ) → Array → (x : ℕ) → Bool
in_bank p bank Main x = eqb (bank_of p x) bank
in_bank p bank OneTime x = false

-- "alike except for the cells of one bank": what is lent to the one, and what to the other
pub record AlikeBut (p : Part) (bank : ℕ) (l m : Lent) : Type 0 where
  pub sizes : (y : Array) → length (array_of y l) ≡ length (array_of y m)
  pub words : (y : Array) (x : ℕ) → in_bank p bank y x ≡ false → word_at l y x ≡ word_at m y x

-- a "program write into that bank": the data cycle of a program, whatever is answered, at an address of the bank
pub data ProgramWrite (p : Part) (bank : ℕ) (r : Device) : Event → Type 0 where
  writes : {a w : ℕ} → r.command ≡ Entering ProgramData → a < word_count p → in_bank p bank (selected (suspension_of r.operation) a) a ≡ true
      → ProgramWrite p bank r (write a w)

-- "reads of that bank's cells": a read, or a range, that gives what the main array holds there, whatever that is
pub data ReadsBank (p : Part) (bank : ℕ) (r : Device) : Event → Type 0 where
  reads : {a : ℕ} → a < word_count p → in_bank p bank Main a ≡ true
      → ((l : Lent) → Whole p l → (step p r l (read a)).answer.word ≡ word_at l Main a) → ReadsBank p bank r (read a)
  ranges : {first count x : ℕ} → first ≤ x → x < first + count → in_bank p bank Main x ≡ true
      → ((l : Lent) → Whole p l → range_words p r l first count ≡ part l.cells first count) → ReadsBank p bank r (range first count)

-- the words that a range hands back; other events hand back none
unfoldable pub handed_back : Part → Device → Lent → Event → List ℕ
handed_back p r l (read a) = []
handed_back p r l (write a w) = []
handed_back p r l (wait n) = []
handed_back p r l (cut debris) = []
handed_back p r l (range first count) = range_words p r l first count

-- ---- the statements

-- an event that is put to both: "equal answers .. and equal clock and charge", which the record has
pub record AnsweredAlike (p : Part) (bank : ℕ) (r : Device) (l m : Lent) (e : Event) : Type 0 where
  pub refusal : (step p r l e).answer.refusal ≡ (step p r m e).answer.refusal
  pub device : (step p r l e).answer.device ≡ (step p r m e).answer.device
  pub lent : AlikeBut p bank (step p r l e).lent (step p r m e).lent
  pub word : (ReadsBank p bank r e → ⊥) → (step p r l e).answer.word ≡ (step p r m e).answer.word
  pub handed : (ReadsBank p bank r e → ⊥) → handed_back p r l e ≡ handed_back p r m e

-- one event: on any record, sound or not, whatever is lent
abbrev pub BanksApart : Part → Type 0
BanksApart p =
    (bank : ℕ) (r : Device) (l m : Lent) (e : Event) → AlikeBut p bank l m → (ProgramWrite p bank r e → ⊥) → AnsweredAlike p bank r l m e

-- none of these events is a program write into the bank
unfoldable pub Spares : Part → (bank : ℕ) → Device → Lent → List Event → Type 0
Spares p bank r l [] = Unit
Spares p bank r l (e ∷ es) = (ProgramWrite p bank r e → ⊥) × Spares p bank (step p r l e).answer.device (step p r l e).lent es

-- "two devices alike except for the cells of one bank, given the same events with no program write into that bank, give equal answers to all
-- events but reads of that bank's cells, and equal clock and charge": after any events es the records are equal, and the next one, e, is answered
-- alike; from any record on, so of a fresh device
abbrev pub BanksApartInRuns : Part → Type 0
BanksApartInRuns p =
    (bank : ℕ) (r : Device) (l m : Lent) (es : List Event) (e : Event) → AlikeBut p bank l m → Spares p bank r l (es ++ (e ∷ []))
    → let one = run p r l es in
    let two = run p r m es in
    (one.device ≡ two.device) × AnsweredAlike p bank one.device one.lent two.lent e
