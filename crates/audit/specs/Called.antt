-- The events through C: each is a call of the header's function, over the words of a record, the cells and the one-time words
-- (include/k5l2931cam.h), and its answer is any that the function's contract allows. A part is 0, the small part, or 1, the die.
use Rattle.std.specs.Prelude.{ℕ, ◌+◌, ◌*◌, ◌<◌, ◌≡◌, true, List, [], ◌∷◌}
use contract.Lifetimes.{Lfts}
use Rattle.plain.specs.declared.Array.{Array}
use Rattle.plain.specs.declared.Refusal.{Refusal}
use Rattle.plain.specs.declared.Refusal.TheVariants.{Done}
use Rattle.plain.specs.Events.{Event, read, write, wait, cut, range, Turn}
use Rattle.plain.specs.Lent.{Lent, lent, word_at}
use Rattle.plain.specs.Refusals.{number}
use Rattle.face.specs.Face.{Faced, answered, is_part}
use Rattle.emulator.proofs.k5l_fresh.Reads as Fresh
use Rattle.emulator.proofs.k5l_read.Reads as Read
use Rattle.emulator.proofs.k5l_write.Reads as Write
use Rattle.emulator.proofs.k5l_wait.Reads as Wait
use Rattle.emulator.proofs.k5l_cut.Reads as Cut
use Rattle.emulator.proofs.k5l_range.Reads as Range
use Rattle.audit.specs.Slices.{Location, slice, slice_mut, slices, slices_mut}

-- a `uint16_t`
abbrev pub SixteenBits : ℕ → Type 0
SixteenBits w = w < 65536

-- what a range's answer has below its refusal: "refusal << 33 | array << 32 | first word"
abbrev pub ThirtyThreeBits : ℕ → Type 0
ThirtyThreeBits m = m < 8589934592

-- words that `k5l_fresh` made of others, and answered K5L_DONE
pub data Made : (words : List ℕ) → Type 0 where
  made : (t : Lfts 1) (at : Location) (before : List ℕ) {words : List ℕ} → Fresh.Learnt t (slice_mut at before, tt) (number Done) (slice_mut at words, tt) → Made words

-- an answer over what is lent, and what is lent after it
abbrev pub answered_over : (refusal word : ℕ) → (image : List ℕ) → Lent → Faced
answered_over n w i l = answered n w i l.cells l.otp

abbrev pub lent_after : Faced → Lent
lent_after f = lent f.cells f.otp

-- what a call of `k5l_read`, `k5l_write`, `k5l_wait` and `k5l_cut` may answer and leave; a read's answer is "the word in the low 16 bits,
-- the refusal above them". `k5l_range` leaves the record and what is lent as they are: of its answer this tells the refusal (where the words
-- lie: Ranges)
pub data Called (part : ℕ) (words : List ℕ) (l : Lent) : Event → Faced → Type 0 where
  reads : (t : Lfts 3) (at by of : Location) {a n w : ℕ} {after : List ℕ} → ((y : Array) (x : ℕ) → SixteenBits (word_at l y x)) → SixteenBits w
      → Read.Learnt t (part, (slice_mut at words, slices by of l (a, tt))) (65536 * n + w) (part, (slice_mut at after, slices by of l (a, tt)))
      → Called part words l (read a) (answered_over n w after l)
  writes : (t : Lfts 3) (at by of : Location) {a w n : ℕ} {after : List ℕ} → SixteenBits w
      → Write.Learnt t (part, (slice_mut at words, slices by of l (a, (w, tt)))) n (part, (slice_mut at after, slices by of l (a, (w, tt))))
      → Called part words l (write a w) (answered_over n 0 after l)
  waits : (t : Lfts 3) (at by of : Location) {d n : ℕ} {after : List ℕ} {left : Lent}
      → Wait.Learnt t (part, (slice_mut at words, slices_mut by of l (d, tt))) n (part, (slice_mut at after, slices_mut by of left (d, tt)))
      → Called part words l (wait d) (answered_over n 0 after left)
  cuts : (t : Lfts 4) (at by of with' : Location) {n : ℕ} {debris after : List ℕ} {left : Lent}
      → Cut.Learnt t (part, (slice_mut at words, slices_mut by of l (slice with' debris, tt))) n (part, (slice_mut at after, slices_mut by of left (slice with' debris, tt)))
      → Called part words l (cut debris) (answered_over n 0 after left)
  ranges : (t : Lfts 3) (at by of : Location) {first count n m : ℕ} → ThirtyThreeBits m
      → Range.Learnt t (part, (slice at words, slices by of l (first, (count, tt)))) (8589934592 * n + m) (part, (slice at words, slices by of l (first, (count, tt))))
      → Called part words l (range first count) (answered_over n 0 words l)

-- a run of calls, each on words and over what is lent as the one before left them; it is told by the refusals that the answers' numbers name
pub record Held : Type 0 where
  pub words : List ℕ
  pub lent : Lent
  pub turns : List Turn

abbrev pub held : (words : List ℕ) → Lent → List Turn → Held
held words l turns = record { words = words; lent = l; turns = turns }

abbrev pub call_turn : Event → Refusal → Faced → Turn
call_turn e n f = record { event = e; refusal = n; word = f.word }

pub data Calls (part : ℕ) : (words : List ℕ) → Lent → List Event → Held → Type 0 where
  none : {words : List ℕ} {l : Lent} → Calls part words l [] (held words l [])
  more : {words : List ℕ} {l : Lent} {e : Event} {es : List Event} {f : Faced} {n : Refusal} {rest : Held}
      → Called part words l e f → number n ≡ f.refusal → Calls part f.image (lent_after f) es rest
      → Calls part words l (e ∷ es) (held rest.words rest.lent (call_turn e n f ∷ rest.turns))

-- a run of calls on what `k5l_fresh` made, over any cells and one-time words
pub record CallRuns (part : ℕ) (start : Lent) (es : List Event) (ran : Held) : Type 0 where
  pub known : is_part part ≡ true
  pub first : List ℕ
  pub made : Made first
  pub calls : Calls part first start es ran
