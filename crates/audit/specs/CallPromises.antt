-- The promises of plain/specs/Promises, through C: for every run of calls of the header's functions on a record that `k5l_fresh` made.
use Rattle.std.specs.Prelude.{ℕ, ◌<◌, ◌≤◌, ◌≡◌, Bool, true, false, List, eqb, length}
use contract.Lifetimes.{Lfts}
use Rattle.geometry.specs.Parts.{word_count, bank_of}
use Rattle.plain.specs.declared.Array.{Array}
use Rattle.plain.specs.declared.Array.TheVariants.{Main}
use Rattle.plain.specs.declared.Refusal.TheVariants.{Done, State, Debris}
use Rattle.plain.specs.declared.Written.{Written}
use Rattle.plain.specs.Cut.{debris_needed}
use Rattle.plain.specs.Events.{Event, read, cut}
use Rattle.plain.specs.History.{Told, history}
use Rattle.plain.specs.Holds.{in_block, holds}
use Rattle.plain.specs.Lent.{Lent, words_of, word_at, Whole}
use Rattle.plain.specs.Programs.{datum}
use Rattle.plain.specs.Promises.{Left, LastEnded}
use Rattle.plain.specs.Refusals.{number}
use Rattle.layout.specs.Image.{word, device_of}
use Rattle.layout.specs.Places.{operation_at}
use Rattle.face.specs.Face.{Faced, part_named, stands_sound, array_number}
use Rattle.emulator.proofs.asked_of.k5l_exposed_block.Reads as ExposedBlock
use Rattle.emulator.proofs.asked_of.k5l_exposed_word.Reads as ExposedWord
use Rattle.emulator.proofs.asked_of.k5l_exposed_array.Reads as ExposedArray
use Rattle.emulator.proofs.asked_of.k5l_reads_cells.Reads as Maps
use Rattle.emulator.proofs.asked_of.k5l_clock.Reads as Clock
use Rattle.emulator.proofs.asked_of.k5l_charge.Reads as Charge
use Rattle.audit.specs.Slices.{Location, slice}
use Rattle.audit.specs.Called.{Called, answered_over, lent_after, Held, CallRuns}

-- the history of a run of calls
abbrev pub told_of : (part : ℕ) → Held → Told
told_of part ran = history (part_named part) ran.turns

-- demand 3: after a `k5l_cut` that is answered K5L_DONE
abbrev pub Demand3Calls : Type 0
Demand3Calls =
    (part : ℕ) (start : Lent) (debris : List ℕ) (es : List Event) (ran : Held) (f : Faced)
    → CallRuns part start es ran → Called part ran.words ran.lent (cut debris) f → f.refusal ≡ number Done
    → Left (part_named part) start (told_of part ran) debris (device_of f.image) (lent_after f)

-- it is about something: over whole arrays a `k5l_cut` with debris enough is answered K5L_DONE, and a shorter one K5L_DEBRIS
abbrev pub CutTakenCalls : Type 0
CutTakenCalls =
    (part : ℕ) (start : Lent) (debris : List ℕ) (es : List Event) (ran : Held) (f : Faced)
    → CallRuns part start es ran → Called part ran.words ran.lent (cut debris) f → Whole (part_named part) start
    → let needed = debris_needed (part_named part) (device_of ran.words).operation in
    (needed ≤ length debris → f.refusal ≡ number Done) × (length debris < needed → f.refusal ≡ number Debris)

-- no call is answered K5L_STATE after any run, whatever is lent with it
abbrev pub NeverStateCalls : Type 0
NeverStateCalls =
    (part : ℕ) (start l : Lent) (es : List Event) (ran : Held) (e : Event) (f : Faced)
    → CallRuns part start es ran → Called part ran.words l e f → f.refusal ≡ number State → ⊥

-- at every moment of a run each word of either array holds what the facts say
abbrev pub HoldingCalls : Type 0
HoldingCalls =
    (part : ℕ) (start : Lent) (es : List Event) (ran : Held) → CallRuns part start es ran → (y : Array) (x : ℕ) → x < words_of (part_named part) y
    → word_at ran.lent y x ≡ holds (part_named part) start (told_of part ran).facts y x

-- document 02, request 6: a program that was taken and finished left its data, where nothing has befallen the word since
abbrev pub ProgramsLeaveDataCalls : Type 0
ProgramsLeaveDataCalls =
    (part : ℕ) (start : Lent) (es : List Event) (ran : Held) → CallRuns part start es ran → (y : Array) (x : ℕ) (d : Written) → x < words_of (part_named part) y
    → LastEnded (part_named part) y x d (told_of part ran).facts → word_at ran.lent y x ≡ datum d x

-- and what `k5l_clock` and `k5l_charge` answer is what the history of accepted waits gives
abbrev pub ChargeCalls : Type 0
ChargeCalls =
    (part : ℕ) (start : Lent) (es : List Event) (ran : Held) (t : Lfts 1) (at : Location) (clock charge : ℕ)
    → CallRuns part start es ran
    → Clock.Learnt t (part, (slice at ran.words, tt)) clock (part, (slice at ran.words, tt))
    → Charge.Learnt t (part, (slice at ran.words, tt)) charge (part, (slice at ran.words, tt))
    → (clock ≡ (told_of part ran).clock) × (charge ≡ (told_of part ran).charge)

-- any two results that a call may have are equal
abbrev pub SameCall : Type 0
SameCall = (part : ℕ) (words : List ℕ) (l : Lent) (e : Event) (f g : Faced) → Called part words l e f → Called part words l e g → f ≡ g

-- no cut changes a word of either array outside what `k5l_exposed_block`, `k5l_exposed_word` and `k5l_exposed_array` told of the record,
-- refused or not
abbrev pub SparedCalls : Type 0
SparedCalls =
    (part : ℕ) (words : List ℕ) (l : Lent) (debris : List ℕ) (f : Faced) (t : Lfts 1) (at : Location) (block word array : ℕ) (y : Array) (x : ℕ)
    → ExposedBlock.Learnt t (part, (slice at words, tt)) block (part, (slice at words, tt))
    → ExposedWord.Learnt t (part, (slice at words, tt)) word (part, (slice at words, tt))
    → ExposedArray.Learnt t (part, (slice at words, tt)) array (part, (slice at words, tt)) → Called part words l (cut debris) f
    → (array ≡ array_number y → word ≡ x → ⊥) → in_block (part_named part) block y x ≡ false → word_at (lent_after f) y x ≡ word_at l y x

-- where `k5l_reads_cells` said yes of a bank, a read there gives the cell and changes nothing
abbrev pub ReadsCellsCalls : Type 0
ReadsCellsCalls =
    (part : ℕ) (words : List ℕ) (l : Lent) (f : Faced) (t : Lfts 1) (at : Location) (a : ℕ)
    → Maps.Learnt t (part, (slice at words, (bank_of (part_named part) a, tt))) true (part, (slice at words, (bank_of (part_named part) a, tt)))
    → Whole (part_named part) l → a < word_count (part_named part) → Called part words l (read a) f
    → f ≡ answered_over (number Done) (word_at l Main a) words l

-- ---- what cannot happen (plain/specs/Ends, SuspendedProgram)

-- "every event on a sound record leaves a sound one"
abbrev pub CallsStaySound : Type 0
CallsStaySound =
    (part : ℕ) (words : List ℕ) (l : Lent) (e : Event) (f : Faced) → Called part words l e f → stands_sound part words ≡ true → stands_sound part f.image ≡ true

-- "Number 12 stays unused."
abbrev pub CallsNever12 : Type 0
CallsNever12 = (part : ℕ) (words : List ℕ) (l : Lent) (e : Event) (f : Faced) → Called part words l e f → f.refusal ≡ 12 → ⊥

-- word 5 of a record: "2 suspended program"
abbrev pub says_suspended : (words : List ℕ) → Bool
says_suspended i = eqb (word i operation_at) 2

-- whatever the words, sound or not, and whatever is lent
abbrev pub CallsSuspendNoProgram : Type 0
CallsSuspendNoProgram =
    (part : ℕ) (words : List ℕ) (l : Lent) (e : Event) (f : Faced) → Called part words l e f → says_suspended words ≡ false → says_suspended f.image ≡ false

-- after any run of calls on a record that `k5l_fresh` made
abbrev pub CallRunsSuspendNoProgram : Type 0
CallRunsSuspendNoProgram = (part : ℕ) (start : Lent) (es : List Event) (ran : Held) → CallRuns part start es ran → says_suspended ran.words ≡ false
