-- The promises of plain/specs/Promises, of the public functions: for every answer that their contracts allow.
use Rattle.std.specs.Prelude.{Some}
use Rattle.std.specs.Prelude.{ℕ, ◌<◌, ◌≡◌, true, false, List}
use Rattle.geometry.specs.declared.Part.{Part}
use Rattle.geometry.specs.Parts.{word_count, bank_of}
use Rattle.plain.specs.declared.Array.{Array}
use Rattle.plain.specs.declared.Array.TheVariants.{Main}
use Rattle.plain.specs.declared.Refusal.TheVariants.{Done}
use Rattle.plain.specs.declared.Written.{Written}
use Rattle.plain.specs.declared.Device.{Device}
use Rattle.plain.specs.declared.Answer.{Answer}
use Rattle.plain.specs.Ends.{ends_in_wait}
use Rattle.plain.specs.Events.{Event, read, wait, cut}
use Rattle.plain.specs.History.{history}
use Rattle.plain.specs.Holds.{in_block, holds}
use Rattle.plain.specs.Lent.{Lent, words_of, word_at, Whole}
use Rattle.plain.specs.Machine.{Ran}
use Rattle.plain.specs.Programs.{datum}
use Rattle.plain.specs.Promises.{Left, LastEnded, Agrees}
use Rattle.plain.specs.Record.{answer}
use Rattle.plain.specs.Sound.{sound}
use Rattle.plain.specs.SuspendedProgram.{program_rests}
use Rattle.cutting.specs.declared.begun.Exposed.{Exposed}
use Rattle.machine.proofs.exposed.Reads as Exposes
use Rattle.machine.proofs.reads_cells.Reads as Maps
use Rattle.audit.specs.Performed.{Allowed, Runs}
use Rattle.plain.specs.Cut.{spot}

-- demand 3: after any run from `machine::fresh`, and a cut that is answered DONE
abbrev pub Demand3Code : Part → Type 0
Demand3Code p =
    (start after : Lent) (es : List Event) (debris : List ℕ) (ran : Ran) (y : Answer)
    → Runs p start es ran → Allowed p ran.device ran.lent (cut debris) y after → y.refusal ≡ Done
    → Left p start (history p ran.turns) debris y.device after

-- at every moment of a run each word of either array holds what the facts say
abbrev pub HoldingCode : Part → Type 0
HoldingCode p =
    (start : Lent) (es : List Event) (ran : Ran) → Runs p start es ran → (y : Array) (x : ℕ) → x < words_of p y
    → word_at ran.lent y x ≡ holds p start (history p ran.turns).facts y x

-- document 02, request 6: a program that was taken and finished left its data, where nothing has befallen the word since
abbrev pub ProgramsLeaveDataCode : Part → Type 0
ProgramsLeaveDataCode p =
    (start : Lent) (es : List Event) (ran : Ran) → Runs p start es ran → (y : Array) (x : ℕ) (d : Written) → x < words_of p y
    → LastEnded p y x d (history p ran.turns).facts → word_at ran.lent y x ≡ datum d x

-- clock and charge are what the history of accepted waits gives
abbrev pub ChargeCode : Part → Type 0
ChargeCode p = (start : Lent) (es : List Event) (ran : Ran) → Runs p start es ran → Agrees (history p ran.turns) ran.device

-- "any two results allowed by it can be proved equal": once for all events
abbrev pub SameAnswer : Part → Type 0
SameAnswer p =
    (r : Device) (l one two : Lent) (e : Event) (y z : Answer) → Allowed p r l e y one → Allowed p r l e z two → (y ≡ z) × (one ≡ two)

-- no cut changes a word of either array outside what `machine::exposed` told of the record, whatever is lent, and refused or not
abbrev pub Spared : Part → Type 0
Spared p =
    (r : Device) (l after : Lent) (debris : List ℕ) (y : Answer) (told : Exposed) (z : Array) (x : ℕ)
    → Exposes.Learnt tt (p, (r, tt)) told (p, (r, tt)) → Allowed p r l (cut debris) y after
    → (told.word ≡ Some (spot z x) → ⊥) → ((b : ℕ) → told.block ≡ Some b → in_block p b z x ≡ false) → word_at after z x ≡ word_at l z x

-- where `machine::reads_cells` said yes of a bank, a read there gives the cell and changes nothing
abbrev pub ReadsCells : Part → Type 0
ReadsCells p =
    (r : Device) (l after : Lent) (a : ℕ) (y : Answer) → Maps.Learnt tt (p, (r, (bank_of p a, tt))) true (p, (r, (bank_of p a, tt)))
    → Whole p l → a < word_count p → Allowed p r l (read a) y after → y ≡ answer Done (word_at l Main a) r

-- ---- what cannot happen (plain/specs/Ends, SuspendedProgram)

-- in a wait that is taken no operation ends in a block then protected, nor a program in a one-time word then locked, whatever the record
-- was
abbrev pub WaitsSpareProtected : Part → Type 0
WaitsSpareProtected p =
    (r : Device) (l after : Lent) (n : ℕ) (y : Answer) → Allowed p r l (wait n) y after → y.refusal ≡ Done → ends_in_wait p r l n ≡ false

-- and none will after any run from `machine::fresh`
abbrev pub RunsSpareProtected : Part → Type 0
RunsSpareProtected p =
    (start : Lent) (es : List Event) (ran : Ran) (l : Lent) (n : ℕ) → Runs p start es ran → ends_in_wait p ran.device l n ≡ false

-- "every event on a sound record leaves a sound one"
abbrev pub AnswersStaySound : Part → Type 0
AnswersStaySound p = (r : Device) (l after : Lent) (e : Event) (y : Answer) → Allowed p r l e y after → sound p r ≡ true → sound p y.device ≡ true

-- no event suspends a program
abbrev pub AnswersSuspendNoProgram : Part → Type 0
AnswersSuspendNoProgram p =
    (r : Device) (l after : Lent) (e : Event) (y : Answer) → Allowed p r l e y after → program_rests r.operation ≡ false → program_rests y.device.operation ≡ false

-- after any run from `machine::fresh`
abbrev pub RunsSuspendNoProgram : Part → Type 0
RunsSuspendNoProgram p = (start : Lent) (es : List Event) (ran : Ran) → Runs p start es ran → program_rests ran.device.operation ≡ false
