-- Document 02, request 6, "Catch programs that cannot work": RAISE is answered exactly where a program, once started, would have left
-- something else than its data. What a finished program leaves is told in Promises.
use Rattle.std.specs.Prelude.{ℕ, ◌<◌, ◌≡◌, true, false}
use Rattle.geometry.specs.declared.Part.{Part}
use Rattle.geometry.specs.Parts.{word_count}
use Rattle.plain.specs.declared.Written.{Written}
use Rattle.plain.specs.declared.Refusal.TheVariants.{Done, Raise}
use Rattle.plain.specs.declared.Command.TheVariants.{Ground, Entering}
use Rattle.plain.specs.declared.Cycle.TheVariants.{ProgramData}
use Rattle.plain.specs.declared.Device.{Device}
use Rattle.plain.specs.Commands.{keeps_out, begins, started}
use Rattle.plain.specs.Events.{Event, write}
use Rattle.plain.specs.Figures.{program_time}
use Rattle.plain.specs.Lent.{Lent, word_at}
use Rattle.plain.specs.Machine.{Outcome, outcome, Fit, step}
use Rattle.plain.specs.Operations.{suspension_of, selected}
use Rattle.plain.specs.Programs.{writing, writes, datum, array_written, barred}
use Rattle.plain.specs.Record.{device, answer}
use Rattle.plain.specs.Time.{moment, ticks}

-- what a write at an address asks for, if it is the data cycle of a program: of which array, the mode and the address select
abbrev pub asks : Device → (a w : ℕ) → Written
asks r a w = writing (selected (suspension_of r.operation) a) a w

-- a write that would start a program, whatever its data: the data cycle after A0H, that neither PROTECTED (of a one-time word OTPLOCKED)
-- nor SUSPENDED refuses
pub record WouldStart (p : Part) (r : Device) (l : Lent) (a w : ℕ) : Type 0 where
  pub fit : Fit p r l
  pub in-part : a < word_count p
  pub cycle : r.command ≡ Entering ProgramData
  pub unbarred : barred p r.bits (asks r a w) ≡ false
  pub allowed : keeps_out p (suspension_of r.operation) (asks r a w) ≡ false

-- what is lent once that program, started all the same, has run its time
abbrev pub would_leave : Part → Device → Lent → (a w : ℕ) → Lent
would_leave p r l a w = (ticks p (program_time p) (moment r.meter (begins (suspension_of r.operation) (started p (asks r a w))) l)).lent

-- it would leave its data
abbrev pub Works : Part → Device → Lent → (a w : ℕ) → Type 0
Works p r l a w =
    (x : ℕ) → writes (asks r a w) (array_written (asks r a w)) x ≡ true
    → word_at (would_leave p r l a w) (array_written (asks r a w)) x ≡ datum (asks r a w) x

-- a write that would start a program, and not leave its data
pub data CannotWork (p : Part) (r : Device) (l : Lent) : Event → Type 0 where
  spoils : {a w : ℕ} → WouldStart p r l a w → (Works p r l a w → ⊥) → CannotWork p r l (write a w)

-- "refused before it starts, cells and charge untouched, register back to ground"; a suspension stands
abbrev pub raised : Device → Lent → Outcome
raised r l = outcome (answer Raise 0 (device r.meter Ground r.operation r.bits)) l

-- ---- the statements, on any record, sound or not, whatever is lent

-- RAISE is answered to no other event ..
abbrev pub RaiseOnly : Part → Type 0
RaiseOnly p = (r : Device) (l : Lent) (e : Event) → (step p r l e).answer.refusal ≡ Raise → CannotWork p r l e

-- .. to each such write, and then nothing else changes ..
abbrev pub RaiseAlways : Part → Type 0
RaiseAlways p = (r : Device) (l : Lent) (e : Event) → CannotWork p r l e → step p r l e ≡ raised r l

-- .. and a program that leaves its data is taken
abbrev pub OthersStart : Part → Type 0
OthersStart p = (r : Device) (l : Lent) (a w : ℕ) → WouldStart p r l a w → Works p r l a w → (step p r l (write a w)).answer.refusal ≡ Done
