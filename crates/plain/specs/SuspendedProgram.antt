-- Document 02, request 9, "Program suspend goes": no event suspends a program any more. A record that was stored with a suspended
-- program keeps the old rules (Stored).
use Rattle.std.specs.Prelude.{ℕ, ◌<◌, ◌≡◌, Bool, false, List}
use Rattle.geometry.specs.declared.Part.{Part}
use Rattle.geometry.specs.Parts.{word_count}
use Rattle.protection.specs.declared.Protection.{Protection}
use Rattle.plain.specs.declared.Refusal.TheVariants.{Busy}
use Rattle.plain.specs.declared.Program.{Program}
use Rattle.plain.specs.declared.Operation.{Operation}
use Rattle.plain.specs.declared.Operation.TheVariants.{Programming, ProgramSuspended}
use Rattle.plain.specs.declared.Running.TheVariants.{Programs}
use Rattle.plain.specs.declared.Device.{Device}
use Rattle.plain.specs.Commands.{program_is_suspended}
use Rattle.plain.specs.Events.{Event, write}
use Rattle.plain.specs.Lent.{Lent}
use Rattle.plain.specs.Machine.{Fit, refused, step, run}
use Rattle.plain.specs.Operations.{running_of, suspension_of}
use Rattle.plain.specs.Record.{fresh}
use Rattle.plain.specs.Sound.{operation_sound}

-- is a program suspended?
abbrev pub program_rests : Operation → Bool
program_rests o = program_is_suspended (suspension_of o)

-- ---- the statements

-- "B0H during any program becomes BUSY": alone, inside a suspended erase, or resumed; so is every write, and nothing changes
abbrev pub ProgramsTakeNoWrite : Part → Type 0
ProgramsTakeNoWrite p =
    (r : Device) (l : Lent) (q : Program) (a w : ℕ) → Fit p r l → a < word_count p → running_of r.operation ≡ Programs q
    → step p r l (write a w) ≡ refused Busy r l

-- "Stored records that already hold a suspended program stay sound": as sound as if it ran
abbrev pub SuspendedStaysSound : Part → Type 0
SuspendedStaysSound p = (bits : Protection) (q : Program) → operation_sound p bits (ProgramSuspended q) ≡ operation_sound p bits (Programming q)

-- "after that the state is never reached again": no event leads to it, on any record, sound or not, whatever is lent
abbrev pub NoEventSuspendsProgram : Part → Type 0
NoEventSuspendsProgram p =
    (r : Device) (l : Lent) (e : Event) → program_rests r.operation ≡ false → program_rests (step p r l e).answer.device.operation ≡ false

-- so no run of a fresh device ever holds a suspended program
abbrev pub NoRunSuspendsProgram : Part → Type 0
NoRunSuspendsProgram p = (start : Lent) (es : List Event) → program_rests (run p fresh start es).device.operation ≡ false
