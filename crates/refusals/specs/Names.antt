-- The names of the answers, as bytes.
use Rattle.std.specs.Prelude.{ℕ, List}
use Rattle.plain.specs.declared.Refusal.{Refusal}
use Rattle.plain.specs.declared.Refusal.TheVariants.{Done, State, Cells, Address, Clock, Debris, Busy, Sequence, Bank, Protected, Suspended, Locked, OtpLocked, Raise}
use Rattle.printing.specs.Text.{ascii}

-- document 01, "Refusals by number"
unfoldable pub name : Refusal → List ℕ
name Done = ascii "DONE"
name State = ascii "STATE"
name Cells = ascii "CELLS"
name Address = ascii "ADDRESS"
name Clock = ascii "CLOCK"
name Debris = ascii "DEBRIS"
name Busy = ascii "BUSY"
name Sequence = ascii "SEQUENCE"
name Bank = ascii "BANK"
name Protected = ascii "PROTECTED"
name Suspended = ascii "SUSPENDED"
name Locked = ascii "LOCKED"
name OtpLocked = ascii "OTPLOCKED"
name Raise = ascii "RAISE"
