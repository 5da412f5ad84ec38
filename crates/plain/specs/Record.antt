-- The record with a part of it changed, and an event's answer.
use Rattle.std.specs.Prelude.{ℕ, Bool}
use Rattle.blocks.specs.declared.Blocks.{Blocks}
use Rattle.meter.specs.declared.Meter.{Meter}
use Rattle.protection.specs.declared.Protection.{Protection}
use Rattle.protection.specs.Protection.{fresh_bits}
use Rattle.plain.specs.declared.Refusal.{Refusal}
use Rattle.plain.specs.declared.Written.{Written}
use Rattle.plain.specs.declared.Program.{Program}
use Rattle.plain.specs.declared.Erase.{Erase}
use Rattle.plain.specs.declared.Inside.{Inside}
use Rattle.plain.specs.declared.SuspendedErase.{SuspendedErase}
use Rattle.plain.specs.declared.Recovery.{Recovery}
use Rattle.plain.specs.declared.Operation.{Operation}
use Rattle.plain.specs.declared.Operation.TheVariants.{Idle}
use Rattle.plain.specs.declared.Command.{Command}
use Rattle.plain.specs.declared.Command.TheVariants.{Ground}
use Rattle.plain.specs.declared.Device.{Device}
use Rattle.plain.specs.declared.Answer.{Answer}

abbrev pub device : Meter → Command → Operation → Protection → Device
device m c o b = record { meter = m; command = c; operation = o; bits = b }

abbrev pub program : Written → (left : ℕ) → (six : Bool) → Program
program d l six = record { writes = d; left = l; dq6 = six }

abbrev pub erase : Blocks → (hand left : ℕ) → (six two : Bool) → Erase
erase list h l six two = record { list = list; hand = h; left = l; dq6 = six; dq2 = two }

abbrev pub suspended : Erase → Inside → SuspendedErase
suspended e i = record { erase = e; inside = i }

abbrev pub recovery : Erase → (left : ℕ) → Recovery
recovery e l = record { erase = e; left = l }

-- the same with another time left
abbrev pub program_left : Program → ℕ → Program
program_left q l = program q.writes l q.dq6

abbrev pub erase_left : Erase → ℕ → Erase
erase_left e l = erase e.list e.hand l e.dq6 e.dq2

-- "A fresh device has clock 0, charge 0, no operation, no protection, any cells."
abbrev pub fresh : Device
fresh = device (record { clock = 0; charge = 0 }) Ground Idle fresh_bits

abbrev pub answer : Refusal → ℕ → Device → Answer
answer n w r = record { refusal = n; word = w; device = r }
