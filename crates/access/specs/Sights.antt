-- The answer to a read, by what it shows.
use Rattle.std.specs.Prelude.{Result, Ok, Err}
use Rattle.plain.specs.declared.Refusal.TheVariants.{Done}
use Rattle.plain.specs.declared.Device.{Device}
use Rattle.plain.specs.declared.Answer.{Answer}
use Rattle.plain.specs.Record.{device, answer}
use Rattle.plain.specs.declared.Refusal.{Refusal}
use Rattle.plain.specs.declared.Seen.{Seen}

unfoldable pub sighted : Device → Result Seen Refusal → Answer
sighted r (Err n) = answer n 0 r
sighted r (Ok s) = answer Done s.word (device r.meter r.command s.operation r.bits)
