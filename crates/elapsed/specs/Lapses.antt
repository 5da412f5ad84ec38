-- The answers to a wait, by what it moves, and to a cut, by whether it came.
use Rattle.std.specs.Prelude.{Result, Ok, Err}
use Rattle.plain.specs.declared.Refusal.TheVariants.{Done}
use Rattle.plain.specs.declared.Device.{Device}
use Rattle.plain.specs.declared.Answer.{Answer}
use Rattle.plain.specs.Record.{device, answer}
use Rattle.plain.specs.Cut.{cut_device}
use Rattle.plain.specs.declared.Refusal.{Refusal}
use Rattle.moments.specs.declared.Moved.{Moved}

unfoldable pub lapsed : Device → Result Moved Refusal → Answer
lapsed r (Err n) = answer n 0 r
lapsed r (Ok m) = answer Done 0 (device m.meter r.command m.operation r.bits)

unfoldable pub cut_by : Device → Result Unit Refusal → Answer
cut_by r (Err n) = answer n 0 r
cut_by r (Ok tt) = answer Done 0 (cut_device r)
