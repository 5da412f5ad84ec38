-- The record after a cut, of the two parts that stand.
use Rattle.meter.specs.declared.Meter.{Meter}
use Rattle.protection.specs.declared.Protection.{Protection}
use Rattle.protection.specs.Protection.{after_cut}
use Rattle.plain.specs.declared.Operation.TheVariants.{Idle}
use Rattle.plain.specs.declared.Command.TheVariants.{Ground}
use Rattle.plain.specs.declared.Device.{Device}
use Rattle.plain.specs.Record.{device}

abbrev pub cut_of : Meter → Protection → Device
cut_of m b = device m Ground Idle (after_cut b)
