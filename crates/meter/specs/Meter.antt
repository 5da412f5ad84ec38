use Rattle.std.specs.Prelude.{ℕ, ◌+◌}
use Rattle.meter.specs.declared.Meter.{Meter}

-- time and charge are added to the meter (document 01, "Time, charge and the cells")
abbrev pub metered : Meter → ℕ → ℕ → Meter
metered m microseconds picocoulombs = record { clock = m.clock + microseconds; charge = m.charge + picocoulombs }
