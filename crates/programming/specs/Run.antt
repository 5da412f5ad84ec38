-- What n microseconds make of a program, wherever it stands.
use Rattle.std.specs.Prelude.{ℕ, ◌-◌, ◌*◌, ltb, Option, Some, None, if◌then◌else◌}
use Rattle.meter.specs.declared.Meter.{Meter}
use Rattle.meter.specs.Meter.{metered}
use Rattle.geometry.specs.declared.Part.{Part}
use Rattle.plain.specs.declared.Program.{Program}
use Rattle.plain.specs.Figures.{running_current, standby_current}
use Rattle.plain.specs.Lent.{Lent}
use Rattle.plain.specs.Programs.{finished}
use Rattle.plain.specs.Record.{program_left}

-- what is left of it: nothing once its time is over
abbrev pub left_of : Program → (n : ℕ) → Option Program
left_of q n = if ltb n q.left then Some (program_left q (q.left - n)) else None

-- it draws the running current until it ends, and from then on the standby current is drawn
abbrev pub drawn_by : Part → Meter → Program → (n : ℕ) → Meter
drawn_by p m q n =
    if ltb n q.left then metered m n (n * running_current p)
    else metered (metered m q.left (q.left * running_current p)) (n - q.left) ((n - q.left) * standby_current p)

-- its word is written when it ends
abbrev pub lent_after : Program → (n : ℕ) → Lent → Lent
lent_after q n l = if ltb n q.left then l else finished q.writes l
