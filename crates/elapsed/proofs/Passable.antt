-- From what the code finds to what the laws of time ask.
use Prim.Native.Nat.{ℕ, ◌+◌, ◌≤◌}
use mathlib.Core.Path.{refl}
use Rattle.geometry.specs.declared.Part.{Part}
use Rattle.plain.specs.declared.Device.{Device}
use Rattle.plain.specs.Figures.{clock_limit}
use Rattle.plain.specs.Lent.{Lent}
use Rattle.plain.specs.Machine.{Fit}
use Rattle.plain.proofs.Facts.{sound-charge, sound-operation}
use Rattle.moments.specs.Moments.{Passable}

-- a wait within the clock's limit is passable
pub passable : (p : Part) (r : Device) (l : Lent) (n : ℕ) → Fit p r l → r.meter.clock + n ≤ clock_limit p → Passable p r.meter r.operation l n
passable p r l n f h =
    record {
      room = record { clock = h; charge = sound-charge p r f.sound };
      whole = f.whole;
      bits = r.bits;
      sound = sound-operation p r f.sound r.operation refl;
    }
