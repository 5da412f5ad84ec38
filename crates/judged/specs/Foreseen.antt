-- What is foreseen of a device if nobody writes, and of a cut that might come: told of a sound record alone.
use Rattle.std.specs.Prelude.{ℕ, Option, None, Some}
use Rattle.geometry.specs.declared.Part.{Part}
use Rattle.plain.specs.declared.Device.{Device}
use Rattle.std.specs.Prelude.{if◌then◌else◌}
use Rattle.plain.specs.Cut.{debris_needed}
use Rattle.plain.specs.Operations.{running_of}
use Rattle.plain.specs.Sound.{sound}
use Rattle.remaining.specs.declared.Change.{Change}
use Rattle.remaining.specs.declared.Change.TheVariants.{Never}
use Rattle.remaining.specs.Remaining.{change_of, until_end}

-- how many microseconds until nothing runs any more
unfoldable pub end_now : Part → Device → Option ℕ
end_now p r = if sound p r then Some (until_end p (running_of r.operation)) else None

-- what the device does next by itself
unfoldable pub change_now : Part → Device → Change
change_now p r = if sound p r then change_of (running_of r.operation) else Never

-- how many words of debris a cut would need if it came now
unfoldable pub debris_now : Part → Device → Option ℕ
debris_now p r = if sound p r then Some (debris_needed p r.operation) else None
