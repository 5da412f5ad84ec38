-- What people ask of a device besides its events.
use Rattle.std.specs.Prelude.{None}
use Rattle.std.specs.Prelude.{ℕ, Bool, ◌&&◌}
use Rattle.geometry.specs.declared.Part.{Part}
use Rattle.plain.specs.declared.Device.{Device}
use Rattle.std.specs.Prelude.{if◌then◌else◌}
use Rattle.plain.specs.Sound.{sound}
use Rattle.cutting.specs.declared.begun.Exposed.{Exposed}
use Rattle.cutting.specs.Exposes.{exposed_by}
use Rattle.mapping.specs.Mapped.{gives_cells}

-- ---- "when the pack runs flat during a firmware update, which words of the flash may have changed"

abbrev pub none_exposed : Exposed
none_exposed = record { block = None; word = None }

-- the block whose erase has begun and the word, of either array, whose program has begun; an unsound record refuses every cut
unfoldable pub exposed_now : Part → Device → Exposed
exposed_now p r =
    if sound p r then exposed_by p r.operation else none_exposed

-- ---- may an emulator map the cells of a bank directly?

unfoldable pub reads_cells : Part → Device → (bank : ℕ) → Bool
reads_cells p r bank = sound p r && gives_cells p r.command r.operation bank
