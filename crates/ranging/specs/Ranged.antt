-- The answer to a range on a sound record over whole arrays: ADDRESS, then BUSY.
use Rattle.std.specs.Prelude.{ℕ, not}
use Rattle.geometry.specs.declared.Part.{Part}
use Rattle.plain.specs.declared.Operation.{Operation}
use Rattle.plain.specs.declared.Refusal.{Refusal}
use Rattle.plain.specs.declared.Refusal.TheVariants.{Done, Address, Busy}
use Rattle.std.specs.Prelude.{if◌then◌else◌}
use Rattle.plain.specs.Machine.{stays_inside, hands_back}

abbrev pub ranged : Part → Operation → (first count : ℕ) → Refusal
ranged p o first count = if not (stays_inside p o first count) then Address else if hands_back o then Done else Busy
