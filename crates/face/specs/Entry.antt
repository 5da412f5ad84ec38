-- The checks that each call of an event begins with.
use Rattle.std.specs.Prelude.{Result, Err}
use Rattle.std.specs.Prelude.{ℕ, List}
use Rattle.plain.specs.declared.Refusal.TheVariants.{State}
use Rattle.std.specs.Prelude.{if◌then◌else◌}
use Rattle.plain.specs.Lent.{lent}
use Rattle.plain.specs.Machine.{entry}
use Rattle.layout.specs.Image.{device_of}
use Rattle.face.specs.Face.{part_named, stands}
use Rattle.plain.specs.declared.Refusal.{Refusal}

-- STATE, then CELLS
unfoldable pub face_entry : (part : ℕ) → (image cells otp : List ℕ) → Result Unit Refusal
face_entry part i cells otp = if stands part i then entry (part_named part) (device_of i) (lent cells otp) else Err State
