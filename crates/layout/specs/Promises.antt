-- What is stated of a record that C holds as words.
use Rattle.std.specs.Prelude.{ℕ, ◌<◌, ◌≡◌, true, List}
use Rattle.plain.specs.declared.Recovery.{Recovery}
use Rattle.plain.specs.declared.Operation.TheVariants.{Recovering}
use Rattle.plain.specs.declared.Device.{Device}
use Rattle.plain.specs.Operations.{selected}
use Rattle.layout.specs.declared.OperationParts.{OperationParts}
use Rattle.layout.specs.Operations.{operation_parts, programs}
use Rattle.layout.specs.Image.{mode, image_of, well_formed, device_of}

-- where there is a program, it writes to the array that its address selects
abbrev pub Selects : OperationParts → Type 0
Selects o = programs o.number ≡ true → o.program.writes.array ≡ selected (mode o.entered) o.program.writes.at

-- as in every record that the code makes: the data of its program is a word of 16 bits, its array the one selected, and a recovery has
-- time left
pub record Fits (r : Device) : Type 0 where
  pub word : (operation_parts r.operation).program.writes.word < 65536
  pub array : Selects (operation_parts r.operation)
  pub recovery : (x : Recovery) → r.operation ≡ Recovering x → 0 < x.left

-- a record is read back as it was written
abbrev pub ReadsBack : Type 0
ReadsBack = (r : Device) → Fits r → device_of (image_of r) ≡ r

-- and its words stand for a record
abbrev pub ImagesStand : Type 0
ImagesStand = (r : Device) → Fits r → well_formed (image_of r) ≡ true

-- no other words stand for it
abbrev pub OneImage : Type 0
OneImage = (words : List ℕ) → well_formed words ≡ true → image_of (device_of words) ≡ words
