-- A block erase and a chip erase: they differ in name and in the time of a block.
use Rattle.std.specs.Prelude.{ℕ}
use Rattle.geometry.specs.declared.Part.{Part}
use Rattle.plain.specs.declared.Erase.{Erase}
use Rattle.plain.specs.declared.Operation.{Operation}
use Rattle.plain.specs.declared.Operation.TheVariants.{Erasing, ChipErasing}
use Rattle.plain.specs.Figures.{erase_time, chip_time}
use Rattle.erasing.specs.declared.Kind.{Kind}
use Rattle.erasing.specs.declared.Kind.TheVariants.{Block, Chip}

abbrev pub erasing : Kind → Erase → Operation
erasing Block e = Erasing e
erasing Chip e = ChipErasing e

abbrev pub block_time : Part → Kind → ℕ
block_time p Block = erase_time p
block_time p Chip = chip_time p
