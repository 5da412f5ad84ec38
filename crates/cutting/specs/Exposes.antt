-- What a cut would change.
use Rattle.geometry.specs.declared.Part.{Part}
use Rattle.plain.specs.declared.Operation.{Operation}
use Rattle.plain.specs.Cut.{begun_block, begun_program, word_of}
use Rattle.cutting.specs.declared.begun.Exposed.{Exposed}

-- the block and the word that a cut would change if it came now
abbrev pub exposed_by : Part → Operation → Exposed
exposed_by p o = record { block = begun_block p o; word = word_of (begun_program p o) }
