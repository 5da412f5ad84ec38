-- A set can hold 320 numbers, more than a part has blocks.
use Rattle.std.specs.Prelude.{Bool, ◌&&◌, not, ltb}
use Rattle.blocks.specs.declared.Blocks.{Blocks}
use Rattle.blocks.specs.Blocks.{has, some}
use Rattle.geometry.specs.declared.Part.{Part}
use Rattle.geometry.specs.Parts.{block_count}

-- is there a number in it that is no block's? "block numbers are in range" rules it out
abbrev pub stray_in : Part → Blocks → Bool
stray_in p s = some (λ b. not (ltb b (block_count p)) && has s b) 320
