-- The sets of blocks that a part has (document 01, "The die and its small twin"). A set can hold 320 numbers, more than
-- a part has blocks.
use Rattle.std.specs.Prelude.{ℕ, ◌&&◌, not, ltb, eqb}
use Rattle.blocks.specs.declared.Blocks.{Blocks}
use Rattle.blocks.specs.Blocks.{set_of}
use Rattle.geometry.specs.declared.Part.{Part}
use Rattle.geometry.specs.Parts.{block_count, bank_of_block}

-- the part's blocks
abbrev pub blocks_of : Part → Blocks
blocks_of p = set_of (λ b. ltb b (block_count p))

-- the numbers that are no block's
abbrev pub strangers : Part → Blocks
strangers p = set_of (λ b. not (ltb b (block_count p)))

-- the numbers that are no block of the bank
abbrev pub outside_bank : Part → ℕ → Blocks
outside_bank p bank = set_of (λ b. not (ltb b (block_count p) && eqb (bank_of_block p b) bank))
