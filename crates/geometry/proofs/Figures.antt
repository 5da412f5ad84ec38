-- The paper's figures are what the definitions give.
use mathlib.Core.Path.{◌≡◌, refl}
use mathlib.Core.List.{map}
use Rattle.geometry.specs.declared.Part.TheVariants.{Small, Full}
use Rattle.geometry.specs.Parts.{unit_of, size_in, first_in, block_in, bank_in, bank_of_block}
use Rattle.geometry.specs.Asked.{refusal_asked, block_asked}
use Rattle.geometry.specs.Paper.{table, divided, at_first, at_last, row_a, tells}

-- the six runs of the die, at their first blocks and at their last
pub runs-full : map (at_first Full) table ≡ table
unfolding unit_of size_in first_in bank_in bank_of_block
runs-full = refl

pub runs-full-last : map (at_last Full) table ≡ table
unfolding unit_of size_in first_in bank_in bank_of_block
runs-full-last = refl

-- and of the small part, 512 times smaller
pub runs-small : map (at_first Small) (map divided table) ≡ map divided table
unfolding unit_of size_in first_in bank_in bank_of_block
runs-small = refl

pub runs-small-last : map (at_last Small) (map divided table) ≡ map divided table
unfolding unit_of size_in first_in bank_in bank_of_block
runs-small-last = refl

-- row a of the bench table
pub row-a : map (tells Small) row_a ≡ row_a
unfolding unit_of block_in refusal_asked block_asked
row-a = refl
