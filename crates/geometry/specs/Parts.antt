-- Blocks and banks of a part (document 01, "The die and its small twin"). Every size and every first word is a
-- multiple of the part's boot block, its unit: 4,096 words on the die, and 512 times fewer on the small part.
use Rattle.std.specs.Prelude.{ℕ, ◌+◌, ◌-◌, ◌*◌, ◌/◌, cond, ltb}
use Rattle.geometry.specs.declared.Part.{Part}
use Rattle.geometry.specs.declared.Part.TheVariants.{Small, Full}

-- "The part has 8,388,608 words of 16 bits in 270 blocks, numbered here 0 to 269"
unfoldable pub block_count : Part → ℕ
block_count Small = 270
block_count Full = 270

-- "Banks 1A, 1B, 2A, 2B are 0 to 3"
unfoldable pub bank_count : Part → ℕ
bank_count Small = 4
bank_count Full = 4

unfoldable pub unit_of : Part → ℕ
unit_of Small = 8
unit_of Full = 4096

abbrev pub word_count : Part → ℕ
word_count p = unit_of p * 2048

-- ---- in units: eight blocks of one, 254 of eight, eight of one

-- how many units block b has; none past the last block
unfoldable pub size_in : ℕ → ℕ
size_in b = cond (ltb b 8) 1 (cond (ltb b 262) 8 (cond (ltb b 270) 1 0))

-- how many units lie before block b
unfoldable pub first_in : ℕ → ℕ
first_in b = cond (ltb b 8) b (cond (ltb b 262) (8 * (b - 7)) (cond (ltb b 270) (2040 + (b - 262)) 2048))

-- the block that unit k is in
unfoldable pub block_in : ℕ → ℕ
block_in k = cond (ltb k 8) k (cond (ltb k 2040) (7 + k / 8) (262 + (k - 2040)))

-- ---- in words

-- the size of block b
abbrev pub size_of : Part → ℕ → ℕ
size_of p b = unit_of p * size_in b

-- the first word of block b
abbrev pub first_of : Part → ℕ → ℕ
first_of p b = unit_of p * first_in b

-- the block of an address
abbrev pub block_of : Part → ℕ → ℕ
block_of p a = block_in (a / unit_of p)

-- ---- banks

-- the first blocks of 1B, 2A and 2B part the blocks
unfoldable pub bank_in : ℕ → ℕ
bank_in b = cond (ltb b 39) 0 (cond (ltb b 135) 1 (cond (ltb b 231) 2 3))

-- the bank of block b
unfoldable pub bank_of_block : Part → ℕ → ℕ
bank_of_block Small b = bank_in b
bank_of_block Full b = bank_in b

-- the first words of 1B, 2A and 2B part the addresses
unfoldable pub bank_of : Part → ℕ → ℕ
bank_of p a =
    cond (ltb a (unit_of p * 256)) 0 (cond (ltb a (unit_of p * 1024)) 1 (cond (ltb a (unit_of p * 1792)) 2 3))
