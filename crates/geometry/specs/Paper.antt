-- The paper's own figures, to be held against the definitions: its table of six runs, and row a of its bench table.
use Rattle.std.specs.Prelude.{ℕ, ◌/◌, List, [], ◌∷◌}
use Rattle.geometry.specs.declared.Part.{Part}
use Rattle.geometry.specs.Parts.{bank_of_block, first_of, size_of}
use Rattle.geometry.specs.Asked.{refusal_asked, block_asked}

-- a run of blocks: its first and its last block, their bank, the words of each and the first word of the run
pub record Row : Type 0 where
  pub first : ℕ
  pub last : ℕ
  pub bank : ℕ
  pub words : ℕ
  pub word : ℕ

abbrev row : ℕ → ℕ → ℕ → ℕ → ℕ → Row
row f l k n w = record { first = f; last = l; bank = k; words = n; word = w }

-- document 01, "The die and its small twin", the table
abbrev pub table : List Row
table =
    row 0 7 0 4096 0
    ∷ row 8 38 0 32768 32768
    ∷ row 39 134 1 32768 1048576
    ∷ row 135 230 2 32768 4194304
    ∷ row 231 261 3 32768 7340032
    ∷ row 262 269 3 4096 8355840
    ∷ []

-- "The small part divides every size and first word by 512"
abbrev pub divided : Row → Row
divided r = row r.first r.last r.bank (r.words / 512) (r.word / 512)

-- what a part has at a run's first block, and, of bank and size, at its last
abbrev pub at_first : Part → Row → Row
at_first p r = row r.first r.last (bank_of_block p r.first) (size_of p r.first) (first_of p r.first)

abbrev pub at_last : Part → Row → Row
at_last p r = row r.first r.last (bank_of_block p r.last) (size_of p r.last) r.word

-- what is told of an address: the refusal, and the block
pub record Told : Type 0 where
  pub address : ℕ
  pub refusal : ℕ
  pub block : ℕ

abbrev told : ℕ → ℕ → ℕ → Told
told a r b = record { address = a; refusal = r; block = b }

-- "a* Addresses 7, 8, 63, .. lie in blocks 0, 1, 7, .. 16384 is ADDRESS."
abbrev pub row_a : List Told
row_a =
    told 7 0 0
    ∷ told 8 0 1
    ∷ told 63 0 7
    ∷ told 64 0 8
    ∷ told 2047 0 38
    ∷ told 2048 0 39
    ∷ told 8191 0 134
    ∷ told 8192 0 135
    ∷ told 16319 0 261
    ∷ told 16320 0 262
    ∷ told 16383 0 269
    ∷ told 16384 3 0
    ∷ []

-- what a part is asked, told by the definitions
abbrev pub tells : Part → Told → Told
tells p r = told r.address (refusal_asked p r.address) (block_asked p r.address)
