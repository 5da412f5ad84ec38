-- What a cut that came upon a block or a word is told by (docs/REPLAY.md): "a line for each exception that it made".
use Rattle.std.specs.Prelude.{Option, None, Some}
use Rattle.std.specs.Prelude.{ℕ, ◌+◌, ◌-◌, List, [], ◌++◌}
use Rattle.geometry.specs.declared.Part.TheVariants.{Small}
use Rattle.geometry.specs.Parts.{first_of, size_of}
use Rattle.plain.specs.declared.Spot.{Spot}
use Rattle.plain.specs.Lent.{Lent, word_at}
use Rattle.cutting.specs.declared.begun.Exposed.{Exposed}
use Rattle.telling.specs.Lines.{block_line, word_line}

-- "block, first word, last word"
unfoldable pub block_lines : (line : ℕ) → Option ℕ → List ℕ
block_lines line None = []
block_lines line (Some block) = block_line line block (first_of Small block) (first_of Small block + size_of Small block - 1)

-- "(address, before, after), of a cell or a one-time word"
unfoldable pub word_lines : (line : ℕ) → Option Spot → (before after : ℕ) → List ℕ
word_lines line None before after = []
word_lines line (Some s) before after = word_line line s.array s.at before after

-- the word at a spot; 0 if there is none
unfoldable pub word_in : Lent → Option Spot → ℕ
word_in l None = 0
word_in l (Some s) = word_at l s.array s.at

-- the block, and then the word, by what is lent before the cut and after it
abbrev pub exception_lines : (line : ℕ) → Exposed → (before after : Lent) → List ℕ
exception_lines line exposed before after =
    let word = exposed.word in
    block_lines line exposed.block ++ word_lines line word (word_in before word) (word_in after word)
