-- A whole line read: its bytes fed one after the other, and the line ended.
use Rattle.std.specs.Prelude.{ℕ, List, [], ◌∷◌, length}
use Rattle.script.specs.declared.Line.{Line}
use Rattle.language.specs.Language.{Meaning}
use Rattle.language.specs.Orders.{seen}
use Rattle.script.specs.Lines.{no_line, fed_line, fed_words, ended_order, ended_words}

-- what the reader gives for the further bytes of a line
unfoldable pub read_from : Line → (words bytes : List ℕ) → Meaning
read_from l words [] = seen (ended_order l (length words)) (ended_words l words)
read_from l words (b ∷ bytes) = read_from (fed_line l b (length words)) (fed_words l b words) bytes

-- what the reader gives for a line
abbrev pub read_line : (words bytes : List ℕ) → Meaning
read_line words bytes = read_from no_line words bytes
