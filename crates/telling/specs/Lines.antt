-- The lines of answers, as bytes (docs/REPLAY.md). `line` is the number of the script's line.
use Rattle.std.specs.Prelude.{ℕ, List, ◌++◌}
use Rattle.plain.specs.declared.Array.{Array}
use Rattle.plain.specs.declared.Refusal.{Refusal}
use Rattle.plain.specs.Refusals.{number}
use Rattle.refusals.specs.Names.{name}
use Rattle.printing.specs.Text.{ascii, item, decimal, hexadecimal}

-- "the script's line number, the refusal's number and name, the word as four hexadecimal digits, clock, charge"
unfoldable pub event_line : (line : ℕ) → Refusal → (word clock charge : ℕ) → List ℕ
event_line line refusal word clock charge =
    decimal line ++ item (decimal (number refusal)) ++ item (name refusal) ++ item (hexadecimal word) ++ item (decimal clock) ++ item (decimal charge) ++ ascii "\n"

-- "answered `LINE malformed`"
unfoldable pub malformed_line : (line : ℕ) → List ℕ
malformed_line line = decimal line ++ ascii " malformed\n"

-- "`46 block 39 2048 2111` (block, first word, last word: it holds the debris)"
unfoldable pub block_line : (line block first last : ℕ) → List ℕ
block_line line block first last =
    decimal line ++ ascii " block" ++ item (decimal block) ++ item (decimal first) ++ item (decimal last) ++ ascii "\n"

-- what an exposed word is called, and what the array of a range
abbrev pub word_name : Array → List ℕ
word_name Array.Main = ascii "word"
word_name Array.OneTime = ascii "otp"

abbrev pub array_name : Array → List ℕ
array_name Array.Main = ascii "main"
array_name Array.OneTime = ascii "otp"

-- "`46 word 3001 FFFF FF55` or `49 otp 129 FFFF FF0F` (address, before, after)"
unfoldable pub word_line : (line : ℕ) → Array → (address before after : ℕ) → List ℕ
word_line line array address before after =
    decimal line ++ item (word_name array) ++ item (decimal address) ++ item (hexadecimal before) ++ item (hexadecimal after) ++ ascii "\n"

-- two sums, S1 and S2 or O1 and O2
abbrev pub two_sums : (first second : ℕ) → List ℕ
two_sums first second = item (decimal first) ++ item (decimal second)

-- "the array that its words are of, first address, number of words, and two sums over them"
unfoldable pub range_line : (line : ℕ) → Array → (first count s1 s2 : ℕ) → List ℕ
range_line line array first count s1 s2 =
    decimal line ++ item (array_name array) ++ item (decimal first) ++ item (decimal count) ++ two_sums s1 s2 ++ ascii "\n"

-- "`end CLOCK CHARGE S1 S2 O1 O2`"
unfoldable pub end_line : (clock charge s1 s2 o1 o2 : ℕ) → List ℕ
end_line clock charge s1 s2 o1 o2 =
    ascii "end" ++ item (decimal clock) ++ item (decimal charge) ++ two_sums s1 s2 ++ two_sums o1 o2 ++ ascii "\n"
