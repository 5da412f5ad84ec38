-- An item, byte by byte, as the reader keeps it.
use Rattle.std.specs.Prelude.{ℕ, ◌+◌, ◌*◌, Bool, false, Option, Some, None, eqb, ltb}
use Rattle.std.specs.Prelude.{if◌then◌else◌}
use Rattle.spelling.specs.declared.numbers.Number.{Number}
use Rattle.spelling.specs.declared.Item.{Item}
use Rattle.spelling.specs.declared.Times.{Times}
use Rattle.spelling.specs.declared.Words.{Words}
use Rattle.spelling.specs.Numbers.{next_number, value_of}

abbrev pub item : (letters : ℕ) (remark : Bool) → Times → Number → Item
item letters remark times number = record { letters = letters; remark = remark; times = times; number = number }

abbrev pub no_item : Item
no_item = item 1 false Times.Once Number.Nothing

-- 1, then a digit of base 256 for each of the first six bytes
unfoldable pub spelt_on : (letters byte : ℕ) → ℕ
spelt_on letters byte = if ltb 0xffffffffffff letters then letters else letters * 256 + byte

-- is the first byte `#`?
unfoldable pub remarks_on : (letters : ℕ) (remark : Bool) (byte : ℕ) → Bool
remarks_on letters remark byte = if eqb letters 1 then eqb byte 35 else remark

-- a number as the N of `N*W`, "N at most 16384"
unfoldable pub counted_by : Option ℕ → Times
counted_by None = Times.Wrong
counted_by (Some n) = if ltb 16384 n then Times.Wrong else Times.Of n

-- a `*` behind a number
unfoldable pub starred_by : Times → Option ℕ → Times
starred_by Times.Once number = counted_by number
starred_by (Times.Of n) number = Times.Wrong
starred_by Times.Wrong number = Times.Wrong

-- the item with one byte more
unfoldable pub next_item : Item → (byte : ℕ) → Item
next_item i b =
    if eqb b 42
    then item (spelt_on i.letters b) (remarks_on i.letters i.remark b) (starred_by i.times (value_of i.number)) Number.Nothing
    else item (spelt_on i.letters b) (remarks_on i.letters i.remark b) i.times (next_number i.number b)

-- the item as a number, which nothing repeats
unfoldable pub unrepeated : Times → Option ℕ → Option ℕ
unrepeated Times.Once number = number
unrepeated (Times.Of n) number = None
unrepeated Times.Wrong number = None

abbrev pub number_of : Item → Option ℕ
number_of i = unrepeated i.times (value_of i.number)

abbrev pub some_words : (times word : ℕ) → Option Words
some_words times word = Some (record { times = times; word = word })

-- the item as words, W or `N*W`, "a word at most FFFFH"
unfoldable pub words_by : Times → (value : ℕ) → Option Words
words_by Times.Once value = some_words 1 value
words_by (Times.Of n) value = some_words n value
words_by Times.Wrong value = None

unfoldable pub repeated_by : Times → (value : ℕ) → Option Words
repeated_by times value = if ltb 0xffff value then None else words_by times value

unfoldable pub as_words : Times → Option ℕ → Option Words
as_words times None = None
as_words times (Some value) = repeated_by times value

abbrev pub words_of : Item → Option Words
words_of i = as_words i.times (value_of i.number)
