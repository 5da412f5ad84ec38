-- What a line does to the device, its cells and its one-time words.
use Rattle.std.specs.Prelude.{ℕ, List, length}
use Rattle.cells.specs.Cells.{erased, littered}
use Rattle.plain.specs.declared.Array.{Array}
use Rattle.plain.specs.declared.Array.TheVariants.{Main, OneTime}
use Rattle.plain.specs.declared.Device.{Device}
use Rattle.plain.specs.Lent.{Lent, lent, array_of, with_array}
use Rattle.plain.specs.Record.{fresh}
use Rattle.language.specs.Language.{Meaning, nothing, malformed, read, write, wait, cut, range, cell, otp}
use Rattle.language.specs.Language.{fresh as freshen}
use Rattle.deeds.specs.Events.{State, state, after_read, after_write, after_wait, after_cut, after_range}

-- words set in one of the arrays, from an address on
abbrev pub with_words : Array → Lent → (address : ℕ) (words : List ℕ) → Lent
with_words y l a words = with_array y l (littered (array_of y l) a (length words) words)

-- as many words as there were, all FFFFH
abbrev pub blank : List ℕ → List ℕ
blank words = erased words 0 (length words)

-- "A line that is none of the above .. changes nothing"; neither does an empty one or a comment
unfoldable pub does : Meaning → Device → Lent → State
does nothing r l = state r l
does malformed r l = state r l
does (read a) r l = after_read r l a
does (write a w) r l = after_write r l a w
does (wait d) r l = after_wait r l d
does (cut debris) r l = after_cut r l debris
does (range first count) r l = after_range r l first count
does (cell a words) r l = state r (with_words Main l a words)
does (otp a words) r l = state r (with_words OneTime l a words)
does freshen r l = state fresh (lent (blank l.cells) (blank l.otp))
