-- An order: what its words need, and what it means with them.
use Rattle.std.specs.Prelude.{ℕ, ◌+◌, ◌≤◌, List, take}
use Rattle.language.specs.declared.Order.{Order}
use Rattle.language.specs.Language.{Meaning, nothing, malformed, read, write, wait, cut, range, cell, otp, fresh}

-- as many words as are lent, and as there are to set
abbrev pub Within : Order → (room : ℕ) → Type 0
Within Order.Nothing room = Unit {0}
Within Order.Malformed room = Unit {0}
Within (Order.Read address) room = Unit {0}
Within (Order.Write address word) room = Unit {0}
Within (Order.Wait microseconds) room = Unit {0}
Within (Order.Cut count) room = count ≤ room
Within (Order.Range first count) room = Unit {0}
Within (Order.Cell address count) room = (address + count ≤ 16384) × (count ≤ room)
Within (Order.Otp address count) room = (address + count ≤ 256) × (count ≤ room)
Within Order.Fresh room = Unit {0}

-- an order with the lent words that it names
abbrev pub seen : Order → (words : List ℕ) → Meaning
seen Order.Nothing words = nothing
seen Order.Malformed words = malformed
seen (Order.Read address) words = read address
seen (Order.Write address word) words = write address word
seen (Order.Wait microseconds) words = wait microseconds
seen (Order.Cut count) words = cut (take count words)
seen (Order.Range first count) words = range first count
seen (Order.Cell address count) words = cell address (take count words)
seen (Order.Otp address count) words = otp address (take count words)
seen Order.Fresh words = fresh
