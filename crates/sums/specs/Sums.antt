-- The two sums over words that the `end` line and the line of a range tell: of the cells, the one-time words, or the range.
use Rattle.std.specs.Prelude.{ℕ, ◌+◌, ◌%◌, List, [], ◌∷◌}
use Rattle.sums.specs.declared.Sums.{Sums}

-- "S1 = (S1 + cell) mod 65521 and S2 = (S2 + S1) mod 65521"
abbrev pub with_cell : Sums → (cell : ℕ) → Sums
with_cell s cell = record { first = (s.first + cell) % 65521; second = (s.second + (s.first + cell) % 65521) % 65521 }

-- "for each cell, in rising address"
unfoldable pub summed : Sums → (cells : List ℕ) → Sums
summed s [] = s
summed s (cell ∷ cells) = summed (with_cell s cell) cells

-- "S1 and S2 start at 0"
abbrev pub sums_of : (cells : List ℕ) → Sums
sums_of cells = summed (record { first = 0; second = 0 }) cells
