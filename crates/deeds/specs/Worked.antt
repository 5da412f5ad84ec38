-- Lines that are no events, done on a fresh device over two cells and two one-time words.
use Rattle.std.specs.Prelude.{ℕ, ◌≡◌, refl, List, [], ◌∷◌, map}
use Rattle.cells.specs.Cells.{erased, littered}
use Rattle.plain.specs.Lent.{lent}
use Rattle.plain.specs.Record.{fresh}
use Rattle.language.specs.Language.{Meaning, nothing, malformed, cell, otp}
use Rattle.language.specs.Language.{fresh as freshen}
use Rattle.deeds.specs.Events.{state}
use Rattle.deeds.specs.Deeds.{does}

-- what a line means, and the cells and one-time words that it leaves
pub record Row : Type 0 where
  pub line : Meaning
  pub cells : List ℕ
  pub otp : List ℕ

abbrev pub row : Meaning → (cells otp : List ℕ) → Row
row m cells words = record { line = m; cells = cells; otp = words }

abbrev pub rows : List Row
rows =
    row nothing (1 ∷ 2 ∷ []) (3 ∷ 4 ∷ [])
    ∷ row malformed (1 ∷ 2 ∷ []) (3 ∷ 4 ∷ [])
    ∷ row (cell 1 (7 ∷ [])) (1 ∷ 7 ∷ []) (3 ∷ 4 ∷ [])
    ∷ row (otp 1 (7 ∷ [])) (1 ∷ 2 ∷ []) (3 ∷ 7 ∷ [])
    ∷ row freshen (0xFFFF ∷ 0xFFFF ∷ []) (0xFFFF ∷ 0xFFFF ∷ [])
    ∷ []

pub rows-hold :
    map (λ (r : Row). does r.line fresh (lent (1 ∷ 2 ∷ []) (3 ∷ 4 ∷ []))) rows ≡ map (λ (r : Row). state fresh (lent r.cells r.otp)) rows
unfolding does erased littered
rows-hold = refl
