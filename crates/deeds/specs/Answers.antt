-- All that a script is answered with: each of its lines does what it means and is answered, one after the other.
use Rattle.std.specs.Prelude.{ℕ, ◌+◌, ◌%◌, ◌^◌, Bool, true, false, List, [], ◌∷◌, ◌++◌, eqb}
use Rattle.language.specs.Language.{Meaning, meaning}
use Rattle.deeds.specs.Events.{State}
use Rattle.deeds.specs.Deeds.{does}
use Rattle.deeds.specs.Tells.{tells, last_line}

abbrev pub answers_on : (ends : Bool) (line : List ℕ → Meaning) (number byte : ℕ) (rest : (List ℕ → Meaning) → ℕ → State → List ℕ) → State → List ℕ
answers_on true line n byte rest s =
    tells (line []) n s.device s.lent ++ rest meaning ((n + 1) % 2 ^ 64) (does (line []) s.device s.lent)
answers_on false line n byte rest s = rest (λ bytes. line (byte ∷ bytes)) n s

-- the device's last line, "at the end"
abbrev pub last_of : State → List ℕ
last_of s = last_line s.device s.lent

-- "lines end with LF", the last one with the input: `line` tells what the line under way means with its further bytes. A line's number is
-- of 64 bits
unfoldable pub answers_from : (line : List ℕ → Meaning) (number : ℕ) (bytes : List ℕ) → State → List ℕ
answers_from line n [] s = tells (line []) n s.device s.lent ++ last_of (does (line []) s.device s.lent)
answers_from line n (b ∷ bytes) s = answers_on (eqb b 10) line n b (λ next m. answers_from next m bytes) s

-- all that is written for a script
abbrev pub answers : (bytes : List ℕ) → State → List ℕ
answers bytes s = answers_from meaning 1 bytes s
