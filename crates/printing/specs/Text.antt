-- Text as bytes: letters, and numbers as the answers write them.
use Rattle.std.specs.Prelude.{ℕ, zero, suc, ◌/◌, ◌%◌, cond, List, [], ◌∷◌, ◌++◌, ltb, get_or}
use Prim.Native.Char.{code}
use Prim.Native.String.{String}
use Prim.Native.String.{[] as none, ◌∷◌ as ◌then◌}

-- the bytes of a text of ASCII
abbrev pub ascii : (text : String) → List ℕ
ascii none = []
ascii (letter then text) = code letter ∷ ascii text

-- an item of a line, behind a blank
abbrev pub item : (bytes : List ℕ) → List ℕ
item bytes = ascii " " ++ bytes

unfoldable pub digit : (value : ℕ) → ℕ
digit value = get_or (ascii "0123456789ABCDEF") value 0

-- a number of at most so many places in decimal, without leading zeros: 0 is `0`
unfoldable pub decimal_within : (places n : ℕ) → List ℕ
decimal_within zero n = []
decimal_within (suc places) n = cond (ltb n 10) (digit n ∷ []) (decimal_within places (n / 10) ++ (digit (n % 10) ∷ []))

-- 20 places hold every number of 64 bits
abbrev pub decimal : (n : ℕ) → List ℕ
decimal n = decimal_within 20 n

-- "the word as four hexadecimal digits"
abbrev pub hexadecimal : (word : ℕ) → List ℕ
hexadecimal word = digit (word / 4096 % 16) ∷ digit (word / 256 % 16) ∷ digit (word / 16 % 16) ∷ digit (word % 16) ∷ []
