-- Numbers and words, and their text.
use Rattle.std.specs.Prelude.{◌≡◌, refl, [], ◌∷◌, map}
use Rattle.printing.specs.Text.{ascii, digit, decimal, decimal_within, hexadecimal}

pub decimals : map decimal (0 ∷ 7 ∷ 10 ∷ 905 ∷ 17015171800 ∷ 18446744073709551615 ∷ []) ≡ map ascii ("0" ∷ "7" ∷ "10" ∷ "905" ∷ "17015171800" ∷ "18446744073709551615" ∷ [])
unfolding digit decimal_within
decimals = refl

pub words : map hexadecimal (0 ∷ 0x4C ∷ 0x12AF ∷ 0xFF55 ∷ []) ≡ map ascii ("0000" ∷ "004C" ∷ "12AF" ∷ "FF55" ∷ [])
unfolding digit
words = refl
