-- Lines, and what they mean.
use Rattle.std.specs.Prelude.{ℕ, ◌≡◌, refl, List, [], ◌∷◌, map}
use Rattle.language.specs.Language.{Meaning, nothing, malformed, read, write, wait, cut, range, cell, otp, fresh, meaning, without_cr, items_from, digit_of, digits, any_number, words_from, words, same, means}

-- a line's bytes, and what is told of it
pub record Row : Type 0 where
  pub bytes : List ℕ
  pub told : Meaning

abbrev pub row : List ℕ → Meaning → Row
row bytes told = record { bytes = bytes; told = told }

abbrev pub rows : List Row
rows =
    row (114 ∷ 101 ∷ 97 ∷ 100 ∷ 32 ∷ 53 ∷ []) (read 5)  -- read 5
    ∷ row (114 ∷ 101 ∷ 97 ∷ 100 ∷ 32 ∷ 48 ∷ 120 ∷ 49 ∷ 70 ∷ 13 ∷ []) (read 31)  -- read 0x1F\r
    ∷ row (114 ∷ 101 ∷ 97 ∷ 100 ∷ 32 ∷ 53 ∷ 13 ∷ 13 ∷ []) malformed  -- read 5\r\r
    ∷ row (32 ∷ 32 ∷ 35 ∷ 32 ∷ 97 ∷ 32 ∷ 114 ∷ 101 ∷ 109 ∷ 97 ∷ 114 ∷ 107 ∷ []) nothing  --   # a remark
    ∷ row (119 ∷ 114 ∷ 105 ∷ 116 ∷ 101 ∷ 32 ∷ 48 ∷ 120 ∷ 50 ∷ 65 ∷ 65 ∷ 9 ∷ 56 ∷ 53 ∷ []) (write 682 85)  -- write 0x2AA\t85
    ∷ row (119 ∷ 114 ∷ 105 ∷ 116 ∷ 101 ∷ 32 ∷ 49 ∷ 32 ∷ 54 ∷ 53 ∷ 53 ∷ 51 ∷ 54 ∷ []) malformed  -- write 1 65536
    ∷ row (119 ∷ 97 ∷ 105 ∷ 116 ∷ 32 ∷ 49 ∷ 56 ∷ 52 ∷ 52 ∷ 54 ∷ 55 ∷ 52 ∷ 52 ∷ 48 ∷ 55 ∷ 51 ∷ 55 ∷ 48 ∷ 57 ∷ 53 ∷ 53 ∷ 49 ∷ 54 ∷ 49 ∷ 53 ∷ []) (wait 18446744073709551615)  -- wait 18446744073709551615
    ∷ row (119 ∷ 97 ∷ 105 ∷ 116 ∷ 32 ∷ 49 ∷ 56 ∷ 52 ∷ 52 ∷ 54 ∷ 55 ∷ 52 ∷ 52 ∷ 48 ∷ 55 ∷ 51 ∷ 55 ∷ 48 ∷ 57 ∷ 53 ∷ 53 ∷ 49 ∷ 54 ∷ 49 ∷ 54 ∷ []) malformed  -- wait 18446744073709551616
    ∷ row (99 ∷ 117 ∷ 116 ∷ 32 ∷ 50 ∷ 42 ∷ 48 ∷ 120 ∷ 70 ∷ 32 ∷ 55 ∷ 32 ∷ 48 ∷ 42 ∷ 49 ∷ []) (cut (15 ∷ 15 ∷ 7 ∷ []))  -- cut 2*0xF 7 0*1
    ∷ row (99 ∷ 117 ∷ 116 ∷ 32 ∷ 49 ∷ 54 ∷ 51 ∷ 56 ∷ 53 ∷ 42 ∷ 49 ∷ []) malformed  -- cut 16385*1
    ∷ row (114 ∷ 97 ∷ 110 ∷ 103 ∷ 101 ∷ 32 ∷ 48 ∷ 32 ∷ 50 ∷ []) (range 0 2)  -- range 0 2
    ∷ row (114 ∷ 97 ∷ 110 ∷ 103 ∷ 101 ∷ 32 ∷ 49 ∷ 56 ∷ 52 ∷ 52 ∷ 54 ∷ 55 ∷ 52 ∷ 52 ∷ 48 ∷ 55 ∷ 51 ∷ 55 ∷ 48 ∷ 57 ∷ 53 ∷ 53 ∷ 49 ∷ 54 ∷ 49 ∷ 53 ∷ 32 ∷ 48 ∷ 120 ∷ 70 ∷ 70 ∷ 70 ∷ 70 ∷ 70 ∷ 70 ∷ 70 ∷ 70 ∷ 70 ∷ 70 ∷ 70 ∷ 70 ∷ 70 ∷ 70 ∷ 70 ∷ 70 ∷ []) (range 18446744073709551615 18446744073709551615)  -- range 18446744073709551615 0xFFFFFFFFFFFFFFFF
    ∷ row (114 ∷ 97 ∷ 110 ∷ 103 ∷ 101 ∷ 32 ∷ 48 ∷ 32 ∷ 49 ∷ 56 ∷ 52 ∷ 52 ∷ 54 ∷ 55 ∷ 52 ∷ 52 ∷ 48 ∷ 55 ∷ 51 ∷ 55 ∷ 48 ∷ 57 ∷ 53 ∷ 53 ∷ 49 ∷ 54 ∷ 49 ∷ 54 ∷ []) malformed  -- range 0 18446744073709551616
    ∷ row (114 ∷ 97 ∷ 110 ∷ 103 ∷ 101 ∷ 32 ∷ 50 ∷ 53 ∷ 53 ∷ []) malformed  -- range 255
    ∷ row (114 ∷ 97 ∷ 110 ∷ 103 ∷ 101 ∷ 32 ∷ 48 ∷ 32 ∷ 50 ∷ 32 ∷ 48 ∷ []) malformed  -- range 0 2 0
    ∷ row (99 ∷ 101 ∷ 108 ∷ 108 ∷ 32 ∷ 57 ∷ 32 ∷ 49 ∷ 42 ∷ 50 ∷ []) (cell 9 (2 ∷ []))  -- cell 9 1*2
    ∷ row (99 ∷ 101 ∷ 108 ∷ 108 ∷ 32 ∷ 49 ∷ 54 ∷ 51 ∷ 56 ∷ 52 ∷ 32 ∷ 49 ∷ []) malformed  -- cell 16384 1
    ∷ row (111 ∷ 116 ∷ 112 ∷ 32 ∷ 50 ∷ 53 ∷ 52 ∷ 32 ∷ 50 ∷ 42 ∷ 48 ∷ 120 ∷ 70 ∷ 48 ∷ []) (otp 254 (240 ∷ 240 ∷ []))  -- otp 254 2*0xF0
    ∷ row (111 ∷ 116 ∷ 112 ∷ 32 ∷ 50 ∷ 53 ∷ 53 ∷ 32 ∷ 48 ∷ 32 ∷ 48 ∷ []) malformed  -- otp 255 0 0
    ∷ row (111 ∷ 116 ∷ 112 ∷ 32 ∷ 50 ∷ 53 ∷ 54 ∷ []) (otp 256 [])  -- otp 256
    ∷ row (111 ∷ 116 ∷ 112 ∷ 32 ∷ 50 ∷ 53 ∷ 54 ∷ 32 ∷ 48 ∷ []) malformed  -- otp 256 0
    ∷ row (102 ∷ 114 ∷ 101 ∷ 115 ∷ 104 ∷ []) fresh  -- fresh
    ∷ row (102 ∷ 114 ∷ 101 ∷ 115 ∷ 104 ∷ 101 ∷ 110 ∷ []) malformed  -- freshen
    ∷ []

pub rows-hold : map (λ (r : Row). meaning r.bytes) rows ≡ map (λ (r : Row). r.told) rows
unfolding without_cr items_from digit_of digits any_number words_from words same means
rows-hold = refl
