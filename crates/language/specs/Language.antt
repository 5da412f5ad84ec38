-- The language of event scripts, whole lines at a time: what a line's bytes ask for. The reader is proved to give this.
use Rattle.std.specs.Prelude.{ℕ, ◌+◌, ◌*◌, ◌-◌, ◌^◌, ◌<◌, Bool, true, false, ◌&&◌, ◌||◌, List, [], ◌∷◌, ◌++◌, eqb, leb, ltb, length, take, replicate, Option, Some, None}
use Rattle.std.specs.Prelude.{if◌then◌else◌}

pub data Meaning : Type 0 where
  nothing : Meaning
  malformed : Meaning
  read : (address : ℕ) → Meaning
  write : (address word : ℕ) → Meaning
  wait : (microseconds : ℕ) → Meaning
  cut : (debris : List ℕ) → Meaning
  range : (first count : ℕ) → Meaning
  cell : (address : ℕ) (words : List ℕ) → Meaning
  otp : (address : ℕ) (words : List ℕ) → Meaning
  fresh : Meaning

-- ---- lines and items

-- a line is bytes
abbrev pub Bytes : List ℕ → Type 0
Bytes [] = Unit {0}
Bytes (b ∷ bytes) = (b < 256) × Bytes bytes

-- "lines end with LF (a CR before it is ignored)"
unfoldable pub without_cr : (bytes : List ℕ) → List ℕ
without_cr [] = []
without_cr (b ∷ []) = if eqb b 13 then [] else b ∷ []
without_cr (b ∷ c ∷ bytes) = b ∷ without_cr (c ∷ bytes)

-- an item of no byte is none
abbrev pub before : (begun : List ℕ) (items : List (List ℕ)) → List (List ℕ)
before [] items = items
before (b ∷ bytes) items = (b ∷ bytes) ∷ items

abbrev pub go_on : (separates : Bool) (begun : List ℕ) (byte : ℕ) (rest : List ℕ → List (List ℕ)) → List (List ℕ)
go_on true begun byte rest = before begun (rest [])
go_on false begun byte rest = rest (begun ++ (byte ∷ []))

-- "items are separated by blanks or tabs": the items of the bytes behind those of one that has begun
unfoldable pub items_from : (begun bytes : List ℕ) → List (List ℕ)
items_from begun [] = before begun []
items_from begun (b ∷ bytes) = go_on (eqb b 32 || eqb b 9) begun b (λ item. items_from item bytes)

-- ---- numbers

-- the value of a digit, in either case of its letter; 16 for every other byte
unfoldable pub digit_of : (byte : ℕ) → ℕ
digit_of b =
    if leb 48 b && leb b 57 then b - 48
    else if leb 65 b && leb b 70 then b - 55
    else if leb 97 b && leb b 102 then b - 87
    else 16

-- the value of digits behind those that make `value`
unfoldable pub digits : (base : ℕ) (bytes : List ℕ) (value : ℕ) → Option ℕ
digits base [] value = Some value
digits base (b ∷ bytes) value = if ltb (digit_of b) base then digits base bytes (value * base + digit_of b) else None

abbrev pub some_digits : (base : ℕ) (bytes : List ℕ) → Option ℕ
some_digits base [] = None
some_digits base (b ∷ bytes) = digits base (b ∷ bytes) 0

-- "Numbers are decimal, or hexadecimal after `0x`"
unfoldable pub any_number : (bytes : List ℕ) → Option ℕ
any_number [] = None
any_number (b ∷ []) = some_digits 10 (b ∷ [])
any_number (b ∷ c ∷ bytes) = if eqb b 48 && eqb c 120 then some_digits 16 bytes else some_digits 10 (b ∷ c ∷ bytes)

abbrev pub at_most : (top : ℕ) → Option ℕ → Option ℕ
at_most top None = None
at_most top (Some n) = if leb n top then Some n else None

abbrev pub number : (top : ℕ) (bytes : List ℕ) → Option ℕ
number top bytes = at_most top (any_number bytes)

-- "an address and a wait are at most 2^64 - 1, a word at most FFFFH"
abbrev pub figure : (bytes : List ℕ) → Option ℕ
figure = number (2 ^ 64 - 1)

abbrev pub word : (bytes : List ℕ) → Option ℕ
word = number 0xffff

-- ---- words

abbrev pub times : Option ℕ → Option ℕ → Option (List ℕ)
times None w = None
times (Some n) None = None
times (Some n) (Some w) = Some (replicate n w)

-- "`N*W` stands for N times W, N at most 16384": the words of an item, of which some bytes without a `*` are passed
unfoldable pub words_from : (passed bytes : List ℕ) → Option (List ℕ)
words_from passed [] = times (Some 1) (word passed)
words_from passed (b ∷ bytes) =
    if eqb b 42 then times (number 16384 passed) (word bytes) else words_from (passed ++ (b ∷ [])) bytes

abbrev pub joined : Option (List ℕ) → Option (List ℕ) → Option (List ℕ)
joined None more = None
joined (Some words) None = None
joined (Some words) (Some more) = Some (words ++ more)

unfoldable pub words : (items : List (List ℕ)) → Option (List ℕ)
words [] = Some []
words (item ∷ items) = joined (words_from [] item) (words items)

-- ---- the table of lines

unfoldable pub same : (bytes letters : List ℕ) → Bool
same [] [] = true
same [] (l ∷ letters) = false
same (b ∷ bytes) [] = false
same (b ∷ bytes) (l ∷ letters) = eqb b l && same bytes letters

-- does the first item start with `#`?
abbrev pub is_remark : (item : List ℕ) → Bool
is_remark [] = false
is_remark (b ∷ bytes) = eqb b 35

abbrev pub asked : (ℕ → Meaning) → Option ℕ → Meaning
asked meaning None = malformed
asked meaning (Some n) = meaning n

-- `read A`, `wait D`
abbrev pub one_figure : (ℕ → Meaning) → (items : List (List ℕ)) → Meaning
one_figure meaning [] = malformed
one_figure meaning (a ∷ []) = asked meaning (figure a)
one_figure meaning (a ∷ b ∷ items) = malformed

-- `write A W`, `range A N`, by what the second number is
abbrev pub two_numbers : (ℕ → ℕ → Meaning) → (second : (bytes : List ℕ) → Option ℕ) → (items : List (List ℕ)) → Meaning
two_numbers meaning second [] = malformed
two_numbers meaning second (a ∷ []) = malformed
two_numbers meaning second (a ∷ b ∷ []) = asked (λ address. asked (meaning address) (second b)) (figure a)
two_numbers meaning second (a ∷ b ∷ x ∷ items) = malformed

-- `cut W..`: no part of the die has more than 16384 words of debris to take, and what is over is ignored
abbrev pub cut_of : Option (List ℕ) → Meaning
cut_of None = malformed
cut_of (Some debris) = cut (take 16384 debris)

-- `cell A W..`, `otp A W..`, by how many words there are to set
abbrev pub set_of : (ℕ → List ℕ → Meaning) → (size address : ℕ) → Option (List ℕ) → Meaning
set_of meaning size address None = malformed
set_of meaning size address (Some set) = if leb (address + length set) size then meaning address set else malformed

abbrev pub set_line : (ℕ → List ℕ → Meaning) → (size : ℕ) (items : List (List ℕ)) → Meaning
set_line meaning size [] = malformed
set_line meaning size (a ∷ items) = asked (λ address. set_of meaning size address (words items)) (figure a)

abbrev pub fresh_line : (items : List (List ℕ)) → Meaning
fresh_line [] = fresh
fresh_line (x ∷ items) = malformed

-- the words of the language, in ASCII
abbrev pub read_word : List ℕ
read_word = 114 ∷ 101 ∷ 97 ∷ 100 ∷ []

abbrev pub write_word : List ℕ
write_word = 119 ∷ 114 ∷ 105 ∷ 116 ∷ 101 ∷ []

abbrev pub wait_word : List ℕ
wait_word = 119 ∷ 97 ∷ 105 ∷ 116 ∷ []

abbrev pub cut_word : List ℕ
cut_word = 99 ∷ 117 ∷ 116 ∷ []

abbrev pub range_word : List ℕ
range_word = 114 ∷ 97 ∷ 110 ∷ 103 ∷ 101 ∷ []

abbrev pub cell_word : List ℕ
cell_word = 99 ∷ 101 ∷ 108 ∷ 108 ∷ []

abbrev pub otp_word : List ℕ
otp_word = 111 ∷ 116 ∷ 112 ∷ []

abbrev pub fresh_word : List ℕ
fresh_word = 102 ∷ 114 ∷ 101 ∷ 115 ∷ 104 ∷ []

-- "an empty line or one whose first item starts with `#` does nothing"; "a line that is none of the above is answered `LINE malformed`"
unfoldable pub means : (items : List (List ℕ)) → Meaning
means [] = nothing
means (verb ∷ items) =
    if is_remark verb then nothing
    else if same verb read_word then one_figure read items
    else if same verb write_word then two_numbers write word items
    else if same verb wait_word then one_figure wait items
    else if same verb cut_word then cut_of (words items)
    else if same verb range_word then two_numbers range figure items
    else if same verb cell_word then set_line cell 16384 items
    else if same verb otp_word then set_line otp 256 items
    else if same verb fresh_word then fresh_line items
    else malformed

abbrev pub meaning : (bytes : List ℕ) → Meaning
meaning bytes = means (items_from [] (without_cr bytes))
