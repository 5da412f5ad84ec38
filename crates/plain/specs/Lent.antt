-- What the caller lends with each event: "The cells are lent as 16-bit words." So are the one-time words, 256 "in both parts" (document
-- 02, request 4).
use Rattle.std.specs.Prelude.{ℕ, ◌≡◌, Bool, ◌&&◌, List, eqb, length, get_or}
use Rattle.geometry.specs.declared.Part.{Part}
use Rattle.geometry.specs.Parts.{word_count}
use Rattle.plain.specs.declared.Array.{Array}
use Rattle.plain.specs.declared.Array.TheVariants.{Main, OneTime}

pub record Lent : Type 0 where
  pub cells : List ℕ
  pub otp : List ℕ

abbrev pub lent : (cells otp : List ℕ) → Lent
lent cells otp = record { cells = cells; otp = otp }

-- "The one-time block. .. 256 words in both parts"
abbrev pub otp_words : ℕ
otp_words = 256

-- ---- one array of the two

abbrev pub array_of : Array → Lent → List ℕ
array_of Main l = l.cells
array_of OneTime l = l.otp

-- the same with other words in it
abbrev pub with_array : Array → Lent → List ℕ → Lent
with_array Main l words = lent words l.otp
with_array OneTime l words = lent l.cells words

abbrev pub words_of : Part → Array → ℕ
words_of p Main = word_count p
words_of p OneTime = otp_words

-- the word at an address
abbrev pub word_at : Lent → Array → (address : ℕ) → ℕ
word_at l y a = get_or (array_of y l) a 0

-- "2 CELLS: the lent length is not the part's word count"; request 4: "CELLS for another OTP length"
abbrev pub is_whole : Part → Lent → Bool
is_whole p l = eqb (length l.cells) (word_count p) && eqb (length l.otp) otp_words

abbrev pub Whole : Part → Lent → Type 0
Whole p l = (y : Array) → length (array_of y l) ≡ words_of p y
