-- What a program writes, and all that is asked of it: nothing else takes its address and data apart, but the words for C.
use Rattle.std.specs.Prelude.{ℕ, ◌/◌, ◌%◌, Bool, true, false, ◌&&◌, List, ltb, eqb, get_or}
use Rattle.cells.specs.Cells as cells
use Rattle.cells.specs.Cells.{programmed, cut_short}
use Rattle.geometry.specs.declared.Part.{Part}
use Rattle.geometry.specs.Parts.{block_of, bank_of}
use Rattle.protection.specs.declared.Protection.{Protection}
use Rattle.protection.specs.Protection.{protected, word_locked}
use Rattle.plain.specs.declared.Array.{Array}
use Rattle.plain.specs.declared.Array.TheVariants.{Main, OneTime}
use Rattle.plain.specs.declared.Refusal.{Refusal}
use Rattle.plain.specs.declared.Refusal.TheVariants.{Protected, OtpLocked}
use Rattle.plain.specs.declared.Written.{Written}
use Rattle.plain.specs.Lent.{Lent, array_of, with_array, words_of, word_at}

-- A0H: "the next write is address and all 16 data bits of a program"
abbrev pub writing : Array → (address word : ℕ) → Written
writing y a w = record { array = y; at = a; word = w }

abbrev pub same : Array → Array → Bool
same Main Main = true
same Main OneTime = false
same OneTime Main = false
same OneTime OneTime = true

-- does it write the word at x of an array, and which data?
unfoldable pub writes : Written → Array → (x : ℕ) → Bool
writes d y x = same y d.array && eqb x d.at

unfoldable pub datum : Written → (x : ℕ) → ℕ
datum d x = d.word

-- the word that it is named by
unfoldable pub first_word : Written → ℕ
first_word d = d.at

unfoldable pub array_written : Written → Array
array_written d = d.array

-- does it lie in its array, and in which block and bank? One-time words belong to no block: there it is the address's
unfoldable pub lies_in : Part → Written → Bool
lies_in p d = ltb d.at (words_of p d.array)

unfoldable pub block_written : Part → Written → ℕ
block_written p d = block_of p d.at

unfoldable pub bank_written : Part → Written → ℕ
bank_written p d = bank_of p d.at

-- "9 PROTECTED: the block of a program .. is protected"; document 02, request 4: "OTPLOCKED, in the place of PROTECTED", for a locked word
abbrev pub held_back : Part → Protection → Array → (at : ℕ) → Bool
held_back p bits Main a = protected bits (block_of p a)
held_back p bits OneTime a = word_locked bits a

unfoldable pub barred : Part → Protection → Written → Bool
barred p bits d = held_back p bits d.array d.at

abbrev pub barred_by : Array → Refusal
barred_by Main = Protected
barred_by OneTime = OtpLocked

unfoldable pub barred_as : Written → Refusal
barred_as d = barred_by d.array

-- "Program: DQ7 is the complement of data bit 7"
unfoldable pub dq7 : Written → Bool
dq7 d = eqb (d.word / 128 % 2) 0

-- document 02, request 6: "asked for a 1 where the cell has 0", by what the lent word holds now
unfoldable pub raises : Written → Lent → Bool
raises d l = cells.raises (word_at l d.array d.at) d.word

-- "A program .. leaves old AND data."
unfoldable pub finished : Written → Lent → Lent
finished d l = with_array d.array l (programmed (array_of d.array l) d.at d.word)

-- ---- a cut: "a begun program needs one" debris word

unfoldable pub debris_words : Written → ℕ
debris_words d = 1

-- of the debris that is its own, the word for the word at x
unfoldable pub debris_for : Written → (debris : List ℕ) → (x : ℕ) → ℕ
debris_for d debris x = get_or debris 0 0

-- "The program's word becomes old AND (data OR debris)."
unfoldable pub cut_off : Written → (debris : List ℕ) → Lent → Lent
cut_off d debris l = with_array d.array l (cut_short (array_of d.array l) d.at d.word (debris_for d debris d.at))
