-- Answers of the face, written out: the definitions are held to them (proofs/Worked).
use Rattle.std.specs.Prelude.{ℕ, ◌^◌, ◌-◌, Bool, true, false, List, [], ◌∷◌, set, replicate}
use Rattle.face.specs.Face.{Faced, answered, face_read, face_write, face_wait, face_cut}
use Rattle.face.specs.Range.{face_range, face_range_words}

-- the small part's cells, each 1234H, and one-time words, each 5678H
abbrev pub cells : List ℕ
cells = replicate 16384 0x1234

abbrev pub otp : List ℕ
otp = replicate 256 0x5678

-- ---- records

-- an idle device of this clock and charge, with no protection; 17,000 pC a microsecond is the most that it can have drawn
abbrev pub idle : (clock charge : ℕ) → List ℕ
idle clock charge = 3 ∷ clock ∷ charge ∷ replicate 29 0

-- the same with this command: 1 after the first unlock write, 2 after both
abbrev pub commanded : (command : ℕ) → List ℕ
commanded command = set (idle 0 0) 3 command

-- with the customer's one-time words locked
abbrev pub sealed : List ℕ → List ℕ
sealed i = set i 31 1

-- with the one-time block entered
abbrev pub entered : List ℕ → List ℕ
entered i = set i 30 1

-- and with a program of 1234H at an address of it, which has 4 µs left
abbrev pub writing : (address : ℕ) → List ℕ → List ℕ
writing address i = set (set (set (set (entered i) 5 1) 14 address) 15 0x1234) 16 4

-- an idle device as layouts 1 and 2 had it
abbrev pub idle_before₁ : (clock charge : ℕ) → List ℕ
idle_before₁ clock charge = 1 ∷ clock ∷ charge ∷ replicate 26 0

abbrev pub idle_before₂ : (clock charge : ℕ) → List ℕ
idle_before₂ clock charge = 2 ∷ clock ∷ charge ∷ replicate 27 0

-- ---- which are sound

-- the part's number, the words, and whether they stand for a sound record of it
pub record Judged : Type 0 where
  pub part : ℕ
  pub words : List ℕ
  pub sound : Bool

abbrev judged : ℕ → List ℕ → Bool → Judged
judged n i s = record { part = n; words = i; sound = s }

abbrev pub judgements : List Judged
judgements =
    judged 0 (idle 0 0) true ∷ judged 1 (idle 2 34000) true
    -- no such part; no record; one of layouts 1 and 2; too much charge; a clock past its limit
    ∷ judged 2 (idle 0 0) false ∷ judged 0 [] false ∷ judged 0 (idle_before₁ 0 0) false ∷ judged 0 (idle_before₂ 0 0) false
    ∷ judged 0 (idle 2 34001) false ∷ judged 1 (idle 100000000000001 0) false
    -- the one-time block entered; a program of the customer's last word, of the factory's last, and of one that is locked
    ∷ judged 0 (entered (idle 0 0)) true ∷ judged 0 (writing 255 (idle 0 0)) true ∷ judged 0 (writing 127 (idle 0 0)) false ∷ judged 0 (sealed (writing 255 (idle 0 0))) false
    -- 68H for its lock, and that lock read: only while it is entered
    ∷ judged 0 (entered (commanded 13)) true ∷ judged 0 (commanded 13) false ∷ judged 0 (entered (commanded 14)) true ∷ judged 0 (commanded 14) false ∷ []

-- ---- what calls answer

pub record Row : Type 0 where
  pub faced : Faced
  pub stated : Faced

abbrev row : Faced → Faced → Row
row f s = record { faced = f; stated = s }

abbrev pub rows : List Row
rows =
    -- a read gives the cell; in the one-time block the words of addresses below 256 are its own
    row (face_read 0 (idle 2 34000) cells otp 16383) (answered 0 0x1234 (idle 2 34000) cells otp)
    ∷ row (face_read 0 (idle 0 0) cells otp 255) (answered 0 0x1234 (idle 0 0) cells otp)
    ∷ row (face_read 0 (entered (idle 0 0)) cells otp 255) (answered 0 0x5678 (entered (idle 0 0)) cells otp)
    ∷ row (face_read 0 (entered (idle 0 0)) cells otp 256) (answered 0 0x1234 (entered (idle 0 0)) cells otp)
    -- its lock, read
    ∷ row (face_read 0 (sealed (entered (commanded 14))) cells otp 3) (answered 0 1 (sealed (entered (commanded 14))) cells otp)
    -- the first unlock write; and the third that enters
    ∷ row (face_write 0 (idle 0 0) cells otp 0x555 0xAA) (answered 0 0 (commanded 1) cells otp)
    ∷ row (face_write 0 (commanded 2) cells otp 0x555 0x88) (answered 0 0 (entered (idle 0 0)) cells otp)
    -- 48H that locks
    ∷ row (face_write 0 (entered (commanded 13)) cells otp 0x1A 0x48) (answered 0 0 (sealed (entered (idle 0 0))) cells otp)
    -- a program there ends in its word, and the one-time block stays entered; a cut leaves it
    ∷ row (face_wait 0 (writing 255 (idle 0 0)) cells otp 4) (answered 0 0 (entered (idle 4 68000)) cells (set otp 255 0x1230))
    ∷ row (face_cut 0 (writing 255 (idle 0 0)) cells otp (0xFF00 ∷ [])) (answered 0 0 (idle 0 0) cells (set otp 255 0x5630))
    ∷ row (face_cut 0 (commanded 1) cells otp []) (answered 0 0 (idle 0 0) cells otp)
    -- words that stand for no record
    ∷ row (face_cut 0 (0 ∷ []) (7 ∷ []) (8 ∷ []) []) (answered 1 0 (0 ∷ []) (7 ∷ []) (8 ∷ []))
    ∷ []

-- refused reads by STATE, CELLS (of either array), ADDRESS
abbrev pub refused_reads : List Faced
refused_reads =
    face_read 0 (idle 2 34001) cells otp 5 ∷ face_read 2 (idle 0 0) cells otp 5 ∷ face_read 1 (idle 0 0) cells otp 5 ∷ face_read 0 (idle 0 0) cells cells 5
    ∷ face_read 0 (idle 0 0) cells otp 16384 ∷ []

-- ---- ranges, with their numbers: of the one-time words, of the cells, one that leaves its array, and those not handed back

abbrev pub ranges : List ℕ
ranges =
    face_range 0 (entered (idle 0 0)) cells otp 128 128 ∷ face_range 0 (entered (idle 0 0)) cells otp 256 16128 ∷ face_range 0 (entered (idle 0 0)) cells otp 128 129
    ∷ face_range 0 (idle 0 0) cells otp 128 128 ∷ face_range 0 (writing 255 (idle 0 0)) cells otp 128 128 ∷ face_range 0 (entered (idle 0 0)) cells [] 128 128
    ∷ face_range 0 (idle_before₁ 0 0) cells otp 128 128 ∷ []

abbrev pub range_numbers : List ℕ
range_numbers = 0x100000080 ∷ 256 ∷ 0x600000000 ∷ 0xC00000000 ∷ 0xC00000000 ∷ 0x400000000 ∷ 0x200000000 ∷ []

abbrev pub words_handed : List (List ℕ)
words_handed =
    face_range_words 0 (entered (idle 0 0)) cells otp 254 2 ∷ face_range_words 0 (entered (idle 0 0)) cells otp 256 2 ∷ face_range_words 0 (entered (idle 0 0)) cells otp 254 3
    ∷ face_range_words 0 [] cells otp 254 2 ∷ []

abbrev pub handed : List (List ℕ)
handed = (0x5678 ∷ 0x5678 ∷ []) ∷ (0x1234 ∷ 0x1234 ∷ []) ∷ [] ∷ [] ∷ []

-- no block, no word, no array, no clock, no charge: all bits 1
abbrev pub no_number : ℕ
no_number = 2 ^ 64 - 1
