-- A range of words (document 02, request 4), as C is handed it back: one number tells where it lies, and there C reads it.
use Rattle.std.specs.Prelude.{ℕ, ◌+◌, ◌*◌, ◌/◌, ◌%◌, ◌<◌, ◌≡◌, List, [], eqb, length, drop, take}
use Rattle.plain.specs.declared.Array.{Array}
use Rattle.std.specs.Prelude.{if◌then◌else◌}
use Rattle.plain.specs.Lent.{lent}
use Rattle.plain.specs.Machine.{range_event, range_array, range_words}
use Rattle.layout.specs.Image.{device_of}
use Rattle.face.specs.Face.{part_named, stands, faced, array_number}

-- "refusal << 33 | array << 32 | first word, the latter two 0 if it is refused"
abbrev pub packed_range : (refusal : ℕ) → Array → (first : ℕ) → ℕ
packed_range n y first = if eqb n 0 then 4294967296 * array_number y + first else 8589934592 * n

unfoldable pub face_range : (part : ℕ) → (image cells otp : List ℕ) → (first count : ℕ) → ℕ
face_range part i cells otp first count =
    packed_range (faced (λ p r l. range_event p r l first count) part i cells otp).refusal (range_array (device_of i).operation first) first

-- the words, in their order; none if it is refused
unfoldable pub face_range_words : (part : ℕ) → (image cells otp : List ℕ) → (first count : ℕ) → List ℕ
face_range_words part i cells otp first count =
    if stands part i then range_words (part_named part) (device_of i) (lent cells otp) first count else []

-- the words of a range that is not refused are as many as were asked for, and lie in the array of the number's bit 32, from its low 32
-- bits on
abbrev pub RangesLie : Type 0
RangesLie =
    (part : ℕ) (i cells otp : List ℕ) (first count : ℕ)
    → let n = face_range part i cells otp first count in
    let words = face_range_words part i cells otp first count in
    n < 8589934592 → (length words ≡ count) × (words ≡ take count (drop (n % 4294967296) (if eqb (n / 4294967296) 1 then otp else cells)))
