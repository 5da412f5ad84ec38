-- What the face answers to a range, and where its words lie.
use Prim.Native.Nat.{ℕ, ◌+◌, ◌*◌, ◌/◌, ◌%◌, ◌<◌, ◌≤◌}
use mathlib.Core.Path.{◌≡◌, refl, ap}
use mathlib.Core.Bool.{true, false, not}
use mathlib.Core.List.{List, []}
use native.Mathlib.Omega.{arith}
use lib.Dec.{eqb, ltb, leb}
use lib.ListN.{length, drop, take, length-drop}
use lib.Seq.{length-take-le}
use borrow.Author.Tests.{eqb-true, eqb-false, ltb-true, leb-true, not-false}
use Rattle.geometry.specs.declared.Part.{Part}
use Rattle.geometry.specs.declared.Part.TheVariants.{Small, Full}
use Rattle.geometry.specs.Parts.{unit_of, word_count}
use Rattle.plain.specs.declared.Array.{Array}
use Rattle.plain.specs.declared.Array.TheVariants.{Main, OneTime}
use Rattle.plain.specs.declared.Refusal.TheVariants.{Done, State, Address, Busy}
use Rattle.plain.specs.declared.Device.{Device}
use Rattle.std.specs.Prelude.{if◌then◌else◌}
use Rattle.plain.specs.Lent.{Lent, lent, array_of, words_of}
use Rattle.plain.specs.Record.{answer}
use Rattle.plain.specs.Refusals.{number}
use Rattle.plain.specs.Machine.{Outcome, Fit, refused, outcome, range_array, stays_inside, hands_back, range_event, range_words}
use Rattle.plain.proofs.Ladder.{by-ladder}
use Rattle.plain.proofs.Tools.{by_cases, both_left, both_right}
use Rattle.layout.specs.Image.{device_of}
use Rattle.face.specs.Face.{part_named, stands, array_number}
use Rattle.face.specs.Range.{packed_range, face_range, face_range_words, RangesLie}

-- ---- once it is known whether the words stand for a record

module _ (part : ℕ) (i cells otp : List ℕ) (first count : ℕ) where
  pub range_none : stands part i ≡ false → face_range part i cells otp first count ≡ 8589934592 * number State
  unfolding face_range number
  range_none s = rw s

  pub range-some : stands part i ≡ true
      → face_range part i cells otp first count
      ≡ packed_range (number (range_event (part_named part) (device_of i) (lent cells otp) first count).answer.refusal) (range_array (device_of i).operation first) first
  unfolding face_range
  range-some s = rw s

  pub words-none : stands part i ≡ false → face_range_words part i cells otp first count ≡ []
  unfolding face_range_words
  words-none s = rw s

  pub words-some : stands part i ≡ true → face_range_words part i cells otp first count ≡ range_words (part_named part) (device_of i) (lent cells otp) first count
  unfolding face_range_words
  words-some s = rw s

-- ---- a range that is not refused

pub two-arrays : (y : Array) → array_number y ≤ 1
two-arrays Main = omega arith
two-arrays OneTime = omega arith

few_words : (p : Part) → word_count p ≤ 8388608
unfolding unit_of
few_words Small = omega arith
few_words Full = omega arith

module _ (p : Part) (r : Device) (l : Lent) (first count : ℕ) where
  -- what it finds
  record Found : Type 0 where
    fit : Fit p r l
    inside : stays_inside p r.operation first count ≡ true

  Finds : Outcome → Type 0
  Finds o = number o.answer.refusal ≡ 0 → Found

  found : number (range_event p r l first count).answer.refusal ≡ 0 → Found
  unfolding range_event Finds number
  found =
      by-ladder p r l (not (stays_inside p r.operation first count)) Address
      (if hands_back r.operation then outcome (answer Done 0 r) l else refused Busy r l) Finds
      (λ s e. absurd (omega (arith, e))) (λ e. absurd (omega (arith, e))) (λ f e. absurd (omega (arith, e)))
      (λ f t e. record { fit = f; inside = not-false (stays_inside p r.operation first count) t })

  pub range-first : number (range_event p r l first count).answer.refusal ≡ 0 → first < 4294967296
  range-first e =
      omega (arith, few_words p, ltb-true first (word_count p) (both_left (ltb first (word_count p)) _ (found e).inside))

  -- as many words as were asked for
  range-long : number (range_event p r l first count).answer.refusal ≡ 0 → length (take count (drop first (array_of (range_array r.operation first) l))) ≡ count
  range-long e =
      let y = range_array r.operation first in
      let words = array_of y l in
      let whole : length words ≡ words_of p y = (found e).fit.whole y in
      let ends : first + count ≤ words_of p y = leb-true (first + count) (words_of p y) (both_right (ltb first (word_count p)) (leb (first + count) (words_of p y)) (found e).inside) in
      length-take-le count (drop first words) (rw length-drop (omega (arith, whole, ends)))

-- ---- where it lies

told_array : (y : Array) (first : ℕ) → first < 4294967296 → (4294967296 * array_number y + first) / 4294967296 ≡ array_number y
told_array Main first h = omega arith
told_array OneTime first h = omega arith

told-first : (y : Array) (first : ℕ) → first < 4294967296 → (4294967296 * array_number y + first) % 4294967296 ≡ first
told-first Main first h = omega arith
told-first OneTime first h = omega arith

by-array : (y : Array) (cells otp : List ℕ) → array_of y (lent cells otp) ≡ (if eqb (array_number y) 1 then otp else cells)
by-array Main cells otp = refl
by-array OneTime cells otp = refl

refused-far : (n : ℕ) (y : Array) (first : ℕ) → packed_range n y first < 8589934592 → n ≡ 0
refused-far n y first h =
    by_cases (eqb n 0) (λ t. eqb-true n 0 t) (λ f. absurd (omega (arith, eqb-false n 0 f, rw f at h)))

Lies : (cells otp : List ℕ) → (n count : ℕ) → (words : List ℕ) → Type 0
Lies cells otp n count words = (length words ≡ count) × (words ≡ take count (drop (n % 4294967296) (if eqb (n / 4294967296) 1 then otp else cells)))

lies-there : (y : Array) (cells otp : List ℕ) (first count : ℕ) → first < 4294967296 → length (take count (drop first (array_of y (lent cells otp)))) ≡ count
    → Lies cells otp (4294967296 * array_number y + first) count (take count (drop first (array_of y (lent cells otp))))
unfolding Lies
lies-there y cells otp first count h long =
    (long, rw (told_array y first h, told-first y first h) (ap (λ (words : List ℕ). take count (drop first words)) (by-array y cells otp)))

module _ (part : ℕ) (i cells otp : List ℕ) (first count : ℕ) (s : stands part i ≡ true) where
  handed-back : number (range_event (part_named part) (device_of i) (lent cells otp) first count).answer.refusal ≡ 0
      → Lies cells otp (face_range part i cells otp first count) count (face_range_words part i cells otp first count)
  unfolding range_words
  handed-back e =
      let p = part_named part in
      let long = range-long p (device_of i) (lent cells otp) first count e in
      rw (range-some part i cells otp first count s, words-some part i cells otp first count s, e)
      (lies-there (range_array (device_of i).operation first) cells otp first count (range-first p (device_of i) (lent cells otp) first count e) long)

pub ranges-lie : RangesLie
unfolding Lies number
ranges-lie part i cells otp first count h =
    by_cases (stands part i)
    (λ s. handed-back part i cells otp first count s (refused-far _ (range_array (device_of i).operation first) first (rw (range-some part i cells otp first count s) at h)))
    (λ s. absurd (omega (arith, rw (range_none part i cells otp first count s) at h)))
