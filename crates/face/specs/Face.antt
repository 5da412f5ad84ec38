-- What a C program is answered, over a record that it holds as words, and cells and one-time words that it lends
-- (include/k5l2931cam.h).
use Rattle.std.specs.Prelude.{Option, None, Some, Result, Ok, Err}
use Rattle.std.specs.Prelude.{ℕ, ◌+◌, ◌*◌, Bool, ◌&&◌, List, eqb, ltb, length}
use Rattle.geometry.specs.declared.Part.{Part}
use Rattle.geometry.specs.declared.Part.TheVariants.{Small, Full}
use Rattle.geometry.specs.Parts.{first_of, size_of}
use Rattle.plain.specs.declared.Array.{Array}
use Rattle.plain.specs.declared.Array.TheVariants.{Main, OneTime}
use Rattle.plain.specs.declared.Spot.{Spot}
use Rattle.plain.specs.declared.Refusal.{Refusal}
use Rattle.plain.specs.declared.Refusal.TheVariants.{Done, State}
use Rattle.plain.specs.declared.Device.{Device}
use Rattle.std.specs.Prelude.{if◌then◌else◌}
use Rattle.plain.specs.Lent.{Lent, lent}
use Rattle.plain.specs.Record.{fresh}
use Rattle.plain.specs.Refusals.{number}
use Rattle.plain.specs.Sound.{sound}
use Rattle.plain.specs.Machine.{Outcome, read_event, write_event, wait_event, cut_event}
use Rattle.layout.specs.Places.{record_words}
use Rattle.layout.specs.Image.{image_of, well_formed, device_of}
use Rattle.layout.specs.Carried.{carriable, carried}

-- ---- which part, which record

-- 0 is the small part, 1 the die
abbrev pub is_part : ℕ → Bool
is_part n = ltb n 2

abbrev pub part_named : ℕ → Part
part_named n = if eqb n 1 then Full else Small

-- do the words stand for a record of a part that there is?
unfoldable pub stands : (part : ℕ) → List ℕ → Bool
stands part i = is_part part && well_formed i

-- and for a sound one?
unfoldable pub stands_sound : (part : ℕ) → List ℕ → Bool
stands_sound part i = stands part i && sound (part_named part) (device_of i)

-- ---- the four events

pub record Faced : Type 0 where
  pub refusal : ℕ
  pub word : ℕ
  pub image : List ℕ
  pub cells : List ℕ
  pub otp : List ℕ

abbrev pub answered : (refusal word : ℕ) → (image cells otp : List ℕ) → Faced
answered n w i cells otp = record { refusal = n; word = w; image = i; cells = cells; otp = otp }

-- the plain machine's outcome, with the record as words again
abbrev pub shown : Outcome → Faced
shown o = answered (number o.answer.refusal) o.answer.word (image_of o.answer.device) o.lent.cells o.lent.otp

-- "an image that stands for no sound record is STATE and is left as it was, bit for bit"
abbrev pub state : (image cells otp : List ℕ) → Faced
state i cells otp = answered (number State) 0 i cells otp

abbrev pub faced : (Part → Device → Lent → Outcome) → (part : ℕ) → (image cells otp : List ℕ) → Faced
faced event part i cells otp =
    if stands part i then shown (event (part_named part) (device_of i) (lent cells otp)) else state i cells otp

unfoldable pub face_read : (part : ℕ) → (image cells otp : List ℕ) → (address : ℕ) → Faced
face_read part i cells otp a = faced (λ p r l. read_event p r l a) part i cells otp

unfoldable pub face_write : (part : ℕ) → (image cells otp : List ℕ) → (address word : ℕ) → Faced
face_write part i cells otp a w = faced (λ p r l. write_event p r l a w) part i cells otp

unfoldable pub face_wait : (part : ℕ) → (image cells otp : List ℕ) → (microseconds : ℕ) → Faced
face_wait part i cells otp n = faced (λ p r l. wait_event p r l n) part i cells otp

unfoldable pub face_cut : (part : ℕ) → (image cells otp : List ℕ) → (debris : List ℕ) → Faced
face_cut part i cells otp debris = faced (λ p r l. cut_event p r l debris) part i cells otp

-- the refusal of a function of Rattle's own, and the word of one that reads: no word is 0
abbrev pub refusal_of : {X : Type 0} → Result X Refusal → Refusal
refusal_of (Ok _) = Done
refusal_of (Err n) = n

abbrev pub word_of : Result ℕ Refusal → ℕ
word_of (Ok w) = w
word_of (Err _) = 0

-- a read's answer: "the word in the low 16 bits, the refusal above them"
abbrev pub packed : Faced → ℕ
packed f = 65536 * f.refusal + f.word

-- ---- a fresh device

-- "K5L_DONE; or K5L_STATE for another number of words, and nothing is touched"
abbrev pub fresh_refusal : List ℕ → ℕ
fresh_refusal i = if eqb (length i) record_words then number Done else number State

abbrev pub fresh_image : List ℕ → List ℕ
fresh_image i = if eqb (length i) record_words then image_of fresh else i

-- ---- a stored record, carried over

-- "K5L_STATE for stored words of no such layout, or another number of words in `record`, and nothing is touched"
abbrev pub may_carry : (stored i : List ℕ) → Bool
may_carry stored i = carriable stored && eqb (length i) record_words

abbrev pub carried_refusal : (stored i : List ℕ) → ℕ
carried_refusal stored i = if may_carry stored i then number Done else number State

abbrev pub carried_image : (stored i : List ℕ) → List ℕ
carried_image stored i = if may_carry stored i then carried stored else i

-- ---- what is asked besides

-- "No block, no word, no array, no clock, no charge."
abbrev pub none : ℕ
none = 18446744073709551615

-- of what may be none
abbrev pub number_or_none : Option ℕ → ℕ
number_or_none None = none
number_or_none (Some n) = n

unfoldable pub place_number : Option ℕ → ℕ
place_number None = none
place_number (Some n) = n

-- the arrays: 0 is the cells, 1 the one-time words
abbrev pub array_number : Array → ℕ
array_number Main = 0
array_number OneTime = 1

-- of a word, its address and its array
unfoldable pub spot_number : Option Spot → ℕ
spot_number None = none
spot_number (Some s) = s.at

unfoldable pub spot_array : Option Spot → ℕ
spot_array None = none
spot_array (Some s) = array_number s.array

unfoldable pub face_clock : (part : ℕ) → List ℕ → ℕ
face_clock part i = if stands_sound part i then (device_of i).meter.clock else none

unfoldable pub face_charge : (part : ℕ) → List ℕ → ℕ
face_charge part i = if stands_sound part i then (device_of i).meter.charge else none

unfoldable pub face_first_word : (part block : ℕ) → ℕ
face_first_word part block = if is_part part then first_of (part_named part) block else 0

unfoldable pub face_block_words : (part block : ℕ) → ℕ
face_block_words part block = if is_part part then size_of (part_named part) block else 0
