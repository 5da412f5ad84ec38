-- The plain machine: one event, and a run of them (document 01, "Refusals by number", the order of checks).
use Rattle.std.specs.Prelude.{Result, Ok, Err}
use Rattle.std.specs.Prelude.{ℕ, ◌+◌, ◌≡◌, Bool, true, not, ◌&&◌, List, [], ◌∷◌, ltb, leb, eqb, length, drop, take}
use Rattle.geometry.specs.declared.Part.{Part}
use Rattle.geometry.specs.Parts.{word_count}
use Rattle.plain.specs.declared.Array.{Array}
use Rattle.plain.specs.declared.Refusal.{Refusal}
use Rattle.plain.specs.declared.Refusal.TheVariants.{Done, State, Cells, Address, Clock, Debris, Busy}
use Rattle.plain.specs.declared.Operation.{Operation}
use Rattle.plain.specs.declared.Device.{Device}
use Rattle.plain.specs.declared.Answer.{Answer}
use Rattle.std.specs.Prelude.{if◌then◌else◌}
use Rattle.plain.specs.Events.{Event, read, write, wait, cut, range, Turn}
use Rattle.plain.specs.Figures.{clock_limit}
use Rattle.plain.specs.Lent.{Lent, array_of, words_of, is_whole, Whole}
use Rattle.plain.specs.Operations.{running_of, suspension_of, is_entered, selected}
use Rattle.plain.specs.Record.{device, answer}
use Rattle.plain.specs.Refusals.{number}
use Rattle.plain.specs.Sound.{is_still, sound}
use Rattle.plain.specs.Commands.{written, effected}
use Rattle.plain.specs.Time.{Moment, moment, ticks}
use Rattle.plain.specs.Status.{look}
use Rattle.plain.specs.Cut.{debris_needed, cut_lent, cut_device}

-- what comes of an event: the answer with the record, and what was lent
pub record Outcome : Type 0 where
  pub answer : Answer
  pub lent : Lent

abbrev pub outcome : Answer → Lent → Outcome
outcome y l = record { answer = y; lent = l }

-- "nothing changed"; "A refused read, and every event that is no read, gives the word 0."
abbrev pub refused : Refusal → Device → Lent → Outcome
refused n r l = outcome (answer n 0 r) l

-- ---- the ladder: "Checks run in this order: 1, 2, then 3, 4 or 5 by event"

unfoldable pub entry : Part → Device → Lent → Result Unit Refusal
entry p r l =
    if not (sound p r) then Err State
    else if not (is_whole p l) then Err Cells
    else (Ok tt)

unfoldable pub climbed : Result Unit Refusal → Device → Lent → Outcome → Outcome
climbed (Ok tt) r l taken = taken
climbed (Err n) r l taken = refused n r l

-- an event that is refused by its own number where it fails, and is else taken
unfoldable pub ladder : Part → Device → Lent → (fails : Bool) → (own : Refusal) → (taken : Outcome) → Outcome
ladder p r l fails own taken = climbed (entry p r l) r l (if fails then refused own r l else taken)

-- what an admitted event finds
pub record Fit (p : Part) (r : Device) (l : Lent) : Type 0 where
  pub sound : sound p r ≡ true
  pub whole : Whole p l

-- ---- the events

abbrev pub read_taken : Part → Device → Lent → (address : ℕ) → Outcome
read_taken p r l a =
    let s = look p r.bits r.command r.operation l a in
    outcome (answer Done s.word (device r.meter r.command s.operation r.bits)) l

unfoldable pub read_event : Part → Device → Lent → (address : ℕ) → Outcome
read_event p r l a = ladder p r l (not (ltb a (word_count p))) Address (read_taken p r l a)

abbrev pub write_taken : Part → Device → Lent → (address word : ℕ) → Outcome
write_taken p r l a w = outcome (effected r (written p r.bits r.operation r.command l a w)) l

unfoldable pub write_event : Part → Device → Lent → (address word : ℕ) → Outcome
write_event p r l a w = ladder p r l (not (ltb a (word_count p))) Address (write_taken p r l a w)

-- "Only a wait takes time."
abbrev pub now : Device → Lent → Moment
now r l = moment r.meter r.operation l

abbrev pub waited : Device → Moment → Outcome
waited r m = outcome (answer Done 0 (device m.meter r.command m.operation r.bits)) m.lent

abbrev pub wait_taken : Part → Device → Lent → (microseconds : ℕ) → Outcome
wait_taken p r l n = waited r (ticks p n (now r l))

unfoldable pub wait_event : Part → Device → Lent → (microseconds : ℕ) → Outcome
wait_event p r l n = ladder p r l (not (leb (r.meter.clock + n) (clock_limit p))) Clock (wait_taken p r l n)

abbrev pub cut_taken : Part → Device → Lent → (debris : List ℕ) → Outcome
cut_taken p r l debris = outcome (answer Done 0 (cut_device r)) (cut_lent p r.operation debris l)

unfoldable pub cut_event : Part → Device → Lent → (debris : List ℕ) → Outcome
cut_event p r l debris = ladder p r l (ltb (length debris) (debris_needed p r.operation)) Debris (cut_taken p r l debris)

-- ---- a range (document 02, request 4): "handed back as a part of the one-time words or of the main array, whichever its first address
-- selects"

abbrev pub range_array : Operation → (first : ℕ) → Array
range_array o first = selected (suspension_of o) first

-- "A range that leaves its array is ADDRESS": it begins below the word count, and ends in the array that it begins in
abbrev pub stays_inside : Part → Operation → (first count : ℕ) → Bool
stays_inside p o first count = ltb first (word_count p) && leb (first + count) (words_of p (range_array o first))

-- "While it is entered and nothing runs ..; at any other time it is BUSY."
abbrev pub hands_back : Operation → Bool
hands_back o = is_entered (suspension_of o) && is_still (running_of o)

unfoldable pub range_event : Part → Device → Lent → (first count : ℕ) → Outcome
range_event p r l first count =
    ladder p r l (not (stays_inside p r.operation first count)) Address
    (if hands_back r.operation then outcome (answer Done 0 r) l else refused Busy r l)

-- the words that are handed back, in their order; none if it is refused
abbrev pub part : List ℕ → (first count : ℕ) → List ℕ
part words first count = take count (drop first words)

unfoldable pub range_words : Part → Device → Lent → (first count : ℕ) → List ℕ
range_words p r l first count =
    if eqb (number (range_event p r l first count).answer.refusal) 0 then part (array_of (range_array r.operation first) l) first count else []

-- ---- any event, and a run: "In a run each event gets record and cells as the one before left them."

unfoldable pub step : Part → Device → Lent → Event → Outcome
step p r l (read a) = read_event p r l a
step p r l (write a w) = write_event p r l a w
step p r l (wait n) = wait_event p r l n
step p r l (cut debris) = cut_event p r l debris
step p r l (range first count) = range_event p r l first count

pub record Ran : Type 0 where
  pub device : Device
  pub lent : Lent
  pub turns : List Turn

unfoldable pub run : Part → Device → Lent → List Event → Ran
run p r l [] = record { device = r; lent = l; turns = [] }
run p r l (e ∷ es) =
    let o = step p r l e in
    let rest = run p o.answer.device o.lent es in
    record {
      device = rest.device;
      lent = rest.lent;
      turns = record { event = e; refusal = o.answer.refusal; word = o.answer.word } ∷ rest.turns;
    }
