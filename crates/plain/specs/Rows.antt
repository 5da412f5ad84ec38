-- A row: a run from a given record over lent cells of the small part, event by event with the answer that is stated, and what it
-- comes to. The bench table, the stored records and the table of rulings are made of such rows.
use Rattle.std.specs.Prelude.{ℕ, ◌≡◌, false, List, [], ◌∷◌, ◌++◌, map, set, replicate}
use Rattle.geometry.specs.declared.Part.TheVariants.{Small}
use Rattle.geometry.specs.Asked.{refusal_asked, block_asked}
use Rattle.blocks.specs.declared.Blocks.{Blocks}
use Rattle.blocks.specs.Blocks.{empty_of, with_of}
use Rattle.protection.specs.declared.Protection.{Protection}
use Rattle.protection.specs.Protection.{bits, fresh_bits}
use Rattle.plain.specs.declared.Array.{Array}
use Rattle.plain.specs.declared.Array.TheVariants.{Main, OneTime}
use Rattle.plain.specs.declared.Inside.TheVariants.{Nothing}
use Rattle.plain.specs.declared.Operation.{Operation}
use Rattle.plain.specs.declared.Operation.TheVariants.{Idle, EraseSuspended}
use Rattle.plain.specs.declared.Command.{Command}
use Rattle.plain.specs.declared.Command.TheVariants.{Ground}
use Rattle.plain.specs.declared.Device.{Device}
use Rattle.plain.specs.Refusals.{number}
use Rattle.plain.specs.Events.{Event, read, write, wait, range, Turn}
use Rattle.plain.specs.Lent.{Lent, lent, otp_words, array_of, with_array, word_at}
use Rattle.plain.specs.Machine.{Ran, run, step, range_words}
use Rattle.plain.specs.Record.{device, erase, suspended}

-- an answer: the paper's number, and the word (or, of a lookup, the block)
pub record Said : Type 0 where
  pub refusal : ℕ
  pub word : ℕ

abbrev pub say : ℕ → ℕ → Said
say n w = record { refusal = n; word = w }

-- what a row comes to: the answers, the words at some addresses, the clock and the charge
pub record Finding : Type 0 where
  pub answers : List Said
  pub words : List ℕ
  pub clock : ℕ
  pub charge : ℕ

abbrev pub finding : List Said → List ℕ → ℕ → ℕ → Finding
finding s w c q = record { answers = s; words = w; clock = c; charge = q }

-- an event and its answer; an address looked up and its answer; a word looked at and what it holds
pub record Step : Type 0 where
  pub event : Event
  pub said : Said

pub record Looked : Type 0 where
  pub address : ℕ
  pub said : Said

pub record Held : Type 0 where
  pub array : Array
  pub address : ℕ
  pub word : ℕ

-- what is lent: how many cells, and the words that do not hold FFFFH
pub record Cells : Type 0 where
  pub count : ℕ
  pub others : List Held

-- a row looks addresses up; or runs events and looks at some words, clock and charge afterwards; or runs events and then reads a range,
-- which is refused by number or hands back words
pub data Row : Type 0 where
  lookups : List Looked → Row
  runs : (from : Device) → Cells → List Step → List Held → (clock charge : ℕ) → Row
  hands : (from : Device) → Cells → List Step → (first count refusal : ℕ) → (words : List ℕ) → Row

abbrev pub stated : Row → Finding
stated (lookups ls) = finding (map (λ (l : Looked). l.said) ls) [] 0 0
stated (runs r cells ss hs c q) = finding (map (λ (s : Step). s.said) ss) (map (λ (h : Held). h.word) hs) c q
stated (hands r cells ss first count n words) = finding (map (λ (s : Step). s.said) ss ++ (say n 0 ∷ [])) words 0 0

abbrev pub said : Turn → Said
said t = say (number t.refusal) t.word

abbrev pub after : Ran → List Held → Finding
after r hs = finding (map said r.turns) (map (λ (h : Held). word_at r.lent h.array h.address) hs) r.device.meter.clock r.device.meter.charge

abbrev pub events_of : List Step → List Event
events_of ss = map (λ (s : Step). s.event) ss

-- what is lent with such words in it
unfoldable pub filled : Lent → List Held → Lent
filled l [] = l
filled l (h ∷ hs) = let rest = filled l hs in with_array h.array rest (set (array_of h.array rest) h.address h.word)

abbrev pub laid : Cells → Lent
laid c = filled (lent (replicate c.count 0xFFFF) (replicate otp_words 0xFFFF)) c.others

-- a range at the end of a run
abbrev pub handed : Ran → (first count : ℕ) → Finding
handed r first count =
    let n = number (step Small r.device r.lent (range first count)).answer.refusal in
    finding (map said r.turns ++ (say n 0 ∷ [])) (range_words Small r.device r.lent first count) 0 0

-- what the plain machine makes of a row
abbrev pub found : Row → Finding
found (lookups ls) = finding (map (λ (l : Looked). say (refusal_asked Small l.address) (block_asked Small l.address)) ls) [] 0 0
found (runs r cells ss hs c q) = after (run Small r (laid cells) (events_of ss)) hs
found (hands r cells ss first count n words) = handed (run Small r (laid cells) (events_of ss)) first count

-- of each row of a table the plain machine makes what is stated
abbrev pub AsStated : List Row → Type 0
AsStated rows = map found rows ≡ map stated rows

-- ---- answers stated

-- these events are DONE, with the word 0
abbrev pub takes : List Event → List Step
takes es = map (λ e. record { event = e; said = say 0 0 }) es

-- a wait that is DONE
abbrev pub waits : ℕ → List Step
waits n = takes (wait n ∷ [])

-- a read gives a word
abbrev pub gives : (address word : ℕ) → List Step
gives a w = record { event = read a; said = say 0 w } ∷ []

-- a refusal by number
abbrev pub refuses : ℕ → Event → List Step
refuses n e = record { event = e; said = say n 0 } ∷ []

-- an address lies in a block, or past the part
abbrev pub lies : (address block : ℕ) → Looked
lies a b = record { address = a; said = say 0 b }

abbrev pub past : ℕ → Looked
past a = record { address = a; said = say 3 0 }

abbrev pub holds : (address word : ℕ) → Held
holds a w = record { array = Main; address = a; word = w }

abbrev pub holds_otp : (address word : ℕ) → Held
holds_otp a w = record { array = OneTime; address = a; word = w }

-- ---- cells

abbrev pub blank : Cells
blank = record { count = 16384; others = [] }

-- all FFFFH but for these words
abbrev pub but : List Held → Cells
but hs = record { count = 16384; others = hs }

-- ---- command sequences

abbrev pub unlock : List Event
unlock = write 0x555 0xAA ∷ write 0x2AA 0x55 ∷ []

-- both unlock writes and the third
abbrev pub enters : ℕ → List Event
enters w = unlock ++ (write 0x555 w ∷ [])

abbrev pub program_of : (address word : ℕ) → List Event
program_of a w = enters 0xA0 ++ (write a w ∷ [])

abbrev pub erase_of : ℕ → List Event
erase_of a = enters 0x80 ++ unlock ++ (write a 0x30 ∷ [])

abbrev pub chip_erase_of : List Event
chip_erase_of = enters 0x80 ++ unlock ++ (write 0x555 0x10 ∷ [])

abbrev pub dyb_of : (address word : ℕ) → List Event
dyb_of a w = enters 0x48 ++ (write a w ∷ [])

-- 58H, one read, and back to ground
abbrev pub dyb_gives : (address word : ℕ) → List Step
dyb_gives a w = takes (enters 0x58) ++ gives a w ++ takes (write 0 0xF0 ∷ [])

-- a third write that is SUSPENDED
abbrev pub suspended_third : ℕ → List Step
suspended_third w = takes unlock ++ refuses 10 (write 0x555 w)

-- F0H, at any address and with any upper data byte
abbrev pub reset : List Event
reset = write 9 0x12F0 ∷ []

-- ---- records that rows start from

abbrev pub metered : (clock charge : ℕ) → Device
metered c q = device (record { clock = c; charge = q }) Ground Idle fresh_bits

abbrev pub standing : Command → Operation → Protection → Device
standing c o b = device (record { clock = 0; charge = 0 }) c o b

-- at ground with nothing under way: the blocks whose DYB is set, and those whose PPB is
abbrev pub guarded : (dyb ppb : Blocks) → Device
guarded dyb ppb = standing Ground Idle (bits dyb ppb false false)

abbrev pub only : ℕ → Blocks
only b = with_of empty_of b

-- an erase of block 8 (words 64 to 127) that was suspended as it began
abbrev pub resting : Command → Device
resting c = standing c (EraseSuspended (suspended (erase (only 8) 8 700000 false false) Nothing)) fresh_bits
