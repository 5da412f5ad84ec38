-- Demand 3 and what stands beside it, as statements over every run of a fresh device.
use Rattle.std.specs.Prelude.{ℕ, ◌-◌, ◌<◌, ◌≤◌, ◌≡◌, Bool, true, false, List, ◌∷◌, eqb, length, get_or}
use Rattle.blocks.specs.declared.Blocks.{Blocks}
use Rattle.blocks.specs.Blocks.{empty_of}
use Rattle.cells.specs.Bits.{Partly}
use Rattle.geometry.specs.declared.Part.{Part}
use Rattle.geometry.specs.Parts.{word_count, block_of, first_of}
use Rattle.protection.specs.Protection.{bits, protected_by, word_locked_by}
use Rattle.plain.specs.declared.Refusal.{Refusal}
use Rattle.plain.specs.declared.Refusal.TheVariants.{Done, State, Debris}
use Rattle.plain.specs.declared.Array.{Array}
use Rattle.plain.specs.declared.Array.TheVariants.{Main, OneTime}
use Rattle.plain.specs.declared.Written.{Written}
use Rattle.plain.specs.declared.Operation.TheVariants.{Idle}
use Rattle.plain.specs.declared.Command.TheVariants.{Ground}
use Rattle.plain.specs.declared.Device.{Device}
use Rattle.plain.specs.Cut.{debris_needed}
use Rattle.plain.specs.Events.{Event, cut}
use Rattle.plain.specs.Doings.{Doing, programs, erases, recovers, wipes, rests, programs_in, programs_entered}
use Rattle.plain.specs.History.{Told, history}
use Rattle.plain.specs.Holds.{Fact, program_done, erase_done, program_cut, erase_cut, in_block, holds}
use Rattle.plain.specs.Machine.{step, run}
use Rattle.plain.specs.Lent.{Lent, array_of, words_of, word_at, Whole}
use Rattle.plain.specs.Programs.{writes, datum}
use Rattle.plain.specs.Record.{device, fresh}

-- ---- what had begun, by the history

-- a program of these words had begun and was not finished
pub data ProgramBegun : Doing → Written → Type 0 where
  running : {d : Written} {g : ℕ} → 0 < g → ProgramBegun (programs d g) d
  inside : {d : Written} {g b eg : ℕ} {l : Blocks} → 0 < g → ProgramBegun (programs_in d g l b eg) d
  entered : {d : Written} {g : ℕ} → 0 < g → ProgramBegun (programs_entered d g) d

-- an erase of the block had begun and was not finished: it made progress, and not only drew current
pub data EraseBegun : Doing → (block : ℕ) → Type 0 where
  running : {l : Blocks} {b g : ℕ} → 0 < g → EraseBegun (erases l b g) b
  recovering : {l : Blocks} {b g n : ℕ} → 0 < g → EraseBegun (recovers l b g n) b
  wiping : {l : Blocks} {b g : ℕ} → 0 < g → EraseBegun (wipes l b g) b
  resting : {l : Blocks} {b g : ℕ} → 0 < g → EraseBegun (rests l b g) b
  around : {d : Written} {pg b g : ℕ} {l : Blocks} → 0 < g → EraseBegun (programs_in d pg l b g) b

-- ---- what an accepted cut leaves: h is the history before it, r and l the record and what is lent after it

pub record Left (p : Part) (start : Lent) (h : Told) (debris : List ℕ) (r : Device) (l : Lent) : Type 0 where
  -- every word is what the finished programs, erases and earlier cuts gave it, but for
  pub others : (y : Array) (x : ℕ) → x < words_of p y → ((d : Written) → ProgramBegun h.doing d → writes d y x ≡ false)
      → ((b : ℕ) → EraseBegun h.doing b → in_block p b y x ≡ false) → word_at l y x ≡ holds p start h.facts y x
  -- the word whose program had begun: it gained no bit, and lost none that its program was not to clear
  pub word : (y : Array) (x : ℕ) (d : Written) → x < words_of p y → ProgramBegun h.doing d → writes d y x ≡ true
      → Partly (holds p start h.facts y x) (datum d x) (word_at l y x)
  -- and the block whose erase had begun: it holds the debris, word by word
  pub block : (x : ℕ) → x < word_count p → EraseBegun h.doing (block_of p x) → word_at l Main x ≡ get_or debris (x - first_of p (block_of p x)) 0
  -- at most one word, of either array, and at most one block
  pub one_word : (y z : Array) (x u : ℕ) (d e : Written) → ProgramBegun h.doing d → ProgramBegun h.doing e → writes d y x ≡ true → writes e z u ≡ true
      → (y ≡ z) × (x ≡ u)
  pub one_block : (b c : ℕ) → EraseBegun h.doing b → EraseBegun h.doing c → b ≡ c
  -- no word of a block that was protected at that moment, by the bits that were told of, is altered
  pub kept : (x : ℕ) → x < word_count p → protected_by h.dyb h.ppb (block_of p x) ≡ true → word_at l Main x ≡ holds p start h.facts Main x
  -- nor a one-time word that was locked
  pub locked : (x : ℕ) → x < words_of p OneTime → word_locked_by h.sealed x ≡ true → word_at l OneTime x ≡ holds p start h.facts OneTime x
  -- and as many words as at the start
  pub size : (y : Array) → length (array_of y l) ≡ length (array_of y start)
  -- "Then no operation, command or suspension remains, all DYBs and the PPB lock bit are 0, PPBs, clock and charge stand."; so
  -- does the customer's lock
  pub rest : r ≡ device (record { clock = h.clock; charge = h.charge }) Ground Idle (bits empty_of h.ppb false h.sealed)

-- ---- the promises

-- demand 3: after any run from a fresh device and an accepted cut
abbrev pub Demand3 : Part → Type 0
Demand3 p =
    (start : Lent) (es : List Event) (debris : List ℕ)
    → let ran = run p fresh start es in
    let o = step p ran.device ran.lent (cut debris) in
    o.answer.refusal ≡ Done → Left p start (history p ran.turns) debris o.answer.device o.lent

-- it is about something: after any run over whole cells a cut with debris enough is accepted, and no shorter one is
abbrev pub cut_after : Part → (start : Lent) → List Event → (debris : List ℕ) → Refusal
cut_after p start es debris = (step p (run p fresh start es).device (run p fresh start es).lent (cut debris)).answer.refusal

abbrev pub CutTaken : Part → Type 0
CutTaken p =
    (start : Lent) (es : List Event) (debris : List ℕ) → Whole p start
    → debris_needed p (run p fresh start es).device.operation ≤ length debris → cut_after p start es debris ≡ Done

abbrev pub CutNotTaken : Part → Type 0
CutNotTaken p =
    (start : Lent) (es : List Event) (debris : List ℕ) → Whole p start
    → length debris < debris_needed p (run p fresh start es).device.operation → cut_after p start es debris ≡ Debris

-- no event is answered STATE after any run, whatever is lent with it
abbrev pub NeverState : Part → Type 0
NeverState p = (start : Lent) (es : List Event) (l : Lent) (e : Event) → (step p (run p fresh start es).device l e).answer.refusal ≡ State → ⊥

-- at every moment of a run each word holds what the facts say
abbrev pub Holding : Part → Type 0
Holding p =
    (start : Lent) (es : List Event) (y : Array) (x : ℕ) → x < words_of p y
    → word_at (run p fresh start es).lent y x ≡ holds p start (history p (run p fresh start es).turns).facts y x

-- ---- document 02, request 6: a program that was taken and finished left its data

-- the word was programmed, its block was erased, or a cut hit one or the other
unfoldable pub touches : Part → Fact → Array → (x : ℕ) → Bool
touches p (program_done d) y x = writes d y x
touches p (erase_done b) y x = in_block p b y x
touches p (program_cut d debris) y x = writes d y x
touches p (erase_cut b debris) y x = in_block p b y x

-- the last that came to pass for the word at x is the end of this program
pub data LastEnded (p : Part) (y : Array) (x : ℕ) (d : Written) : List Fact → Type 0 where
  ended : {fs : List Fact} → writes d y x ≡ true → LastEnded p y x d (program_done d ∷ fs)
  since : {f : Fact} {fs : List Fact} → touches p f y x ≡ false → LastEnded p y x d fs → LastEnded p y x d (f ∷ fs)

-- then the word holds exactly the data of that program
abbrev pub ProgramsLeaveData : Part → Type 0
ProgramsLeaveData p =
    (start : Lent) (es : List Event) (y : Array) (x : ℕ) (d : Written) → x < words_of p y
    → LastEnded p y x d (history p (run p fresh start es).turns).facts → word_at (run p fresh start es).lent y x ≡ datum d x

-- ---- time and charge

-- the record's clock and charge are what the history of accepted waits gives, its DYBs, PPBs and customer's lock those that were told of
pub record Agrees (h : Told) (r : Device) : Type 0 where
  pub clock : r.meter.clock ≡ h.clock
  pub charge : r.meter.charge ≡ h.charge
  pub dyb : r.bits.dyb ≡ h.dyb
  pub ppb : r.bits.ppb ≡ h.ppb
  pub sealed : r.bits.sealed ≡ h.sealed

abbrev pub ChargeByHistory : Part → Type 0
ChargeByHistory p = (start : Lent) (es : List Event) → Agrees (history p (run p fresh start es).turns) (run p fresh start es).device
