-- Document 02, request 4, "The one-time block": what its locks keep, and what leaves it. What a cut leaves of its words is told in
-- Promises.
use Rattle.std.specs.Prelude.{ℕ, ◌<◌, ◌≡◌, Bool, true, false, List}
use Rattle.geometry.specs.declared.Part.{Part}
use Rattle.protection.specs.Protection.{factory_words, word_locked}
use Rattle.plain.specs.declared.Array.TheVariants.{OneTime}
use Rattle.plain.specs.declared.Refusal.TheVariants.{Done}
use Rattle.plain.specs.declared.Operation.TheVariants.{Idle}
use Rattle.plain.specs.declared.Command.{Command}
use Rattle.plain.specs.declared.Command.TheVariants.{Ground, Entering, Reads}
use Rattle.plain.specs.declared.Cycle.TheVariants.{ProgramData, DybData}
use Rattle.plain.specs.declared.Reading.TheVariants.{Identity}
use Rattle.plain.specs.declared.Device.{Device}
use Rattle.plain.specs.Cycles.{is}
use Rattle.plain.specs.Events.{Event, write, cut}
use Rattle.plain.specs.Lent.{Lent, word_at}
use Rattle.plain.specs.Machine.{step, run}
use Rattle.plain.specs.Operations.{suspension_of, is_entered}
use Rattle.plain.specs.Record.{device}

-- is the one-time block entered?
abbrev pub in_one_time : Device → Bool
in_one_time r = is_entered (suspension_of r.operation)

-- the record that an event leaves
abbrev pub after : Part → Device → Lent → Event → Device
after p r l e = (step p r l e).answer.device

-- ---- the statements, on any record, sound or not, whatever is lent

-- "a locked word never changes": no event changes it ..
abbrev pub LockedNeverChanges : Part → Type 0
LockedNeverChanges p =
    (r : Device) (l : Lent) (e : Event) (x : ℕ) → word_locked r.bits x ≡ true → word_at (step p r l e).lent OneTime x ≡ word_at l OneTime x

-- .. none takes the customer's lock away ..
abbrev pub LocksStay : Part → Type 0
LocksStay p = (r : Device) (l : Lent) (e : Event) → r.bits.sealed ≡ true → (after p r l e).bits.sealed ≡ true

-- .. and so no run changes it
abbrev pub LockedInRuns : Part → Type 0
LockedInRuns p =
    (r : Device) (l : Lent) (es : List Event) (x : ℕ) → word_locked r.bits x ≡ true → word_at (run p r l es).lent OneTime x ≡ word_at l OneTime x

-- "The factory's words are always locked": no run of any record changes them
abbrev pub FactoryWordsStay : Part → Type 0
FactoryWordsStay p = (r : Device) (l : Lent) (es : List Event) (x : ℕ) → x < factory_words → word_at (run p r l es).lent OneTime x ≡ word_at l OneTime x

-- "A cut or reset exits and leaves the locks as they are.": a cut, one that is refused too ..
abbrev pub CutLeavesLocks : Part → Type 0
CutLeavesLocks p = (r : Device) (l : Lent) (debris : List ℕ) → (after p r l (cut debris)).bits.sealed ≡ r.bits.sealed

-- .. one that is taken exits ..
abbrev pub CutExits : Part → Type 0
CutExits p = (r : Device) (l : Lent) (debris : List ℕ) → (step p r l (cut debris)).answer.refusal ≡ Done → in_one_time (after p r l (cut debris)) ≡ false

-- .. and so does an F0H that is taken and is no data: no operation is under way, the register is at ground, and all bits stand
abbrev pub exited : Device → Device
exited r = device r.meter Ground Idle r.bits

abbrev pub ResetExits : Part → Type 0
ResetExits p =
    (r : Device) (l : Lent) (a w : ℕ) → in_one_time r ≡ true → is w 0xF0 ≡ true
    → (r.command ≡ Entering ProgramData → ⊥) → (r.command ≡ Entering DybData → ⊥)
    → (step p r l (write a w)).answer.refusal ≡ Done → after p r l (write a w) ≡ exited r

-- "Enter, exit and protection sequences are those of Table 6 of source document 000.": there 90H and then 00H exits, too
abbrev pub ExitExits : Part → Type 0
ExitExits p =
    (r : Device) (l : Lent) (a w bank : ℕ) → in_one_time r ≡ true → r.command ≡ Reads (Identity bank) → is w 0x00 ≡ true
    → (step p r l (write a w)).answer.refusal ≡ Done → after p r l (write a w) ≡ exited r

-- and nothing else exits: no other write, no read, no time; c is the register before the event
pub data WayOut (c : Command) : Event → Type 0 where
  by-cut : {debris : List ℕ} → WayOut c (cut debris)
  by-reset : {a w : ℕ} → is w 0xF0 ≡ true → WayOut c (write a w)
  by-exit : {a w bank : ℕ} → c ≡ Reads (Identity bank) → is w 0x00 ≡ true → WayOut c (write a w)

abbrev pub OnlyTheseLeave : Part → Type 0
OnlyTheseLeave p =
    (r : Device) (l : Lent) (e : Event) → in_one_time r ≡ true → in_one_time (after p r l e) ≡ false
    → WayOut r.command e × ((step p r l e).answer.refusal ≡ Done)
