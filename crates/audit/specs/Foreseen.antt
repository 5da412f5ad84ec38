-- What is promised of what `machine` foretells of a record: for every answer that the contracts allow.
use Rattle.std.specs.Prelude.{Some}
use Rattle.std.specs.Prelude.{ℕ, ◌+◌, ◌-◌, ◌<◌, ◌≤◌, ◌≡◌, true, false, List, leb, length}
use Rattle.geometry.specs.declared.Part.{Part}
use Rattle.geometry.specs.Parts.{size_of}
use Rattle.plain.specs.declared.Array.{Array}
use Rattle.plain.specs.declared.Refusal.TheVariants.{Done, Debris}
use Rattle.plain.specs.declared.Device.{Device}
use Rattle.plain.specs.declared.Answer.{Answer}
use Rattle.plain.specs.Events.{read, wait, cut}
use Rattle.plain.specs.Lent.{Lent, words_of, word_at, Whole}
use Rattle.plain.specs.OneTime.{in_one_time}
use Rattle.plain.specs.Operations.{running_of, suspension_of}
use Rattle.plain.specs.Sound.{is_still}
use Rattle.remaining.specs.declared.Change.{Change}
use Rattle.foretold.specs.Foretold.{come_by, comes_at, changes_at, timeless, completed}
use Rattle.machine.proofs.until_end.Reads as UntilEnd
use Rattle.machine.proofs.until_change.Reads as UntilChange
use Rattle.machine.proofs.debris_needed.Reads as DebrisNeeded
use Rattle.audit.specs.Performed.{Allowed}

-- ---- the end: after a wait of fewer microseconds than were told something still runs, after that many or more nothing does

abbrev pub EndForeseen : Part → Type 0
EndForeseen p =
    (r : Device) (l after : Lent) (n k : ℕ) (y : Answer) → UntilEnd.Learnt tt (p, (r, tt)) (Some n) (p, (r, tt))
    → Allowed p r l (wait k) y after → y.refusal ≡ Done → is_still (running_of y.device.operation) ≡ leb n k

-- asked again after the wait, it is as much less
abbrev pub EndNears : Part → Type 0
EndNears p =
    (r : Device) (l after : Lent) (n m k : ℕ) (y : Answer) → UntilEnd.Learnt tt (p, (r, tt)) (Some n) (p, (r, tt))
    → Allowed p r l (wait k) y after → y.refusal ≡ Done → UntilEnd.Learnt tt (p, (y.device, tt)) (Some m) (p, (y.device, tt)) → m ≡ n - k

-- ---- the next change

-- before it: the words of both arrays, what runs and what rests are as they were, and every read gives what it gave
pub record AsBefore (p : Part) (r : Device) (l : Lent) (s : Device) (after : Lent) : Type 0 where
  pub lent : after ≡ l
  pub runs : timeless (running_of s.operation) ≡ timeless (running_of r.operation)
  pub rests : suspension_of s.operation ≡ suspension_of r.operation
  pub reads : (a : ℕ) (y z : Answer) (one two : Lent) → Allowed p r l (read a) y one → Allowed p s after (read a) z two
      → (z.refusal ≡ y.refusal) × (z.word ≡ y.word)

-- just then: what was in hand is finished, something else runs or nothing, the one-time block is entered if it was, and no word of either
-- array has changed but where it was told
pub record JustChanged (p : Part) (c : Change) (r : Device) (l : Lent) (s : Device) (after : Lent) : Type 0 where
  pub lent : after ≡ completed p (running_of r.operation) l
  pub runs : timeless (running_of s.operation) ≡ timeless (running_of r.operation) → ⊥
  pub mode : in_one_time s ≡ in_one_time r
  pub elsewhere : (y : Array) (x : ℕ) → x < words_of p y → changes_at p c y x ≡ false → word_at after y x ≡ word_at l y x

abbrev pub ChangeForeseen : Part → Type 0
ChangeForeseen p =
    (r : Device) (l after : Lent) (c : Change) (k : ℕ) (y : Answer) → UntilChange.Learnt tt (p, (r, tt)) c (p, (r, tt))
    → Allowed p r l (wait k) y after → y.refusal ≡ Done
    → (come_by c k ≡ false → AsBefore p r l y.device after) × (comes_at c k ≡ true → JustChanged p c r l y.device after)

-- ---- the debris: over whole arrays a cut with as many words as were told is taken, and no shorter one is

-- what a cut may need at most: block 8 is as large as any, and a program inside its suspended erase needs one word more
abbrev pub most_debris : Part → ℕ
most_debris p = size_of p 8 + 1

abbrev pub DebrisForeseen : Part → Type 0
DebrisForeseen p =
    (r : Device) (l after : Lent) (debris : List ℕ) (n : ℕ) (y : Answer) → DebrisNeeded.Learnt tt (p, (r, tt)) (Some n) (p, (r, tt))
    → Whole p l → Allowed p r l (cut debris) y after
    → (n ≤ length debris → y.refusal ≡ Done) × ((length debris < n → y.refusal ≡ Debris) × (n ≤ most_debris p))
