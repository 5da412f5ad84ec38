-- Before the next change only the time left runs down: no word changes, and every read gives what it gave.
use Prim.Native.Nat.{ℕ, ◌-◌, ◌<◌}
use mathlib.Core.Path.{◌≡◌, refl, sym, ◌∙◌}
use mathlib.Core.Bool.{Bool, true, false}
use lib.Dec.{leb}
use borrow.Author.Tests.{leb-false}
use Rattle.geometry.specs.declared.Part.{Part}
use Rattle.meter.specs.declared.Meter.{Meter}
use Rattle.protection.specs.declared.Protection.{Protection}
use Rattle.plain.specs.declared.Program.{Program}
use Rattle.plain.specs.declared.Erase.{Erase}
use Rattle.plain.specs.declared.Inside.{Inside}
use Rattle.plain.specs.declared.Inside.TheVariants.{Nothing, Runs}
use Rattle.plain.specs.declared.Operation.{Operation}
use Rattle.plain.specs.declared.Operation.TheVariants.{Idle, Programming, ProgramSuspended, Window, Erasing, Recovering, EraseSuspended, ChipErasing, InOneTime, OneTimeProgramming}
use Rattle.plain.specs.declared.Command.{Command}
use Rattle.plain.specs.declared.Seen.{Seen}
use Rattle.std.specs.Prelude.{if◌then◌else◌}
use Rattle.plain.specs.Lent.{Lent, word_at}
use Rattle.plain.specs.Operations.{running_of, running_inside, suspension_of, selected}
use Rattle.plain.specs.Record.{program_left, erase_left, suspended, recovery}
use Rattle.plain.specs.Status.{look, polls, polled, inside_polled, status, reading_on, reading_word, rests, rested, rest_word, seen}
use Rattle.plain.specs.Time.{Moment, moment, ticks}
use Rattle.plain.proofs.InTime.{idle-still, program-still, erase-still, entered-still, program-running, inside-running, one-time-running, window-running, erase-running, recovery-running}
use Rattle.plain.proofs.Ticks.{still, drift}
use Rattle.remaining.specs.Remaining.{change_of}
use Rattle.foretold.specs.Foretold.{come_by, timeless, Unchanged, UnchangedTill}

module _ (p : Part) where
  -- ---- what a read asks of an operation

  choose : (a b c : Bool) (w x y z : Seen) → (if a then w else if b then x else if c then y else z).word ≡ (if a then w.word else if b then x.word else if c then y.word else z.word)
  choose true b c w x y z = refl
  choose false true c w x y z = refl
  choose false false true w x y z = refl
  choose false false false w x y z = refl

  -- the word of a read, without the toggles that it leaves
  abbrev shown : Protection → Command → Operation → Lent → (a : ℕ) → ℕ
  shown bits c o l a =
      if polls p (running_of o) a then status (running_of (polled p o a))
      else if reading_on p c a then reading_word p bits c a
      else if rests p (suspension_of o) a then rest_word (suspension_of (rested o))
      else word_at l (selected (suspension_of o) a) a

  look-shows : (bits : Protection) (c : Command) (o : Operation) (l : Lent) (a : ℕ) → (look p bits c o l a).word ≡ shown bits c o l a
  unfolding look
  look-shows bits c o l a = choose (polls p (running_of o) a) (reading_on p c a) (rests p (suspension_of o) a) _ _ _ _

  -- ---- the same, but for the time left

  record Alike (o x : Operation) : Type 0 where
    runs : timeless (running_of x) ≡ timeless (running_of o)
    rests : suspension_of x ≡ suspension_of o
    shows : (bits : Protection) (c : Command) (l : Lent) (a : ℕ) → shown bits c x l a ≡ shown bits c o l a

  unchanged : (mt after : Meter) (o x : Operation) (l : Lent) (k : ℕ) → Alike o x → ticks p k (moment mt o l) ≡ moment after x l
      → Unchanged p (moment mt o l) (ticks p k (moment mt o l))
  unchanged mt after o x l k s e =
      rw e (record { lent = refl; runs = s.runs; rests = s.rests; reads = λ bits c a. look-shows bits c x l a ∙ s.shows bits c l a ∙ sym (look-shows bits c o l a) })

  itself : (o : Operation) → Alike o o
  itself o = record { runs = refl; rests = refl; shows = λ bits c l a. refl }

  program-alike : (q : Program) (n : ℕ) → Alike (Programming q) (Programming (program_left q n))
  unfolding timeless running_of suspension_of polls polled status rests rested rest_word
  program-alike q n = record { runs = refl; rests = refl; shows = λ bits c l a. refl }

  inside-alike : (e : Erase) (q : Program) (n : ℕ) → Alike (EraseSuspended (suspended e (Runs q))) (EraseSuspended (suspended e (Runs (program_left q n))))
  unfolding timeless running_of running_inside suspension_of polls polled inside_polled status rests rested rest_word
  inside-alike e q n = record { runs = refl; rests = refl; shows = λ bits c l a. refl }

  one-time-alike : (q : Program) (n : ℕ) → Alike (OneTimeProgramming q) (OneTimeProgramming (program_left q n))
  unfolding timeless running_of suspension_of polls polled status rests rested rest_word
  one-time-alike q n = record { runs = refl; rests = refl; shows = λ bits c l a. refl }

  window-alike : (e : Erase) (n : ℕ) → Alike (Window e) (Window (erase_left e n))
  unfolding timeless running_of suspension_of polls polled status rests rested rest_word
  window-alike e n = record { runs = refl; rests = refl; shows = λ bits c l a. refl }

  erase-alike : (e : Erase) (n : ℕ) → Alike (Erasing e) (Erasing (erase_left e n))
  unfolding timeless running_of suspension_of polls polled status rests rested rest_word
  erase-alike e n = record { runs = refl; rests = refl; shows = λ bits c l a. refl }

  recovery-alike : (e : Erase) (m n : ℕ) → Alike (Recovering (recovery e m)) (Recovering (recovery e n))
  unfolding timeless running_of suspension_of polls polled status rests rested rest_word
  recovery-alike e m n = record { runs = refl; rests = refl; shows = λ bits c l a. refl }

  chip-alike : (e : Erase) (n : ℕ) → Alike (ChipErasing e) (ChipErasing (erase_left e n))
  unfolding timeless running_of suspension_of polls polled status rests rested rest_word
  chip-alike e n = record { runs = refl; rests = refl; shows = λ bits c l a. refl }

  -- ---- k microseconds, none of them the one of the change

  abbrev Till : Meter → Operation → Lent → ℕ → Type 0
  Till mt o l k = Unchanged p (moment mt o l) (ticks p k (moment mt o l))

  inside-till : (e : Erase) (i : Inside) (mt : Meter) (l : Lent) (k : ℕ) → come_by (change_of (running_inside i)) k ≡ false → Till mt (EraseSuspended (suspended e i)) l k
  unfolding come_by change_of running_inside
  inside-till e Nothing mt l k h = unchanged mt _ _ _ l k (itself _) (still p _ _ (erase-still p e) k mt l)
  inside-till e (Runs q) mt l k h =
      unchanged mt _ _ _ l k (inside-alike e q (q.left - k)) (drift p _ _ _ _ (inside-running p e q) k q.left mt l (leb-false q.left k h))

  till : (o : Operation) (mt : Meter) (l : Lent) (k : ℕ) → come_by (change_of (running_of o)) k ≡ false → Till mt o l k
  unfolding come_by change_of running_of
  till Idle mt l k h = unchanged mt _ _ _ l k (itself Idle) (still p _ _ (idle-still p) k mt l)
  till (Programming q) mt l k h =
      unchanged mt _ _ _ l k (program-alike q (q.left - k)) (drift p _ _ _ _ (program-running p q) k q.left mt l (leb-false q.left k h))
  till (ProgramSuspended q) mt l k h = unchanged mt _ _ _ l k (itself _) (still p _ _ (program-still p q) k mt l)
  till (Window e) mt l k h =
      unchanged mt _ _ _ l k (window-alike e (e.left - k)) (drift p _ _ _ _ (window-running p e) k e.left mt l (leb-false e.left k h))
  till (Erasing e) mt l k h =
      unchanged mt _ _ _ l k (erase-alike e (e.left - k)) (drift p _ _ _ _ (erase-running p false e) k e.left mt l (leb-false e.left k h))
  till (Recovering r) mt l k h =
      unchanged mt _ _ _ l k (recovery-alike r.erase r.left (r.left - k)) (drift p _ _ _ _ (recovery-running p r.erase) k r.left mt l (leb-false r.left k h))
  till (EraseSuspended s) mt l k h = inside-till s.erase s.inside mt l k h
  till (ChipErasing e) mt l k h =
      unchanged mt _ _ _ l k (chip-alike e (e.left - k)) (drift p _ _ _ _ (erase-running p true e) k e.left mt l (leb-false e.left k h))
  till InOneTime mt l k h = unchanged mt _ _ _ l k (itself InOneTime) (still p _ _ (entered-still p) k mt l)
  till (OneTimeProgramming q) mt l k h =
      unchanged mt _ _ _ l k (one-time-alike q (q.left - k)) (drift p _ _ _ _ (one-time-running p q) k q.left mt l (leb-false q.left k h))

  pub unchanged-till : UnchangedTill p
  unchanged-till m k h = till m.operation m.meter m.lent k h
