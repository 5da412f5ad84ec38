-- The one-time block: a locked word never changes, locks stay, and only a cut or a write that is taken leaves the block.
use Prim.Native.Nat.{ℕ, zero, suc}
use mathlib.Core.Path.{◌≡◌, refl, ◌∙◌}
use mathlib.Core.Bool.{Bool, true, false}
use mathlib.Core.List.{[], ◌∷◌}
use lib.Dec.{eqb, ltb}
use lib.ListN.{length}
use borrow.Author.Tests.{eq-eqb, lt-ltb, ltb-false}
use Rattle.geometry.specs.declared.Part.{Part}
use Rattle.protection.specs.Protection.{factory_words, word_locked_by, word_locked}
use Rattle.plain.specs.declared.Array.TheVariants.{OneTime}
use Rattle.plain.specs.declared.Refusal.{Refusal}
use Rattle.plain.specs.declared.Refusal.TheVariants.{Done, State, Cells, Address, Clock, Debris, Busy}
use Rattle.plain.specs.declared.Program.{Program}
use Rattle.plain.specs.declared.Operation.{Operation}
use Rattle.plain.specs.declared.Operation.TheVariants.{Idle, Programming, ProgramSuspended, Window, Erasing, Recovering, EraseSuspended, ChipErasing, InOneTime, OneTimeProgramming}
use Rattle.plain.specs.declared.Suspension.TheVariants.{Entered}
use Rattle.plain.specs.declared.Effect.{Effect}
use Rattle.plain.specs.declared.Effect.TheVariants.{Goes, Starts, Protects, Falls, Stays, Drops}
use Rattle.plain.specs.declared.Device.{Device}
use Rattle.plain.specs.Commands.{entered, in_suspended_erase, written, effected}
use Rattle.plain.specs.Cut.{debris_needed}
use Rattle.plain.specs.Events.{Event, read, write, wait, cut, range}
use Rattle.plain.specs.Lent.{Lent, word_at}
use Rattle.plain.specs.Machine.{Outcome, outcome, ladder, now, hands_back, Fit, read_event, write_event, wait_event, cut_event, range_event, step, run}
use Rattle.plain.specs.OneTime.{in_one_time, exited, WayOut, by-cut, LockedNeverChanges, LocksStay, LockedInRuns, FactoryWordsStay, CutLeavesLocks, CutExits, ResetExits, ExitExits, OnlyTheseLeave}
use Rattle.plain.specs.Operations.{running_inside, running_of, suspension_of, is_entered}
use Rattle.plain.specs.Record.{device}
use Rattle.plain.specs.Refusals.{number}
use Rattle.plain.specs.Sound.{is_still, command_sound}
use Rattle.plain.specs.Time.{Moment, last, inside_tick, operation_tick, tick, ticks}
use Rattle.plain.proofs.Facts.{sound-operation, sound-command}
use Rattle.plain.proofs.Ladder.{by-ladder}
use Rattle.plain.proofs.Tools.{by-test, by_cases, clash}
use Rattle.history.proofs.Fine.{Fine, protects}
use Rattle.history.proofs.KeptRead.{look-alike}
use Rattle.history.proofs.KeptWrite.{write-fine}
use Rattle.history.proofs.Spared.{cut-spares, ticks-spare}
use Rattle.history.proofs.WaysOut.{reset-out, exit_out, Leaving, starts, leaving}

-- an answer of another number
not_done : {A : Type 0} (n : Refusal) → eqb (number n) 0 ≡ false → n ≡ Done → A
unfolding number
not_done n h q = clash (eq-eqb (number n) 0 (rw q)) h

-- the one-time block is entered
data In : Operation → Type 0 where
  rests : In InOneTime
  programs : (q : Program) → In (OneTimeProgramming q)

is-in : (o : Operation) → is_entered (suspension_of o) ≡ true → In o
unfolding suspension_of
is-in Idle h = clash h refl
is-in (Programming q) h = clash h refl
is-in (ProgramSuspended q) h = clash h refl
is-in (Window e) h = clash h refl
is-in (Erasing e) h = clash h refl
is-in (Recovering e) h = clash h refl
is-in (EraseSuspended e) h = clash h refl
is-in (ChipErasing e) h = clash h refl
is-in InOneTime h = rests
is-in (OneTimeProgramming q) h = programs q

-- ---- a locked word

module _ (p : Part) (r : Device) (l : Lent) (x : ℕ) (h : word_locked r.bits x ≡ true) where
  Same : Outcome → Type 0
  Same o = word_at o.lent OneTime x ≡ word_at l OneTime x

  same-climbs : (fails : Bool) (own : Refusal) (taken : Outcome) → (Fit p r l → fails ≡ false → Same taken) → Same (ladder p r l fails own taken)
  unfolding Same
  same-climbs fails own taken f = by-ladder p r l fails own taken Same (λ _. refl) refl (λ _. refl) f

  step_same : (e : Event) → Same (step p r l e)
  unfolding Same step read_event write_event wait_event cut_event range_event
  step_same (read a) = same-climbs _ Address _ (λ _ _. refl)
  step_same (write a w) = same-climbs _ Address _ (λ _ _. refl)
  step_same (wait n) = same-climbs _ Clock _ (λ f _. ticks-spare p r.bits x h n (now r l) (sound-operation p r f.sound r.operation refl) f.whole)
  step_same (cut debris) =
      same-climbs _ Debris _
      (λ f t. cut-spares p r.bits r.operation (sound-operation p r f.sound r.operation refl) debris l f.whole (ltb-false (length debris) (debris_needed p r.operation) t) OneTime x h)
  step_same (range first count) = same-climbs _ Address _ (λ _ _. by-test Same (hands_back r.operation) (λ _. refl) (λ _. refl))

pub locked-never-changes : (p : Part) → LockedNeverChanges p
unfolding Same
locked-never-changes p r l e x h = step_same p r l x h e

-- ---- the customer's lock

module _ (p : Part) (r : Device) (l : Lent) (h : r.bits.sealed ≡ true) where
  Sealed : Outcome → Type 0
  Sealed o = o.answer.device.bits.sealed ≡ true

  sealed-climbs : (fails : Bool) (own : Refusal) (taken : Outcome) → (Fit p r l → fails ≡ false → Sealed taken) → Sealed (ladder p r l fails own taken)
  unfolding Sealed
  sealed-climbs fails own taken f = by-ladder p r l fails own taken Sealed (λ _. h) h (λ _. h) f

  effect-sealed : {w : ℕ} (e : Effect) → Fine p r.bits l w (Unit {0}) r.operation e → Sealed (outcome (effected r e) l)
  unfolding Sealed effected
  effect-sealed (Goes c) f = h
  effect-sealed (Starts o) f = h
  effect-sealed (Protects new) (protects _ _ keeps) = keeps h
  effect-sealed (Falls n) f = h
  effect-sealed (Stays n) f = h
  effect-sealed Drops f = h

  step-sealed : (e : Event) → Sealed (step p r l e)
  unfolding Sealed step read_event write_event wait_event cut_event range_event
  step-sealed (read a) = sealed-climbs _ Address _ (λ _ _. h)
  step-sealed (write a w) = sealed-climbs _ Address _ (λ f t. effect-sealed _ (write-fine p r l a w _ f.sound t (λ _. tt)))
  step-sealed (wait n) = sealed-climbs _ Clock _ (λ _ _. h)
  step-sealed (cut debris) = sealed-climbs _ Debris _ (λ _ _. h)
  step-sealed (range first count) = sealed-climbs _ Address _ (λ _ _. by-test Sealed (hands_back r.operation) (λ _. h) (λ _. h))

pub locks-stay : (p : Part) → LocksStay p
unfolding Sealed
locks-stay p r l e h = step-sealed p r l h e

-- a locked word stays locked
locked-stays : (p : Part) (r : Device) (l : Lent) (e : Event) (x : ℕ) → word_locked r.bits x ≡ true → word_locked (step p r l e).answer.device.bits x ≡ true
unfolding word_locked_by
locked-stays p r l e x h =
    by_cases (ltb x factory_words) (λ t. rw t) (λ t. rw t (locks-stay p r l e (rw t at h)))

pub locked-in-runs : (p : Part) → LockedInRuns p
unfolding run
locked-in-runs p r l [] x h = refl
locked-in-runs p r l (e ∷ es) x h =
    locked-in-runs p (step p r l e).answer.device (step p r l e).lent es x (locked-stays p r l e x h) ∙ locked-never-changes p r l e x h

pub factory-words-stay : (p : Part) → FactoryWordsStay p
unfolding word_locked_by
factory-words-stay p r l es x h = locked-in-runs p r l es x (rw (lt-ltb x factory_words h))

-- ---- a cut

pub cut-leaves-locks : (p : Part) → CutLeavesLocks p
unfolding step cut_event
cut-leaves-locks p r l debris = by-ladder p r l _ Debris _ (λ (o : Outcome). o.answer.device.bits.sealed ≡ r.bits.sealed) (λ _. refl) refl (λ _. refl) (λ _ _. refl)

Out : Outcome → Type 0
Out o = o.answer.refusal ≡ Done → in_one_time o.answer.device ≡ false

pub cut-exits : (p : Part) → CutExits p
unfolding Out step cut_event suspension_of number
cut-exits p r l debris =
    by-ladder p r l _ Debris _ Out (λ _. not_done State refl) (not_done Cells refl) (λ _. not_done Debris refl) (λ _ _ _. refl)

-- ---- F0H, and 00H after 90H

module _ (p : Part) (r : Device) (l : Lent) (a w : ℕ) (out : entered p r.bits Entered r.command l a w ≡ Starts Idle) where
  Exited : Outcome → Type 0
  Exited o = o.answer.refusal ≡ Done → o.answer.device ≡ exited r

  abbrev Exits : Effect → Type 0
  Exits x = Exited (outcome (effected r x) l)

  write-exits : (o : Operation) → In o → Exits (written p r.bits o r.command l a w)
  unfolding Exited written effected number
  write-exits InOneTime rests = rw out (λ _. refl)
  write-exits (OneTimeProgramming q) (programs _) = not_done Busy refl
  write-exits Idle x' = elim x' [ ]
  write-exits (Programming _) x3 = elim x3 [ ]
  write-exits (ProgramSuspended _) x4 = elim x4 [ ]
  write-exits (Window _) x5 = elim x5 [ ]
  write-exits (Erasing _) x6 = elim x6 [ ]
  write-exits (Recovering _) x7 = elim x7 [ ]
  write-exits (EraseSuspended _) x8 = elim x8 [ ]
  write-exits (ChipErasing _) x9 = elim x9 [ ]

  step-exits : in_one_time r ≡ true → Exited (step p r l (write a w))
  unfolding Exited step write_event number
  step-exits h =
      by-ladder p r l _ Address _ Exited (λ _. not_done State refl) (not_done Cells refl) (λ _. not_done Address refl) (λ _ _. write-exits r.operation (is-in r.operation h))

pub reset-exits : (p : Part) → ResetExits p
unfolding Exited
reset-exits p r l a w h f m n = step-exits p r l a w (reset-out p r.bits l a w f r.command m n) h

pub exit-exits : (p : Part) → ExitExits p
unfolding Exited
exit-exits p r l a w bank h c f = step-exits p r l a w (rw c (exit_out p r.bits l a w bank f)) h

-- ---- what leaves the block

-- time does not
tick-lasts : (p : Part) (o : Operation) → In o → is_entered (suspension_of (operation_tick p o)) ≡ true
unfolding operation_tick suspension_of
tick-lasts p InOneTime rests = refl
tick-lasts p (OneTimeProgramming q) (programs _) = by-test (λ (o : Operation). is_entered (suspension_of o) ≡ true) (last q.left) (λ _. refl) (λ _. refl)
tick-lasts p Idle x' = elim x' [ ]
tick-lasts p (Programming _) x3 = elim x3 [ ]
tick-lasts p (ProgramSuspended _) x4 = elim x4 [ ]
tick-lasts p (Window _) x5 = elim x5 [ ]
tick-lasts p (Erasing _) x6 = elim x6 [ ]
tick-lasts p (Recovering _) x7 = elim x7 [ ]
tick-lasts p (EraseSuspended _) x8 = elim x8 [ ]
tick-lasts p (ChipErasing _) x9 = elim x9 [ ]

ticks-last : (p : Part) (n : ℕ) (m : Moment) → is_entered (suspension_of m.operation) ≡ true → is_entered (suspension_of (ticks p n m).operation) ≡ true
unfolding ticks tick
ticks-last p zero m h = h
ticks-last p (suc n) m h = ticks-last p n (tick p m) (tick-lasts p m.operation (is-in m.operation h))

module _ (p : Part) (r : Device) (l : Lent) (h : in_one_time r ≡ true) (e : Event) where
  Leaves : Outcome → Type 0
  Leaves o = in_one_time o.answer.device ≡ false → WayOut r.command e × (o.answer.refusal ≡ Done)

  leaves-climbs : (fails : Bool) (own : Refusal) (taken : Outcome) → (Fit p r l → fails ≡ false → Leaves taken) → Leaves (ladder p r l fails own taken)
  unfolding Leaves
  leaves-climbs fails own taken f = by-ladder p r l fails own taken Leaves (λ _. clash h) (clash h) (λ _. clash h) f

module _ (p : Part) (r : Device) (l : Lent) (h : in_one_time r ≡ true) (a w : ℕ) where
  abbrev Left : Effect → Type 0
  Left x = Leaves p r l h (write a w) (outcome (effected r x) l)

  effect-leaves : (x : Effect) → Leaving p r.bits l a w r.command x → Left x
  unfolding Leaves effected
  effect-leaves (Goes c) f = clash h
  effect-leaves (Starts o) (starts f) = λ out. (f out, refl)
  effect-leaves (Protects new) f = clash h
  effect-leaves (Falls n) f = clash h
  effect-leaves (Stays _) f = elim f [ ]
  effect-leaves Drops f = elim f [ ]

  write-leaves : (o : Operation) → In o → command_sound p o r.command ≡ true → Left (written p r.bits o r.command l a w)
  unfolding Leaves written effected command_sound is_still running_of suspension_of
  write-leaves InOneTime rests s = effect-leaves _ (leaving p r.bits l a w r.command s)
  write-leaves (OneTimeProgramming q) (programs _) s = clash h
  write-leaves Idle x'' s = elim x'' [ ]
  write-leaves (Programming _) x4 s = elim x4 [ ]
  write-leaves (ProgramSuspended _) x5 s = elim x5 [ ]
  write-leaves (Window _) x6 s = elim x6 [ ]
  write-leaves (Erasing _) x7 s = elim x7 [ ]
  write-leaves (Recovering _) x8 s = elim x8 [ ]
  write-leaves (EraseSuspended _) x9 s = elim x9 [ ]
  write-leaves (ChipErasing _) x10 s = elim x10 [ ]

pub only-these-leave : (p : Part) → OnlyTheseLeave p
unfolding Leaves step read_event write_event wait_event cut_event range_event
only-these-leave p r l (read a) h =
    leaves-climbs p r l h (read a) _ Address _ (λ _ _. clash ((look-alike p r.bits r.command r.operation l a).entered ∙ h))
only-these-leave p r l (write a w) h =
    leaves-climbs p r l h (write a w) _ Address _ (λ f _. write-leaves p r l h a w r.operation (is-in r.operation h) (sound-command p r f.sound))
only-these-leave p r l (wait n) h = leaves-climbs p r l h (wait n) _ Clock _ (λ _ _. clash (ticks-last p n (now r l) h))
only-these-leave p r l (cut debris) h = leaves-climbs p r l h (cut debris) _ Debris _ (λ _ _ _. (by-cut, refl))
only-these-leave p r l (range first count) h =
    leaves-climbs p r l h (range first count) _ Address _ (λ _ _. by-test (Leaves p r l h (range first count)) (hands_back r.operation) (λ _. clash h) (λ _. clash h))
