-- RAISE is answered exactly where a program, once started, would have left something else than its data.
use Prim.Native.Nat.{ℕ, ◌<◌}
use mathlib.Core.Path.{◌≡◌, refl, sym, ap, ◌∙◌}
use mathlib.Core.Bool.{Bool, true, false}
use lib.Bits.{bit_and}
use lib.Dec.{eqb, ltb}
use borrow.Author.Tests.{eq-eqb, ltb-true, not-false}
use Rattle.geometry.specs.declared.Part.{Part}
use Rattle.geometry.specs.Parts.{word_count}
use Rattle.meter.specs.declared.Meter.{Meter}
use Rattle.protection.specs.declared.Protection.{Protection}
use Rattle.plain.specs.declared.Array.{Array}
use Rattle.plain.specs.declared.Refusal.{Refusal}
use Rattle.plain.specs.declared.Refusal.TheVariants.{Done, State, Cells, Address, Clock, Debris, Busy, Sequence, Raise}
use Rattle.plain.specs.declared.Written.{Written}
use Rattle.plain.specs.declared.Erase.{Erase}
use Rattle.plain.specs.declared.Inside.{Inside}
use Rattle.plain.specs.declared.Inside.TheVariants.{Nothing, Runs}
use Rattle.plain.specs.declared.Operation.{Operation}
use Rattle.plain.specs.declared.Operation.TheVariants.{Idle, Programming, ProgramSuspended, Window, Erasing, Recovering, EraseSuspended, ChipErasing, InOneTime, OneTimeProgramming}
use Rattle.plain.specs.declared.Suspension.{Suspension}
use Rattle.plain.specs.declared.Suspension.TheVariants.{Unsuspended, OfProgram, OfErase, Entered}
use Rattle.plain.specs.declared.Command.{Command}
use Rattle.plain.specs.declared.Command.TheVariants.{Entering}
use Rattle.plain.specs.declared.Cycle.TheVariants.{ProgramData}
use Rattle.plain.specs.declared.Effect.{Effect}
use Rattle.plain.specs.declared.Effect.TheVariants.{Goes, Starts, Protects, Falls, Stays, Drops}
use Rattle.plain.specs.declared.Device.{Device}
use Rattle.plain.specs.Commands.{keeps_out, started, begins, after_a0, continued, entered, in_suspended_erase, written, effected}
use Rattle.plain.specs.Events.{Event, read, write, wait, cut, range}
use Rattle.plain.specs.Figures.{program_time}
use Rattle.plain.specs.Lent.{Lent, word_at}
use Rattle.plain.specs.Machine.{Outcome, outcome, ladder, hands_back, Fit, read_event, write_event, wait_event, cut_event, range_event, step}
use Rattle.plain.specs.Operations.{running_inside, running_of, suspension_of}
use Rattle.plain.specs.Programs.{writes, datum, array_written, raises, finished}
use Rattle.plain.specs.Raise.{asks, WouldStart, would_leave, Works, CannotWork, spoils, RaiseOnly, RaiseAlways, OthersStart}
use Rattle.plain.specs.Refusals.{number}
use Rattle.plain.specs.Sound.{is_ground, is_still, command_sound}
use Rattle.plain.specs.Time.{Moment, moment, ticks}
use Rattle.plain.specs.Record.{suspended}
use Rattle.plain.proofs.EventLaws.{write-passes}
use Rattle.plain.proofs.Facts.{sound-command}
use Rattle.plain.proofs.FigureLaws.{program-some}
use Rattle.plain.proofs.InTime.{program-running, inside-running, one-time-running}
use Rattle.plain.proofs.Ladder.{by-ladder}
use Rattle.plain.proofs.Programs.{finished-at, modest-leaves, others-spoil}
use Rattle.plain.proofs.Ticks.{lands}
use Rattle.plain.proofs.Tools.{by-test, by_cases, clash, neither_right}
use Rattle.history.proofs.KeptRegister.{selected-lies}
use Rattle.history.proofs.Fine.{never, Asking, Fine, falls, raised, stays}
use Rattle.history.proofs.KeptWrite.{write-fine}

-- ---- what a started program leaves

module _ (p : Part) (m : Meter) (l : Lent) (d : Written) where
  leaves_in : (s : Suspension) → keeps_out p s d ≡ false → (ticks p (program_time p) (moment m (begins s (started p d)) l)).lent ≡ finished d l
  unfolding keeps_out begins
  leaves_in Unsuspended h = ap (λ (m : Moment). m.lent) (lands p _ _ _ _ (program-running p (started p d)) (program_time p) m l (program-some p))
  leaves_in (OfProgram q) h = clash refl h
  leaves_in (OfErase e) h = ap (λ (m : Moment). m.lent) (lands p _ _ _ _ (inside-running p e (started p d)) (program_time p) m l (program-some p))
  leaves_in Entered h = ap (λ (m : Moment). m.lent) (lands p _ _ _ _ (one-time-running p (started p d)) (program_time p) m l (program-some p))

module _ (p : Part) (r : Device) (l : Lent) (a w : ℕ) (fit : Fit p r l) (within : a < word_count p) (allowed : keeps_out p (suspension_of r.operation) (asks r a w) ≡ false) where
  abbrev into : Array
  into = array_written (asks r a w)

  -- old AND data, in each word that it writes
  left_at : (x : ℕ) → writes (asks r a w) into x ≡ true → word_at (would_leave p r l a w) into x ≡ bit_and (word_at l into x) (datum (asks r a w) x)
  left_at x e =
      ap (λ (k : Lent). word_at k into x) (leaves_in p r.meter l (asks r a w) (suspension_of r.operation) allowed)
      ∙ finished-at p (asks r a w) l fit.whole (selected-lies (suspension_of r.operation) a w p within) into x ∙ rw e

  spoilt : raises (asks r a w) l ≡ true → Works p r l a w → ⊥
  spoilt h f = others-spoil p (asks r a w) l h (λ x e. sym (left_at x e) ∙ f x e)

  working : raises (asks r a w) l ≡ false → Works p r l a w
  working h x e = left_at x e ∙ modest-leaves p (asks r a w) l h into x e

-- ---- the data cycle

module _ (p : Part) (bits : Protection) (l : Lent) (a w : ℕ) where
  inside-at-data : (e : Erase) (i : Inside) → command_sound p (EraseSuspended (suspended e i)) (Entering ProgramData) ≡ true
      → in_suspended_erase i (entered p bits (OfErase e) (Entering ProgramData) l a w) ≡ after_a0 p bits (OfErase e) l a w
  unfolding command_sound is_still is_ground running_of running_inside in_suspended_erase entered continued
  inside-at-data e Nothing h = refl
  inside-at-data e (Runs q) h = clash h refl

  at-data : (o : Operation) → command_sound p o (Entering ProgramData) ≡ true → written p bits o (Entering ProgramData) l a w ≡ after_a0 p bits (suspension_of o) l a w
  unfolding command_sound is_still is_ground running_of suspension_of written entered continued
  at-data Idle h = refl
  at-data (Programming q) h = clash h refl
  at-data (ProgramSuspended q) h = refl
  at-data (Window e) h = clash h refl
  at-data (Erasing e) h = clash h refl
  at-data (Recovering r) h = clash h refl
  at-data (EraseSuspended s) h = inside-at-data s.erase s.inside h
  at-data (ChipErasing e) h = clash h refl
  at-data InOneTime h = refl
  at-data (OneTimeProgramming q) h = clash h refl

  in-data-cycle : (o : Operation) (c : Command) → c ≡ Entering ProgramData → command_sound p o c ≡ true → written p bits o c l a w ≡ after_a0 p bits (suspension_of o) l a w
  in-data-cycle o c e h = rw e (at-data o (rw e at h))

module _ (p : Part) (r : Device) (l : Lent) (a w : ℕ) (s : WouldStart p r l a w) where
  data-write : step p r l (write a w) ≡ outcome (effected r (after_a0 p r.bits (suspension_of r.operation) l a w)) l
  unfolding step
  data-write =
      write-passes p r l a w s.fit s.in-part
      ∙ ap (λ (e : Effect). outcome (effected r e) l) (in-data-cycle p r.bits l a w r.operation r.command s.cycle (sound-command p r s.fit.sound))

-- ---- the statements

pub raise-always : (p : Part) → RaiseAlways p
unfolding after_a0 effected
raise-always p r l e (spoils {a} {w} s n) =
    by_cases (raises (asks r a w) l) (λ t. data-write p r l a w s ∙ rw (s.unbarred, s.allowed, t))
    (λ t. absurd (n (working p r l a w s.fit s.in-part s.allowed t)))

pub others-start : (p : Part) → OthersStart p
unfolding after_a0 effected
others-start p r l a w s f =
    by_cases (raises (asks r a w) l) (λ t. absurd (spoilt p r l a w s.fit s.in-part s.allowed t f))
    (λ t. ap (λ (o : Outcome). o.answer.refusal) (data-write p r l a w s) ∙ rw (s.unbarred, s.allowed, t))

-- an answer of another number
not-raise : {A : Type 0} (n : Refusal) → eqb (number n) 14 ≡ false → n ≡ Raise → A
unfolding number
not-raise n h q = clash (eq-eqb (number n) 14 (rw q)) h

module _ (p : Part) (r : Device) (l : Lent) (e : Event) where
  Only : Outcome → Type 0
  Only o = o.answer.refusal ≡ Raise → CannotWork p r l e

  climbs : (fails : Bool) (own : Refusal) (taken : Outcome) → eqb (number own) 14 ≡ false → (Fit p r l → fails ≡ false → Only taken) → Only (ladder p r l fails own taken)
  unfolding Only number
  climbs fails own taken h f =
      by-ladder p r l fails own taken Only (λ _. not-raise State refl) (not-raise Cells refl) (λ _. not-raise own h) f

  effect-only : {w : ℕ} (x : Effect) → Fine p r.bits l w (CannotWork p r l e) r.operation x → Only (outcome (effected r x) l)
  unfolding Only effected number
  effect-only (Goes c) f = not-raise Done refl
  effect-only (Starts o) f = not-raise Done refl
  effect-only (Protects b) f = not-raise Done refl
  effect-only (Falls n) (falls h) = not-raise n (neither_right (never n) _ h)
  effect-only (Falls n) (raised why) = λ _. why
  effect-only (Stays n) (stays h) = not-raise n (neither_right (never n) _ h)
  effect-only Drops f = not-raise Sequence refl

asked : (p : Part) (r : Device) (l : Lent) (a w : ℕ) → Fit p r l → a < word_count p → Asking p r.bits l a w (suspension_of r.operation) r.command → CannotWork p r l (write a w)
asked p r l a w f h k =
    spoils (record { fit = f; in-part = h; cycle = k.cycle; unbarred = k.unbarred; allowed = k.allowed }) (spoilt p r l a w f h k.allowed k.raises)

pub raise-only : (p : Part) → RaiseOnly p
unfolding Only step read_event write_event wait_event cut_event range_event number
raise-only p r l (read a) = climbs p r l (read a) _ Address _ refl (λ _ _. not-raise Done refl)
raise-only p r l (write a w) =
    climbs p r l (write a w) _ Address _ refl
    (λ f t. effect-only p r l (write a w) _
    (write-fine p r l a w _ f.sound t (asked p r l a w f (ltb-true a (word_count p) (not-false (ltb a (word_count p)) t)))))
raise-only p r l (wait n) = climbs p r l (wait n) _ Clock _ refl (λ _ _. not-raise Done refl)
raise-only p r l (cut debris) = climbs p r l (cut debris) _ Debris _ refl (λ _ _. not-raise Done refl)
raise-only p r l (range first count) =
    let F = Only p r l (range first count) in
    climbs p r l (range first count) _ Address _ refl (λ _ _. by-test F (hands_back r.operation) (λ _. not-raise Done refl) (λ _. not-raise Busy refl))
