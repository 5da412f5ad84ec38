-- One wait or two: microseconds in a row are the same microseconds, in one wait or in two; and a wait leaves what the next finds fit.
use Prim.Native.Nat.{ℕ, ◌+◌, ◌≤◌}
use mathlib.Core.Path.{◌≡◌, sym, ap, ◌∙◌}
use native.Mathlib.Omega.{arith}
use borrow.Author.Tests.{leb-true, not-false}
use Rattle.geometry.specs.declared.Part.{Part}
use Rattle.plain.specs.declared.Refusal.{Refusal}
use Rattle.plain.specs.declared.Refusal.TheVariants.{Done, Clock}
use Rattle.plain.specs.declared.Device.{Device}
use Rattle.plain.specs.Events.{wait}
use Rattle.plain.specs.Figures.{clock_limit}
use Rattle.plain.specs.Lent.{Lent}
use Rattle.plain.specs.Machine.{Outcome, Fit, now, wait_taken, wait_event, step}
use Rattle.plain.specs.OneWait.{Taken, wait_twice, OneWaitOrTwo, TwoWaitsOrOne}
use Rattle.plain.specs.Refusals.{number}
use Rattle.plain.proofs.EventLaws.{wait-passes}
use Rattle.plain.proofs.Ladder.{by-ladder}
use Rattle.plain.proofs.Quick.{ticks-keep}
use Rattle.plain.proofs.SoundTime.{ticks-clock, waited-sound}
use Rattle.plain.proofs.Ticks.{waited-twice}

-- ---- a wait is taken just where record and words are fit and the clock has room

Room : Part → Device → Lent → (n : ℕ) → Type 0
Room p r l n = Fit p r l × (r.meter.clock + n ≤ clock_limit p)

other : {P : Type 0} {n : Refusal} → n ≡ Done → (number n ≡ 0 → ⊥) → P
unfolding number
other e h = absurd (h (ap number e))

module _ (p : Part) (r : Device) (l : Lent) (n : ℕ) where
  has_room : Taken (step p r l (wait n)) → Room p r l n
  unfolding step wait_event Room number
  has_room =
      by-ladder p r l _ Clock (wait_taken p r l n) (λ (o : Outcome). Taken o → Room p r l n) (λ _ e. other e (λ z. omega (arith, z))) (λ e. other e (λ z. omega (arith, z)))
      (λ _ e. other e (λ z. omega (arith, z))) (λ fit t _. (fit, leb-true _ _ (not-false _ t)))

  taken : Room p r l n → step p r l (wait n) ≡ wait_taken p r l n
  unfolding step Room
  taken room = wait-passes p r l n room.0 room.1

-- and what it leaves is fit for the next, as long as the clock has room for both
room_after : (p : Part) (r : Device) (l : Lent) (a b : ℕ) → Fit p r l → r.meter.clock + a + b ≤ clock_limit p
    → let first = wait_taken p r l a in
    Room p first.answer.device first.lent b
unfolding Room
room_after p r l a b fit room = (
  record { sound = waited-sound p r l a fit.sound (omega (arith, room)); whole = λ y. ticks-keep p a (now r l) fit.whole y ∙ fit.whole y },
  omega (arith, ticks-clock p a (now r l), room),
)

-- ---- so

module _ (p : Part) (r : Device) (l : Lent) (a b : ℕ) where
  two-are-one : Fit p r l → r.meter.clock + a + b ≤ clock_limit p → wait_twice p r l a b ≡ wait_taken p r l (a + b)
  unfolding Room
  two-are-one fit room =
      let first = wait_taken p r l a in
      rw (taken p r l a (fit, omega (arith, room)))
      (taken p first.answer.device first.lent b (room_after p r l a b fit room) ∙ waited-twice p r l a b)

pub one-wait-or-two : (p : Part) → OneWaitOrTwo p
unfolding Room
one-wait-or-two p r l a b e =
    let room = has_room p r l (a + b) e in
    let both = two-are-one p r l a b room.0 (omega (arith, room.1)) in (
      ap (λ (o : Outcome). o.answer.refusal) (taken p r l a (room.0, omega (arith, room.1))),
      (ap (λ (o : Outcome). o.answer.refusal) both, both ∙ sym (taken p r l (a + b) room)),
    )

pub two-waits-or-one : (p : Part) → TwoWaitsOrOne p
unfolding Room
two-waits-or-one p r l a b e f =
    let first = has_room p r l a e in
    let then = has_room p (wait_taken p r l a).answer.device (wait_taken p r l a).lent b (rw (taken p r l a first) at f) in
    ap (λ (o : Outcome). o.answer.refusal) (taken p r l (a + b) (first.0, omega (arith, then.1, ticks-clock p a (now r l))))
