-- Every event on a sound record leaves a sound one, and is not answered STATE.
use Prim.Native.Nat.{ℕ}
use mathlib.Core.Path.{◌≡◌, refl, ◌∙◌}
use mathlib.Core.Bool.{Bool, true, false}
use mathlib.Core.List.{List}
use borrow.Author.Tests.{leb-true, not-false}
use Rattle.geometry.specs.declared.Part.{Part}
use Rattle.protection.specs.declared.Protection.{Protection}
use Rattle.protection.specs.Protection.{stray_bits}
use Rattle.protection.proofs.Stray.{stray-after-cut}
use Rattle.plain.specs.declared.Refusal.{Refusal}
use Rattle.plain.specs.declared.Refusal.TheVariants.{Done, Cells, Address, Clock, Debris, Busy, Sequence, Raise}
use Rattle.plain.specs.declared.Operation.{Operation}
use Rattle.plain.specs.declared.Operation.TheVariants.{Idle}
use Rattle.plain.specs.declared.Command.{Command}
use Rattle.plain.specs.declared.Command.TheVariants.{Ground}
use Rattle.plain.specs.declared.Effect.{Effect}
use Rattle.plain.specs.declared.Effect.TheVariants.{Goes, Starts, Protects, Falls, Stays, Drops}
use Rattle.plain.specs.declared.Device.{Device}
use Rattle.plain.specs.Events.{Event, read, write, wait, cut, range}
use Rattle.plain.specs.Lent.{Lent}
use Rattle.plain.specs.Record.{device, answer}
use Rattle.plain.specs.Refusals.{number}
use Rattle.plain.specs.Sound.{meter_sound, operation_sound, command_sound, sound}
use Rattle.plain.specs.Commands.{effected}
use Rattle.plain.specs.Machine.{Outcome, outcome, refused, ladder, hands_back, read_event, write_event, wait_event, cut_event, range_event, step, Fit}
use Rattle.plain.proofs.Tools.{by-test, clash, neither_left}
use Rattle.plain.proofs.Facts.{sound-clock, sound-charge, sound-bits, sound-operation, sound-command}
use Rattle.plain.proofs.FactsHold.{meter-holds, sound-holds, idle-holds}
use Rattle.plain.proofs.Ladder.{by-ladder}
use Rattle.plain.proofs.Register.{ground-sound}
use Rattle.plain.proofs.SoundTime.{waited-sound}
use Rattle.history.proofs.Fine.{never, Fine, goes, starts, protects, falls, raised, stays, drops}
use Rattle.history.proofs.KeptWrite.{write-fine}
use Rattle.history.proofs.KeptRead.{look-alike}

pub record Kept (p : Part) (o : Outcome) : Type 0 where
  pub device : sound p o.answer.device ≡ true
  pub refusal : never o.answer.refusal ≡ false

module _ (p : Part) (r : Device) (s : sound p r ≡ true) (l : Lent) where
  meter-sound : meter_sound p r.meter ≡ true
  meter-sound = meter-holds p r.meter (sound-clock p r s) (sound-charge p r s)

  operation-sound : operation_sound p r.bits r.operation ≡ true
  operation-sound = sound-operation p r s r.operation refl

  unchanged : (n : Refusal) → never n ≡ false → Kept p (refused n r l)
  unchanged n h = record { device = s; refusal = h }

  -- with the meter as it stands
  changed : (n : Refusal) (w : ℕ) (c : Command) (o : Operation) (bits : Protection) (after : Lent) → never n ≡ false
      → stray_bits p bits ≡ false → operation_sound p bits o ≡ true → command_sound p o c ≡ true → Kept p (outcome (answer n w (device r.meter c o bits)) after)
  changed n w c o bits after h g f e = record { device = sound-holds p r.meter c o bits meter-sound g f e; refusal = h }

  -- an event is kept if what it takes is
  kept : (fails : Bool) (own : Refusal) (taken : Outcome) → never own ≡ false → (Fit p r l → fails ≡ false → Kept p taken) → Kept p (ladder p r l fails own taken)
  unfolding number
  kept fails own taken h f =
      by-ladder p r l fails own taken (Kept p) (λ u. clash s u) (unchanged Cells refl) (λ _. unchanged own h) f

  read_kept : (a : ℕ) → Kept p (read_event p r l a)
  unfolding read_event number
  read_kept a =
      let x = look-alike p r.bits r.command r.operation l a in
      kept _ Address _ refl
      (λ _ _. changed Done _ _ _ _ _ refl (sound-bits p r s) (x.operation ∙ operation-sound) (x.command r.command ∙ sound-command p r s))

  fell : (n : Refusal) → never n ≡ false → Kept p (outcome (effected r (Falls n)) l)
  unfolding effected
  fell n h = changed n 0 Ground r.operation r.bits l h (sound-bits p r s) operation-sound (ground-sound p r.operation)

  effect-kept : {w : ℕ} {Reason : Type 0} (e : Effect) → Fine p r.bits l w Reason r.operation e → Kept p (outcome (effected r e) l)
  unfolding effected number
  effect-kept (Goes c) (goes h) = changed Done 0 c r.operation r.bits l refl (sound-bits p r s) operation-sound h
  effect-kept (Starts o) (starts h _ _ _) = changed Done 0 Ground o r.bits l refl (sound-bits p r s) h (ground-sound p o)
  effect-kept (Protects new) (protects g h _) = changed Done 0 Ground r.operation new l refl g h (ground-sound p r.operation)
  effect-kept (Falls n) (falls h) = fell n (neither_left (never n) _ h)
  effect-kept (Falls n) (raised _) = fell Raise refl
  effect-kept (Stays n) (stays h) = unchanged n (neither_left (never n) _ h)
  effect-kept Drops drops = changed Sequence 0 Ground Idle r.bits l refl (sound-bits p r s) (idle-holds p r.bits) (ground-sound p Idle)

  write_kept : (a w : ℕ) → Kept p (write_event p r l a w)
  unfolding write_event number
  write_kept a w =
      kept _ Address _ refl (λ _ h. effect-kept _ (write-fine p r l a w (Unit {0}) s h (λ _. tt)))

  wait-kept : (n : ℕ) → Kept p (wait_event p r l n)
  unfolding wait_event number
  wait-kept n = kept _ Clock _ refl (λ _ h. record { device = waited-sound p r l n s (leb-true _ _ (not-false _ h)); refusal = refl })

  cut-kept : (debris : List ℕ) → Kept p (cut_event p r l debris)
  unfolding cut_event number
  cut-kept debris =
      kept _ Debris _ refl
      (λ _ _. changed Done 0 Ground Idle _ _ refl (stray-after-cut p r.bits (sound-bits p r s)) (idle-holds p _) (ground-sound p Idle))

  range-kept : (first count : ℕ) → Kept p (range_event p r l first count)
  unfolding range_event number
  range-kept first count =
      kept _ Address _ refl (λ _ _. by-test (Kept p) (hands_back r.operation) (λ _. unchanged Done refl) (λ _. unchanged Busy refl))

  pub step_kept : (e : Event) → Kept p (step p r l e)
  unfolding step
  step_kept (read a) = read_kept a
  step_kept (write a w) = write_kept a w
  step_kept (wait n) = wait-kept n
  step_kept (cut debris) = cut-kept debris
  step_kept (range first count) = range-kept first count
