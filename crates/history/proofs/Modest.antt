-- No program that an event starts, or leaves, asks for a 1 where the lent word has a 0, if none did before.
use Prim.Native.Nat.{ℕ}
use mathlib.Core.Path.{◌≡◌, refl, ◌∙◌}
use mathlib.Core.Bool.{Bool, false}
use Rattle.geometry.specs.declared.Part.{Part}
use Rattle.plain.specs.declared.Refusal.{Refusal}
use Rattle.plain.specs.declared.Refusal.TheVariants.{Address, Clock, Debris}
use Rattle.plain.specs.declared.Effect.{Effect}
use Rattle.plain.specs.declared.Effect.TheVariants.{Goes, Starts, Protects, Falls, Stays, Drops}
use Rattle.plain.specs.declared.Device.{Device}
use Rattle.plain.specs.Commands.{effected}
use Rattle.plain.specs.Events.{Event, read, write, wait, cut, range}
use Rattle.plain.specs.Lent.{Lent}
use Rattle.plain.specs.Machine.{Outcome, ladder, now, hands_back, Fit, read_event, write_event, wait_event, cut_event, range_event, step}
use Rattle.plain.specs.Record.{fresh}
use Rattle.plain.proofs.Ladder.{by-ladder}
use Rattle.plain.proofs.Modest.{raises_in, Modest, ticks-modest}
use Rattle.plain.proofs.Tools.{by-test}
use Rattle.history.proofs.Fine.{Fine, starts}
use Rattle.history.proofs.KeptRead.{look-alike}
use Rattle.history.proofs.KeptWrite.{write-fine}

pub fresh-modest : (l : Lent) → Modest l fresh.operation
unfolding raises_in
fresh-modest l = refl

module _ (p : Part) (r : Device) (l : Lent) (h : Modest l r.operation) where
  Keeps : Outcome → Type 0
  Keeps o = Modest o.lent o.answer.device.operation

  climbs : (fails : Bool) (own : Refusal) (taken : Outcome) → (Fit p r l → fails ≡ false → Keeps taken) → Keeps (ladder p r l fails own taken)
  unfolding Keeps
  climbs fails own taken f = by-ladder p r l fails own taken Keeps (λ _. h) h (λ _. h) f

  effect-modest : {w : ℕ} {Reason : Type 0} (e : Effect) → Fine p r.bits l w Reason r.operation e → Modest l (effected r e).device.operation
  unfolding effected raises_in
  effect-modest (Goes c) f = h
  effect-modest (Starts o) (starts _ _ _ modest) = modest h
  effect-modest (Protects new) f = h
  effect-modest (Falls n) f = h
  effect-modest (Stays n) f = h
  effect-modest Drops f = refl

  pub step-modest : (e : Event) → Modest (step p r l e).lent (step p r l e).answer.device.operation
  unfolding Keeps step read_event write_event wait_event cut_event range_event raises_in
  step-modest (read a) = climbs _ Address _ (λ _ _. (look-alike p r.bits r.command r.operation l a).modest l ∙ h)
  step-modest (write a w) = climbs _ Address _ (λ fit t. effect-modest _ (write-fine p r l a w (Unit {0}) fit.sound t (λ _. tt)))
  step-modest (wait n) = climbs _ Clock _ (λ _ _. ticks-modest p n (now r l) h)
  step-modest (cut debris) = climbs _ Debris _ (λ _ _. refl)
  step-modest (range first count) = climbs _ Address _ (λ _ _. by-test Keeps (hands_back r.operation) (λ _. h) (λ _. h))
