-- What reads, writes, time and cuts keep of an operation, every event keeps, on any record; and what every event keeps, a run keeps.
use Prim.Native.Nat.{ℕ}
use mathlib.Core.Path.{◌≡◌, refl}
use mathlib.Core.Bool.{Bool, false}
use mathlib.Core.List.{List, [], ◌∷◌}
use Rattle.geometry.specs.declared.Part.{Part}
use Rattle.plain.specs.declared.Refusal.{Refusal}
use Rattle.plain.specs.declared.Refusal.TheVariants.{Address, Clock, Debris}
use Rattle.plain.specs.declared.Operation.{Operation}
use Rattle.plain.specs.declared.Effect.{Effect}
use Rattle.plain.specs.declared.Effect.TheVariants.{Goes, Starts, Protects, Falls, Stays, Drops}
use Rattle.plain.specs.declared.Device.{Device}
use Rattle.plain.specs.Commands.{effected}
use Rattle.plain.specs.Events.{Event, read, write, wait, cut, range}
use Rattle.plain.specs.Lent.{Lent}
use Rattle.plain.specs.Machine.{Outcome, ladder, now, hands_back, Fit, read_event, write_event, wait_event, cut_event, range_event, step, run}
use Rattle.plain.proofs.Ladder.{by-ladder}
use Rattle.plain.proofs.Lasting.{Lasting, ticks-last}
use Rattle.plain.proofs.Tools.{by-test}
use Rattle.history.proofs.KeptRead.{Alike, look-alike}
use Rattle.history.proofs.Fine.{Fine}
use Rattle.history.proofs.KeptWrite.{write-fine}

module _ (p : Part) (r : Device) (l : Lent) (P : Operation → Type 0) (lasts : Lasting P) where
  abbrev Keeps : Outcome → Type 0
  Keeps o = P o.answer.device.operation

  -- what a write of the word w starts has it
  abbrev pub Starting : (w : ℕ) → Type 0
  Starting w = (x : Operation) → Fine p r.bits l w (Unit {0}) r.operation (Starts x) → P x

  module _ (h : P r.operation) where
    climbs : (fails : Bool) (own : Refusal) (taken : Outcome) → (Fit p r l → fails ≡ false → Keeps taken) → Keeps (ladder p r l fails own taken)
    climbs fails own taken f = by-ladder p r l fails own taken Keeps (λ _. h) h (λ _. h) f

    effect-keeps : {w : ℕ} (e : Effect) → Starting w → Fine p r.bits l w (Unit {0}) r.operation e → P (effected r e).device.operation
    unfolding effected
    effect-keeps (Goes c) s f = h
    effect-keeps (Starts o) s f = s o f
    effect-keeps (Protects new) s f = h
    effect-keeps (Falls n) s f = h
    effect-keeps (Stays n) s f = h
    effect-keeps Drops s f = lasts.idle

    pub step_keeps : (e : Event) → ((o : Operation) → Alike p r.bits r.operation o → P o) → ((a w : ℕ) → e ≡ write a w → Starting w) → Keeps (step p r l e)
    unfolding step read_event write_event wait_event cut_event range_event
    step_keeps (read a) f s = climbs _ Address _ (λ _ _. f _ (look-alike p r.bits r.command r.operation l a))
    step_keeps (write a w) f s =
        climbs _ Address _ (λ fit t. effect-keeps _ (s a w refl) (write-fine p r l a w _ fit.sound t (λ _. tt)))
    step_keeps (wait n) f s = climbs _ Clock _ (λ _ _. ticks-last p P lasts n (now r l) h)
    step_keeps (cut debris) f s = climbs _ Debris _ (λ _ _. lasts.idle)
    step_keeps (range first count) f s = climbs _ Address _ (λ _ _. by-test Keeps (hands_back r.operation) (λ _. h) (λ _. h))

-- ---- a run

pub run-keeps : (p : Part) (P : Device → Type 0) → ((r : Device) (l : Lent) (e : Event) → P r → P (step p r l e).answer.device) → (r : Device) (l : Lent) (es : List Event) → P r → P (run p r l es).device
unfolding run
run-keeps p P f r l [] h = h
run-keeps p P f r l (e ∷ es) h = run-keeps p P f (step p r l e).answer.device (step p r l e).lent es (f r l e h)
