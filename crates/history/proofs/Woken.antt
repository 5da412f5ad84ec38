-- Waking early as often as one likes: a run in which waits are split is the run in which they are not.
use Prim.Native.Nat.{ℕ, ◌+◌}
use mathlib.Core.Path.{◌≡◌, refl, ap, ◌∙◌}
use mathlib.Core.Bool.{true}
use mathlib.Core.List.{List, ◌∷◌}
use Rattle.geometry.specs.declared.Part.{Part}
use Rattle.plain.specs.declared.Device.{Device}
use Rattle.plain.specs.Events.{Event, wait}
use Rattle.plain.specs.Lent.{Lent}
use Rattle.plain.specs.Machine.{Outcome, Ran, step, run}
use Rattle.plain.specs.OneWait.{Taken, wait_twice, Woken, none, next, early, is_wait, WaitsTaken, besides_waits, WakingChangesNothing, WakingGainsNothing}
use Rattle.plain.proofs.OneWait.{one-wait-or-two, two-waits-or-one}

-- the waits of the one run are taken, and it leaves and answers what the other does
record Like (one other : Ran) : Type 0 where
  taken : WaitsTaken one.turns
  device : one.device ≡ other.device
  lent : one.lent ≡ other.lent
  turns : besides_waits one.turns ≡ besides_waits other.turns

module _ (p : Part) where
  -- a run goes on after an event
  abbrev on : Outcome → List Event → Ran
  on o es = run p o.answer.device o.lent es

  -- one event more, before both
  before : (r : Device) (l : Lent) (e : Event) (es fs : List Event) → (is_wait e ≡ true → Taken (step p r l e)) → Like (on (step p r l e) fs) (on (step p r l e) es)
      → Like (run p r l (e ∷ fs)) (run p r l (e ∷ es))
  unfolding run WaitsTaken besides_waits
  before r l e es fs t h = record { taken = (t, h.taken); device = h.device; lent = h.lent; turns = rw h.turns }

  -- two waits for one, before the same events
  module _ (r : Device) (l : Lent) (a b : ℕ) (es : List Event) where
    split : Taken (step p r l (wait (a + b))) → WaitsTaken (on (step p r l (wait (a + b))) es).turns → Like (run p r l (wait a ∷ wait b ∷ es)) (run p r l (wait (a + b) ∷ es))
    unfolding run WaitsTaken besides_waits is_wait
    split t h =
        let two = one-wait-or-two p r l a b t in
        let same : wait_twice p r l a b ≡ step p r l (wait (a + b)) = two.1.1 in
        record {
          taken = ((λ _. two.0), ((λ _. two.1.0), rw same h));
          device = ap (λ (o : Outcome). (on o es).device) same;
          lent = ap (λ (o : Outcome). (on o es).lent) same;
          turns = ap (λ (o : Outcome). besides_waits (on o es).turns) same;
        }

    joined : WaitsTaken (run p r l (wait a ∷ wait b ∷ es)).turns → WaitsTaken (run p r l (wait (a + b) ∷ es)).turns
    unfolding run WaitsTaken is_wait
    joined h =
        let t = two-waits-or-one p r l a b (h.0 refl) (h.1.0 refl) in
        ((λ _. t), rw (← (one-wait-or-two p r l a b t).1.1) h.1.1)

  through : {one two three : Ran} → Like one two → Like two three → Like one three
  through f g = record { taken = f.taken; device = f.device ∙ g.device; lent = f.lent ∙ g.lent; turns = f.turns ∙ g.turns }

  like : (r : Device) (l : Lent) (es fs : List Event) → Woken es fs → WaitsTaken (run p r l es).turns → Like (run p r l fs) (run p r l es)
  unfolding run WaitsTaken is_wait
  like r l es fs none h = record { taken = h; device = refl; lent = refl; turns = refl }
  like r l es fs (next {e} {es = rest} {fs = others} w) h =
      before r l e rest others h.0 (like (step p r l e).answer.device (step p r l e).lent rest others w h.1)
  like r l es fs (early {a} {b} {es = rest} w) h =
      let two = split r l a b rest (h.0 refl) h.1 in
      through (like r l (wait a ∷ wait b ∷ rest) fs w two.taken) two

  gains : (r : Device) (l : Lent) (es fs : List Event) → Woken es fs → WaitsTaken (run p r l fs).turns → WaitsTaken (run p r l es).turns
  unfolding run WaitsTaken
  gains r l es fs none h = h
  gains r l es fs (next {e} {es = rest} {fs = others} w) h = (h.0, gains (step p r l e).answer.device (step p r l e).lent rest others w h.1)
  gains r l es fs (early {a} {b} {es = rest} w) h = joined r l a b rest (gains r l (wait a ∷ wait b ∷ rest) fs w h)

pub waking-changes-nothing : (p : Part) → WakingChangesNothing p
waking-changes-nothing p r l es fs w h =
    let x = like p r l es fs w h in
    (x.taken, (x.device, (x.lent, x.turns)))

pub waking-gains-nothing : (p : Part) → WakingGainsNothing p
waking-gains-nothing p r l es fs w h = gains p r l es fs w h
