-- One wait or two: of the public functions, and through C.
use Prim.Native.Nat.{ℕ, ◌+◌}
use mathlib.Core.Path.{◌≡◌, refl, ap, sym, ◌∙◌}
use mathlib.Core.Bool.{true}
use mathlib.Core.List.{List, map}
use native.Mathlib.Omega.{arith}
use Rattle.geometry.specs.declared.Part.{Part}
use Rattle.plain.specs.declared.Refusal.TheVariants.{Done, State}
use Rattle.plain.specs.declared.Device.{Device}
use Rattle.plain.specs.Events.{Event, wait}
use Rattle.plain.specs.Lent.{Lent}
use Rattle.plain.specs.Machine.{Outcome, step}
use Rattle.plain.specs.OneWait.{wait_twice, Woken, none, next, early, is_wait, WaitsTaken, besides_waits}
use Rattle.plain.specs.Refusals.{number}
use Rattle.plain.proofs.OneWait.{one-wait-or-two, two-waits-or-one}
use Rattle.plain.proofs.Tools.{by_cases}
use Rattle.history.proofs.Woken.{waking-changes-nothing, waking-gains-nothing}
use Rattle.layout.specs.Image.{image_of, device_of}
use Rattle.face.specs.Face.{Faced, part_named, stands, shown}
use Rattle.audit.specs.Called.{lent_after}
use Rattle.audit.specs.OneWait.{OneWaitOrTwoCode, TwoWaitsOrOneCode, WakingChangesNothingCode, CallWaits, OneWaitOrTwoCalls, TwoWaitsOrOneCalls, WakingChangesNothingCalls, WakingGainsNothingCalls}
use Rattle.audit.proofs.Called.{called_is, called-some}
use Rattle.audit.proofs.Calls.{same-refusal}
use Rattle.audit.proofs.CallRuns.{ran-as, called-second, call_none, ran-none, state_turn}
use Rattle.audit.proofs.Same.{allowed-is, performed-run}

-- ---- of the public functions

pub one-wait-or-two-code : (p : Part) → OneWaitOrTwoCode p
one-wait-or-two-code p r l a b one first second after between twice w =
    rw ((allowed-is w.again).answer, (allowed-is w.again).lent, (allowed-is w.early).answer, (allowed-is w.early).lent, (allowed-is w.once).answer, (allowed-is w.once).lent)
    (λ done.
    let two = one-wait-or-two p r l a b done in
    (two.0, (two.1.0, (ap (λ (o : Outcome). o.answer.device) two.1.1, ap (λ (o : Outcome). o.lent) two.1.1))))

pub two-waits-or-one-code : (p : Part) → TwoWaitsOrOneCode p
two-waits-or-one-code p r l a b one first second after between twice w =
    rw ((allowed-is w.again).answer, (allowed-is w.early).answer, (allowed-is w.early).lent, (allowed-is w.once).answer) (two-waits-or-one p r l a b)

pub waking-changes-nothing-code : (p : Part) → WakingChangesNothingCode p
waking-changes-nothing-code p r l es fs whole woken w f g = rw (performed-run f, performed-run g) (waking-changes-nothing p r l es fs w)

-- ---- through C: two calls

not_taken : {P : Type 0} → number State ≡ number Done → P
unfolding number
not_taken e = absurd (omega (arith, e))

module _ (part : ℕ) (words : List ℕ) (l : Lent) (a b : ℕ) (one first second : Faced) (w : CallWaits part words l a b one first second) where
  abbrev p : Part
  p = part_named part

  abbrev r : Device
  r = device_of words

  -- on the words of a record
  module _ (s : stands part words ≡ true) where
    once_is : one ≡ shown (step p r l (wait (a + b)))
    once_is = called_is part words l w.once ∙ called-some part words l (wait (a + b)) s

    early-is : first ≡ shown (step p r l (wait a))
    early-is = called_is part words l w.early ∙ called-some part words l (wait a) s

    again-is : second ≡ shown (wait_twice p r l a b)
    again-is = called-second part words s l (wait a) (wait b) first second w.early w.again

    split : one.refusal ≡ number Done
        → (first.refusal ≡ number Done) × ((second.refusal ≡ number Done) × ((second.image ≡ one.image) × (lent_after second ≡ lent_after one)))
    split done =
        let two = one-wait-or-two p r l a b (same-refusal _ Done (ap (λ (f : Faced). f.refusal) (sym once_is) ∙ done)) in
        rw (again-is, early-is, once_is)
        (ap number two.0, (ap number two.1.0, (ap (λ (o : Outcome). image_of o.answer.device) two.1.1, ap (λ (o : Outcome). o.lent) two.1.1)))

    join : first.refusal ≡ number Done → second.refusal ≡ number Done → one.refusal ≡ number Done
    join e f =
        ap (λ (x : Faced). x.refusal) once_is
        ∙ ap number (two-waits-or-one p r l a b (same-refusal _ Done (ap (λ (x : Faced). x.refusal) (sym early-is) ∙ e))
        (same-refusal _ Done (ap (λ (x : Faced). x.refusal) (sym again-is) ∙ f)))

pub one-wait-or-two-calls : OneWaitOrTwoCalls
one-wait-or-two-calls part words l a b one first second w done =
    by_cases (stands part words) (λ s. split part words l a b one first second w s done)
    (λ s. not_taken (ap (λ (f : Faced). f.refusal) (sym (call_none part words s l (wait (a + b)) one w.once)) ∙ done))

pub two-waits-or-one-calls : TwoWaitsOrOneCalls
two-waits-or-one-calls part words l a b one first second w e f =
    by_cases (stands part words) (λ s. join part words l a b one first second w s e f)
    (λ s. not_taken (ap (λ (x : Faced). x.refusal) (sym (call_none part words s l (wait a) first w.early)) ∙ e))

-- ---- and runs of calls

-- where every call is K5L_STATE, no wait is taken that could be split
state-woken : {es fs : List Event} → Woken es fs → WaitsTaken (map state_turn es)
    → WaitsTaken (map state_turn fs) × (besides_waits (map state_turn fs) ≡ besides_waits (map state_turn es))
unfolding WaitsTaken besides_waits is_wait
state-woken none h = (h, refl)
state-woken (next {e} w) h = let rest = state-woken w h.1 in ((h.0, rest.0), rw rest.1)
state-woken (early w) h = not_taken (ap number (h.0 refl))

state-joined : {es fs : List Event} → Woken es fs → WaitsTaken (map state_turn fs) → WaitsTaken (map state_turn es)
unfolding WaitsTaken is_wait
state-joined none h = h
state-joined (next w) h = (h.0, state-joined w h.1)
state-joined (early w) h = not_taken (ap number ((state-joined w h).0 refl))

pub waking-changes-nothing-calls : WakingChangesNothingCalls
waking-changes-nothing-calls part words l es fs whole woken w c d =
    by_cases (stands part words)
    (λ s.
    rw ((ran-as part words s l es whole c).same, (ran-as part words s l fs woken d).same)
    (λ h. let x = waking-changes-nothing (part_named part) (device_of words) l es fs w h in (x.0, (ap image_of x.1.0, x.1.1))))
    (λ s.
    rw (ran-none part words s words l l es whole refl refl c, ran-none part words s words l l fs woken refl refl d)
    (λ h. let x = state-woken w h in (x.0, (refl, (refl, x.1)))))

pub waking-gains-nothing-calls : WakingGainsNothingCalls
waking-gains-nothing-calls part words l es fs whole woken w c d =
    by_cases (stands part words)
    (λ s. rw ((ran-as part words s l es whole c).same, (ran-as part words s l fs woken d).same) (waking-gains-nothing (part_named part) (device_of words) l es fs w))
    (λ s. rw (ran-none part words s words l l es whole refl refl c, ran-none part words s words l l fs woken refl refl d) (state-joined w))
