-- RAISE is answered exactly where a program would not leave its data: of the public functions, and through C.
use Prim.Native.Nat.{ℕ}
use mathlib.Core.Path.{◌≡◌, ap, sym, ◌∙◌}
use mathlib.Core.List.{List}
use native.Mathlib.Omega.{arith}
use Rattle.geometry.specs.declared.Part.{Part}
use Rattle.plain.specs.declared.Refusal.TheVariants.{Raise}
use Rattle.plain.specs.declared.Answer.{Answer}
use Rattle.plain.specs.Events.{Event, write}
use Rattle.plain.specs.Lent.{Lent}
use Rattle.plain.specs.Machine.{Outcome}
use Rattle.plain.specs.Raise.{CannotWork}
use Rattle.plain.specs.Refusals.{number}
use Rattle.history.proofs.Raised.{raise-only, raise-always, others-start}
use Rattle.layout.specs.Image.{device_of}
use Rattle.face.specs.Face.{Faced, part_named, shown}
use Rattle.audit.specs.Raise.{RaiseOnlyCode, RaiseAlwaysCode, OthersStartCode, RaiseOnlyCalls, RaiseAlwaysCalls, OthersStartCalls}
use Rattle.audit.proofs.Called.{called_is, called-some, by-standing}
use Rattle.audit.proofs.Calls.{same-refusal}
use Rattle.audit.proofs.Same.{allowed-is}

-- ---- of the public functions

pub raise-only-code : (p : Part) → RaiseOnlyCode p
raise-only-code p r l after e y f h = raise-only p r l e (ap (λ (a : Answer). a.refusal) (sym (allowed-is f).answer) ∙ h)

pub raise-always-code : (p : Part) → RaiseAlwaysCode p
raise-always-code p r l after e y f c =
    let s = raise-always p r l e c in
    ((allowed-is f).answer ∙ ap (λ (o : Outcome). o.answer) s, (allowed-is f).lent ∙ ap (λ (o : Outcome). o.lent) s)

pub others-start-code : (p : Part) → OthersStartCode p
others-start-code p r l after a w y f s k = ap (λ (y : Answer). y.refusal) (allowed-is f).answer ∙ others-start p r l a w s k

-- ---- through C

module _ (part : ℕ) (words : List ℕ) (l : Lent) (e : Event) where
  Only : Faced → Type 0
  Only f = f.refusal ≡ number Raise → CannotWork (part_named part) (device_of words) l e

pub raise-only-calls : RaiseOnlyCalls
unfolding Only number
raise-only-calls part words l e f c h =
    by-standing part words l (Only part words l e) e (λ wrong. absurd (omega (arith, wrong)))
    (λ same. raise-only (part_named part) (device_of words) l e (same-refusal _ Raise same)) (ap (λ (x : Faced). x.refusal) (sym (called_is part words l c)) ∙ h)

pub raise-always-calls : RaiseAlwaysCalls
raise-always-calls part words l e f c s k =
    called_is part words l c ∙ called-some part words l e s ∙ ap shown (raise-always (part_named part) (device_of words) l e k)

pub others-start-calls : OthersStartCalls
others-start-calls part words l a w f c s k works =
    ap (λ (x : Faced). x.refusal) (called_is part words l c ∙ called-some part words l (write a w) s)
    ∙ ap number (others-start (part_named part) (device_of words) l a w k works)
