-- A locked one-time word never changes, its lock stays, and only a cut or a write that is taken leaves the block: of the public functions, and
-- through C.
use Prim.Native.Nat.{ℕ}
use mathlib.Core.Path.{◌≡◌, refl, ap, sym, ◌∙◌}
use mathlib.Core.Bool.{Bool, true, false}
use mathlib.Core.List.{List}
use native.Mathlib.Omega.{arith}
use lib.Dec.{ltb}
use borrow.Author.Tests.{lt-ltb}
use Rattle.geometry.specs.declared.Part.{Part}
use Rattle.protection.specs.Protection.{factory_words, word_locked_by}
use Rattle.plain.specs.declared.Array.TheVariants.{OneTime}
use Rattle.plain.specs.declared.Refusal.TheVariants.{Done}
use Rattle.plain.specs.declared.Device.{Device}
use Rattle.plain.specs.Events.{Event, cut}
use Rattle.plain.specs.Lent.{Lent, word_at}
use Rattle.plain.specs.Machine.{step}
use Rattle.plain.specs.OneTime.{in_one_time, WayOut}
use Rattle.plain.specs.Refusals.{number}
use Rattle.plain.proofs.Tools.{by_cases, clash}
use Rattle.history.proofs.OneTime.{locked-never-changes, locks-stay, locked-in-runs, factory-words-stay, cut-leaves-locks, cut-exits, only-these-leave}
use Rattle.layout.specs.Operations.{operation_parts}
use Rattle.layout.specs.Image.{image_of, entered_in, device_of}
use Rattle.layout.proofs.Words.{flag_is}
use Rattle.layout.proofs.Entered.{entered-stored, entered-read}
use Rattle.face.specs.Face.{Faced, part_named}
use Rattle.audit.specs.Called.{lent_after, Held, Calls, none, more}
use Rattle.audit.specs.OneTime.{LockedNeverChangesCode, LocksStayCode, LockedInRunsCode, FactoryWordsStayCode, CutLeavesLocksCode, OnlyTheseLeaveCode, says_sealed, says_entered, LockedNeverChangesCalls, LocksStayCalls, LockedInRunsCalls, FactoryWordsStayCalls, CutLeavesLocksCalls, OnlyTheseLeaveCalls}
use Rattle.audit.proofs.Called.{called, by-standing, called_is}
use Rattle.audit.proofs.Calls.{same-refusal}
use Rattle.audit.proofs.Same.{allowed-is, performed-run}

-- ---- of the public functions

pub locked-never-changes-code : (p : Part) → LockedNeverChangesCode p
locked-never-changes-code p r l after e y x f h = rw (allowed-is f).lent (locked-never-changes p r l e x h)

pub locks-stay-code : (p : Part) → LocksStayCode p
locks-stay-code p r l after e y f h = rw (allowed-is f).answer (locks-stay p r l e h)

pub locked-in-runs-code : (p : Part) → LockedInRunsCode p
locked-in-runs-code p r l es ran x f h = rw (performed-run f) (locked-in-runs p r l es x h)

pub factory-words-stay-code : (p : Part) → FactoryWordsStayCode p
factory-words-stay-code p r l es ran x f h = rw (performed-run f) (factory-words-stay p r l es x h)

pub cut-leaves-locks-code : (p : Part) → CutLeavesLocksCode p
cut-leaves-locks-code p r l after debris y f = rw (allowed-is f).answer (cut-leaves-locks p r l debris, cut-exits p r l debris)

pub only-these-leave-code : (p : Part) → OnlyTheseLeaveCode p
only-these-leave-code p r l after e y f h = rw (allowed-is f).answer (only-these-leave p r l e h)

-- ---- word 31 says whether the customer's words are locked

image-seals : (r : Device) → says_sealed (image_of r) ≡ r.bits.sealed
unfolding image_of
image-seals r = flag_is r.bits.sealed

device-seals : (i : List ℕ) → (device_of i).bits.sealed ≡ says_sealed i
unfolding device_of
device-seals i = refl

-- ---- word 30 says whether the block is entered

image-enters : (r : Device) → says_entered (image_of r) ≡ in_one_time r
unfolding image_of
image-enters r = flag_is (operation_parts r.operation).entered ∙ entered-stored r.operation

device-enters : (i : List ℕ) → in_one_time (device_of i) ≡ says_entered i
unfolding device_of
device-enters i = entered-read _ _ _ _ (entered_in i)

-- ---- through C

locked-word : (part : ℕ) (words : List ℕ) (l : Lent) (e : Event) (x : ℕ) → word_locked_by (says_sealed words) x ≡ true
    → word_at (lent_after (called part words l e)) OneTime x ≡ word_at l OneTime x
locked-word part words l e x h =
    by-standing part words l (λ f. word_at (lent_after f) OneTime x ≡ word_at l OneTime x) e refl
    (locked-never-changes (part_named part) (device_of words) l e x (rw (device-seals words) h))

pub locked-never-changes-calls : LockedNeverChangesCalls
locked-never-changes-calls part words l e f x c h = rw (called_is part words l c) (locked-word part words l e x h)

still-sealed : (part : ℕ) (words : List ℕ) (l : Lent) (e : Event) → says_sealed words ≡ true → says_sealed (called part words l e).image ≡ true
still-sealed part words l e h =
    by-standing part words l (λ f. says_sealed f.image ≡ true) e h
    (image-seals (step (part_named part) (device_of words) l e).answer.device ∙ locks-stay (part_named part) (device_of words) l e (device-seals words ∙ h))

pub locks-stay-calls : LocksStayCalls
locks-stay-calls part words l e f c h = rw (called_is part words l c) (still-sealed part words l e h)

-- a locked word stays locked
still-locked : (x : ℕ) (s t : Bool) → (s ≡ true → t ≡ true) → word_locked_by s x ≡ true → word_locked_by t x ≡ true
unfolding word_locked_by
still-locked x s t keeps h = by_cases (ltb x factory_words) (λ f. rw f) (λ f. rw f (keeps (rw f at h)))

run-locked : {part : ℕ} {words : List ℕ} {l : Lent} {es : List Event} {ran : Held} → (x : ℕ) → Calls part words l es ran → word_locked_by (says_sealed words) x ≡ true
    → word_at ran.lent OneTime x ≡ word_at l OneTime x
run-locked x none h = refl
run-locked {part} {words} {l} x (more {e = e} {f = f} c m g) h =
    run-locked x g (still-locked x (says_sealed words) (says_sealed f.image) (locks-stay-calls part words l e f c) h)
    ∙ locked-never-changes-calls part words l e f x c h

pub locked-in-runs-calls : LockedInRunsCalls
locked-in-runs-calls part words l es ran x c h = run-locked x c h

pub factory-words-stay-calls : FactoryWordsStayCalls
unfolding word_locked_by
factory-words-stay-calls part words l es ran x c h = run-locked x c (rw (lt-ltb x factory_words h))

module _ (part : ℕ) (words : List ℕ) (l : Lent) where
  abbrev p : Part
  p = part_named part

  abbrev r : Device
  r = device_of words

  Cuts : Faced → Type 0
  Cuts f = (says_sealed f.image ≡ says_sealed words) × (f.refusal ≡ number Done → says_entered f.image ≡ false)

  cuts-leave : (debris : List ℕ) → Cuts (called part words l (cut debris))
  unfolding Cuts number
  cuts-leave debris =
      let left = (step p r l (cut debris)).answer.device in
      by-standing part words l Cuts (cut debris) (refl, (λ e. absurd (omega (arith, e))))
      (image-seals left ∙ cut-leaves-locks p r l debris ∙ device-seals words, (λ e. image-enters left ∙ cut-exits p r l debris (same-refusal _ Done e)))

  module _ (e : Event) (h : says_entered words ≡ true) where
    Leaves : Faced → Type 0
    Leaves f = says_entered f.image ≡ false → WayOut r.command e × (f.refusal ≡ number Done)

    call-leaves : Leaves (called part words l e)
    unfolding Leaves
    call-leaves =
        by-standing part words l Leaves e (clash h)
        (λ out.
        let way = only-these-leave p r l e (device-enters words ∙ h) (sym (image-enters (step p r l e).answer.device) ∙ out) in
        (way.0, ap number way.1))

pub cut-leaves-locks-calls : CutLeavesLocksCalls
unfolding Cuts
cut-leaves-locks-calls part words l debris f c = rw (called_is part words l c) (cuts-leave part words l debris)

pub only-these-leave-calls : OnlyTheseLeaveCalls
unfolding Leaves
only-these-leave-calls part words l e f c h = rw (called_is part words l c) (call-leaves part words l e h)
