-- Demand 3 and its companions, for every run of calls of the header's functions.
use Prim.Native.Nat.{ℕ}
use mathlib.Core.Path.{◌≡◌, refl, ap, sym, ◌∙◌}
use mathlib.Core.Bool.{true}
use mathlib.Core.List.{List}
use native.Mathlib.Omega.{arith}
use lib.Dec.{eqb}
use lib.ListN.{length}
use Rattle.plain.specs.declared.Refusal.TheVariants.{Done, State}
use Rattle.plain.specs.Events.{Event, cut}
use Rattle.plain.specs.Lent.{Lent}
use Rattle.plain.specs.Machine.{Ran, step, run}
use Rattle.plain.specs.Record.{fresh}
use Rattle.plain.specs.Refusals.{number}
use Rattle.plain.proofs.Tools.{by_cases}
use Rattle.history.proofs.Demand.{demand-3, holding, programs-leave-data, charge-by-history}
use Rattle.history.proofs.Kept.{always-sound, never-state}
use Rattle.history.proofs.Taken.{cut-taken, cut-not-taken}
use Rattle.layout.specs.Image.{image_of, device_of}
use Rattle.layout.specs.Places.{record_words}
use Rattle.layout.specs.Promises.{Fits}
use Rattle.layout.proofs.Round.{round}
use Rattle.face.specs.Face.{Faced, part_named, stands_sound, face_clock, face_charge, shown}
use Rattle.audit.specs.Called.{Made, made, Called, Held, CallRuns}
use Rattle.audit.specs.CallPromises.{Demand3Calls, CutTakenCalls, NeverStateCalls, HoldingCalls, ProgramsLeaveDataCalls, ChargeCalls}
use Rattle.audit.proofs.Called.{left-stands}
use Rattle.audit.proofs.Calls.{RanAs, calls_are, on-words, same-refusal}
use Rattle.audit.proofs.Data.{fresh-fits, step_fits, cut-brief}

-- what `k5l_fresh` made is a fresh device's words
pub made-fresh : {words : List ℕ} → Made words → words ≡ image_of fresh
unfolding number
made-fresh (made t at before d) =
    by_cases (eqb (length before) record_words) (λ e. rw e at d.1)
    (λ e. let wrong : 0 ≡ 1 = rw e at d.0 in absurd (omega (arith, wrong)))

pub runs-are : {part : ℕ} {start : Lent} {es : List Event} {ran : Held} → (f : CallRuns part start es ran) → RanAs part f.known fresh start es ran
runs-are {part} {start} {es} {ran} f =
    calls_are part f.known fresh f.first start start es ran (made-fresh f.made) refl fresh-fits f.calls

-- the words after a run of calls are those of the plain machine's record, and a call on them answers as it does
module _ {part : ℕ} {start : Lent} {es : List Event} {ran : Held} (runs : CallRuns part start es ran) where
  abbrev was : Ran
  was = run (part_named part) fresh start es

  fits : Fits was.device
  fits = (runs-are runs).fits

  words : ran.words ≡ image_of was.device
  words = ap (λ (h : Held). h.words) (runs-are runs).same

  stands-for : device_of ran.words ≡ was.device
  stands-for = ap device_of words ∙ round was.device fits

  next : (l now : Lent) (e : Event) (f : Faced) → l ≡ now → Called part ran.words l e f → f ≡ shown (step (part_named part) was.device now e)
  next l now e f c = on-words part runs.known was.device ran.words l now e f words c fits

  cut-next : (debris : List ℕ) (f : Faced) → Called part ran.words ran.lent (cut debris) f → f ≡ shown (step (part_named part) was.device was.lent (cut debris))
  cut-next debris f = next ran.lent was.lent (cut debris) f (ap (λ (h : Held). h.lent) (runs-are runs).same)

pub demand-3-calls : Demand3Calls
demand-3-calls part start debris es ran f runs c e =
    let p = part_named part in
    let o = step p (was runs).device (was runs).lent (cut debris) in
    let s = cut-next runs debris f c in
    let turns : ran.turns ≡ (was runs).turns = ap (λ (h : Held). h.turns) (runs-are runs).same in
    let taken : o.answer.refusal ≡ Done = same-refusal o.answer.refusal Done (ap (λ (x : Faced). x.refusal) (sym s) ∙ e) in
    let left = step_fits p (was runs).device (was runs).lent (fits runs) (cut debris) (cut-brief debris) in
    rw (s, turns, round o.answer.device left) (demand-3 p start es debris taken)

pub cut-taken-calls : CutTakenCalls
cut-taken-calls part start debris es ran f runs c whole =
    let p = part_named part in
    let s = cut-next runs debris f c in
    rw (s, stands-for runs)
    ((λ h. ap number (cut-taken p start es debris whole h)), (λ h. ap number (cut-not-taken p start es debris whole h)))

pub never-state-calls : NeverStateCalls
never-state-calls part start l es ran e f runs c h =
    let p = part_named part in
    let s = next runs l l e f refl c in
    never-state p start es l e (same-refusal _ State (ap (λ (x : Faced). x.refusal) (sym s) ∙ h))

pub holding-calls : HoldingCalls
holding-calls part start es ran runs y x hx = rw (runs-are runs).same (holding (part_named part) start es y x hx)

pub programs-leave-data-calls : ProgramsLeaveDataCalls
programs-leave-data-calls part start es ran runs y x d hx last =
    rw (runs-are runs).same (programs-leave-data (part_named part) start es y x d hx (rw (runs-are runs).same at last))

pub charge-calls : ChargeCalls
unfolding face_clock face_charge
charge-calls part start es ran t at clock charge runs c q =
    let r = (was runs).device in
    let stands : stands_sound part (image_of r) ≡ true = left-stands part r runs.known (fits runs) (always-sound (part_named part) start es) in
    let agrees = charge-by-history (part_named part) start es in
    rw (c, q, (runs-are runs).same, stands, round r (fits runs)) (agrees.clock, agrees.charge)
