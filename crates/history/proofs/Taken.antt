-- Demand 3 is about something: after any run of a fresh device a cut with debris enough is accepted, and no shorter one is.
use mathlib.Core.Path.{◌≡◌, refl, ◌∙◌}
use mathlib.Core.Bool.{Bool, false}
use mathlib.Core.List.{List, [], ◌∷◌}
use lib.ListN.{length}
use borrow.Author.Tests.{ltb-false}
use Rattle.geometry.specs.declared.Part.{Part}
use Rattle.plain.specs.declared.Array.{Array}
use Rattle.plain.specs.declared.Refusal.{Refusal}
use Rattle.plain.specs.declared.Refusal.TheVariants.{Address, Clock, Debris}
use Rattle.plain.specs.declared.Device.{Device}
use Rattle.plain.specs.Events.{Event, read, write, wait, cut, range}
use Rattle.plain.specs.Lent.{Lent, array_of, Whole}
use Rattle.plain.specs.Record.{fresh}
use Rattle.plain.specs.Cut.{debris_needed}
use Rattle.plain.specs.Machine.{Outcome, ladder, now, hands_back, read_event, write_event, wait_event, cut_event, range_event, step, run, Fit}
use Rattle.plain.specs.Promises.{CutTaken, CutNotTaken}
use Rattle.plain.proofs.CutCells.{length_cut}
use Rattle.plain.proofs.Ladder.{by-ladder}
use Rattle.plain.proofs.Quick.{ticks-keep}
use Rattle.plain.proofs.Tools.{by-test}
use Rattle.history.proofs.Kept.{always-sound, cut-accepted, cut-refused}

module _ (p : Part) (r : Device) (l : Lent) where
  -- an event leaves as many words as there were, of either array
  Long : Outcome → Type 0
  Long o = (y : Array) → length (array_of y o.lent) ≡ length (array_of y l)

  climbs : (fails : Bool) (own : Refusal) (taken : Outcome) → (Fit p r l → fails ≡ false → Long taken) → Long (ladder p r l fails own taken)
  unfolding Long
  climbs fails own taken f = by-ladder p r l fails own taken Long (λ _ y. refl) (λ y. refl) (λ _ y. refl) f

  step-long : (e : Event) → Long (step p r l e)
  unfolding Long step read_event write_event wait_event cut_event range_event
  step-long (read a) = climbs _ Address _ (λ _ _ y. refl)
  step-long (write a w) = climbs _ Address _ (λ _ _ y. refl)
  step-long (wait n) = climbs _ Clock _ (λ f _. ticks-keep p n (now r l) f.whole)
  step-long (cut debris) =
      climbs _ Debris _ (λ f t. length_cut p r.operation debris l f.whole (ltb-false (length debris) (debris_needed p r.operation) t))
  step-long (range first count) = climbs _ Address _ (λ _ _. by-test Long (hands_back r.operation) (λ _ y. refl) (λ _ y. refl))

pub run_long : (p : Part) (r : Device) (l : Lent) (es : List Event) (y : Array) → length (array_of y (run p r l es).lent) ≡ length (array_of y l)
unfolding run Long
run_long p r l [] y = refl
run_long p r l (e ∷ es) y = run_long p (step p r l e).answer.device (step p r l e).lent es y ∙ step-long p r l e y

-- exactly the lengths that the paper names are refused
fit : (p : Part) (start : Lent) (es : List Event) → Whole p start → Fit p (run p fresh start es).device (run p fresh start es).lent
fit p start es whole = record { sound = always-sound p start es; whole = λ y. run_long p fresh start es y ∙ whole y }

pub cut-taken : (p : Part) → CutTaken p
cut-taken p start es debris whole = cut-accepted p (run p fresh start es).device (run p fresh start es).lent debris (fit p start es whole)

pub cut-not-taken : (p : Part) → CutNotTaken p
cut-not-taken p start es debris whole = cut-refused p (run p fresh start es).device (run p fresh start es).lent debris (fit p start es whole)
