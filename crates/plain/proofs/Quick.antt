-- The plain machine with waits in leaps and quick checks: equal to it, and quick enough to compute worked rows by.
use Prim.Native.Nat.{ℕ, zero, suc, ◌+◌}
use mathlib.Core.Path.{◌≡◌, refl, sym, ap, ◌∙◌}
use mathlib.Core.Bool.{Bool, true, false, not}
use mathlib.Core.List.{List, [], ◌∷◌}
use lib.Dec.{leb, ltb}
use lib.ListN.{length}
use borrow.Author.Tests.{ltb-false}
use Rattle.cells.proofs.Laws.{length-erased}
use Rattle.geometry.specs.declared.Part.{Part}
use Rattle.geometry.specs.Parts.{word_count}
use Rattle.geometry.proofs.Laid.{block-fits}
use Rattle.plain.specs.declared.Refusal.{Refusal}
use Rattle.plain.specs.declared.Refusal.TheVariants.{Done, Address, Clock, Debris, Busy}
use Rattle.plain.specs.declared.Erase.{Erase}
use Rattle.plain.specs.declared.Running.{Running}
use Rattle.plain.specs.declared.Running.TheVariants.{Still, Programs, Waits, Erases, Recovers, ErasesChip}
use Rattle.plain.specs.declared.Device.{Device}
use Rattle.std.specs.Prelude.{if◌then◌else◌}
use Rattle.plain.specs.Cut.{debris_needed}
use Rattle.plain.specs.Events.{Event, read, write, wait, cut, range}
use Rattle.plain.specs.Figures.{clock_limit}
use Rattle.plain.specs.declared.Array.{Array}
use Rattle.plain.specs.declared.Array.TheVariants.{Main, OneTime}
use Rattle.plain.specs.Lent.{Lent, array_of, is_whole, Whole}
use Rattle.plain.specs.Machine.{Outcome, Ran, refused, outcome, climbed, ladder, now, read_taken, write_taken, waited, cut_taken, stays_inside, hands_back, read_event, write_event, wait_event, cut_event, range_event, step, run}
use Rattle.plain.specs.Operations.{running_of}
use Rattle.plain.specs.Record.{answer}
use Rattle.plain.specs.Time.{Moment, last, erase_finished, lent_tick, tick, ticks}
use Rattle.plain.proofs.CutCells.{length_cut}
use Rattle.plain.proofs.Ladder.{by-ladder}
use Rattle.plain.proofs.Leaps.{leap, leap-ticks}
use Rattle.plain.proofs.Lents.{length-with}
use Rattle.plain.proofs.Programs.{length-finished}
use Rattle.plain.proofs.Tools.{by-test}
use Rattle.plain.proofs.QuickSound.{quick_entry, quick-entry}

-- a chip erase has at most 270 happenings, and a wait may end after them
abbrev fuel : ℕ
fuel = 272

-- a short wait by microseconds, as it is defined
unfoldable pub quick_ticks : Part → ℕ → Moment → Moment
quick_ticks p n m = elim (ltb n 10) [ true ↦ ticks p n m | false ↦ leap p fuel n m ]

quick-ticks : (p : Part) (n : ℕ) (m : Moment) → ticks p n m ≡ quick_ticks p n m
unfolding quick_ticks
quick-ticks p n m = go (ltb n 10)
  where
    go : (b : Bool) → ticks p n m ≡ (elim b [ true ↦ ticks p n m | false ↦ leap p fuel n m ])
    go true = refl
    go false = sym (leap-ticks p fuel n m)

-- ---- an event, over cells that are known to be whole or not

unfoldable pub quick_ladder : Part → Device → Lent → (whole fails : Bool) → (own : Refusal) → (taken : Outcome) → Outcome
quick_ladder p r l whole fails own taken = climbed (quick_entry p r whole) r l (if fails then refused own r l else taken)

quick-ladder : (p : Part) (r : Device) (l : Lent) (whole : Bool) → is_whole p l ≡ whole → (fails : Bool) (own : Refusal) (taken : Outcome)
    → ladder p r l fails own taken ≡ quick_ladder p r l whole fails own taken
unfolding ladder quick_ladder
quick-ladder p r l whole h fails own taken = rw (quick-entry p r l, h)

unfoldable pub quick_step : Part → Device → Lent → (whole : Bool) → Event → Outcome
quick_step p r l whole (read a) = quick_ladder p r l whole (not (ltb a (word_count p))) Address (read_taken p r l a)
quick_step p r l whole (write a w) = quick_ladder p r l whole (not (ltb a (word_count p))) Address (write_taken p r l a w)
quick_step p r l whole (wait n) = quick_ladder p r l whole (not (leb (r.meter.clock + n) (clock_limit p))) Clock (waited r (quick_ticks p n (now r l)))
quick_step p r l whole (cut debris) = quick_ladder p r l whole (ltb (length debris) (debris_needed p r.operation)) Debris (cut_taken p r l debris)
quick_step p r l whole (range first count) =
    quick_ladder p r l whole (not (stays_inside p r.operation first count)) Address
    (if hands_back r.operation then outcome (answer Done 0 r) l else refused Busy r l)

pub quick-step : (p : Part) (r : Device) (l : Lent) (whole : Bool) → is_whole p l ≡ whole → (e : Event) → step p r l e ≡ quick_step p r l whole e
unfolding step quick_step read_event write_event wait_event cut_event range_event
quick-step p r l whole h (read a) = quick-ladder p r l whole h _ Address _
quick-step p r l whole h (write a w) = quick-ladder p r l whole h _ Address _
quick-step p r l whole h (wait n) = rw (quick-ticks p n (now r l)) (quick-ladder p r l whole h _ Clock _)
quick-step p r l whole h (cut debris) = quick-ladder p r l whole h _ Debris _
quick-step p r l whole h (range first count) = quick-ladder p r l whole h _ Address _

-- ---- whole cells stay whole, and others stay as they are

module _ (p : Part) where
  -- as many words as before
  abbrev Kept : Lent → Lent → Type 0
  Kept l m = (y : Array) → length (array_of y m) ≡ length (array_of y l)

  erase-keeps : (e : Erase) (l : Lent) → Whole p l → Kept l (erase_finished p e l)
  erase-keeps e l h = length-with Main l _ (length-erased l.cells _ _ (rw (h Main) (block-fits p e.hand)))

  pub tick-keeps : (x : Running) (l : Lent) → Whole p l → Kept l (lent_tick p x l)
  unfolding lent_tick
  tick-keeps Still l h = λ y. refl
  tick-keeps (Programs q) l h = by-test (Kept l) (last q.left) (λ e. length-finished q.writes l) (λ e y. refl)
  tick-keeps (Waits e) l h = λ y. refl
  tick-keeps (Erases e) l h = by-test (Kept l) (last e.left) (λ f. erase-keeps e l h) (λ f y. refl)
  tick-keeps (Recovers r) l h = λ y. refl
  tick-keeps (ErasesChip e) l h = by-test (Kept l) (last e.left) (λ f. erase-keeps e l h) (λ f y. refl)

  pub ticks-keep : (n : ℕ) (m : Moment) → Whole p m.lent → Kept m.lent (ticks p n m).lent
  unfolding ticks tick
  ticks-keep zero m h = λ y. refl
  ticks-keep (suc n) m h =
      let one = tick-keeps (running_of m.operation) m.lent h in
      λ y. ticks-keep n (tick p m) (λ z. one z ∙ h z) y ∙ one y

  module _ (r : Device) (l : Lent) where
    -- as many words as before, of an outcome
    abbrev Sized : Outcome → Type 0
    Sized o = Kept l o.lent

    step_keeps : (e : Event) → Sized (step p r l e)
    unfolding step read_event write_event wait_event cut_event range_event
    step_keeps (read a) = by-ladder p r l _ Address (read_taken p r l a) Sized (λ s y. refl) (λ y. refl) (λ f y. refl) (λ f t y. refl)
    step_keeps (write a w) = by-ladder p r l _ Address (write_taken p r l a w) Sized (λ s y. refl) (λ y. refl) (λ f y. refl) (λ f t y. refl)
    step_keeps (wait n) =
        by-ladder p r l _ Clock (waited r (ticks p n (now r l))) Sized (λ s y. refl) (λ y. refl) (λ f y. refl) (λ f t. ticks-keep n (now r l) f.whole)
    step_keeps (cut debris) =
        by-ladder p r l _ Debris (cut_taken p r l debris) Sized (λ s y. refl) (λ y. refl) (λ f y. refl)
        (λ f t. length_cut p r.operation debris l f.whole (ltb-false _ _ t))
    step_keeps (range first count) =
        by-ladder p r l _ Address _ Sized (λ s y. refl) (λ y. refl) (λ f y. refl) (λ f t. by-test Sized (hands_back r.operation) (λ _ y. refl) (λ _ y. refl))

-- ---- a run

run-keeps : (p : Part) (r : Device) (l : Lent) (es : List Event) (y : Array) → length (array_of y (run p r l es).lent) ≡ length (array_of y l)
unfolding run
run-keeps p r l [] y = refl
run-keeps p r l (e ∷ es) y = run-keeps p (step p r l e).answer.device (step p r l e).lent es y ∙ step_keeps p r l e y

pub run-whole : (p : Part) (r : Device) (l : Lent) (es : List Event) → is_whole p (run p r l es).lent ≡ is_whole p l
run-whole p r l es = rw (run-keeps p r l es Main, run-keeps p r l es OneTime)

unfoldable pub quick_run : Part → Device → Lent → (whole : Bool) → List Event → Ran
quick_run p r l whole [] = record { device = r; lent = l; turns = [] }
quick_run p r l whole (e ∷ es) =
    let o = quick_step p r l whole e in
    let rest = quick_run p o.answer.device o.lent whole es in
    record {
      device = rest.device;
      lent = rest.lent;
      turns = record { event = e; refusal = o.answer.refusal; word = o.answer.word } ∷ rest.turns;
    }

-- a run is the quick run
pub quick-run : (p : Part) (r : Device) (l : Lent) (whole : Bool) → is_whole p l ≡ whole → (es : List Event) → run p r l es ≡ quick_run p r l whole es
unfolding run quick_run
quick-run p r l whole h [] = refl
quick-run p r l whole h (e ∷ es) =
    one (step p r l e) (quick_step p r l whole e) (quick-step p r l whole h e) (rw (step_keeps p r l e Main, step_keeps p r l e OneTime) h) (λ o k. quick-run p o.answer.device o.lent whole k es)
  where
    after : Ran → Outcome → Ran
    after rest o =
        record {
          device = rest.device;
          lent = rest.lent;
          turns = record { event = e; refusal = o.answer.refusal; word = o.answer.word } ∷ rest.turns;
        }

    one : (o q : Outcome) → o ≡ q → is_whole p o.lent ≡ whole
        → ((x : Outcome) → is_whole p x.lent ≡ whole → run p x.answer.device x.lent es ≡ quick_run p x.answer.device x.lent whole es)
        → after (run p o.answer.device o.lent es) o ≡ after (quick_run p q.answer.device q.lent whole es) q
    one o q d k rest = rw (← d) (ap (λ (x : Ran). after x o) (rest o k))
