-- No read, wait, cut or range withdraws a bank.
use Prim.Native.Nat.{ℕ}
use mathlib.Core.Path.{◌≡◌, refl, ◌∙◌}
use mathlib.Core.Bool.{Bool, true, false, not}
use mathlib.Core.List.{List, [], ◌∷◌}
use lib.Dec.{ltb}
use borrow.Author.Tests.{not-true}
use Rattle.geometry.specs.declared.Part.{Part}
use Rattle.geometry.specs.Parts.{bank_count}
use Rattle.plain.specs.declared.Refusal.{Refusal}
use Rattle.plain.specs.declared.Refusal.TheVariants.{Address, Clock, Debris}
use Rattle.plain.specs.declared.Device.{Device}
use Rattle.plain.specs.Events.{Event, read, write, wait, cut, range}
use Rattle.plain.specs.Lent.{Lent}
use Rattle.plain.specs.Machine.{Outcome, Fit, ladder, now, hands_back, read_event, wait_event, cut_event, range_event, step, run}
use Rattle.plain.specs.Sound.{sound}
use Rattle.plain.proofs.Facts.{sound-operation}
use Rattle.plain.proofs.Ladder.{by-ladder}
use Rattle.plain.proofs.Tools.{by-test, both, both_left, both_right, clash}
use Rattle.history.proofs.Kept.{step-sound}
use Rattle.layout.specs.Image.{image_of, device_of}
use Rattle.layout.specs.Promises.{Fits}
use Rattle.layout.proofs.Round.{round}
use Rattle.face.specs.Face.{Faced, is_part, part_named, stands, stands_sound}
use Rattle.mapping.specs.Mapped.{gives_cells}
use Rattle.mapping.proofs.Lasts.{after_read, after-wait, after-cut}
use Rattle.judged.specs.Asked.{reads_cells}
use Rattle.asked.specs.Asked.{face_reads_cells}
use Rattle.audit.specs.Called.{Called, Held, Calls, none, more}
use Rattle.audit.specs.Mapped.{is_write, no_write}
use Rattle.audit.proofs.Called.{called_is, called-some, called-brief, left-stands}
use Rattle.audit.proofs.Data.{image-fits, step_fits}

-- ---- one event

module _ (p : Part) (r : Device) (l : Lent) (bank : ℕ) where
  abbrev Gives : Outcome → Type 0
  Gives o = gives_cells p o.answer.device.command o.answer.device.operation bank ≡ true

  module _ (g : gives_cells p r.command r.operation bank ≡ true) where
    climbs : (fails : Bool) (own : Refusal) (taken : Outcome) → (Fit p r l → Gives taken) → Gives (ladder p r l fails own taken)
    climbs fails own taken f = by-ladder p r l fails own taken Gives (λ _. g) g (λ _. g) (λ fit _. f fit)

    step_gives : (e : Event) → is_write e ≡ false → Gives (step p r l e)
    unfolding is_write step read_event wait_event cut_event range_event
    step_gives (read a) h = climbs _ Address _ (λ _. after_read p bank r.bits r.command r.operation l a g)
    step_gives (write a w) h = clash refl h
    step_gives (wait n) h =
        climbs _ Clock _ (λ f. after-wait p bank r.bits r.command n (now r l) (sound-operation p r f.sound r.operation refl) g)
    step_gives (cut debris) h = climbs _ Debris _ (λ _. after-cut p bank)
    step_gives (range first count) h = climbs _ Address _ (λ _. by-test Gives (hands_back r.operation) (λ _. g) (λ _. g))

  pub step-mapped : (e : Event) → is_write e ≡ false → reads_cells p r bank ≡ true
      → reads_cells p (step p r l e).answer.device bank ≡ true
  unfolding reads_cells
  step-mapped e h m =
      let good = both_left (sound p r) (gives_cells p r.command r.operation bank) m in
      let g = both_right (sound p r) (gives_cells p r.command r.operation bank) m in
      both _ _ (step-sound p r l e good) (step_gives g e h)

-- ---- a run

pub first-none : (e : Event) (es : List Event) → no_write (e ∷ es) ≡ true → is_write e ≡ false
unfolding no_write
first-none e es h = not-true (is_write e) (both_left (not (is_write e)) (no_write es) h)

pub rest-none : (e : Event) (es : List Event) → no_write (e ∷ es) ≡ true → no_write es ≡ true
unfolding no_write
rest-none e es h = both_right (not (is_write e)) (no_write es) h

pub run-mapped : (p : Part) (r : Device) (l : Lent) (es : List Event) (bank : ℕ) → no_write es ≡ true → reads_cells p r bank ≡ true
    → reads_cells p (run p r l es).device bank ≡ true
unfolding run
run-mapped p r l [] bank h m = m
run-mapped p r l (e ∷ es) bank h m =
    let o = step p r l e in
    run-mapped p o.answer.device o.lent es bank (rest-none e es h) (step-mapped p r l bank e (first-none e es h) m)

-- ---- through C

sound-of : (p : Part) (r : Device) (bank : ℕ) → reads_cells p r bank ≡ true → sound p r ≡ true
unfolding reads_cells
sound-of p r bank m = both_left (sound p r) (gives_cells p r.command r.operation bank) m

-- the words of a sound record that was left stand for it
stands-left : (part : ℕ) (words : List ℕ) (r : Device) → stands part words ≡ true → Fits r → sound (part_named part) r ≡ true
    → stands part (image_of r) ≡ true
unfolding stands stands_sound
stands-left part words r stood fits good = both_left (stands part (image_of r)) _ (left-stands part r (both_left (is_part part) _ stood) fits good)

module _ (part : ℕ) (bank : ℕ) where
  pub call-mapped : (words : List ℕ) (l : Lent) (e : Event) (f : Faced) → Called part words l e f → is_write e ≡ false
      → face_reads_cells part words bank ≡ true → face_reads_cells part f.image bank ≡ true
  unfolding face_reads_cells
  call-mapped words l e f c h m =
      let p = part_named part in
      let r = device_of words in
      let stood = both_left (stands part words) _ m in
      let asked = both_right (stands part words) _ m in
      let maps = both_right (ltb bank (bank_count p)) (reads_cells p r bank) asked in
      let left = (step p r l e).answer.device in
      let fits = step_fits p r l (image-fits words) e (called-brief part words l c) in
      rw (called_is part words l c ∙ called-some part words l e stood, round left fits)
      (both _ _ (stands-left part words left stood fits (step-sound p r l e (sound-of p r bank maps)))
      (both _ _ (both_left (ltb bank (bank_count p)) (reads_cells p r bank) asked) (step-mapped p r l bank e h maps)))

  pub calls-mapped : {words : List ℕ} {l : Lent} {es : List Event} {ran : Held} → Calls part words l es ran → no_write es ≡ true
      → face_reads_cells part words bank ≡ true → face_reads_cells part ran.words bank ≡ true
  calls-mapped none h m = m
  calls-mapped {words} {l} (more {e = e} {es = es} {f = f} c n k) h m =
      calls-mapped k (rest-none e es h) (call-mapped words l e f c (first-none e es h) m)
