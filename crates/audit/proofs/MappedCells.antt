-- No read, wait, cut or range changes a cell of a bank that gives its cells.
use Rattle.std.specs.Prelude.{Option, Some}
use Prim.Native.Nat.{ℕ, zero, suc}
use mathlib.Core.Path.{◌≡◌, refl, sym, ap, ◌∙◌}
use mathlib.Core.Bool.{true, false, ◌&&◌, not}
use mathlib.Core.List.{List, [], ◌∷◌}
use lib.Dec.{ltb, eqb}
use lib.ListN.{length}
use borrow.Author.Tests.{eq-eqb, ne_eqb, not-true, ltb-false}
use Rattle.cells.proofs.Laws.{erased-out}
use Rattle.geometry.specs.declared.Part.{Part}
use Rattle.geometry.specs.Parts.{bank_count, first_of, size_of, block_of, bank_of, bank_of_block}
use Rattle.geometry.proofs.Laid.{laid, block-fits}
use Rattle.protection.specs.declared.Protection.{Protection}
use Rattle.plain.specs.declared.Array.TheVariants.{Main}
use Rattle.plain.specs.declared.Refusal.TheVariants.{Address, Clock, Debris}
use Rattle.plain.specs.declared.Written.{Written}
use Rattle.plain.specs.declared.Program.{Program}
use Rattle.plain.specs.declared.Erase.{Erase}
use Rattle.plain.specs.declared.Inside.{Inside}
use Rattle.plain.specs.declared.Inside.TheVariants.{Nothing, Runs}
use Rattle.plain.specs.declared.Operation.{Operation}
use Rattle.plain.specs.declared.Operation.TheVariants.{Idle, Programming, ProgramSuspended, Window, Erasing, Recovering, EraseSuspended, ChipErasing, InOneTime, OneTimeProgramming}
use Rattle.plain.specs.declared.Running.TheVariants.{Programs, Erases}
use Rattle.plain.specs.declared.Command.{Command}
use Rattle.plain.specs.declared.Device.{Device}
use Rattle.plain.specs.Cut.{if_begun, begun_block, begun_inside, begun_program, begun, program_begun, debris_needed}
use Rattle.plain.specs.Figures.{erase_time}
use Rattle.plain.specs.Events.{Event, read, write, wait, cut, range}
use Rattle.plain.specs.Lent.{Lent, word_at, Whole}
use Rattle.plain.specs.Machine.{Outcome, Fit, now, hands_back, read_event, wait_event, cut_event, range_event, step, run}
use Rattle.plain.specs.Operations.{running_inside, running_of, suspension_of}
use Rattle.plain.specs.Programs.{writes, lies_in, bank_written}
use Rattle.plain.specs.Sound.{operation_sound, sound}
use Rattle.plain.specs.Time.{Moment, last, lent_tick, tick, ticks}
use Rattle.plain.proofs.BegunSound.{begins, begun-lies}
use Rattle.plain.proofs.CutCells.{nowhere, no_program, untouched}
use Rattle.plain.proofs.Facts.{programming, inside-runs, one-time-programming, sound-operation}
use Rattle.plain.proofs.Ladder.{by-ladder}
use Rattle.plain.proofs.Programs.{finished-at, written-in-block}
use Rattle.plain.proofs.Quick.{tick-keeps}
use Rattle.plain.proofs.SoundTime.{tick-fit}
use Rattle.plain.proofs.Tools.{by-test, by_cases, both_left, both_right, clash}
use Rattle.layout.specs.Image.{device_of}
use Rattle.face.specs.Face.{Faced, part_named, stands}
use Rattle.mapping.specs.Mapped.{reading_in, runs_in, rests_in, gives_cells}
use Rattle.mapping.proofs.Rests.{written-bank}
use Rattle.mapping.proofs.Lasts.{after-wait}
use Rattle.judged.specs.Asked.{reads_cells}
use Rattle.asked.specs.Asked.{face_reads_cells}
use Rattle.audit.specs.Called.{Called, lent_after, Held, Calls, none, more}
use Rattle.audit.specs.Mapped.{is_write, no_write}
use Rattle.audit.proofs.Called.{called_is, called-some}
use Rattle.audit.proofs.MappedBanks.{step-mapped, first-none, rest-none, call-mapped}

module _ (p : Part) (x : ℕ) where
  -- nothing of the operation is in the word's bank
  abbrev Away : Operation → Type 0
  Away o = (not (runs_in p (running_of o) (bank_of p x)) && not (rests_in p (suspension_of o) (bank_of p x))) ≡ true

  gives-away : (c : Command) (o : Operation) → gives_cells p c o (bank_of p x) ≡ true → Away o
  unfolding gives_cells
  gives-away c o g = both_right (not (reading_in c (bank_of p x))) _ g

  -- a block of another bank has not the word, and a program there does not write it
  in_block : (b : ℕ) → eqb (bank_of p x) (bank_of_block p b) ≡ false → block_of p x ≡ b → ⊥
  in_block b away same = clash (eq-eqb _ _ ((laid p).one-bank x ∙ ap (bank_of_block p) same)) away

  misses : (d : Written) → eqb (bank_of p x) (bank_written p d) ≡ false → writes d Main x ≡ false
  misses d away =
      by_cases (writes d Main x)
      (λ t. clash (eq-eqb _ _ ((laid p).one-bank x ∙ ap (bank_of_block p) (written-in-block p d Main x t) ∙ sym (written-bank p d))) away) (λ t. t)

  -- ---- one microsecond, and n of them

  module _ (bits : Protection) (l : Lent) (whole : Whole p l) where
    abbrev Same : Lent → Type 0
    Same m = word_at m Main x ≡ word_at l Main x

    program-same : (q : Program) → lies_in p q.writes ≡ true → eqb (bank_of p x) (bank_written p q.writes) ≡ false → Same (lent_tick p (Programs q) l)
    unfolding lent_tick
    program-same q lies away =
        by-test Same (last q.left) (λ _. finished-at p q.writes l whole lies Main x ∙ rw (misses q.writes away)) (λ _. refl)

    erase_same : (e : Erase) → eqb (bank_of p x) (bank_of_block p e.hand) ≡ false → Same (lent_tick p (Erases e) l)
    unfolding lent_tick
    erase_same e away =
        by-test Same (last e.left)
        (λ _. erased-out l.cells (first_of p e.hand) (size_of p e.hand) (rw (whole Main) (block-fits p e.hand)) x
        (λ from to. in_block e.hand away ((laid p).no_other x e.hand from to))) (λ _. refl)

    inside-same : (i : Inside) → ((q : Program) → i ≡ Runs q → lies_in p q.writes ≡ true) → not (runs_in p (running_inside i) (bank_of p x)) ≡ true
        → Same (lent_tick p (running_inside i) l)
    unfolding running_inside runs_in lent_tick
    inside-same Nothing lies h = refl
    inside-same (Runs q) lies h = program-same q (lies q refl) (not-true _ h)

    tick-same : (o : Operation) → operation_sound p bits o ≡ true → Away o → Same (lent_tick p (running_of o) l)
    unfolding running_of suspension_of runs_in rests_in lent_tick
    tick-same Idle f h = refl
    tick-same (Programming q) f h = program-same q (programming p bits q f).in-part (not-true _ (both_left (not (eqb (bank_of p x) (bank_written p q.writes))) _ h))
    tick-same (ProgramSuspended q) f h = refl
    tick-same (Window e) f h = refl
    tick-same (Erasing e) f h = erase_same e (not-true _ (both_left (not (eqb (bank_of p x) (bank_of_block p e.hand))) _ h))
    tick-same (Recovering r) f h = refl
    tick-same (EraseSuspended s) f h =
        inside-same s.inside (λ q e. (inside-runs p bits s q f e).program.in-part) (both_left (not (runs_in p (running_inside s.inside) (bank_of p x))) _ h)
    tick-same (ChipErasing e) f h = clash h refl
    tick-same InOneTime f h = refl
    tick-same (OneTimeProgramming q) f h =
        program-same q (one-time-programming p bits q f).in-part (not-true _ (both_left (not (eqb (bank_of p x) (bank_written p q.writes))) _ h))

  ticks-same : (bits : Protection) (c : Command) (n : ℕ) (m : Moment) → operation_sound p bits m.operation ≡ true
      → Whole p m.lent → gives_cells p c m.operation (bank_of p x) ≡ true → word_at (ticks p n m).lent Main x ≡ word_at m.lent Main x
  unfolding ticks tick
  ticks-same bits c zero m f whole g = refl
  ticks-same bits c (suc n) m f whole g =
      ticks-same bits c n (tick p m) (tick-fit p bits m.operation f) (λ y. tick-keeps p (running_of m.operation) m.lent whole y ∙ whole y)
      (after-wait p (bank_of p x) bits c 1 m f g) ∙ tick-same bits m.lent whole m.operation f (gives-away c m.operation g)

  -- ---- a cut

  program-misses : (q : Program) (d : Written) → program_begun p q ≡ Some d → eqb (bank_of p x) (bank_written p q.writes) ≡ false → writes d Main x ≡ false
  program-misses q d e away = rw (← (begins p q d e).what) (misses q.writes away)

  begun-hand : (left full hand b : ℕ) → if_begun left full hand ≡ Some b → hand ≡ b
  begun-hand left full hand b = by-test (λ (y : Option ℕ). y ≡ Some b → hand ≡ b) (begun left full) (λ t e. cc) (λ t e. nowhere e)

  inside-word : (i : Inside) → not (runs_in p (running_inside i) (bank_of p x)) ≡ true → (d : Written) → begun_inside p i ≡ Some d → writes d Main x ≡ false
  unfolding running_inside runs_in begun_inside
  inside-word Nothing h d e = no_program e
  inside-word (Runs q) h d e = program-misses q d e (not-true _ h)

  no_word : (o : Operation) → Away o → (d : Written) → begun_program p o ≡ Some d → writes d Main x ≡ false
  unfolding begun_program running_of suspension_of runs_in rests_in
  no_word Idle h d e = no_program e
  no_word (Programming q) h d e = program-misses q d e (not-true _ (both_left (not (eqb (bank_of p x) (bank_written p q.writes))) _ h))
  no_word (ProgramSuspended q) h d e = program-misses q d e (not-true _ h)
  no_word (Window w) h d e = no_program e
  no_word (Erasing w) h d e = no_program e
  no_word (Recovering w) h d e = no_program e
  no_word (EraseSuspended s) h d e = inside-word s.inside (both_left (not (runs_in p (running_inside s.inside) (bank_of p x))) _ h) d e
  no_word (ChipErasing w) h d e = no_program e
  no_word InOneTime h d e = no_program e
  no_word (OneTimeProgramming q) h d e = program-misses q d e (not-true _ (both_left (not (eqb (bank_of p x) (bank_written p q.writes))) _ h))

  not-in-hand : (left full hand : ℕ) → not (eqb (bank_of p x) (bank_of_block p hand)) ≡ true → (b : ℕ) → if_begun left full hand ≡ Some b → block_of p x ≡ b → ⊥
  not-in-hand left full hand h b e = in_block b (rw (← begun-hand left full hand b e) (not-true _ h))

  no_block : (o : Operation) → Away o → (b : ℕ) → begun_block p o ≡ Some b → block_of p x ≡ b → ⊥
  unfolding begun_block running_of suspension_of runs_in rests_in
  no_block Idle h b e = nowhere e
  no_block (Programming q) h b e = nowhere e
  no_block (ProgramSuspended q) h b e = nowhere e
  no_block (Window w) h b e = nowhere e
  no_block (Erasing w) h b e = not-in-hand w.left (erase_time p) w.hand (both_left (not (eqb (bank_of p x) (bank_of_block p w.hand))) _ h) b e
  no_block (Recovering w) h b e =
      not-in-hand w.erase.left (erase_time p) w.erase.hand (both_left (not (eqb (bank_of p x) (bank_of_block p w.erase.hand))) _ h) b e
  no_block (EraseSuspended s) h b e =
      not-in-hand s.erase.left (erase_time p) s.erase.hand (both_right (not (runs_in p (running_inside s.inside) (bank_of p x))) _ h) b e
  no_block (ChipErasing w) h b e = clash h refl
  no_block InOneTime h b e = nowhere e
  no_block (OneTimeProgramming q) h b e = nowhere e

  -- ---- one event, and a run

  module _ (r : Device) (l : Lent) (m : reads_cells p r (bank_of p x) ≡ true) where
    abbrev Kept : Outcome → Type 0
    Kept o = word_at o.lent Main x ≡ word_at l Main x

    gives : gives_cells p r.command r.operation (bank_of p x) ≡ true
    unfolding reads_cells
    gives = both_right (sound p r) _ m

    away : Away r.operation
    away = gives-away r.command r.operation gives

    fine : Fit p r l → operation_sound p r.bits r.operation ≡ true
    fine f = sound-operation p r f.sound r.operation refl

    step_same : (e : Event) → is_write e ≡ false → Kept (step p r l e)
    unfolding is_write step read_event wait_event cut_event range_event
    step_same (read a) h = by-ladder p r l _ Address _ Kept (λ _. refl) refl (λ _. refl) (λ _ _. refl)
    step_same (write a w) h = clash refl h
    step_same (wait n) h =
        by-ladder p r l _ Clock _ Kept (λ _. refl) refl (λ _. refl) (λ f _. ticks-same r.bits r.command n (now r l) (fine f) f.whole gives)
    step_same (cut debris) h =
        by-ladder p r l _ Debris _ Kept (λ _. refl) refl (λ _. refl)
        (λ f t. untouched p r.operation debris l f.whole (ltb-false (length debris) (debris_needed p r.operation) t)
        (begun-lies p r.bits r.operation (fine f)) Main x (no_word r.operation away)
        (λ b e. ne_eqb (block_of p x) b (no_block r.operation away b e)))
    step_same (range first count) h =
        by-ladder p r l _ Address _ Kept (λ _. refl) refl (λ _. refl) (λ _ _. by-test Kept (hands_back r.operation) (λ _. refl) (λ _. refl))

pub run-same : (p : Part) (r : Device) (l : Lent) (es : List Event) (x : ℕ) → no_write es ≡ true → reads_cells p r (bank_of p x) ≡ true
    → word_at (run p r l es).lent Main x ≡ word_at l Main x
unfolding run
run-same p r l [] x h m = refl
run-same p r l (e ∷ es) x h m =
    let o = step p r l e in
    run-same p o.answer.device o.lent es x (rest-none e es h) (step-mapped p r l (bank_of p x) e (first-none e es h) m)
    ∙ step_same p x r l m e (first-none e es h)

-- ---- through C

call_same : (part : ℕ) (words : List ℕ) (l : Lent) (e : Event) (f : Faced) (x : ℕ) → Called part words l e f → is_write e ≡ false
    → face_reads_cells part words (bank_of (part_named part) x) ≡ true → word_at (lent_after f) Main x ≡ word_at l Main x
unfolding face_reads_cells
call_same part words l e f x c h m =
    let p = part_named part in
    let r = device_of words in
    let stood = both_left (stands part words) _ m in
    let maps = both_right (ltb (bank_of p x) (bank_count p)) (reads_cells p r (bank_of p x)) (both_right (stands part words) _ m) in
    ap (λ (y : Faced). word_at (lent_after y) Main x) (called_is part words l c ∙ called-some part words l e stood) ∙ step_same p x r l maps e h

pub calls_same : {part : ℕ} {words : List ℕ} {l : Lent} {es : List Event} {ran : Held} → (x : ℕ) → Calls part words l es ran → no_write es ≡ true
    → face_reads_cells part words (bank_of (part_named part) x) ≡ true → word_at ran.lent Main x ≡ word_at l Main x
calls_same x none h m = refl
calls_same {part} {words} {l} x (more {e = e} {es = es} {f = f} c n k) h m =
    calls_same x k (rest-none e es h) (call-mapped part (bank_of (part_named part) x) words l e f c (first-none e es h) m)
    ∙ call_same part words l e f x c (first-none e es h) m
