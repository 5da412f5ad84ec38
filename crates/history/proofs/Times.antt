-- A microsecond, and any number of them: the history goes on saying what the record says, and each word holds what the facts
-- give it.
use Prim.Native.Nat.{ℕ, zero, suc, ◌-◌, ◌≤◌}
use mathlib.Core.Path.{◌≡◌, refl, sym, ap, ◌∙◌}
use mathlib.Core.Bool.{true, false}
use mathlib.Core.List.{List, ◌∷◌}
use native.Mathlib.Omega.{arith}
use lib.Dec.{ltb, eqb}
use borrow.Author.Tests.{eq-eqb, ne_eqb, leb-true, leb-false}
use Rattle.blocks.specs.declared.Blocks.{Blocks}
use Rattle.blocks.specs.Blocks.{first_from}
use Rattle.geometry.specs.declared.Part.{Part}
use Rattle.geometry.specs.Parts.{block_count}
use Rattle.protection.specs.declared.Protection.{Protection}
use Rattle.plain.specs.declared.Program.{Program}
use Rattle.plain.specs.declared.Erase.{Erase}
use Rattle.plain.specs.declared.Inside.{Inside}
use Rattle.plain.specs.declared.Inside.TheVariants.{Nothing, Runs}
use Rattle.plain.specs.declared.SuspendedErase.{SuspendedErase}
use Rattle.plain.specs.declared.Operation.{Operation}
use Rattle.plain.specs.declared.Operation.TheVariants.{Idle, Programming, ProgramSuspended, Window, Erasing, Recovering, EraseSuspended, ChipErasing, InOneTime, OneTimeProgramming}
use Rattle.plain.specs.declared.Suspension.{Suspension}
use Rattle.plain.specs.declared.Command.{Command}
use Rattle.std.specs.Prelude.{if◌then◌else◌}
use Rattle.plain.specs.Figures.{program_time, window_time, erase_time, recovery_time, chip_time}
use Rattle.plain.specs.Lent.{Lent, Whole}
use Rattle.plain.specs.Operations.{running_inside, running_of}
use Rattle.plain.specs.Programs.{finished}
use Rattle.plain.specs.Sound.{operation_sound}
use Rattle.plain.specs.Time.{Moment, last, onward, current, operation_tick, inside_tick, lent_tick, erase_finished, tick, ticks}
use Rattle.plain.specs.Doings.{Doing, nothing, programs, waits, erases, recovers, wipes, rests, programs_in, entered, programs_entered, draws, goes, comes}
use Rattle.plain.specs.History.{Told, telling, microsecond, time}
use Rattle.plain.specs.Holds.{Fact, program_done, erase_done}
use Rattle.plain.proofs.Tools.{by_cases}
use Rattle.plain.proofs.Facts.{ProgramFacts, EraseFacts, programming, window, erasing, recovering, chip-erasing, inside-runs, one-time-programming}
use Rattle.plain.proofs.Modest.{Modest, tick-modest}
use Rattle.plain.proofs.Quick.{tick-keeps}
use Rattle.plain.proofs.SoundTime.{tick-fit}
use Rattle.history.proofs.Seen.{seen_inside, seen_op, none-gone}
use Rattle.history.proofs.Holds.{Holds, holds-program, holds-erase}
use Rattle.history.proofs.Leaves.{Leaves, op-leaves}

-- ---- counting up and counting down

-- the last microsecond makes the full time
full-time : (l full : ℕ) → 1 ≤ l → l ≤ full → eqb (suc (full - l)) full ≡ last l
full-time l full h g =
    by_cases (last l) (λ e. eq-eqb (suc (full - l)) full (omega (arith, leb-true l 1 e)) ∙ sym e)
    (λ e. ne_eqb (suc (full - l)) full (λ d. omega (arith, leb-false l 1 e, d)) ∙ sym e)

one_more : (l full : ℕ) → last l ≡ false → l ≤ full → suc (full - l) ≡ full - (l - 1)
one_more l full e g = omega (arith, leb-false l 1 e)

module _ (p : Part) (bits : Protection) where
  abbrev Fit : Operation → Type 0
  Fit o = operation_sound p bits o ≡ true

  -- a program counts on, or ends
  program-goes : (s : Suspension) (q : Program) (on : ℕ → Doing) (next : Doing) → ProgramFacts p bits s q
      → (if eqb (suc (program_time p - q.left)) (program_time p) then next else on (suc (program_time p - q.left))) ≡ (if last q.left then next else on (program_time p - (q.left - 1)))
  program-goes s q on next f =
      rw (full-time q.left (program_time p) f.some_left f.most-left)
      (by_cases (last q.left) (λ t. rw t) (λ t. rw t (ap on (one_more q.left (program_time p) t f.most-left))))

  inside-goes : (s : SuspendedErase) (i : Inside) → s.inside ≡ i → Fit (EraseSuspended s) → goes p (seen_inside p s.erase i) ≡ seen_op p (inside_tick s.erase i)
  unfolding goes seen_op seen_inside inside_tick
  inside-goes s Nothing d f = refl
  inside-goes s (Runs q) d f =
      let e = s.erase in
      program-goes _ q (λ g. programs_in q.writes g e.list e.hand (erase_time p - e.left)) (rests e.list e.hand (erase_time p - e.left)) (inside-runs p bits s q f d).program
      ∙ by_cases (last q.left) (λ t. rw t) (λ t. rw t)

  -- the next listed block, in both tellings
  block_goes : (e : Erase) (again : Blocks → ℕ → ℕ → Doing) (over : Erase → Operation) (full : ℕ)
      → ((x : Erase) → seen_op p (over x) ≡ again x.list x.hand (full - x.left))
      → (if ltb (first_from e.list (suc e.hand)) (block_count p) then again e.list (first_from e.list (suc e.hand)) 0 else nothing) ≡ seen_op p (onward p over full e)
  unfolding seen_op
  block_goes e again over full d =
      by_cases (ltb (first_from e.list (suc e.hand)) (block_count p))
      (λ t. rw t (ap (again e.list (first_from e.list (suc e.hand))) (sym (none-gone full)) ∙ sym (d _)))
      (λ t. rw t)

  pub op-goes : (o : Operation) → Fit o → goes p (seen_op p o) ≡ seen_op p (operation_tick p o)
  unfolding goes seen_op seen_inside operation_tick
  op-goes Idle f = refl
  op-goes (Programming q) f =
      program-goes _ q (programs q.writes) nothing (programming p bits q f) ∙ by_cases (last q.left) (λ t. rw t) (λ t. rw t)
  op-goes (ProgramSuspended q) f = refl
  op-goes (Window e) s =
      let f = (window p bits e s).erase in
      rw (full-time e.left (window_time p) f.some_left f.most-left)
      (by_cases (last e.left) (λ t. rw t (ap (erases e.list e.hand) (sym (none-gone (erase_time p)))))
      (λ t. rw t (ap (waits e.list e.hand) (one_more e.left (window_time p) t f.most-left))))
  op-goes (Erasing e) s =
      let f = (erasing p bits e s).erase in
      rw (full-time e.left (erase_time p) f.some_left f.most-left)
      (by_cases (last e.left) (λ t. rw t (block_goes e erases Erasing (erase_time p) (λ x. refl)))
      (λ t. rw t (ap (erases e.list e.hand) (one_more e.left (erase_time p) t f.most-left))))
  op-goes (Recovering r) s =
      let f = recovering p bits r s in
      let stopped = recovers r.erase.list r.erase.hand (erase_time p - r.erase.left) in
      rw (full-time r.left (recovery_time p) f.some_left f.most-left)
      (by_cases (last r.left) (λ t. rw t) (λ t. rw t (ap stopped (one_more r.left (recovery_time p) t f.most-left))))
  op-goes (EraseSuspended x) s = inside-goes x x.inside refl s
  op-goes (ChipErasing e) s =
      let f = chip-erasing p bits e s in
      rw (full-time e.left (chip_time p) f.some_left f.most-left)
      (by_cases (last e.left) (λ t. rw t (block_goes e wipes ChipErasing (chip_time p) (λ x. refl)))
      (λ t. rw t (ap (wipes e.list e.hand) (one_more e.left (chip_time p) t f.most-left))))
  op-goes InOneTime f = refl
  op-goes (OneTimeProgramming q) f =
      program-goes _ q (programs_entered q.writes) entered (one-time-programming p bits q f) ∙ by_cases (last q.left) (λ t. rw t) (λ t. rw t)

  inside-draws : (e : Erase) (i : Inside) → draws p (seen_inside p e i) ≡ current p (running_inside i)
  unfolding draws seen_inside running_inside current
  inside-draws e Nothing = refl
  inside-draws e (Runs q) = refl

  pub op-draws : (o : Operation) → draws p (seen_op p o) ≡ current p (running_of o)
  unfolding draws seen_op running_of current
  op-draws Idle = refl
  op-draws (Programming q) = refl
  op-draws (ProgramSuspended q) = refl
  op-draws (Window e) = refl
  op-draws (Erasing e) = refl
  op-draws (Recovering r) = refl
  op-draws (EraseSuspended x) = inside-draws x.erase x.inside
  op-draws (ChipErasing e) = refl
  op-draws InOneTime = refl
  op-draws (OneTimeProgramming q) = refl

  -- ---- the facts, and the cells

  module _ (start : Lent) (fs : List Fact) (l : Lent) (whole : Whole p l) (h : Holds p start fs l) where
    program-holds : (s : Suspension) (q : Program) → ProgramFacts p bits s q
        → Holds p start (if eqb (suc (program_time p - q.left)) (program_time p) then program_done q.writes ∷ fs else fs) (if last q.left then finished q.writes l else l)
    program-holds s q f =
        rw (full-time q.left (program_time p) f.some_left f.most-left)
        (by_cases (last q.left) (λ t. rw t (holds-program p start fs l whole h q.writes f.in-part)) (λ t. rw t h))

    erase-holds : (e : Erase) (full : ℕ) → EraseFacts p bits e full
        → Holds p start (if eqb (suc (full - e.left)) full then erase_done e.hand ∷ fs else fs) (if last e.left then erase_finished p e l else l)
    erase-holds e full f =
        rw (full-time e.left full f.some_left f.most-left)
        (by_cases (last e.left) (λ t. rw t (holds-erase p start fs l whole h e)) (λ t. rw t h))

    inside-holds : (s : SuspendedErase) (i : Inside) → s.inside ≡ i → Fit (EraseSuspended s) → Holds p start (comes p (seen_inside p s.erase i) fs) (lent_tick p (running_inside i) l)
    unfolding comes seen_inside running_inside lent_tick
    inside-holds s Nothing d f = h
    inside-holds s (Runs q) d f = program-holds _ q (inside-runs p bits s q f d).program

    pub op-holds : (o : Operation) → Fit o → Holds p start (comes p (seen_op p o) fs) (lent_tick p (running_of o) l)
    unfolding comes seen_op running_of lent_tick
    op-holds Idle f = h
    op-holds (Programming q) f = program-holds _ q (programming p bits q f)
    op-holds (ProgramSuspended q) f = h
    op-holds (Window e) f = h
    op-holds (Erasing e) f = erase-holds e (erase_time p) (erasing p bits e f).erase
    op-holds (Recovering r) f = h
    op-holds (EraseSuspended x) f = inside-holds x x.inside refl f
    op-holds (ChipErasing e) f = erase-holds e (chip_time p) (chip-erasing p bits e f)
    op-holds InOneTime f = h
    op-holds (OneTimeProgramming q) f = program-holds _ q (one-time-programming p bits q f)

-- ---- any number of microseconds

module _ (p : Part) (start : Lent) (c : Command) (bits : Protection) where
  abbrev pub seen_at : Moment → List Fact → Told
  seen_at m fs = telling c (seen_op p m.operation) bits.dyb bits.ppb bits.sealed fs m.meter.clock m.meter.charge

  one_told : (m : Moment) (fs : List Fact) → operation_sound p bits m.operation ≡ true → microsecond p (seen_at m fs) ≡ seen_at (tick p m) (comes p (seen_op p m.operation) fs)
  unfolding microsecond tick
  one_told m fs f = rw (op-goes p bits m.operation f, op-draws p bits m.operation)

  pub record Waited (n : ℕ) (m : Moment) (fs : List Fact) : Type 0 where
    pub facts : List Fact
    pub tells : time p n (seen_at m fs) ≡ seen_at (ticks p n m) facts
    pub hold : Holds p start fs m.lent → Holds p start facts (ticks p n m).lent
    pub leave : Holds p start fs m.lent → Modest m.lent m.operation → Leaves p start fs → Leaves p start facts

  pub waited-told : (n : ℕ) (m : Moment) (fs : List Fact) → operation_sound p bits m.operation ≡ true → Whole p m.lent → Waited n m fs
  unfolding time ticks tick
  waited-told zero m fs f whole = record { facts = fs; tells = refl; hold = λ h. h; leave = λ h g k. k }
  waited-told (suc n) m fs f whole =
      let more = tick-keeps p (running_of m.operation) m.lent whole in
      let w = waited-told n (tick p m) (comes p (seen_op p m.operation) fs) (tick-fit p bits m.operation f) (λ y. more y ∙ whole y) in
      record {
        facts = w.facts;
        tells = ap (time p n) (one_told m fs f) ∙ w.tells;
        hold = λ h. w.hold (op-holds p bits start fs m.lent whole h m.operation f);
        leave = λ h g k.
            w.leave (op-holds p bits start fs m.lent whole h m.operation f) (tick-modest p m.operation m.lent g)
            (op-leaves p start fs m.lent h k m.operation g);
      }
