-- Time, reads and cuts withdraw no bank: where `gives_cells` said yes it still does after each of them.
use Prim.Native.Nat.{ℕ, zero, suc}
use mathlib.Core.Path.{◌≡◌, refl}
use mathlib.Core.Bool.{true, ◌&&◌, not}
use native.Mathlib.Omega.{arith}
use lib.Dec.{ltb, eqb}
use borrow.Author.Tests.{ltb-true}
use Rattle.blocks.specs.Blocks.{has, first_from}
use Rattle.blocks.proofs.Lowest.{first-has}
use Rattle.geometry.specs.declared.Part.{Part}
use Rattle.geometry.specs.Parts.{block_count, bank_of_block}
use Rattle.geometry.proofs.Counts.{blocks-most}
use Rattle.protection.specs.declared.Protection.{Protection}
use Rattle.plain.specs.declared.Erase.{Erase}
use Rattle.plain.specs.declared.Inside.{Inside}
use Rattle.plain.specs.declared.Inside.TheVariants.{Nothing, Runs}
use Rattle.plain.specs.declared.Operation.{Operation}
use Rattle.plain.specs.declared.Operation.TheVariants.{Idle, Programming, ProgramSuspended, Window, Erasing, Recovering, EraseSuspended, ChipErasing, InOneTime, OneTimeProgramming}
use Rattle.plain.specs.declared.Command.{Command}
use Rattle.plain.specs.declared.Command.TheVariants.{Ground}
use Rattle.plain.specs.declared.Seen.{Seen}
use Rattle.plain.specs.Figures.{erase_time}
use Rattle.plain.specs.Lent.{Lent}
use Rattle.plain.specs.Operations.{running_inside, running_of, suspension_of}
use Rattle.plain.specs.Record.{suspended}
use Rattle.plain.specs.Programs.{bank_written}
use Rattle.plain.specs.Sound.{operation_sound}
use Rattle.plain.specs.Status.{polls, polled, inside_polled, reading_on, rests, rested, look}
use Rattle.plain.specs.Time.{Moment, last, onward, inside_tick, operation_tick, tick, ticks}
use Rattle.plain.proofs.Facts.{erasing}
use Rattle.plain.proofs.SoundTime.{tick-fit}
use Rattle.plain.proofs.Tools.{by-test, both, both_left, both_right, clash}
use Rattle.mapping.specs.Mapped.{reading_in, runs_in, rests_in, gives_cells}

module _ (p : Part) (bank : ℕ) where
  -- nothing of the operation is in the bank
  abbrev Away : Operation → Type 0
  Away o = (not (runs_in p (running_of o) bank) && not (rests_in p (suspension_of o) bank)) ≡ true

  -- ---- one microsecond, and n of them

  inside-away : (e : Erase) (i : Inside) → Away (EraseSuspended (suspended e i)) → Away (inside_tick e i)
  unfolding inside_tick running_of running_inside suspension_of runs_in rests_in
  inside-away e Nothing h = h
  inside-away e (Runs q) h =
      by-test Away (last q.left) (λ _. both_right (not (eqb bank (bank_written p q.writes))) _ h) (λ _. h)

  -- a list lies in one bank
  onward-away : (e : Erase) (full : ℕ) → ((b : ℕ) → has e.list b ≡ true → bank_of_block p b ≡ bank_of_block p e.hand)
      → Away (Erasing e) → Away (onward p Erasing full e)
  unfolding running_of suspension_of runs_in rests_in
  onward-away e full one-bank h = by-test Away (ltb next (block_count p)) (λ g. rw (one-bank next (listed g)) h) (λ _. refl)
    where
      next : ℕ
      next = first_from e.list (suc e.hand)

      listed : ltb next (block_count p) ≡ true → has e.list next ≡ true
      listed g = first-has e.list (suc e.hand) (omega (arith, ltb-true next (block_count p) g, blocks-most p))

  tick-away : (bits : Protection) (o : Operation) → operation_sound p bits o ≡ true → Away o → Away (operation_tick p o)
  unfolding operation_tick running_of running_inside suspension_of runs_in rests_in
  tick-away bits Idle s h = h
  tick-away bits (Programming q) s h = by-test Away (last q.left) (λ _. refl) (λ _. h)
  tick-away bits (ProgramSuspended q) s h = h
  tick-away bits (Window e) s h = by-test Away (last e.left) (λ _. h) (λ _. h)
  tick-away bits (Erasing e) s h =
      by-test Away (last e.left) (λ _. onward-away e (erase_time p) (erasing p bits e s).one-bank h) (λ _. h)
  tick-away bits (Recovering r) s h =
      by-test Away (last r.left) (λ _. both_left (not (eqb bank (bank_of_block p r.erase.hand))) _ h) (λ _. h)
  tick-away bits (EraseSuspended s) _ h = inside-away s.erase s.inside h
  tick-away bits (ChipErasing e) s h = clash h refl
  tick-away bits InOneTime s h = h
  tick-away bits (OneTimeProgramming q) s h =
      by-test Away (last q.left) (λ _. both_right (not (eqb bank (bank_written p q.writes))) _ h) (λ _. h)

  ticks-away : (bits : Protection) (n : ℕ) (m : Moment) → operation_sound p bits m.operation ≡ true → Away m.operation
      → Away (ticks p n m).operation
  unfolding ticks tick
  ticks-away bits zero m s h = h
  ticks-away bits (suc n) m s h =
      ticks-away bits n (tick p m) (tick-fit p bits m.operation s) (tick-away bits m.operation s h)

  -- ---- what a read flips

  inside-polled : (e : Erase) (i : Inside) → Away (EraseSuspended (suspended e i)) → Away (EraseSuspended (suspended e (inside_polled i)))
  unfolding inside_polled running_of running_inside suspension_of runs_in rests_in
  inside-polled e Nothing h = h
  inside-polled e (Runs q) h = h

  polled-away : (o : Operation) (a : ℕ) → Away o → Away (polled p o a)
  unfolding polled running_of suspension_of runs_in rests_in
  polled-away Idle a h = h
  polled-away (Programming q) a h = h
  polled-away (ProgramSuspended q) a h = h
  polled-away (Window e) a h = h
  polled-away (Erasing e) a h = h
  polled-away (Recovering r) a h = h
  polled-away (EraseSuspended s) a h = inside-polled s.erase s.inside h
  polled-away (ChipErasing e) a h = h
  polled-away InOneTime a h = h
  polled-away (OneTimeProgramming q) a h = h

  rested-away : (o : Operation) → Away o → Away (rested o)
  unfolding rested running_of suspension_of runs_in rests_in
  rested-away Idle h = h
  rested-away (Programming q) h = h
  rested-away (ProgramSuspended q) h = h
  rested-away (Window e) h = h
  rested-away (Erasing e) h = h
  rested-away (Recovering r) h = h
  rested-away (EraseSuspended s) h = h
  rested-away (ChipErasing e) h = h
  rested-away InOneTime h = h
  rested-away (OneTimeProgramming q) h = h

  look-away : (bits : Protection) (c : Command) (o : Operation) (l : Lent) (a : ℕ) → Away o → Away (look p bits c o l a).operation
  unfolding look
  look-away bits c o l a h =
      by-test After (polls p (running_of o) a) (λ _. polled-away o a h)
      (λ _. by-test After (reading_on p c a) (λ _. h) (λ _. by-test After (rests p (suspension_of o) a) (λ _. rested-away o h) (λ _. h)))
    where
      After : Seen → Type 0
      After s = Away s.operation

  -- ---- so the bank gives its cells still

  gives-still : (c : Command) (o x : Operation) → (Away o → Away x) → gives_cells p c o bank ≡ true → gives_cells p c x bank ≡ true
  unfolding gives_cells
  gives-still c o x f g = both _ _ (both_left (not (reading_in c bank)) _ g) (f (both_right (not (reading_in c bank)) _ g))

  pub after_read : (bits : Protection) (c : Command) (o : Operation) (l : Lent) (a : ℕ) → gives_cells p c o bank ≡ true
      → gives_cells p c (look p bits c o l a).operation bank ≡ true
  after_read bits c o l a = gives-still c o _ (look-away bits c o l a)

  pub after-wait : (bits : Protection) (c : Command) (n : ℕ) (m : Moment) → operation_sound p bits m.operation ≡ true
      → gives_cells p c m.operation bank ≡ true
      → gives_cells p c (ticks p n m).operation bank ≡ true
  after-wait bits c n m s = gives-still c m.operation _ (ticks-away bits n m s)

  pub after-cut : gives_cells p Ground Idle bank ≡ true
  unfolding gives_cells reading_in runs_in rests_in running_of suspension_of
  after-cut = refl
