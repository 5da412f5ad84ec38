-- What time keeps of an operation: of a property that asks of a program no more than what it writes, one walk over the microseconds.
use Prim.Native.Nat.{ℕ, zero, suc, ◌-◌, ◌<◌}
use native.Mathlib.Omega.{arith}
use lib.Dec.{ltb}
use borrow.Author.Tests.{leb-false}
use Rattle.blocks.specs.Blocks.{first_from}
use Rattle.geometry.specs.declared.Part.{Part}
use Rattle.geometry.specs.Parts.{block_count}
use Rattle.plain.specs.declared.Program.{Program}
use Rattle.plain.specs.declared.Erase.{Erase}
use Rattle.plain.specs.declared.Inside.{Inside}
use Rattle.plain.specs.declared.Inside.TheVariants.{Nothing, Runs}
use Rattle.plain.specs.declared.Operation.{Operation}
use Rattle.plain.specs.declared.Operation.TheVariants.{Idle, Programming, ProgramSuspended, Window, Erasing, Recovering, EraseSuspended, ChipErasing, InOneTime, OneTimeProgramming}
use Rattle.plain.specs.Figures.{erase_time, chip_time}
use Rattle.plain.specs.Record.{program_left, suspended, recovery}
use Rattle.plain.specs.Time.{Moment, last, onward, inside_tick, operation_tick, tick, ticks}
use Rattle.plain.proofs.Tools.{by-test}

-- erases have it, a recovery while it has time left, and a program keeps it with another time left
pub record Lasting (P : Operation → Type 0) : Type 0 where
  pub idle : P Idle
  pub window : (e : Erase) → P (Window e)
  pub erasing : (e : Erase) → P (Erasing e)
  pub recovering : (e : Erase) (left : ℕ) → 0 < left → P (Recovering (recovery e left))
  pub chip-erasing : (e : Erase) → P (ChipErasing e)
  pub resting : (e : Erase) → P (EraseSuspended (suspended e Nothing))
  pub programming : (q : Program) (left : ℕ) → P (Programming q) → P (Programming (program_left q left))
  pub inside : (e : Erase) (q : Program) (left : ℕ) → P (EraseSuspended (suspended e (Runs q))) → P (EraseSuspended (suspended e (Runs (program_left q left))))
  pub entered : P InOneTime
  pub one_time : (q : Program) (left : ℕ) → P (OneTimeProgramming q) → P (OneTimeProgramming (program_left q left))

module _ (p : Part) (P : Operation → Type 0) (k : Lasting P) where
  inside-lasts : (e : Erase) (i : Inside) → P (EraseSuspended (suspended e i)) → P (inside_tick e i)
  unfolding inside_tick
  inside-lasts e Nothing h = h
  inside-lasts e (Runs q) h = by-test P (last q.left) (λ _. k.resting e) (λ _. k.inside e q (q.left - 1) h)

  onward-lasts : (again : Erase → Operation) (full : ℕ) (e : Erase) → ((x : Erase) → P (again x)) → P (onward p again full e)
  onward-lasts again full e f = by-test P (ltb (first_from e.list (suc e.hand)) (block_count p)) (λ _. f _) (λ _. k.idle)

  tick-lasts : (o : Operation) → P o → P (operation_tick p o)
  unfolding operation_tick
  tick-lasts Idle h = h
  tick-lasts (Programming q) h = by-test P (last q.left) (λ _. k.idle) (λ _. k.programming q (q.left - 1) h)
  tick-lasts (ProgramSuspended q) h = h
  tick-lasts (Window e) h = by-test P (last e.left) (λ _. k.erasing _) (λ _. k.window _)
  tick-lasts (Erasing e) h = by-test P (last e.left) (λ _. onward-lasts Erasing (erase_time p) e k.erasing) (λ _. k.erasing _)
  tick-lasts (Recovering r) h = by-test P (last r.left) (λ _. k.resting r.erase) (λ t. k.recovering r.erase (r.left - 1) (omega (arith, leb-false r.left 1 t)))
  tick-lasts (EraseSuspended s) h = inside-lasts s.erase s.inside h
  tick-lasts (ChipErasing e) h = by-test P (last e.left) (λ _. onward-lasts ChipErasing (chip_time p) e k.chip-erasing) (λ _. k.chip-erasing _)
  tick-lasts InOneTime h = h
  tick-lasts (OneTimeProgramming q) h = by-test P (last q.left) (λ _. k.entered) (λ _. k.one_time q (q.left - 1) h)

  pub ticks-last : (n : ℕ) (m : Moment) → P m.operation → P (ticks p n m).operation
  unfolding ticks tick
  ticks-last zero m h = h
  ticks-last (suc n) m h = ticks-last n (tick p m) (tick-lasts m.operation h)
