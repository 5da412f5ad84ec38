-- By soundness what a begun program writes lies in its array, and is neither protected nor locked.
use Rattle.std.specs.Prelude.{Option, Some}
use Prim.Native.Nat.{◌-◌, ◌<◌}
use mathlib.Core.Path.{◌≡◌, refl}
use mathlib.Core.Bool.{true, false}
use native.Mathlib.Omega.{arith}
use borrow.Author.Tests.{ltb-true}
use Rattle.geometry.specs.declared.Part.{Part}
use Rattle.protection.specs.declared.Protection.{Protection}
use Rattle.plain.specs.declared.Written.{Written}
use Rattle.plain.specs.declared.Program.{Program}
use Rattle.plain.specs.declared.Inside.{Inside}
use Rattle.plain.specs.declared.Inside.TheVariants.{Nothing, Runs}
use Rattle.plain.specs.declared.SuspendedErase.{SuspendedErase}
use Rattle.plain.specs.declared.Operation.{Operation}
use Rattle.plain.specs.declared.Operation.TheVariants.{Idle, Programming, ProgramSuspended, Window, Erasing, Recovering, EraseSuspended, ChipErasing, InOneTime, OneTimeProgramming}
use Rattle.plain.specs.declared.Suspension.{Suspension}
use Rattle.plain.specs.Figures.{program_time}
use Rattle.plain.specs.Programs.{lies_in, barred}
use Rattle.plain.specs.Sound.{operation_sound}
use Rattle.plain.specs.Cut.{begun, program_begun, begun_inside, begun_program}
use Rattle.plain.proofs.Tools.{by-test}
use Rattle.plain.proofs.CutCells.{Lies, no_program}
use Rattle.plain.proofs.Facts.{ProgramFacts, programming, program-suspended, inside-runs, one-time-programming}

pub record Begins (p : Part) (q : Program) (d : Written) : Type 0 where
  pub time : 0 < program_time p - q.left
  pub what : q.writes ≡ d

pub begins : (p : Part) (q : Program) (d : Written) → program_begun p q ≡ Some d → Begins p q d
begins p q d =
    by-test (λ (x : Option Written). x ≡ Some d → Begins p q d) (begun q.left (program_time p))
    (λ t e. record { time = omega (arith, ltb-true q.left (program_time p) t); what = cc }) (λ t e. no_program e)

module _ (p : Part) (bits : Protection) where
  pub record ProgramFree (d : Written) : Type 0 where
    pub lies : lies_in p d ≡ true
    pub free : barred p bits d ≡ false

  free_of : (s : Suspension) (q : Program) (d : Written) → ProgramFacts p bits s q → program_begun p q ≡ Some d → ProgramFree d
  free_of s q d f e = rw (← (begins p q d e).what) (record { lies = f.in-part; free = f.free })

  inside-free : (x : SuspendedErase) (i : Inside) → x.inside ≡ i → operation_sound p bits (EraseSuspended x) ≡ true → (d : Written) → begun_inside p i ≡ Some d → ProgramFree d
  unfolding begun_inside
  inside-free x Nothing t s d e = no_program e
  inside-free x (Runs q) t s d e = free_of _ q d (inside-runs p bits x q s t).program e

  pub program-free : (o : Operation) → operation_sound p bits o ≡ true → (d : Written) → begun_program p o ≡ Some d → ProgramFree d
  unfolding begun_program
  program-free Idle s d e = no_program e
  program-free (Programming q) s d e = free_of _ q d (programming p bits q s) e
  program-free (ProgramSuspended q) s d e = free_of _ q d (program-suspended p bits q s) e
  program-free (Window x) s d e = no_program e
  program-free (Erasing x) s d e = no_program e
  program-free (Recovering x) s d e = no_program e
  program-free (EraseSuspended x) s d e = inside-free x x.inside refl s d e
  program-free (ChipErasing x) s d e = no_program e
  program-free InOneTime s d e = no_program e
  program-free (OneTimeProgramming q) s d e = free_of _ q d (one-time-programming p bits q s) e

  pub begun-lies : (o : Operation) → operation_sound p bits o ≡ true → Lies p (begun_program p o)
  begun-lies o s = record { lies = λ d e. (program-free o s d e).lies }
