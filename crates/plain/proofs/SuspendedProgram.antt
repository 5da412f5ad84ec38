-- A program that runs takes no write, and time suspends none.
use Prim.Native.Nat.{ℕ}
use mathlib.Core.Path.{◌≡◌, refl}
use mathlib.Core.Bool.{false}
use Rattle.geometry.specs.declared.Part.{Part}
use Rattle.protection.specs.declared.Protection.{Protection}
use Rattle.plain.specs.declared.Refusal.TheVariants.{Busy}
use Rattle.plain.specs.declared.Program.{Program}
use Rattle.plain.specs.declared.Inside.{Inside}
use Rattle.plain.specs.declared.Inside.TheVariants.{Nothing, Runs}
use Rattle.plain.specs.declared.Operation.{Operation}
use Rattle.plain.specs.declared.Operation.TheVariants.{Idle, Programming, ProgramSuspended, Window, Erasing, Recovering, EraseSuspended, ChipErasing, InOneTime, OneTimeProgramming}
use Rattle.plain.specs.declared.Running.TheVariants.{Programs}
use Rattle.plain.specs.declared.Command.{Command}
use Rattle.plain.specs.declared.Effect.{Effect}
use Rattle.plain.specs.declared.Effect.TheVariants.{Stays}
use Rattle.plain.specs.Commands.{program_is_suspended, in_suspended_erase, written, effected}
use Rattle.plain.specs.Lent.{Lent}
use Rattle.plain.specs.Machine.{step}
use Rattle.plain.specs.Operations.{running_inside, running_of, suspension_of}
use Rattle.plain.specs.SuspendedProgram.{program_rests, ProgramsTakeNoWrite}
use Rattle.plain.proofs.EventLaws.{write-passes}
use Rattle.plain.proofs.Lasting.{Lasting}

-- ---- every write is BUSY

inside-busy : (i : Inside) (q : Program) (x : Effect) → running_inside i ≡ Programs q → in_suspended_erase i x ≡ Stays Busy
unfolding running_inside in_suspended_erase
inside-busy Nothing q x e = cc
inside-busy (Runs r) q x e = refl

program-busy : (p : Part) (bits : Protection) (o : Operation) (c : Command) (l : Lent) (a w : ℕ) (q : Program) → running_of o ≡ Programs q → written p bits o c l a w ≡ Stays Busy
unfolding running_of written
program-busy p bits Idle c l a w q e = cc
program-busy p bits (Programming r) c l a w q e = refl
program-busy p bits (ProgramSuspended r) c l a w q e = cc
program-busy p bits (Window x) c l a w q e = cc
program-busy p bits (Erasing x) c l a w q e = cc
program-busy p bits (Recovering x) c l a w q e = cc
program-busy p bits (EraseSuspended s) c l a w q e = inside-busy s.inside q _ e
program-busy p bits (ChipErasing x) c l a w q e = cc
program-busy p bits InOneTime c l a w q e = cc
program-busy p bits (OneTimeProgramming r) c l a w q e = refl

pub programs-take-no-write : (p : Part) → ProgramsTakeNoWrite p
unfolding step effected
programs-take-no-write p r l q a w f h e =
    rw (write-passes p r l a w f h, program-busy p r.bits r.operation r.command l a w q e)

-- ---- time

-- no program is suspended
abbrev pub Awake : Operation → Type 0
Awake o = program_rests o ≡ false

pub awake-lasts : Lasting Awake
unfolding suspension_of program_is_suspended
awake-lasts =
    record {
      idle = refl;
      window = λ e. refl;
      erasing = λ e. refl;
      recovering = λ e n h. refl;
      chip-erasing = λ e. refl;
      resting = λ e. refl;
      programming = λ q l h. refl;
      inside = λ e q l h. refl;
      entered = refl;
      one_time = λ q l h. refl;
    }
