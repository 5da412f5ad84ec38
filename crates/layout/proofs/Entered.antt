-- Whether the one-time block is entered is told by one word alone, as it is stored and as it is read.
use Prim.Native.Nat.{ℕ}
use mathlib.Core.Path.{◌≡◌, refl}
use mathlib.Core.Bool.{Bool, true, false}
use lib.Dec.{eqb}
use Rattle.plain.specs.declared.Program.{Program}
use Rattle.plain.specs.declared.Erase.{Erase}
use Rattle.plain.specs.declared.Inside.{Inside}
use Rattle.plain.specs.declared.Inside.TheVariants.{Nothing, Runs}
use Rattle.plain.specs.declared.Operation.{Operation}
use Rattle.plain.specs.declared.Operation.TheVariants.{Idle, Programming, ProgramSuspended, Window, Erasing, Recovering, EraseSuspended, ChipErasing, InOneTime, OneTimeProgramming}
use Rattle.plain.specs.Operations.{suspension_of, is_entered}
use Rattle.plain.proofs.Tools.{by-test}
use Rattle.layout.specs.Operations.{parts_with, suspended_parts, operation_parts, operation_numbered, operation_outside, operation_inside, operation_of}

Enters : Bool → Operation → Type 0
Enters b o = is_entered (suspension_of o) ≡ b

-- ---- as it is stored

suspended-stored : (e : Erase) (i : Inside) → (suspended_parts e i).entered ≡ false
unfolding suspended_parts
suspended-stored e Nothing = refl
suspended-stored e (Runs q) = refl

pub entered-stored : (o : Operation) → (operation_parts o).entered ≡ is_entered (suspension_of o)
unfolding operation_parts suspension_of
entered-stored Idle = refl
entered-stored (Programming q) = refl
entered-stored (ProgramSuspended q) = refl
entered-stored (Window e) = refl
entered-stored (Erasing e) = refl
entered-stored (Recovering r) = refl
entered-stored (EraseSuspended s) = suspended-stored s.erase s.inside
entered-stored (ChipErasing e) = refl
entered-stored InOneTime = refl
entered-stored (OneTimeProgramming q) = refl

-- ---- as it is read

numbered-read : (n : ℕ) (e : Erase) (q : Program) → Enters false (operation_numbered n e q)
unfolding Enters operation_numbered suspension_of
numbered-read n e q =
    by-test (Enters false) (eqb n 1) (λ _. refl)
    (λ _. by-test (Enters false) (eqb n 2) (λ _. refl)
    (λ _. by-test (Enters false) (eqb n 3) (λ _. refl)
    (λ _. by-test (Enters false) (eqb n 4) (λ _. refl)
    (λ _. by-test (Enters false) (eqb n 5) (λ _. refl)
    (λ _. by-test (Enters false) (eqb n 6) (λ _. refl)
    (λ _. by-test (Enters false) (eqb n 7) (λ _. refl) (λ _. refl)))))))

pub entered-read : (n : ℕ) (e : Erase) (q : Program) (t : ℕ) (entered : Bool) → is_entered (suspension_of (operation_of (parts_with n e q t entered))) ≡ entered
unfolding Enters operation_of operation_inside operation_outside suspension_of
entered-read n e q t true = by-test (Enters true) (eqb n 1) (λ _. refl) (λ _. refl)
entered-read n e q t false = by-test (Enters false) (eqb t 0) (λ _. numbered-read n e q) (λ _. refl)
