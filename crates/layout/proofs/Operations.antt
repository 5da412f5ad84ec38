-- An operation and its number, erase, program, recovery and mode: each stands for the other.
use Prim.Native.Nat.{ℕ, ◌<◌}
use mathlib.Core.Path.{◌≡◌, refl, ap}
use mathlib.Core.Bool.{Bool, true, false, ◌||◌}
use native.Mathlib.Omega.{arith}
use lib.Dec.{eqb, ltb}
use borrow.Author.Tests.{eqb-true, ne_eqb}
use Rattle.plain.specs.declared.Program.{Program}
use Rattle.plain.specs.declared.Erase.{Erase}
use Rattle.plain.specs.declared.Inside.{Inside}
use Rattle.plain.specs.declared.Inside.TheVariants.{Nothing, Runs}
use Rattle.plain.specs.declared.Recovery.{Recovery}
use Rattle.plain.specs.declared.Operation.{Operation}
use Rattle.plain.specs.declared.Operation.TheVariants.{Idle, Programming, ProgramSuspended, Window, Erasing, Recovering, EraseSuspended, ChipErasing, InOneTime, OneTimeProgramming}
use Rattle.std.specs.Prelude.{if◌then◌else◌}
use Rattle.plain.specs.Record.{suspended}
use Rattle.layout.specs.declared.OperationParts.{OperationParts}
use Rattle.layout.specs.Operations.{no_erase, no_program, parts_with, parts, suspended_parts, operation_parts, erases, programs, operation_numbered, operation_outside, operation_inside, operation_of}
use Rattle.layout.specs.Image.{flag}
use Rattle.plain.proofs.Tools.{by_cases}
use Rattle.layout.proofs.Words.{each}

or_left : (a : Bool) → (a || false) ≡ true → a ≡ true
or_left true h = refl
or_left false h = h

-- ---- from an operation: its number is below 8, and it is told by its parts, as far as that number says that it has them; so is a
-- recovery, which has time left, and what is in the one-time block. Where that number says that it has no program, any other will do

-- the parts with another program
abbrev pub programmed_by : OperationParts → Program → OperationParts
programmed_by o q = parts_with o.number o.erase q o.recovery o.entered

pub record Told (o : Operation) : Type 0 where
  pub number : ltb (operation_parts o).number 8 ≡ true
  pub erase : (operation_parts o).erase ≡ (if erases (operation_parts o).number then (operation_parts o).erase else no_erase)
  pub program : (operation_parts o).program ≡ (if programs (operation_parts o).number then (operation_parts o).program else no_program)
  pub recovery : (eqb (operation_parts o).number 4 || eqb (operation_parts o).recovery 0) ≡ true
  pub entered : (if ltb (operation_parts o).number 2 then ltb (flag (operation_parts o).entered) 2 else eqb (flag (operation_parts o).entered) 0) ≡ true
  pub back : ((r : Recovery) → o ≡ Recovering r → 0 < r.left) → (q : Program)
      → (programs (operation_parts o).number ≡ true → q ≡ (operation_parts o).program) → operation_of (programmed_by (operation_parts o) q) ≡ o

suspended-told : (e : Erase) (i : Inside) → Told (EraseSuspended (suspended e i))
unfolding operation_parts suspended_parts operation_numbered operation_outside operation_of
suspended-told e Nothing =
    record { number = refl; erase = refl; program = refl; recovery = refl; entered = refl; back = λ h q s. refl }
suspended-told e (Runs x) =
    record {
      number = refl;
      erase = refl;
      program = refl;
      recovery = refl;
      entered = refl;
      back = λ h q s. ap (λ (z : Program). EraseSuspended (suspended e (Runs z))) (s refl);
    }

pub told : (o : Operation) → Told o
unfolding operation_parts operation_numbered operation_outside operation_inside operation_of
told Idle = record { number = refl; erase = refl; program = refl; recovery = refl; entered = refl; back = λ h q s. refl }
told (Programming x) =
    record { number = refl; erase = refl; program = refl; recovery = refl; entered = refl; back = λ h q s. ap Programming (s refl) }
told (ProgramSuspended x) =
    record { number = refl; erase = refl; program = refl; recovery = refl; entered = refl; back = λ h q s. ap ProgramSuspended (s refl) }
told (Window e) = record { number = refl; erase = refl; program = refl; recovery = refl; entered = refl; back = λ h q s. refl }
told (Erasing e) = record { number = refl; erase = refl; program = refl; recovery = refl; entered = refl; back = λ h q s. refl }
told (Recovering r) =
    record {
      number = refl;
      erase = refl;
      program = refl;
      recovery = refl;
      entered = refl;
      back = λ h q s. rw (ne_eqb r.left 0 (λ e. omega (arith, e, h r refl)));
    }
told (EraseSuspended s) = suspended-told s.erase s.inside
told (ChipErasing e) = record { number = refl; erase = refl; program = refl; recovery = refl; entered = refl; back = λ h q s. refl }
told InOneTime = record { number = refl; erase = refl; program = refl; recovery = refl; entered = refl; back = λ h q s. refl }
told (OneTimeProgramming x) =
    record { number = refl; erase = refl; program = refl; recovery = refl; entered = refl; back = λ h q s. ap OneTimeProgramming (s refl) }

-- ---- from a number below 8, an erase, a program, a recovery where the number is an erase's, and a mode where it is 0 or 1

abbrev Back : ℕ → Type 0
Back n =
    (e : Erase) (q : Program)
    → operation_parts (operation_numbered n e q) ≡ parts n (if erases n then e else no_erase) (if programs n then q else no_program)

numbered-back : (n : ℕ) → ltb n 8 ≡ true → Back n
unfolding operation_parts suspended_parts operation_numbered
numbered-back = each 8 Back
    ((λ e q. refl), ((λ e q. refl), ((λ e q. refl), ((λ e q. refl), ((λ e q. refl), ((λ e q. refl), ((λ e q. refl), ((λ e q. refl), tt))))))))

-- those of the number, and what came later
abbrev Backed : (n t : ℕ) → Bool → Type 0
Backed n t entered =
    (e : Erase) (q : Program)
    → operation_parts (operation_of (parts_with n e q t entered)) ≡ parts_with n (if erases n then e else no_erase) (if programs n then q else no_program) t entered

outside-back : (n t : ℕ) → ltb n 8 ≡ true → (eqb n 4 || eqb t 0) ≡ true → Backed n t false
unfolding operation_of operation_outside operation_parts
outside-back n t h f e q =
    by_cases (eqb t 0) (λ z. rw (z, eqb-true t 0 z) (numbered-back n h e q))
    (λ z. rw (z, eqb-true n 4 (or_left (eqb n 4) (rw z at f))))

entered-back : (n : ℕ) → ltb n 2 ≡ true → Backed n 0 true
unfolding operation_of operation_inside operation_parts
entered-back = each 2 (λ n. Backed n 0 true) ((λ e q. refl), ((λ e q. refl), tt))

pub back : (n t : ℕ) (entered : Bool) → ltb n 8 ≡ true → (eqb n 4 || eqb t 0) ≡ true → (entered ≡ true → ltb n 2 ≡ true) → Backed n t entered
back n t false h f g = outside-back n t h f
back n t true h f g =
    let none = each 2 (λ k. (eqb k 4 || eqb t 0) ≡ true → eqb t 0 ≡ true) ((λ z. z), ((λ z. z), tt)) n (g refl) f in
    rw (eqb-true t 0 none) (entered-back n (g refl))
