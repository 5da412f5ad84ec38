-- No word tells the array of a program, and none needs to: in every sound record, and in every record that words stand for, it is the
-- one that its address selects.
use Prim.Native.Nat.{ℕ}
use mathlib.Core.Path.{◌≡◌, refl}
use mathlib.Core.Bool.{Bool, true, false}
use mathlib.Core.List.{List}
use lib.Dec.{eqb}
use Rattle.geometry.specs.declared.Part.{Part}
use Rattle.protection.specs.declared.Protection.{Protection}
use Rattle.plain.specs.declared.Program.{Program}
use Rattle.plain.specs.declared.Erase.{Erase}
use Rattle.plain.specs.declared.Inside.{Inside}
use Rattle.plain.specs.declared.Inside.TheVariants.{Nothing, Runs}
use Rattle.plain.specs.declared.Suspension.{Suspension}
use Rattle.plain.specs.declared.Operation.{Operation}
use Rattle.plain.specs.declared.Operation.TheVariants.{Idle, Programming, ProgramSuspended, Window, Erasing, Recovering, EraseSuspended, ChipErasing, InOneTime, OneTimeProgramming}
use Rattle.plain.specs.Operations.{selected}
use Rattle.plain.specs.Programs.{array_written, first_word}
use Rattle.plain.specs.Record.{suspended}
use Rattle.plain.specs.Sound.{operation_sound}
use Rattle.plain.proofs.Tools.{by-test, clash}
use Rattle.plain.proofs.Lents.{same_true}
use Rattle.plain.proofs.Facts.{ProgramFacts, programming, program-suspended, inside-runs, one-time-programming}
use Rattle.layout.specs.Operations.{parts_with, suspended_parts, operation_parts, operation_numbered, operation_outside, operation_inside, operation_of}
use Rattle.layout.specs.Image.{entered_in, program_of, device_of}
use Rattle.layout.specs.Promises.{Selects}

Right : Operation → Type 0
Right o = Selects (operation_parts o)

-- ---- in a sound record

chosen : {p : Part} {bits : Protection} {s : Suspension} {q : Program} → ProgramFacts p bits s q → q.writes.array ≡ selected s q.writes.at
unfolding array_written first_word
chosen {s = s} {q = q} h = same_true q.writes.array (selected s q.writes.at) h.array

module _ (p : Part) (bits : Protection) where
  inside-right : (e : Erase) (i : Inside) → operation_sound p bits (EraseSuspended (suspended e i)) ≡ true → Right (EraseSuspended (suspended e i))
  unfolding Right operation_parts suspended_parts
  inside-right e Nothing h = λ has. clash has refl
  inside-right e (Runs q) h = λ has. chosen (inside-runs p bits (suspended e (Runs q)) q h refl).program

  sound-right : (o : Operation) → operation_sound p bits o ≡ true → Right o
  unfolding Right operation_parts
  sound-right Idle h = λ has. clash has refl
  sound-right (Programming q) h = λ has. chosen (programming p bits q h)
  sound-right (ProgramSuspended q) h = λ has. chosen (program-suspended p bits q h)
  sound-right (Window e) h = λ has. clash has refl
  sound-right (Erasing e) h = λ has. clash has refl
  sound-right (Recovering r) h = λ has. clash has refl
  sound-right (EraseSuspended s) h = inside-right s.erase s.inside h
  sound-right (ChipErasing e) h = λ has. clash has refl
  sound-right InOneTime h = λ has. clash has refl
  sound-right (OneTimeProgramming q) h = λ has. chosen (one-time-programming p bits q h)

  pub sound-selects : (o : Operation) → operation_sound p bits o ≡ true → Selects (operation_parts o)
  unfolding Right
  sound-selects = sound-right

-- ---- in a record that words stand for

module _ (i : List ℕ) where
  numbered-right : (n : ℕ) (e : Erase) → Right (operation_numbered n e (program_of false i))
  unfolding operation_numbered Right operation_parts suspended_parts
  numbered-right n e =
      by-test Right (eqb n 1) (λ _ has. refl)
      (λ _. by-test Right (eqb n 2) (λ _ has. refl)
      (λ _. by-test Right (eqb n 3) (λ _ has. clash has refl)
      (λ _. by-test Right (eqb n 4) (λ _ has. clash has refl)
      (λ _. by-test Right (eqb n 5) (λ _ has. clash has refl)
      (λ _. by-test Right (eqb n 6) (λ _ has. refl)
      (λ _. by-test Right (eqb n 7) (λ _ has. clash has refl) (λ _ has. clash has refl)))))))

  outside-right : (n : ℕ) (e : Erase) (t : ℕ) → Right (operation_outside n e (program_of false i) t)
  unfolding operation_outside Right operation_parts
  outside-right n e t = by-test Right (eqb t 0) (λ _. numbered-right n e) (λ _ has. clash has refl)

  entered-right : (n : ℕ) → Right (operation_inside n (program_of true i))
  unfolding operation_inside Right operation_parts
  entered-right n = by-test Right (eqb n 1) (λ _ has. refl) (λ _ has. clash has refl)

  mode-right : (n : ℕ) (e : Erase) (t : ℕ) (entered : Bool) → Right (operation_of (parts_with n e (program_of entered i) t entered))
  unfolding operation_of
  mode-right n e t true = entered-right n
  mode-right n e t false = outside-right n e t

  pub words-select : Selects (operation_parts (device_of i).operation)
  unfolding device_of Right
  words-select = mode-right _ _ _ (entered_in i)
