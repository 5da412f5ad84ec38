-- A fine effect of a write: one that leaves the record sound, the data of its program of 16 bits and the customer's lock set, that
-- suspends no program and starts none that asks for a 1 where the lent word has a 0; and what the write is answered has its reason.
use Prim.Native.Nat.{ℕ, ◌<◌}
use mathlib.Core.Path.{◌≡◌, refl}
use mathlib.Core.Bool.{Bool, true, false, ◌||◌}
use lib.Dec.{eqb}
use Rattle.geometry.specs.declared.Part.{Part}
use Rattle.protection.specs.declared.Protection.{Protection}
use Rattle.protection.specs.Protection.{stray_bits}
use Rattle.plain.specs.declared.Array.{Array}
use Rattle.plain.specs.declared.Array.TheVariants.{Main, OneTime}
use Rattle.plain.specs.declared.Refusal.{Refusal}
use Rattle.plain.specs.declared.Refusal.TheVariants.{Raise}
use Rattle.plain.specs.declared.Written.{Written}
use Rattle.plain.specs.declared.Operation.{Operation}
use Rattle.plain.specs.declared.Suspension.{Suspension}
use Rattle.plain.specs.declared.Command.{Command}
use Rattle.plain.specs.declared.Command.TheVariants.{Entering}
use Rattle.plain.specs.declared.Cycle.TheVariants.{ProgramData}
use Rattle.plain.specs.declared.Effect.{Effect}
use Rattle.plain.specs.declared.Effect.TheVariants.{Goes, Starts, Protects, Falls, Stays, Drops}
use Rattle.plain.specs.Commands.{keeps_out}
use Rattle.plain.specs.Lent.{Lent}
use Rattle.plain.specs.Operations.{selected}
use Rattle.plain.specs.Programs.{writing, barred, barred_by, raises}
use Rattle.plain.specs.Refusals.{number}
use Rattle.plain.specs.Sound.{operation_sound, command_sound}
use Rattle.plain.proofs.Data.{Short}
use Rattle.plain.proofs.Modest.{Modest}
use Rattle.plain.proofs.SuspendedProgram.{Awake}

-- no sound record is answered STATE
abbrev pub never : Refusal → Bool
never n = eqb (number n) 1

-- nor is RAISE answered but for a reason
abbrev pub special : Refusal → Bool
special n = never n || eqb (number n) 14

pub barred-plain : (y : Array) → special (barred_by y) ≡ false
unfolding number
barred-plain Main = refl
barred-plain OneTime = refl

-- what the effect of the word w must be, so that the record it is applied to stays sound
pub data Fine (p : Part) (bits : Protection) (l : Lent) (w : ℕ) (Reason : Type 0) (o : Operation) : Effect → Type 0 where
  goes : {c : Command} → command_sound p o c ≡ true → Fine p bits l w Reason o (Goes c)
  starts : {x : Operation} → operation_sound p bits x ≡ true → (w < 65536 → Short o → Short x) → Awake x → (Modest l o → Modest l x)
      → Fine p bits l w Reason o (Starts x)
  protects : {new : Protection} → stray_bits p new ≡ false → operation_sound p new o ≡ true → (bits.sealed ≡ true → new.sealed ≡ true)
      → Fine p bits l w Reason o (Protects new)
  falls : {n : Refusal} → special n ≡ false → Fine p bits l w Reason o (Falls n)
  raised : Reason → Fine p bits l w Reason o (Falls Raise)
  stays : {n : Refusal} → special n ≡ false → Fine p bits l w Reason o (Stays n)
  drops : Fine p bits l w Reason o Drops

-- what the data cycle of a program asks for
abbrev pub asks_for : Suspension → (a w : ℕ) → Written
asks_for s a w = writing (selected s a) a w

-- a program that would start but for its data
pub record Asking (p : Part) (bits : Protection) (l : Lent) (a w : ℕ) (s : Suspension) (c : Command) : Type 0 where
  pub cycle : c ≡ Entering ProgramData
  pub unbarred : barred p bits (asks_for s a w) ≡ false
  pub allowed : keeps_out p s (asks_for s a w) ≡ false
  pub raises : raises (asks_for s a w) l ≡ true
