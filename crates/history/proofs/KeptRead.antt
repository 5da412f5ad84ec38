-- What a read flips, soundness does not look at; it leaves what a program writes, suspends none, and neither enters nor leaves the
-- one-time block.
use Prim.Native.Nat.{ℕ}
use mathlib.Core.Path.{◌≡◌, refl}
use Rattle.geometry.specs.declared.Part.{Part}
use Rattle.protection.specs.declared.Protection.{Protection}
use Rattle.plain.specs.declared.Erase.{Erase}
use Rattle.plain.specs.declared.Inside.{Inside}
use Rattle.plain.specs.declared.Inside.TheVariants.{Nothing, Runs}
use Rattle.plain.specs.declared.Operation.{Operation}
use Rattle.plain.specs.declared.Operation.TheVariants.{Idle, Programming, ProgramSuspended, Window, Erasing, Recovering, EraseSuspended, ChipErasing, InOneTime, OneTimeProgramming}
use Rattle.plain.specs.declared.Suspension.TheVariants.{OfErase}
use Rattle.plain.specs.declared.Command.{Command}
use Rattle.plain.specs.declared.Command.TheVariants.{Ground, Entering, Reads}
use Rattle.plain.specs.declared.Reading.{Reading}
use Rattle.plain.specs.declared.Reading.TheVariants.{Identity, Dybs, OtpLock}
use Rattle.plain.specs.declared.Seen.{Seen}
use Rattle.plain.specs.Lent.{Lent}
use Rattle.plain.specs.Operations.{running_inside, running_of, suspension_of, is_entered}
use Rattle.plain.specs.Record.{suspended}
use Rattle.plain.specs.Commands.{program_is_suspended}
use Rattle.plain.specs.Sound.{program_sound, list_sound, chip_list_sound, lowest, inside_sound, operation_sound, is_still, still_command, cycle_sound, reading_sound, command_sound}
use Rattle.plain.specs.Status.{polls, polled, inside_polled, reading_on, rests, rested, look}
use Rattle.plain.specs.SuspendedProgram.{program_rests}
use Rattle.plain.proofs.Data.{inside_data, data_of, recovery_left, Short}
use Rattle.plain.proofs.Modest.{raises_inside, raises_in}
use Rattle.plain.proofs.Tools.{by-test}

module _ (p : Part) (bits : Protection) where
  pub record Alike (o x : Operation) : Type 0 where
    pub operation : operation_sound p bits x ≡ operation_sound p bits o
    pub command : (c : Command) → command_sound p x c ≡ command_sound p o c
    pub short : Short o → Short x
    pub resting : program_rests x ≡ program_rests o
    pub entered : is_entered (suspension_of x) ≡ is_entered (suspension_of o)
    pub modest : (l : Lent) → raises_in l x ≡ raises_in l o

  alike : {o x : Operation} → operation_sound p bits x ≡ operation_sound p bits o → ((c : Command) → command_sound p x c ≡ command_sound p o c) → (Short o → Short x) → program_rests x ≡ program_rests o
      → is_entered (suspension_of x) ≡ is_entered (suspension_of o) → ((l : Lent) → raises_in l x ≡ raises_in l o) → Alike o x
  alike f g d h i m = record { operation = f; command = g; short = d; resting = h; entered = i; modest = m }

  itself : (o : Operation) → Alike o o
  itself o = alike refl (λ c. refl) (λ h. h) refl refl (λ l. refl)

  inside-polled : (e : Erase) (i : Inside) → Alike (EraseSuspended (suspended e i)) (EraseSuspended (suspended e (inside_polled i)))
  unfolding inside_polled operation_sound inside_sound program_sound command_sound is_still running_of running_inside suspension_of data_of recovery_left inside_data raises_in raises_inside
  inside-polled e Nothing = alike refl (λ c. refl) (λ h. h) refl refl (λ l. refl)
  inside-polled e (Runs q) = alike refl (λ c. refl) (λ h. h) refl refl (λ l. refl)

  polled-alike : (o : Operation) (a : ℕ) → Alike o (polled p o a)
  unfolding polled operation_sound program_sound list_sound chip_list_sound lowest command_sound is_still running_of suspension_of data_of recovery_left program_is_suspended raises_in
  polled-alike Idle a = alike refl (λ c. refl) (λ h. h) refl refl (λ l. refl)
  polled-alike (Programming q) a = alike refl (λ c. refl) (λ h. h) refl refl (λ l. refl)
  polled-alike (ProgramSuspended q) a = alike refl (λ c. refl) (λ h. h) refl refl (λ l. refl)
  polled-alike (Window e) a = alike refl (λ c. refl) (λ h. h) refl refl (λ l. refl)
  polled-alike (Erasing e) a = alike refl (λ c. refl) (λ h. h) refl refl (λ l. refl)
  polled-alike (Recovering r) a = alike refl (λ c. refl) (λ h. h) refl refl (λ l. refl)
  polled-alike (EraseSuspended s) a = inside-polled s.erase s.inside
  polled-alike (ChipErasing e) a = alike refl (λ c. refl) (λ h. h) refl refl (λ l. refl)
  polled-alike InOneTime a = itself _
  polled-alike (OneTimeProgramming q) a = alike refl (λ c. refl) (λ h. h) refl refl (λ l. refl)

  -- of a suspended erase the register asks nothing more
  same-reading : (e x : Erase) (r : Reading) → reading_sound p (OfErase e) r ≡ reading_sound p (OfErase x) r
  unfolding reading_sound
  same-reading e x (Identity bank) = refl
  same-reading e x Dybs = refl
  same-reading e x OtpLock = refl

  same-erase : (e x : Erase) (c : Command) → still_command p (OfErase e) c ≡ still_command p (OfErase x) c
  unfolding still_command cycle_sound
  same-erase e x Ground = refl
  same-erase e x (Entering c) = refl
  same-erase e x (Reads r) = same-reading e x r

  inside-rested : (e : Erase) (i : Inside) → Alike (EraseSuspended (suspended e i)) (rested (EraseSuspended (suspended e i)))
  unfolding rested operation_sound list_sound inside_sound program_sound command_sound is_still running_of running_inside suspension_of data_of recovery_left program_is_suspended raises_in
  inside-rested e Nothing = alike refl (λ c. same-erase _ e c) (λ h. h) refl refl (λ l. refl)
  inside-rested e (Runs q) = alike refl (λ c. refl) (λ h. h) refl refl (λ l. refl)

  rested-alike : (o : Operation) → Alike o (rested o)
  unfolding rested
  rested-alike Idle = itself _
  rested-alike (Programming q) = itself _
  rested-alike (ProgramSuspended q) = itself _
  rested-alike (Window e) = itself _
  rested-alike (Erasing e) = itself _
  rested-alike (Recovering r) = itself _
  rested-alike (EraseSuspended s) = inside-rested s.erase s.inside
  rested-alike (ChipErasing e) = itself _
  rested-alike InOneTime = itself _
  rested-alike (OneTimeProgramming q) = itself _

  pub look-alike : (c : Command) (o : Operation) (l : Lent) (a : ℕ) → Alike o (look p bits c o l a).operation
  unfolding look
  look-alike c o l a =
      by-test Same (polls p (running_of o) a) (λ _. polled-alike o a)
      (λ _. by-test Same (reading_on p c a) (λ _. itself o) (λ _. by-test Same (rests p (suspension_of o) a) (λ _. rested-alike o) (λ _. itself o)))
    where
      Same : Seen → Type 0
      Same s = Alike o s.operation
