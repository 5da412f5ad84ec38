-- No operation of a sound record ever ends in a protected block, however long the wait.
use Prim.Native.Nat.{ℕ, zero, suc}
use mathlib.Core.Path.{◌≡◌, refl}
use mathlib.Core.Bool.{true, false, ◌&&◌, and-false}
use borrow.Author.Tests.{not-true}
use Rattle.blocks.specs.Blocks.{has, pack, set_of, some}
use Rattle.geometry.specs.declared.Part.{Part}
use Rattle.geometry.specs.Parts.{unit_of, block_in}
use Rattle.protection.specs.declared.Protection.{Protection}
use Rattle.protection.specs.Protection.{protected, protected_by}
use Rattle.plain.specs.declared.Erase.{Erase}
use Rattle.plain.specs.declared.Inside.{Inside}
use Rattle.plain.specs.declared.Inside.TheVariants.{Nothing, Runs}
use Rattle.plain.specs.declared.SuspendedErase.{SuspendedErase}
use Rattle.plain.specs.declared.Operation.{Operation}
use Rattle.plain.specs.declared.Operation.TheVariants.{Idle, Programming, ProgramSuspended, Window, Erasing, Recovering, EraseSuspended, ChipErasing, InOneTime, OneTimeProgramming}
use Rattle.plain.specs.Operations.{running_of, running_inside}
use Rattle.plain.specs.Ends.{ends_protected, some_end_protected, NeverEndsProtected}
use Rattle.plain.specs.Unmade.{Met}
use Rattle.plain.specs.Machine.{now}
use Rattle.plain.specs.Programs.{barred}
use Rattle.plain.specs.Sound.{erasable, operation_sound}
use Rattle.plain.specs.Time.{Moment, last, inside_tick, operation_tick, tick}
use Rattle.plain.proofs.Facts.{sound-operation, EraseFacts, programming, erasing, chip-erasing, inside-runs, one-time-programming}
use Rattle.plain.proofs.SoundTime.{tick-fit}

-- what may be listed is not protected
pub erasable-free : (bits : Protection) (b : ℕ) → erasable bits b ≡ true → protected bits b ≡ false
erasable-free bits b h = not-true (protected bits b) h

module _ (p : Part) (bits : Protection) where
  hand-free : (e : Erase) (full : ℕ) → EraseFacts p bits e full → (last e.left && protected bits e.hand) ≡ false
  hand-free e full f = rw (erasable-free bits e.hand (f.erasable e.hand f.hand-listed)) (and-false (last e.left))

  inside-free : (s : SuspendedErase) (i : Inside) → s.inside ≡ i → operation_sound p bits (EraseSuspended s) ≡ true → ends_protected p bits (running_inside i) ≡ false
  unfolding running_inside ends_protected
  inside-free s Nothing d h = refl
  inside-free s (Runs q) d h = rw (inside-runs p bits s q h d).program.free (and-false (last q.left))

  ends-free : (o : Operation) → operation_sound p bits o ≡ true → ends_protected p bits (running_of o) ≡ false
  unfolding ends_protected running_of
  ends-free Idle s = refl
  ends-free (Programming q) s = rw (programming p bits q s).free (and-false (last q.left))
  ends-free (ProgramSuspended q) s = refl
  ends-free (Window e) s = refl
  ends-free (Erasing e) s = hand-free e _ (erasing p bits e s).erase
  ends-free (Recovering r) s = refl
  ends-free (EraseSuspended x) s = inside-free x x.inside refl s
  ends-free (ChipErasing e) s = hand-free e _ (chip-erasing p bits e s)
  ends-free InOneTime s = refl
  ends-free (OneTimeProgramming q) s = rw (one-time-programming p bits q s).free (and-false (last q.left))

  none-ends : (n : ℕ) (m : Moment) → operation_sound p bits m.operation ≡ true → some_end_protected p bits n m ≡ false
  unfolding some_end_protected tick
  none-ends zero m s = refl
  none-ends (suc n) m s = rw (ends-free m.operation s) (none-ends n (tick p m) (tick-fit p bits m.operation s))

pub never-ends-protected : (p : Part) → NeverEndsProtected p
never-ends-protected p r l n s = none-ends p r.bits n (now r l) (sound-operation p r s r.operation refl)

-- the condition is about something
pub met : Met
unfolding some_end_protected ends_protected running_of running_inside operation_tick inside_tick tick barred protected_by has pack set_of some unit_of block_in
met l = (refl, refl)
