-- An operation by the two questions that most rules ask of it: what of it runs, and what stands while nothing does.
use Rattle.std.specs.Prelude.{ℕ, Bool, true, false, ◌&&◌, ltb}
use Rattle.plain.specs.declared.Array.{Array}
use Rattle.plain.specs.declared.Array.TheVariants.{Main, OneTime}
use Rattle.plain.specs.declared.Inside.{Inside}
use Rattle.plain.specs.declared.Inside.TheVariants.{Nothing, Runs}
use Rattle.plain.specs.declared.Operation.{Operation}
use Rattle.plain.specs.declared.Operation.TheVariants.{Idle, Programming, ProgramSuspended, Window, Erasing, Recovering, EraseSuspended, ChipErasing, InOneTime, OneTimeProgramming}
use Rattle.plain.specs.declared.Running.{Running}
use Rattle.plain.specs.declared.Running.TheVariants.{Still, Programs, Waits, Erases, Recovers, ErasesChip}
use Rattle.plain.specs.declared.Suspension.{Suspension}
use Rattle.plain.specs.declared.Suspension.TheVariants.{Unsuspended, OfProgram, OfErase, Entered}
use Rattle.std.specs.Prelude.{if◌then◌else◌}
use Rattle.plain.specs.Lent.{otp_words}

-- "a second operation is only a program inside a suspended erase, and that program runs"
unfoldable pub running_inside : Inside → Running
running_inside Nothing = Still
running_inside (Runs q) = Programs q

unfoldable pub running_of : Operation → Running
running_of Idle = Still
running_of (Programming q) = Programs q
running_of (ProgramSuspended q) = Still
running_of (Window e) = Waits e
running_of (Erasing e) = Erases e
running_of (Recovering r) = Recovers r
running_of (EraseSuspended s) = running_inside s.inside
running_of (ChipErasing e) = ErasesChip e
running_of InOneTime = Still
running_of (OneTimeProgramming q) = Programs q

-- "only a block erase or a program may be suspended"; or the one-time block is entered
unfoldable pub suspension_of : Operation → Suspension
suspension_of Idle = Unsuspended
suspension_of (Programming q) = Unsuspended
suspension_of (ProgramSuspended q) = OfProgram q
suspension_of (Window e) = Unsuspended
suspension_of (Erasing e) = Unsuspended
suspension_of (Recovering r) = Unsuspended
suspension_of (EraseSuspended s) = OfErase s.erase
suspension_of (ChipErasing e) = Unsuspended
suspension_of InOneTime = Entered
suspension_of (OneTimeProgramming q) = Entered

-- ---- the one-time block (document 02, request 4)

abbrev pub is_entered : Suspension → Bool
is_entered Unsuspended = false
is_entered (OfProgram q) = false
is_entered (OfErase e) = false
is_entered Entered = true

-- "the one-time words or .. the main array, whichever its first address selects"
abbrev pub selected : Suspension → (a : ℕ) → Array
selected s a = if is_entered s && ltb a otp_words then OneTime else Main
