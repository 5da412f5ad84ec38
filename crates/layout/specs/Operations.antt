-- What runs or is suspended as a number, an erase, a program and the time left of a recovery, and whether the one-time block is
-- entered. "A word that is not in use is 0."
use Rattle.std.specs.Prelude.{ℕ, Bool, true, false, ◌||◌, eqb, leb}
use Rattle.plain.specs.declared.Array.TheVariants.{Main}
use Rattle.plain.specs.declared.Program.{Program}
use Rattle.plain.specs.declared.Erase.{Erase}
use Rattle.plain.specs.declared.Inside.{Inside}
use Rattle.plain.specs.declared.Inside.TheVariants.{Nothing, Runs}
use Rattle.plain.specs.declared.Operation.{Operation}
use Rattle.plain.specs.declared.Operation.TheVariants.{Idle, Programming, ProgramSuspended, Window, Erasing, Recovering, EraseSuspended, ChipErasing, InOneTime, OneTimeProgramming}
use Rattle.std.specs.Prelude.{if◌then◌else◌}
use Rattle.plain.specs.Programs.{writing}
use Rattle.plain.specs.Record.{program, erase, suspended, recovery}
use Rattle.layout.specs.declared.OperationParts.{OperationParts}

abbrev pub no_erase : Erase
no_erase = erase (record { w0 = 0; w1 = 0; w2 = 0; w3 = 0; w4 = 0 }) 0 0 false false

abbrev pub no_program : Program
no_program = program (writing Main 0 0) 0 false

abbrev pub parts_with : (number : ℕ) → Erase → Program → (recovery : ℕ) → (entered : Bool) → OperationParts
parts_with n e q t entered = record { number = n; erase = e; program = q; recovery = t; entered = entered }

-- those of layout 1
abbrev pub parts : (number : ℕ) → Erase → Program → OperationParts
parts n e q = parts_with n e q 0 false

unfoldable pub suspended_parts : Erase → Inside → OperationParts
suspended_parts e Nothing = parts 5 e no_program
suspended_parts e (Runs q) = parts 6 e q

-- in the one-time block: the numbers of nothing and of a program
abbrev pub entered_parts : (number : ℕ) → Program → OperationParts
entered_parts n q = parts_with n no_erase q 0 true

unfoldable pub operation_parts : Operation → OperationParts
operation_parts Idle = parts 0 no_erase no_program
operation_parts (Programming q) = parts 1 no_erase q
operation_parts (ProgramSuspended q) = parts 2 no_erase q
operation_parts (Window e) = parts 3 e no_program
operation_parts (Erasing e) = parts 4 e no_program
operation_parts (Recovering r) = parts_with 4 r.erase no_program r.left false
operation_parts (EraseSuspended s) = suspended_parts s.erase s.inside
operation_parts (ChipErasing e) = parts 7 e no_program
operation_parts InOneTime = entered_parts 0 no_program
operation_parts (OneTimeProgramming q) = entered_parts 1 q

-- the numbers of those that have an erase, and a program
abbrev pub erases : (number : ℕ) → Bool
erases n = leb 3 n

abbrev pub programs : (number : ℕ) → Bool
programs n = eqb n 1 || (eqb n 2 || eqb n 6)

-- the operation that a number below 8 stands for, in each layout
unfoldable pub operation_numbered : (number : ℕ) → Erase → Program → Operation
operation_numbered n e q =
    if eqb n 1 then Programming q
    else if eqb n 2 then ProgramSuspended q
    else if eqb n 3 then Window e
    else if eqb n 4 then Erasing e
    else if eqb n 5 then EraseSuspended (suspended e Nothing)
    else if eqb n 6 then EraseSuspended (suspended e (Runs q))
    else if eqb n 7 then ChipErasing e
    else Idle

-- from layout 2 on: where time is left of a recovery, that
unfoldable pub operation_outside : (number : ℕ) → Erase → Program → (recovery : ℕ) → Operation
operation_outside n e q t = if eqb t 0 then operation_numbered n e q else Recovering (recovery e t)

-- from layout 3 on: in the one-time block, a program or nothing
unfoldable pub operation_inside : (number : ℕ) → Program → Operation
operation_inside n q = if eqb n 1 then OneTimeProgramming q else InOneTime

unfoldable pub operation_of : OperationParts → Operation
operation_of o =
    if o.entered then operation_inside o.number o.program
    else operation_outside o.number o.erase o.program o.recovery
