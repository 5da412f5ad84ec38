-- Time and charge (document 01, "Time, charge and the cells"), a microsecond after the other: a wait of n is n of them.
use Rattle.std.specs.Prelude.{ℕ, zero, suc, ◌-◌, Bool, leb, ltb}
use Rattle.blocks.specs.Blocks.{first_from}
use Rattle.cells.specs.Cells.{erased}
use Rattle.geometry.specs.declared.Part.{Part}
use Rattle.geometry.specs.Parts.{block_count, first_of, size_of}
use Rattle.meter.specs.declared.Meter.{Meter}
use Rattle.meter.specs.Meter.{metered}
use Rattle.plain.specs.declared.Array.TheVariants.{Main}
use Rattle.plain.specs.declared.Erase.{Erase}
use Rattle.plain.specs.declared.Inside.{Inside}
use Rattle.plain.specs.declared.Inside.TheVariants.{Nothing, Runs}
use Rattle.plain.specs.declared.Operation.{Operation}
use Rattle.plain.specs.declared.Operation.TheVariants.{Idle, Programming, ProgramSuspended, Window, Erasing, Recovering, EraseSuspended, ChipErasing, InOneTime, OneTimeProgramming}
use Rattle.plain.specs.declared.Running.{Running}
use Rattle.plain.specs.declared.Running.TheVariants.{Still, Programs, Waits, Erases, Recovers, ErasesChip}
use Rattle.std.specs.Prelude.{if◌then◌else◌}
use Rattle.plain.specs.Figures.{erase_time, chip_time, running_current, standby_current}
use Rattle.plain.specs.Lent.{Lent, with_array}
use Rattle.plain.specs.Operations.{running_of}
use Rattle.plain.specs.Programs.{finished}
use Rattle.plain.specs.Record.{program_left, erase_left, erase, suspended, recovery}

-- what time changes: the meter, the operation and what is lent
pub record Moment : Type 0 where
  pub meter : Meter
  pub operation : Operation
  pub lent : Lent

abbrev pub moment : Meter → Operation → Lent → Moment
moment m o l = record { meter = m; operation = o; lent = l }

-- is this the last microsecond of a time left?
abbrev pub last : (left : ℕ) → Bool
last left = leb left 1

-- ---- what a microsecond draws: in a recovery, document 02, request 1, "running current is drawn"

unfoldable pub current : Part → Running → ℕ
current p Still = standby_current p
current p (Programs q) = running_current p
current p (Waits e) = standby_current p
current p (Erases e) = running_current p
current p (Recovers r) = running_current p
current p (ErasesChip e) = running_current p

-- ---- what it does to the operation

-- "listed blocks are erased in rising number": the next one with its full time, or the end
abbrev pub onward : Part → (Erase → Operation) → (full : ℕ) → Erase → Operation
onward p erasing full e =
    if ltb (first_from e.list (suc e.hand)) (block_count p)
    then erasing (erase e.list (first_from e.list (suc e.hand)) full e.dq6 e.dq2)
    else Idle

-- "When a program inside a suspended erase ends, the erase stays suspended."
unfoldable pub inside_tick : Erase → Inside → Operation
inside_tick e Nothing = EraseSuspended (suspended e Nothing)
inside_tick e (Runs q) =
    if last q.left then EraseSuspended (suspended e Nothing)
    else EraseSuspended (suspended e (Runs (program_left q (q.left - 1))))

-- in a recovery "the block makes no progress": its time left stands, and it is suspended when the recovery is over; the one-time block stays
-- entered when a program in it ends
unfoldable pub operation_tick : Part → Operation → Operation
operation_tick p Idle = Idle
operation_tick p (Programming q) = if last q.left then Idle else Programming (program_left q (q.left - 1))
operation_tick p (ProgramSuspended q) = ProgramSuspended q
operation_tick p (Window e) = if last e.left then Erasing (erase_left e (erase_time p)) else Window (erase_left e (e.left - 1))
operation_tick p (Erasing e) = if last e.left then onward p Erasing (erase_time p) e else Erasing (erase_left e (e.left - 1))
operation_tick p (Recovering r) =
    if last r.left then EraseSuspended (suspended r.erase Nothing) else Recovering (recovery r.erase (r.left - 1))
operation_tick p (EraseSuspended s) = inside_tick s.erase s.inside
operation_tick p (ChipErasing e) =
    if last e.left then onward p ChipErasing (chip_time p) e else ChipErasing (erase_left e (e.left - 1))
operation_tick p InOneTime = InOneTime
operation_tick p (OneTimeProgramming q) = if last q.left then InOneTime else OneTimeProgramming (program_left q (q.left - 1))

-- ---- what it does to the cells: "Cells change only when a word or block is finished."

abbrev pub erase_finished : Part → Erase → Lent → Lent
erase_finished p e l = with_array Main l (erased l.cells (first_of p e.hand) (size_of p e.hand))

unfoldable pub lent_tick : Part → Running → Lent → Lent
lent_tick p Still l = l
lent_tick p (Programs q) l = if last q.left then finished q.writes l else l
lent_tick p (Waits e) l = l
lent_tick p (Erases e) l = if last e.left then erase_finished p e l else l
lent_tick p (Recovers r) l = l
lent_tick p (ErasesChip e) l = if last e.left then erase_finished p e l else l

-- ---- one microsecond, and n of them

unfoldable pub tick : Part → Moment → Moment
tick p m =
    let runs = running_of m.operation in
    moment (metered m.meter 1 (current p runs)) (operation_tick p m.operation) (lent_tick p runs m.lent)

unfoldable pub ticks : Part → ℕ → Moment → Moment
ticks p zero m = m
ticks p (suc n) m = ticks p n (tick p m)
