-- Each operation as time sees it: still, or told by its time left.
use Prim.Native.Nat.{ℕ}
use mathlib.Core.Path.{refl}
use mathlib.Core.Bool.{Bool, true, false}
use borrow.Author.Tests.{lt-leb}
use Rattle.geometry.specs.declared.Part.{Part}
use Rattle.plain.specs.declared.Program.{Program}
use Rattle.plain.specs.declared.Erase.{Erase}
use Rattle.plain.specs.declared.Inside.TheVariants.{Nothing, Runs}
use Rattle.plain.specs.declared.Operation.{Operation}
use Rattle.plain.specs.declared.Operation.TheVariants.{Idle, Programming, ProgramSuspended, Window, Erasing, Recovering, EraseSuspended, ChipErasing, InOneTime, OneTimeProgramming}
use Rattle.plain.specs.Figures.{erase_time, chip_time, running_current, standby_current}
use Rattle.plain.specs.Operations.{running_of, running_inside}
use Rattle.plain.specs.Programs.{finished}
use Rattle.plain.specs.Record.{program_left, erase_left, suspended, recovery}
use Rattle.plain.specs.Time.{current, operation_tick, inside_tick, lent_tick, erase_finished, onward}
use Rattle.plain.proofs.Ticks.{Still, Running}

-- ---- still

pub idle-still : (p : Part) → Still p Idle (standby_current p)
unfolding running_of current operation_tick lent_tick
idle-still p = record { draws = refl; stays = refl; keeps = λ l. refl }

pub program-still : (p : Part) (q : Program) → Still p (ProgramSuspended q) (standby_current p)
unfolding running_of current operation_tick lent_tick
program-still p q = record { draws = refl; stays = refl; keeps = λ l. refl }

pub erase-still : (p : Part) (e : Erase) → Still p (EraseSuspended (suspended e Nothing)) (standby_current p)
unfolding running_of running_inside current operation_tick inside_tick lent_tick
erase-still p e = record { draws = refl; stays = refl; keeps = λ l. refl }

pub entered-still : (p : Part) → Still p InOneTime (standby_current p)
unfolding running_of current operation_tick lent_tick
entered-still p = record { draws = refl; stays = refl; keeps = λ l. refl }

-- ---- running

pub program-running : (p : Part) (q : Program)
    → Running p (λ l. Programming (program_left q l)) (running_current p) Idle (finished q.writes)
unfolding running_of current operation_tick lent_tick
program-running p q =
    record {
      draws = λ n. refl;
      steps = λ n h. rw (lt-leb n 1 h);
      keeps = λ n h l. rw (lt-leb n 1 h);
      ends = refl;
      finishes = λ l. refl;
    }

pub inside-running : (p : Part) (e : Erase) (q : Program)
    → Running p (λ l. EraseSuspended (suspended e (Runs (program_left q l)))) (running_current p) (EraseSuspended (suspended e Nothing)) (finished q.writes)
unfolding running_of running_inside current operation_tick inside_tick lent_tick
inside-running p e q =
    record {
      draws = λ n. refl;
      steps = λ n h. rw (lt-leb n 1 h);
      keeps = λ n h l. rw (lt-leb n 1 h);
      ends = refl;
      finishes = λ l. refl;
    }

pub one-time-running : (p : Part) (q : Program)
    → Running p (λ l. OneTimeProgramming (program_left q l)) (running_current p) InOneTime (finished q.writes)
unfolding running_of current operation_tick lent_tick
one-time-running p q =
    record {
      draws = λ n. refl;
      steps = λ n h. rw (lt-leb n 1 h);
      keeps = λ n h l. rw (lt-leb n 1 h);
      ends = refl;
      finishes = λ l. refl;
    }

pub window-running : (p : Part) (e : Erase)
    → Running p (λ l. Window (erase_left e l)) (standby_current p) (Erasing (erase_left e (erase_time p))) (λ l. l)
unfolding running_of current operation_tick lent_tick
window-running p e =
    record {
      draws = λ n. refl;
      steps = λ n h. rw (lt-leb n 1 h);
      keeps = λ n h l. refl;
      ends = refl;
      finishes = λ l. refl;
    }

pub recovery-running : (p : Part) (e : Erase)
    → Running p (λ l. Recovering (recovery e l)) (running_current p) (EraseSuspended (suspended e Nothing)) (λ l. l)
unfolding running_of current operation_tick lent_tick
recovery-running p e =
    record {
      draws = λ n. refl;
      steps = λ n h. rw (lt-leb n 1 h);
      keeps = λ n h l. refl;
      ends = refl;
      finishes = λ l. refl;
    }

-- a block erase and a chip erase differ in name and in the time of a block
abbrev pub erasing : (chip : Bool) → Erase → Operation
erasing true e = ChipErasing e
erasing false e = Erasing e

abbrev pub block_time : Part → (chip : Bool) → ℕ
block_time p true = chip_time p
block_time p false = erase_time p

pub erase-running : (p : Part) (chip : Bool) (e : Erase)
    → Running p (λ l. erasing chip (erase_left e l)) (running_current p) (onward p (erasing chip) (block_time p chip) e) (erase_finished p e)
unfolding running_of current operation_tick lent_tick
erase-running p true e =
    record {
      draws = λ n. refl;
      steps = λ n h. rw (lt-leb n 1 h);
      keeps = λ n h l. rw (lt-leb n 1 h);
      ends = refl;
      finishes = λ l. refl;
    }
erase-running p false e =
    record {
      draws = λ n. refl;
      steps = λ n h. rw (lt-leb n 1 h);
      keeps = λ n h l. rw (lt-leb n 1 h);
      ends = refl;
      finishes = λ l. refl;
    }
