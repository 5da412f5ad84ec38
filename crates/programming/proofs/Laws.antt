-- What a wait comes to while a program runs: alone, inside a suspended erase or in the one-time block.
use Rattle.std.specs.Prelude.{Option, Some, None}
use Rattle.std.specs.Option.{MatchOption, option_map_or}
use Prim.Native.Nat.{ℕ, ◌-◌, ◌*◌, ◌≤◌}
use mathlib.Core.Path.{◌≡◌, sym, ap, ◌∙◌}
use borrow.Author.Tests.{lt-ltb, le-ltb}
use Rattle.geometry.specs.declared.Part.{Part}
use Rattle.meter.specs.declared.Meter.{Meter}
use Rattle.meter.specs.Meter.{metered}
use Rattle.plain.specs.declared.Program.{Program}
use Rattle.plain.specs.declared.Erase.{Erase}
use Rattle.plain.specs.declared.Inside.{Inside}
use Rattle.plain.specs.declared.Inside.TheVariants.{Nothing, Runs}
use Rattle.plain.specs.declared.SuspendedErase.{SuspendedErase}
use Rattle.plain.specs.declared.Suspension.TheVariants.{OfErase}
use Rattle.plain.specs.declared.Operation.{Operation}
use Rattle.plain.specs.declared.Operation.TheVariants.{Idle, Programming, EraseSuspended, InOneTime, OneTimeProgramming}
use Rattle.plain.specs.Figures.{running_current, standby_current}
use Rattle.plain.specs.Lent.{Lent}
use Rattle.plain.specs.Programs.{finished}
use Rattle.plain.specs.Record.{program_left, suspended}
use Rattle.plain.specs.Time.{moment}
use Rattle.plain.proofs.Facts.{ProgramFacts, programming, inside-runs, one-time-programming}
use Rattle.plain.proofs.InTime.{idle-still, erase-still, entered-still, program-running, inside-running, one-time-running}
use Rattle.plain.proofs.Ticks.{Still, Running, still, drift, passes}
use Rattle.plain.proofs.Tools.{by_order}
use Rattle.moments.specs.Moments.{Passable, moved}
use Rattle.moments.proofs.Passed.{Passed, passed, still-passed}
use Rattle.programming.specs.Run.{left_of, drawn_by, lent_after}

-- ---- where a program stands: the operation while it runs, and once it has ended

abbrev pub alone : Option Program → Operation
alone left = option_map_or Programming left Idle

abbrev pub inside : Erase → Option Program → Operation
inside e left = EraseSuspended (suspended e (option_map_or Runs left Nothing))

abbrev pub in_block : Option Program → Operation
in_block left = option_map_or OneTimeProgramming left InOneTime

-- a suspended erase, by what goes on inside it
pub inside_is : (s : SuspendedErase) (i : Inside) → s.inside ≡ i → EraseSuspended (suspended s.erase i) ≡ EraseSuspended s
inside_is s i e = ap (λ (x : Inside). EraseSuspended (suspended s.erase x)) (sym e)

-- what `map_or` gives of it
pub told : {T U : Type 0} (f : T → U) (left : Option T) (d r : U) → MatchOption left (r ≡ d) (λ x. r ≡ f x) → r ≡ option_map_or f left d
told f None d r e = e
told f (Some x) d r e = e

-- ---- a wait while one runs

module _ (p : Part) (m : Meter) (q : Program) (l : Lent) (n : ℕ) where
  pub passed-in : (at : Option Program → Operation)
      → Running p (λ k. at (Some (program_left q k))) (running_current p) (at None) (finished q.writes)
      → Still p (at None) (standby_current p) → 1 ≤ q.left
      → Passed p n (moment m (at (Some q)) l) (moved (moment (drawn_by p m q n) (at (left_of q n)) l)) (lent_after q n l)
  passed-in at r s some =
      passed p n (moment m (at (Some q)) l) (moment (drawn_by p m q n) (at (left_of q n)) (lent_after q n l))
      (by_order n q.left
      (λ h. rw (lt-ltb n q.left h) (drift p _ _ _ _ r n q.left m l h))
      (λ h. rw (le-ltb n q.left h)
      (passes p _ _ _ _ r n q.left m l some h ∙ still p (at None) (standby_current p) s (n - q.left) _ (finished q.writes l))))

  pub passed-alone : Passable p m (Programming q) l n
      → Passed p n (moment m (Programming q) l) (moved (moment (drawn_by p m q n) (alone (left_of q n)) l)) (lent_after q n l)
  passed-alone f = passed-in alone (program-running p q) (idle-still p) (programming p f.bits q f.sound).some_left

  pub passed-one-time : Passable p m (OneTimeProgramming q) l n
      → Passed p n (moment m (OneTimeProgramming q) l) (moved (moment (drawn_by p m q n) (in_block (left_of q n)) l)) (lent_after q n l)
  passed-one-time f = passed-in in_block (one-time-running p q) (entered-still p) (one-time-programming p f.bits q f.sound).some_left

  -- inside a suspended erase
  module _ (s : SuspendedErase) (runs : s.inside ≡ Runs q) (f : Passable p m (EraseSuspended s) l n) where
    pub inside-facts : ProgramFacts p f.bits (OfErase s.erase) q
    inside-facts = (inside-runs p f.bits s q f.sound runs).program

    pub passed-inside : Passed p n (moment m (EraseSuspended s) l) (moved (moment (drawn_by p m q n) (inside s.erase (left_of q n)) l)) (lent_after q n l)
    passed-inside =
        rw (← inside_is s (Runs q) runs)
        (passed-in (inside s.erase) (inside-running p s.erase q) (erase-still p s.erase) inside-facts.some_left)

-- nothing runs inside it
pub suspended-stands : (p : Part) (m : Meter) (l : Lent) (n : ℕ) (s : SuspendedErase) → s.inside ≡ Nothing
    → Passed p n (moment m (EraseSuspended s) l) (moved (moment (metered m n (n * standby_current p)) (EraseSuspended s) l)) l
suspended-stands p m l n s none =
    rw (← inside_is s Nothing none)
    (still-passed p m (EraseSuspended (suspended s.erase Nothing)) l n (erase-still p s.erase))
