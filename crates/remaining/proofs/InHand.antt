-- What soundness says of the time left, of all that may run.
use Prim.Native.Nat.{ℕ, ◌<◌, ◌≤◌}
use mathlib.Core.Path.{◌≡◌, refl}
use mathlib.Core.Bool.{true}
use lib.Dec.{lit≤}
use Rattle.geometry.specs.declared.Part.{Part}
use Rattle.geometry.specs.Parts.{block_count}
use Rattle.protection.specs.declared.Protection.{Protection}
use Rattle.plain.specs.declared.Erase.{Erase}
use Rattle.plain.specs.declared.Inside.{Inside}
use Rattle.plain.specs.declared.Inside.TheVariants.{Nothing, Runs}
use Rattle.plain.specs.declared.Operation.{Operation}
use Rattle.plain.specs.declared.Operation.TheVariants.{Idle, Programming, ProgramSuspended, Window, Erasing, Recovering, EraseSuspended, ChipErasing, InOneTime, OneTimeProgramming}
use Rattle.plain.specs.declared.Running.{Running}
use Rattle.plain.specs.declared.Running.TheVariants.{Still, Programs, Waits, Erases, Recovers, ErasesChip}
use Rattle.plain.specs.Figures.{window_time, erase_time, chip_time}
use Rattle.plain.specs.Operations.{running_of, running_inside}
use Rattle.plain.specs.Record.{suspended}
use Rattle.plain.specs.Sound.{operation_sound}
use Rattle.plain.proofs.Facts.{EraseFacts, programming, window, erasing, recovering, inside-runs, chip-erasing, one-time-programming}
use Rattle.remaining.specs.Remaining.{Fits}

-- the block in hand is one of the part's, and has some of its time left
pub record Timed (p : Part) (e : Erase) (full : ℕ) : Type 0 where
  pub hand : e.hand < block_count p
  pub some : 1 ≤ e.left
  pub most : e.left ≤ full

unfoldable pub Timely : Part → Running → Type 0
Timely p Still = Unit {0}
Timely p (Programs q) = 1 ≤ q.left
Timely p (Waits e) = Timed p e (window_time p)
Timely p (Erases e) = Timed p e (erase_time p)
Timely p (Recovers r) = 1 ≤ r.left
Timely p (ErasesChip e) = Timed p e (chip_time p)

module _ (p : Part) (bits : Protection) where
  timed : (e : Erase) (full : ℕ) → EraseFacts p bits e full → Timed p e full
  timed e full f = record { hand = f.below e.hand f.hand-listed; some = f.some_left; most = f.most-left }

  inside-timely : (e : Erase) (i : Inside) → operation_sound p bits (EraseSuspended (suspended e i)) ≡ true → Timely p (running_inside i)
  unfolding Timely running_inside
  inside-timely e Nothing s = tt
  inside-timely e (Runs q) s = (inside-runs p bits (suspended e (Runs q)) q s refl).program.some_left

  timely : (o : Operation) → operation_sound p bits o ≡ true → Timely p (running_of o)
  unfolding Timely running_of
  timely Idle s = tt
  timely (Programming q) s = (programming p bits q s).some_left
  timely (ProgramSuspended q) s = tt
  timely (Window e) s = timed e (window_time p) (window p bits e s).erase
  timely (Erasing e) s = timed e (erase_time p) (erasing p bits e s).erase
  timely (Recovering r) s = (recovering p bits r s).some_left
  timely (EraseSuspended s) h = inside-timely s.erase s.inside h
  timely (ChipErasing e) s = timed e (chip_time p) (chip-erasing p bits e s)
  timely InOneTime s = tt
  timely (OneTimeProgramming q) s = (one-time-programming p bits q s).some_left

pub fits-timely : (p : Part) (o : Operation) → Fits p o → Timely p (running_of o)
fits-timely p o f = timely p f.bits o f.sound

-- ---- of the erase that a match tells

module _ (p : Part) (o : Operation) (f : Fits p o) where
  told : (r : Running) → r ≡ running_of o → Timely p r
  told r e = rw e (fits-timely p o f)

  pub waits-timed : (e : Erase) (r : Running) → r ≡ running_of o → r ≡ Waits e → Timed p e (window_time p)
  unfolding Timely
  waits-timed e r t h = rw h at (told r t)

  pub erases-timed : (e : Erase) (r : Running) → r ≡ running_of o → r ≡ Erases e → Timed p e (erase_time p)
  unfolding Timely
  erases-timed e r t h = rw h at (told r t)

  pub chip-timed : (e : Erase) (r : Running) → r ≡ running_of o → r ≡ ErasesChip e → Timed p e (chip_time p)
  unfolding Timely
  chip-timed e r t h = rw h at (told r t)

-- ---- no time is long

module _ (p : Part) where
  pub window-short : window_time p < 4294967296
  unfolding window_time
  window-short = lit≤ tt

  pub erase-short : erase_time p < 4294967296
  unfolding erase_time
  erase-short = lit≤ tt

  pub chip-short : chip_time p < 4294967296
  unfolding chip_time
  chip-short = lit≤ tt
