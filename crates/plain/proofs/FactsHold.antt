-- From the facts of a sound record back to its tests.
use Prim.Native.Nat.{ℕ, ◌*◌, ◌<◌, ◌≤◌}
use mathlib.Core.Path.{◌≡◌, refl}
use mathlib.Core.Bool.{Bool, true, false, not}
use lib.Dec.{leb}
use borrow.Author.Tests.{lt-ltb, le-leb, eq-eqb}
use Rattle.blocks.specs.Blocks.{has}
use Rattle.blocks.proofs.Laws.{some-none}
use Rattle.geometry.specs.declared.Part.{Part}
use Rattle.meter.specs.declared.Meter.{Meter}
use Rattle.protection.specs.declared.Protection.{Protection}
use Rattle.protection.specs.Protection.{stray_bits}
use Rattle.plain.specs.declared.Program.{Program}
use Rattle.plain.specs.declared.Erase.{Erase}
use Rattle.plain.specs.declared.Inside.TheVariants.{Nothing, Runs}
use Rattle.plain.specs.declared.Recovery.{Recovery}
use Rattle.plain.specs.declared.Operation.{Operation}
use Rattle.plain.specs.declared.Operation.TheVariants.{Idle, Programming, Window, Erasing, Recovering, EraseSuspended, ChipErasing, InOneTime, OneTimeProgramming}
use Rattle.plain.specs.declared.Suspension.{Suspension}
use Rattle.plain.specs.declared.Suspension.TheVariants.{Unsuspended, Entered}
use Rattle.plain.specs.declared.Command.{Command}
use Rattle.plain.specs.Figures.{program_time, window_time, erase_time, recovery_time, chip_time, running_current, clock_limit}
use Rattle.plain.specs.Record.{device, suspended}
use Rattle.plain.specs.Sound.{meter_sound, time_sound, program_sound, may_erase, may_chip_erase, list_sound, chip_list_sound, lowest, inside_sound, operation_sound, command_sound, sound}
use Rattle.plain.proofs.Tools.{both}
use Rattle.plain.proofs.Lists.{only-make}
use Rattle.plain.proofs.Facts.{ProgramFacts, EraseFacts, BlockEraseFacts, RecoveryFacts, InsideFacts}

time-holds : (left full : ℕ) → 1 ≤ left → left ≤ full → time_sound left full ≡ true
time-holds left full h g = both (leb 1 left) (leb left full) (le-leb 1 left h) (le-leb left full g)

clear : (b : Bool) → b ≡ false → not b ≡ true
clear b e = rw e

-- ---- the whole record

pub meter-holds : (p : Part) (m : Meter) → m.clock ≤ clock_limit p → m.charge ≤ running_current p * m.clock → meter_sound p m ≡ true
unfolding meter_sound
meter-holds p m h g = both _ _ (le-leb _ _ h) (le-leb _ _ g)

pub sound-holds : (p : Part) (m : Meter) (c : Command) (o : Operation) (bits : Protection)
    → meter_sound p m ≡ true → stray_bits p bits ≡ false → operation_sound p bits o ≡ true → command_sound p o c ≡ true → sound p (device m c o bits) ≡ true
unfolding sound
sound-holds p m c o bits h g f e = rw (h, g, f, e)

-- ---- the operations

module _ (p : Part) (bits : Protection) where
  program-holds : (s : Suspension) (q : Program) → ProgramFacts p bits s q → program_sound p bits s q ≡ true
  unfolding program_sound
  program-holds s q f =
      both _ _ f.array
      (both _ _ f.in-part
      (both _ _ (time-holds q.left (program_time p) f.some_left f.most-left) (clear _ f.free)))

  list-holds : (e : Erase) (full : ℕ) → BlockEraseFacts p bits e full → list_sound p bits e ≡ true
  unfolding list_sound
  list-holds e full f =
      both _ _ f.erase.hand-listed
      (only-make (may_erase p bits e.hand) e.list
      (λ b l h. both _ _ (lt-ltb _ _ (f.erase.below b h)) (both _ _ (eq-eqb _ _ (f.one-bank b h)) (f.erase.erasable b h))))

  pub idle-holds : operation_sound p bits Idle ≡ true
  unfolding operation_sound
  idle-holds = refl

  pub programming-holds : (q : Program) → ProgramFacts p bits Unsuspended q → operation_sound p bits (Programming q) ≡ true
  unfolding operation_sound
  programming-holds = program-holds Unsuspended

  pub entered-holds : operation_sound p bits InOneTime ≡ true
  unfolding operation_sound
  entered-holds = refl

  pub one-time-holds : (q : Program) → ProgramFacts p bits Entered q → operation_sound p bits (OneTimeProgramming q) ≡ true
  unfolding operation_sound
  one-time-holds = program-holds Entered

  pub window-holds : (e : Erase) → BlockEraseFacts p bits e (window_time p) → ((b : ℕ) → b < e.hand → has e.list b ≡ false) → operation_sound p bits (Window e) ≡ true
  unfolding operation_sound lowest
  window-holds e f low =
      both _ _ (list-holds e (window_time p) f)
      (both _ _ (clear _ (some-none (has e.list) e.hand low)) (time-holds e.left (window_time p) f.erase.some_left f.erase.most-left))

  pub erasing-holds : (e : Erase) → BlockEraseFacts p bits e (erase_time p) → operation_sound p bits (Erasing e) ≡ true
  unfolding operation_sound
  erasing-holds e f =
      both _ _ (list-holds e (erase_time p) f) (time-holds e.left (erase_time p) f.erase.some_left f.erase.most-left)

  pub recovering-holds : (r : Recovery) → RecoveryFacts p bits r → operation_sound p bits (Recovering r) ≡ true
  unfolding operation_sound
  recovering-holds r f = both _ _ (erasing-holds r.erase f.erase) (time-holds r.left (recovery_time p) f.some_left f.most-left)

  pub resting-holds : (e : Erase) → BlockEraseFacts p bits e (erase_time p) → operation_sound p bits (EraseSuspended (suspended e Nothing)) ≡ true
  unfolding operation_sound inside_sound
  resting-holds e f = both _ _ (erasing-holds e f) refl

  pub inside-holds : (e : Erase) (q : Program) → BlockEraseFacts p bits e (erase_time p) → InsideFacts p bits e q
      → operation_sound p bits (EraseSuspended (suspended e (Runs q))) ≡ true
  unfolding operation_sound inside_sound
  inside-holds e q f g = both _ _ (erasing-holds e f) (both _ _ (program-holds _ q g.program) (clear _ g.off_list))

  pub chip-holds : (e : Erase) → EraseFacts p bits e (chip_time p) → operation_sound p bits (ChipErasing e) ≡ true
  unfolding operation_sound chip_list_sound
  chip-holds e f =
      both _ _
      (both _ _ f.hand-listed (only-make (may_chip_erase p bits) e.list (λ b l h. both _ _ (lt-ltb _ _ (f.below b h)) (f.erasable b h))))
      (time-holds e.left (chip_time p) f.some_left f.most-left)
