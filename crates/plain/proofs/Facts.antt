-- What a sound record is known to be: the laws that callers use.
use Prim.Native.Nat.{ℕ, ◌*◌, ◌<◌, ◌≤◌}
use mathlib.Core.Path.{◌≡◌, refl, sym, ◌∙◌}
use mathlib.Core.Bool.{Bool, true, false, ◌&&◌, not}
use native.Mathlib.Omega.{arith}
use lib.Dec.{ltb, leb, eqb}
use borrow.Author.Tests.{ltb-true, leb-true, eqb-true, not-true, le-leb}
use Rattle.blocks.specs.Blocks.{has, some}
use Rattle.blocks.proofs.Laws.{some-not}
use Rattle.geometry.specs.declared.Part.{Part}
use Rattle.geometry.specs.Parts.{block_count, bank_of_block}
use Rattle.protection.specs.declared.Protection.{Protection}
use Rattle.protection.specs.Protection.{stray_bits}
use Rattle.protection.proofs.Stray.{stray-fresh}
use Rattle.plain.specs.declared.Program.{Program}
use Rattle.plain.specs.declared.Erase.{Erase}
use Rattle.plain.specs.declared.SuspendedErase.{SuspendedErase}
use Rattle.plain.specs.declared.Recovery.{Recovery}
use Rattle.plain.specs.declared.Inside.TheVariants.{Runs}
use Rattle.plain.specs.declared.Suspension.{Suspension}
use Rattle.plain.specs.declared.Suspension.TheVariants.{Unsuspended, OfErase, Entered}
use Rattle.plain.specs.declared.Operation.{Operation}
use Rattle.plain.specs.declared.Operation.TheVariants.{Programming, ProgramSuspended, Window, Erasing, Recovering, EraseSuspended, ChipErasing, OneTimeProgramming}
use Rattle.plain.specs.declared.Device.{Device}
use Rattle.plain.specs.Figures.{program_time, window_time, erase_time, recovery_time, chip_time, running_current, clock_limit}
use Rattle.plain.specs.Operations.{running_of, suspension_of}
use Rattle.plain.specs.Programs.{lies_in, block_written, barred}
use Rattle.plain.specs.Record.{fresh}
use Rattle.plain.specs.Sound.{meter_sound, time_sound, array_sound, program_sound, erasable, may_erase, may_chip_erase, list_sound, chip_list_sound, lowest, inside_sound, operation_sound, is_still, still_command, command_sound, sound}
use Rattle.plain.specs.SuspendedProgram.{SuspendedStaysSound}
use Rattle.plain.proofs.Tools.{both_left, both_right, clash}
use Rattle.plain.proofs.Lists.{only_at}

and-outer : (a b c : Bool) → (a && (b && c)) ≡ true → (a && c) ≡ true
and-outer true true c e = e
and-outer true false c e = clash e refl
and-outer false b c e = e

-- ---- the record's parts

pub fresh-sound : (p : Part) → sound p fresh ≡ true
unfolding sound meter_sound operation_sound command_sound is_still still_command running_of suspension_of
fresh-sound p = rw (stray-fresh p, le-leb 0 (clock_limit p) (omega arith), le-leb 0 (running_current p * 0) (omega arith))

module _ (p : Part) (r : Device) (s : sound p r ≡ true) where
  meter-sound : meter_sound p r.meter ≡ true
  unfolding sound
  meter-sound = both_left (meter_sound p r.meter) _ s

  pub sound-clock : r.meter.clock ≤ clock_limit p
  unfolding meter_sound
  sound-clock = leb-true _ _ (both_left (leb r.meter.clock (clock_limit p)) _ meter-sound)

  pub sound-charge : r.meter.charge ≤ running_current p * r.meter.clock
  unfolding meter_sound
  sound-charge = leb-true _ _ (both_right (leb r.meter.clock (clock_limit p)) _ meter-sound)

  pub sound-bits : stray_bits p r.bits ≡ false
  unfolding sound
  sound-bits =
      not-true (stray_bits p r.bits) (both_left (not (stray_bits p r.bits)) _ (both_right (meter_sound p r.meter) _ s))

  both-sound : (operation_sound p r.bits r.operation && command_sound p r.operation r.command) ≡ true
  unfolding sound
  both-sound = both_right (not (stray_bits p r.bits)) _ (both_right (meter_sound p r.meter) _ s)

  -- of the operation as a match tells it
  pub sound-operation : (o : Operation) → r.operation ≡ o → operation_sound p r.bits o ≡ true
  sound-operation o e = rw e at (both_left (operation_sound p r.bits r.operation) _ both-sound)

  pub sound-command : command_sound p r.operation r.command ≡ true
  sound-command = both_right (operation_sound p r.bits r.operation) _ both-sound

-- ---- a program

-- beside what is suspended, or in the one-time block
pub record ProgramFacts (p : Part) (bits : Protection) (s : Suspension) (q : Program) : Type 0 where
  pub array : array_sound s q.writes ≡ true
  pub in-part : lies_in p q.writes ≡ true
  pub some_left : 1 ≤ q.left
  pub most-left : q.left ≤ program_time p
  pub free : barred p bits q.writes ≡ false

program-facts : (p : Part) (bits : Protection) (s : Suspension) (q : Program) → program_sound p bits s q ≡ true → ProgramFacts p bits s q
unfolding program_sound
program-facts p bits s q h =
    let right = array_sound s q.writes in
    let in-range = lies_in p q.writes in
    let timely = time_sound q.left (program_time p) in
    let rest = both_right right _ h in
    let time = both_left timely _ (both_right in-range _ rest) in
    record {
      array = both_left right _ h;
      in-part = both_left in-range _ rest;
      some_left = leb-true _ _ (both_left (leb 1 q.left) _ time);
      most-left = leb-true _ _ (both_right (leb 1 q.left) _ time);
      free = not-true (barred p bits q.writes) (both_right timely _ (both_right in-range _ rest));
    }

pub programming : (p : Part) (bits : Protection) (q : Program) → operation_sound p bits (Programming q) ≡ true → ProgramFacts p bits Unsuspended q
unfolding operation_sound
programming p bits = program-facts p bits Unsuspended

-- one that is suspended is as sound as if it ran
pub suspended-sound : (p : Part) → SuspendedStaysSound p
unfolding operation_sound
suspended-sound p bits q = refl

pub program-suspended : (p : Part) (bits : Protection) (q : Program) → operation_sound p bits (ProgramSuspended q) ≡ true → ProgramFacts p bits Unsuspended q
program-suspended p bits q s = programming p bits q (sym (suspended-sound p bits q) ∙ s)

-- ---- an erase

-- of a block erase and of a chip erase, where a block takes the full time
pub record EraseFacts (p : Part) (bits : Protection) (e : Erase) (full : ℕ) : Type 0 where
  pub hand-listed : has e.list e.hand ≡ true
  pub below : (b : ℕ) → has e.list b ≡ true → b < block_count p
  pub erasable : (b : ℕ) → has e.list b ≡ true → erasable bits b ≡ true
  pub some_left : 1 ≤ e.left
  pub most-left : e.left ≤ full

pub record BlockEraseFacts (p : Part) (bits : Protection) (e : Erase) (full : ℕ) : Type 0 where
  pub erase : EraseFacts p bits e full
  pub one-bank : (b : ℕ) → has e.list b ≡ true → bank_of_block p b ≡ bank_of_block p e.hand

pub list-hand : (p : Part) (bits : Protection) (e : Erase) → list_sound p bits e ≡ true → has e.list e.hand ≡ true
unfolding list_sound
list-hand p bits e s = both_left (has e.list e.hand) _ s

erase-facts : (p : Part) (bits : Protection) (e : Erase) (full : ℕ) → has e.list e.hand ≡ true → ((b : ℕ) → has e.list b ≡ true → may_chip_erase p bits b ≡ true)
    → time_sound e.left full ≡ true → EraseFacts p bits e full
erase-facts p bits e full hand may time =
    record {
      hand-listed = hand;
      below = λ b h. ltb-true _ _ (both_left (ltb b (block_count p)) _ (may b h));
      erasable = λ b h. both_right (ltb b (block_count p)) _ (may b h);
      some_left = leb-true _ _ (both_left (leb 1 e.left) _ time);
      most-left = leb-true _ _ (both_right (leb 1 e.left) _ time);
    }

block-erase-facts : (p : Part) (bits : Protection) (e : Erase) (full : ℕ) → list_sound p bits e ≡ true → time_sound e.left full ≡ true → BlockEraseFacts p bits e full
unfolding list_sound
block-erase-facts p bits e full listed time =
    record {
      erase = erase-facts p bits e full (list-hand p bits e listed) (λ b h. and-outer (ltb b (block_count p)) (eqb (bank_of_block p b) (bank_of_block p e.hand)) _ (may b h)) time;
      one-bank = λ b h. eqb-true _ _ (both_left (eqb (bank_of_block p b) (bank_of_block p e.hand)) _ (both_right (ltb b (block_count p)) _ (may b h)));
    }
  where
    may : (b : ℕ) → has e.list b ≡ true → may_erase p bits e.hand b ≡ true
    may b = only_at (may_erase p bits e.hand) e.list b (both_right (has e.list e.hand) _ listed)

-- in the window the time left is the window's
pub window : (p : Part) (bits : Protection) (e : Erase) → operation_sound p bits (Window e) ≡ true → BlockEraseFacts p bits e (window_time p)
unfolding operation_sound
window p bits e s =
    block-erase-facts p bits e (window_time p) (both_left (list_sound p bits e) _ s) (both_right (lowest e) _ (both_right (list_sound p bits e) _ s))

pub window-lowest : (p : Part) (bits : Protection) (e : Erase) → operation_sound p bits (Window e) ≡ true → (b : ℕ) → b < e.hand → has e.list b ≡ false
unfolding operation_sound lowest
window-lowest p bits e s b l =
    some-not (has e.list) e.hand b
    (not-true (some (has e.list) e.hand) (both_left (lowest e) _ (both_right (list_sound p bits e) _ s))) l

pub erasing : (p : Part) (bits : Protection) (e : Erase) → operation_sound p bits (Erasing e) ≡ true → BlockEraseFacts p bits e (erase_time p)
unfolding operation_sound
erasing p bits e s =
    block-erase-facts p bits e (erase_time p) (both_left (list_sound p bits e) _ s) (both_right (list_sound p bits e) _ s)

pub record RecoveryFacts (p : Part) (bits : Protection) (r : Recovery) : Type 0 where
  pub erase : BlockEraseFacts p bits r.erase (erase_time p)
  pub some_left : 1 ≤ r.left
  pub most-left : r.left ≤ recovery_time p

pub recovering : (p : Part) (bits : Protection) (r : Recovery) → operation_sound p bits (Recovering r) ≡ true → RecoveryFacts p bits r
unfolding operation_sound
recovering p bits r s =
    let stopped = operation_sound p bits (Erasing r.erase) in
    let time = both_right stopped _ s in
    record {
      erase = erasing p bits r.erase (both_left stopped _ s);
      some_left = leb-true _ _ (both_left (leb 1 r.left) _ time);
      most-left = leb-true _ _ (both_right (leb 1 r.left) _ time);
    }

pub erase-suspended : (p : Part) (bits : Protection) (s : SuspendedErase) → operation_sound p bits (EraseSuspended s) ≡ true → BlockEraseFacts p bits s.erase (erase_time p)
unfolding operation_sound
erase-suspended p bits s h =
    erasing p bits s.erase (both_left (operation_sound p bits (Erasing s.erase)) _ h)

pub chip-erasing : (p : Part) (bits : Protection) (e : Erase) → operation_sound p bits (ChipErasing e) ≡ true → EraseFacts p bits e (chip_time p)
unfolding operation_sound chip_list_sound
chip-erasing p bits e s =
    erase-facts p bits e (chip_time p) (both_left (has e.list e.hand) _ listed)
    (λ b. only_at (may_chip_erase p bits) e.list b (both_right (has e.list e.hand) _ listed))
    (both_right (chip_list_sound p bits e) _ s)
  where
    listed : chip_list_sound p bits e ≡ true
    listed = both_left (chip_list_sound p bits e) _ s

-- ---- a program inside a suspended erase

pub record InsideFacts (p : Part) (bits : Protection) (e : Erase) (q : Program) : Type 0 where
  pub program : ProgramFacts p bits (OfErase e) q
  pub off_list : has e.list (block_written p q.writes) ≡ false

pub inside-runs : (p : Part) (bits : Protection) (s : SuspendedErase) (q : Program) → operation_sound p bits (EraseSuspended s) ≡ true → s.inside ≡ Runs q → InsideFacts p bits s.erase q
unfolding operation_sound inside_sound
inside-runs p bits s q h told =
    record {
      program = program-facts p bits _ q (both_left (program_sound p bits (OfErase s.erase) q) _ runs);
      off_list = not-true (has s.erase.list (block_written p q.writes)) (both_right (program_sound p bits (OfErase s.erase) q) _ runs);
    }
  where
    runs : inside_sound p bits s.erase (Runs q) ≡ true
    runs = rw told at (both_right (operation_sound p bits (Erasing s.erase)) (inside_sound p bits s.erase s.inside) h)

-- ---- a program in the one-time block

pub one-time-programming : (p : Part) (bits : Protection) (q : Program) → operation_sound p bits (OneTimeProgramming q) ≡ true → ProgramFacts p bits Entered q
unfolding operation_sound
one-time-programming p bits = program-facts p bits Entered
