-- Document 01, "A record is sound when ..": each clause of that sentence is a test here, in its order.
use Rattle.std.specs.Prelude.{ℕ, ◌*◌, Bool, true, false, ◌&&◌, not, ltb, leb, eqb}
use Rattle.blocks.specs.declared.Blocks.{Blocks}
use Rattle.blocks.specs.Blocks.{has, some}
use Rattle.geometry.specs.declared.Part.{Part}
use Rattle.geometry.specs.Parts.{block_count, bank_count, bank_of_block}
use Rattle.meter.specs.declared.Meter.{Meter}
use Rattle.protection.specs.declared.Protection.{Protection}
use Rattle.protection.specs.Protection.{protected, stray_bits}
use Rattle.plain.specs.declared.Written.{Written}
use Rattle.plain.specs.declared.Program.{Program}
use Rattle.plain.specs.declared.Erase.{Erase}
use Rattle.plain.specs.declared.Inside.{Inside}
use Rattle.plain.specs.declared.Inside.TheVariants.{Nothing, Runs}
use Rattle.plain.specs.declared.Operation.{Operation}
use Rattle.plain.specs.declared.Operation.TheVariants.{Idle, Programming, ProgramSuspended, Window, Erasing, Recovering, EraseSuspended, ChipErasing, InOneTime, OneTimeProgramming}
use Rattle.plain.specs.declared.Running.{Running}
use Rattle.plain.specs.declared.Running.TheVariants.{Still, Programs, Waits, Erases, Recovers, ErasesChip}
use Rattle.plain.specs.declared.Suspension.{Suspension}
use Rattle.plain.specs.declared.Suspension.TheVariants.{Unsuspended, OfProgram, OfErase, Entered}
use Rattle.plain.specs.declared.Command.{Command}
use Rattle.plain.specs.declared.Command.TheVariants.{Ground, Entering, Reads}
use Rattle.plain.specs.declared.Cycle.{Cycle}
use Rattle.plain.specs.declared.Cycle.TheVariants.{Unlock, Unlocked, ProgramData, EraseSetup, EraseUnlock, EraseUnlocked, DybData, PpbSetup, PpbSetting, PpbClearing, OtpLocking}
use Rattle.plain.specs.declared.Reading.{Reading}
use Rattle.plain.specs.declared.Reading.TheVariants.{Identity, Dybs, OtpLock}
use Rattle.plain.specs.declared.Device.{Device}
use Rattle.std.specs.Prelude.{if◌then◌else◌}
use Rattle.plain.specs.Figures.{program_time, window_time, erase_time, recovery_time, chip_time, running_current, clock_limit}
use Rattle.plain.specs.Operations.{running_of, suspension_of, is_entered, selected}
use Rattle.plain.specs.Programs.{same, array_written, first_word, lies_in, block_written, barred}

-- "the clock is at most the limit; charge is at most 17,000 times the clock"
unfoldable pub meter_sound : Part → Meter → Bool
meter_sound p m = leb m.clock (clock_limit p) && leb m.charge (running_current p * m.clock)

-- "time left is from 1 to the full time"
abbrev pub time_sound : (left full : ℕ) → Bool
time_sound left full = leb 1 left && leb left full

-- a program writes to the array that its address selects: the mode cannot have changed since its data write
abbrev pub array_sound : Suspension → Written → Bool
array_sound s d = same (array_written d) (selected s (first_word d))

-- "addresses .. are in range; .. a program's block is unprotected"; document 02, request 4: "OTPLOCKED, in the place of PROTECTED, in
-- soundness too"
unfoldable pub program_sound : Part → Protection → Suspension → Program → Bool
program_sound p bits s q =
    array_sound s q.writes
    && (lies_in p q.writes && (time_sound q.left (program_time p) && not (barred p bits q.writes)))

-- "an erase list .. holds no protected block"
abbrev pub erasable : Protection → (b : ℕ) → Bool
erasable bits b = not (protected bits b)

-- "block numbers are in range; an erase list .. lies in one bank (a chip erase may span all)"
abbrev pub may_erase : Part → Protection → (hand b : ℕ) → Bool
may_erase p bits hand b = ltb b (block_count p) && (eqb (bank_of_block p b) (bank_of_block p hand) && erasable bits b)

abbrev pub may_chip_erase : Part → Protection → (b : ℕ) → Bool
may_chip_erase p bits b = ltb b (block_count p) && erasable bits b

-- does every number of the set pass the test?
abbrev pub only_those : (ℕ → Bool) → Blocks → Bool
only_those test list = not (some (λ b. has list b && not (test b)) 320)

-- "an erase list is not empty ..; the block in hand is listed"
unfoldable pub list_sound : Part → Protection → Erase → Bool
list_sound p bits e = has e.list e.hand && only_those (may_erase p bits e.hand) e.list

unfoldable pub chip_list_sound : Part → Protection → Erase → Bool
chip_list_sound p bits e = has e.list e.hand && only_those (may_chip_erase p bits) e.list

-- "in the window it is the lowest"
unfoldable pub lowest : Erase → Bool
lowest e = not (some (has e.list) e.hand)

-- "a program's block is .. not on a suspended erase list"
unfoldable pub inside_sound : Part → Protection → Erase → Inside → Bool
inside_sound p bits e Nothing = true
inside_sound p bits e (Runs q) = program_sound p bits (OfErase e) q && not (has e.list (block_written p q.writes))

-- a block erase past its window: "time left is from 1 to the full time"
abbrev pub block_erase_sound : Part → Protection → Erase → Bool
block_erase_sound p bits e = list_sound p bits e && time_sound e.left (erase_time p)

-- "a window belongs to a running block erase with full time left, its own time left from 1 to 50; .. only a block erase or a
-- program may be suspended; a second operation is only a program inside a suspended erase, and that program runs"; document 02,
-- request 1: "Recovery, 1 to 20 µs left, belongs to a running block erase past its window."
unfoldable pub operation_sound : Part → Protection → Operation → Bool
operation_sound p bits Idle = true
operation_sound p bits (Programming q) = program_sound p bits Unsuspended q
operation_sound p bits (ProgramSuspended q) = program_sound p bits Unsuspended q
operation_sound p bits (Window e) = list_sound p bits e && (lowest e && time_sound e.left (window_time p))
operation_sound p bits (Erasing e) = block_erase_sound p bits e
operation_sound p bits (Recovering r) = block_erase_sound p bits r.erase && time_sound r.left (recovery_time p)
operation_sound p bits (EraseSuspended s) = block_erase_sound p bits s.erase && inside_sound p bits s.erase s.inside
operation_sound p bits (ChipErasing e) = chip_list_sound p bits e && time_sound e.left (chip_time p)
operation_sound p bits InOneTime = true
operation_sound p bits (OneTimeProgramming q) = program_sound p bits Entered q

-- "block numbers are in range": of 68H's block, and of the bank of identity reading. While the one-time block is entered none is half
-- entered past 80H, and 68H at the lock's address only then
unfoldable pub cycle_unsuspended : Part → (entered : Bool) → Cycle → Bool
cycle_unsuspended p entered Unlock = true
cycle_unsuspended p entered Unlocked = true
cycle_unsuspended p entered ProgramData = true
cycle_unsuspended p entered EraseSetup = not entered
cycle_unsuspended p entered EraseUnlock = not entered
cycle_unsuspended p entered EraseUnlocked = not entered
cycle_unsuspended p entered DybData = true
cycle_unsuspended p entered PpbSetup = true
cycle_unsuspended p entered (PpbSetting b) = ltb b (block_count p)
cycle_unsuspended p entered PpbClearing = true
cycle_unsuspended p entered OtpLocking = entered

-- the status of the customer's lock is read while the one-time block is entered
unfoldable pub reading_sound : Part → Suspension → Reading → Bool
reading_sound p s (Identity bank) = ltb bank (bank_count p)
reading_sound p s Dybs = true
reading_sound p s OtpLock = is_entered s

-- "in suspension none is half entered past 80H, 48H or 60H, nor past A0H in a suspended program"
unfoldable pub cycle_in_suspension : (after_a0 : Bool) → Cycle → Bool
cycle_in_suspension after_a0 Unlock = true
cycle_in_suspension after_a0 Unlocked = true
cycle_in_suspension after_a0 ProgramData = after_a0
cycle_in_suspension after_a0 EraseSetup = false
cycle_in_suspension after_a0 EraseUnlock = false
cycle_in_suspension after_a0 EraseUnlocked = false
cycle_in_suspension after_a0 DybData = false
cycle_in_suspension after_a0 PpbSetup = false
cycle_in_suspension after_a0 (PpbSetting b) = false
cycle_in_suspension after_a0 PpbClearing = false
cycle_in_suspension after_a0 OtpLocking = false

unfoldable pub cycle_sound : Part → Suspension → Cycle → Bool
cycle_sound p Unsuspended c = cycle_unsuspended p false c
cycle_sound p (OfProgram q) c = cycle_in_suspension false c
cycle_sound p (OfErase e) c = cycle_in_suspension true c
cycle_sound p Entered c = cycle_unsuspended p true c

-- may the register stand so while nothing runs?
unfoldable pub still_command : Part → Suspension → Command → Bool
still_command p s Ground = true
still_command p s (Entering c) = cycle_sound p s c
still_command p s (Reads r) = reading_sound p s r

-- "no command is half entered and no identity or 58H reading is on while an operation runs"
unfoldable pub is_ground : Command → Bool
is_ground Ground = true
is_ground (Entering c) = false
is_ground (Reads r) = false

unfoldable pub is_still : Running → Bool
is_still Still = true
is_still (Programs q) = false
is_still (Waits e) = false
is_still (Erases e) = false
is_still (Recovers r) = false
is_still (ErasesChip e) = false

unfoldable pub command_sound : Part → Operation → Command → Bool
command_sound p o c = if is_still (running_of o) then still_command p (suspension_of o) c else is_ground c

unfoldable pub sound : Part → Device → Bool
sound p r =
    meter_sound p r.meter && (not (stray_bits p r.bits)
    && (operation_sound p r.bits r.operation && command_sound p r.operation r.command))
