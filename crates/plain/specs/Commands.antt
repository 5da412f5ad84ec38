-- What a write does (document 01, "Command cycles", and the window and suspension of "Time, charge and the cells").
use Rattle.std.specs.Prelude.{ℕ, min, Bool, true, false, ◌&&◌, not, eqb}
use Rattle.blocks.specs.Blocks.{has, empty_of, with_of, first_from}
use Rattle.geometry.specs.declared.Part.{Part}
use Rattle.geometry.specs.Parts.{block_of, bank_of, bank_of_block}
use Rattle.protection.specs.declared.Protection.{Protection}
use Rattle.protection.specs.Protection.{protected, unprotected, all_protected, dyb_set, dyb_cleared, ppb_set, ppbs_cleared, locked, sealed_for}
use Rattle.plain.specs.declared.Refusal.TheVariants.{Done, Busy, Sequence, Bank, Protected, Suspended, Locked, Raise}
use Rattle.plain.specs.declared.Written.{Written}
use Rattle.plain.specs.declared.Program.{Program}
use Rattle.plain.specs.declared.Erase.{Erase}
use Rattle.plain.specs.declared.Inside.{Inside}
use Rattle.plain.specs.declared.Inside.TheVariants.{Nothing, Runs}
use Rattle.plain.specs.declared.Operation.{Operation}
use Rattle.plain.specs.declared.Operation.TheVariants.{Idle, Programming, ProgramSuspended, Window, Erasing, Recovering, EraseSuspended, ChipErasing, InOneTime, OneTimeProgramming}
use Rattle.plain.specs.declared.Suspension.{Suspension}
use Rattle.plain.specs.declared.Suspension.TheVariants.{Unsuspended, OfProgram, OfErase, Entered}
use Rattle.plain.specs.declared.Command.{Command}
use Rattle.plain.specs.declared.Command.TheVariants.{Ground, Entering, Reads}
use Rattle.plain.specs.declared.Cycle.{Cycle}
use Rattle.plain.specs.declared.Cycle.TheVariants.{Unlock, Unlocked, ProgramData, EraseSetup, EraseUnlock, EraseUnlocked, DybData, PpbSetup, PpbSetting, PpbClearing, OtpLocking}
use Rattle.plain.specs.declared.Reading.{Reading}
use Rattle.plain.specs.declared.Reading.TheVariants.{Identity, Dybs, OtpLock}
use Rattle.plain.specs.declared.Effect.{Effect}
use Rattle.plain.specs.declared.Effect.TheVariants.{Goes, Starts, Protects, Falls, Stays, Drops}
use Rattle.plain.specs.declared.Device.{Device}
use Rattle.plain.specs.declared.Answer.{Answer}
use Rattle.std.specs.Prelude.{if◌then◌else◌}
use Rattle.plain.specs.Figures.{program_time, window_time, erase_time, recovery_time, chip_time}
use Rattle.plain.specs.Lent.{Lent}
use Rattle.plain.specs.Record.{device, program, erase, suspended, recovery, erase_left, answer}
use Rattle.plain.specs.Operations.{is_entered, selected}
use Rattle.plain.specs.Programs.{writing, block_written, barred, barred_as, raises}
use Rattle.plain.specs.Cycles.{is_at, is, first_unlock, second_unlock, is_dyb, is_lock_address}

-- ---- suspension and commands

unfoldable pub is_suspended : Suspension → Bool
is_suspended Unsuspended = false
is_suspended (OfProgram q) = true
is_suspended (OfErase e) = true
is_suspended Entered = false

unfoldable pub program_is_suspended : Suspension → Bool
program_is_suspended Unsuspended = false
program_is_suspended (OfProgram q) = true
program_is_suspended (OfErase e) = false
program_is_suspended Entered = false

-- "In suspension 30H at any address resumes from ground": a stored program, too
unfoldable pub resumes : Suspension → Effect
resumes Unsuspended = Falls Sequence
resumes (OfProgram q) = Starts (Programming q)
resumes (OfErase e) = Starts (Erasing e)
resumes Entered = Falls Sequence

-- "DQ6 and DQ2 start at 0 with each operation"
abbrev pub started : Part → Written → Program
started p d = program d (program_time p) false

-- "SUSPENDED comes .. at the data write of a program into a listed block"; a suspended program lets none begin
unfoldable pub keeps_out : Part → Suspension → Written → Bool
keeps_out p Unsuspended d = false
keeps_out p (OfProgram q) d = true
keeps_out p (OfErase e) d = has e.list (block_written p d)
keeps_out p Entered d = false

-- "a program works inside a suspended erase"; so it does in the one-time block
unfoldable pub begins : Suspension → Program → Operation
begins Unsuspended q = Programming q
begins (OfProgram resting) q = ProgramSuspended resting
begins (OfErase e) q = EraseSuspended (suspended e (Runs q))
begins Entered q = OneTimeProgramming q

-- document 02, request 4: after 60H the lock's address goes to the one-time block's lock, while it is entered
abbrev pub at_lock : Suspension → (a : ℕ) → Bool
at_lock s a = is_entered s && is_lock_address a

-- ---- the register, state by state: the write of a command's next cycle while nothing runs

-- "F0H returns to ground at any write that is not a data cycle"; document 02, request 4: "A cut or reset exits"
unfoldable pub resets : Suspension → Effect
resets Unsuspended = Goes Ground
resets (OfProgram q) = Goes Ground
resets (OfErase e) = Goes Ground
resets Entered = Starts Idle

abbrev pub or_reset : Suspension → ℕ → Effect → Effect
or_reset s w else' = if is w 0xF0 then resets s else else'

-- "10 SUSPENDED: a command not allowed in suspension"
abbrev pub unless : (suspended : Bool) → Effect → Effect
unless suspended effect = if suspended then Falls Suspended else effect

-- ground: the first unlock write; 30H in suspension
unfoldable pub at_ground : Suspension → (a w : ℕ) → Effect
at_ground s a w =
    if first_unlock a w then Goes (Entering Unlock)
    else or_reset s w (if is w 0x30 then resumes s else Falls Sequence)

-- 555H/AAH: the second unlock write
unfoldable pub after_unlock : Suspension → (a w : ℕ) → Effect
after_unlock s a w = if second_unlock a w then Goes (Entering Unlocked) else or_reset s w (Falls Sequence)

-- both unlock writes: the third write at 555H. "SUSPENDED comes at the third write for 80H, 48H, 78H, 60H, for A0H in a
-- suspended program"; request 4: "There 80H is SEQUENCE", and Enter, 88H, "in suspension is SUSPENDED"
unfoldable pub after_unlocked : Part → Protection → Suspension → (a w : ℕ) → Effect
after_unlocked p bits s a w =
    or_reset s w
    (if not (is_at a 0x555) then Falls Sequence
    else if is w 0xA0 then unless (program_is_suspended s) (Goes (Entering ProgramData))
    else if is w 0x80 then unless (is_suspended s) (if is_entered s then Falls Sequence else Goes (Entering EraseSetup))
    else if is w 0x88 then unless (is_suspended s) (Starts InOneTime)
    else if is w 0x90 then Goes (Reads (Identity (bank_of p a)))
    else if is w 0x58 then Goes (Reads Dybs)
    else if is w 0x48 then unless (is_suspended s) (Goes (Entering DybData))
    else if is w 0x78 then unless (is_suspended s) (Protects (locked bits))
    else if is w 0x60 then unless (is_suspended s) (Goes (Entering PpbSetup))
    else Falls Sequence)

-- A0H: "the next write is address and all 16 data bits of a program"; document 02, request 6: "RAISE, after PROTECTED and SUSPENDED"
abbrev pub program_data : Part → Protection → Suspension → Lent → Written → Effect
program_data p bits s l d =
    if barred p bits d then Falls (barred_as d)
    else if keeps_out p s d then Falls Suspended
    else if raises d l then Falls Raise
    else Starts (begins s (started p d))

unfoldable pub after_a0 : Part → Protection → Suspension → Lent → (a w : ℕ) → Effect
after_a0 p bits s l a w = program_data p bits s l (writing (selected s a) a w)

-- 80H: "both unlock writes again"
unfoldable pub after80 : Suspension → (a w : ℕ) → Effect
after80 s a w = if first_unlock a w then Goes (Entering EraseUnlock) else or_reset s w (Falls Sequence)

unfoldable pub after_80_unlock : Suspension → (a w : ℕ) → Effect
after_80_unlock s a w = if second_unlock a w then Goes (Entering EraseUnlocked) else or_reset s w (Falls Sequence)

-- "its list is every unprotected block, in rising number"; "9 PROTECTED: .. for a chip erase every block is"
abbrev pub chip_erase : Part → Protection → Effect
chip_erase p bits =
    if all_protected p bits then Falls Protected
    else Starts (ChipErasing (erase (unprotected p bits) (first_from (unprotected p bits) 0) (chip_time p) false false))

-- "A block erase first has a 50 µs window"
abbrev pub block_erase : Part → Protection → (b : ℕ) → Effect
block_erase p bits b =
    if protected bits b then Falls Protected
    else Starts (Window (erase (with_of empty_of b) b (window_time p) false false))

-- "then 10H at 555H (chip erase) or 30H at any address of a block (block erase)"
unfoldable pub after_80_unlocked : Part → Protection → Suspension → (a w : ℕ) → Effect
after_80_unlocked p bits s a w =
    or_reset s w
    (if is_at a 0x555 && is w 0x10 then chip_erase p bits
    else if is w 0x30 then block_erase p bits (block_of p a)
    else Falls Sequence)

-- 48H: "the next write's low four data bits, 1 or 0, set or clear the DYB of its block; another value is SEQUENCE"
unfoldable pub after48 : Part → Protection → (a w : ℕ) → Effect
after48 p bits a w =
    if is_dyb w 1 then Protects (dyb_set bits (block_of p a))
    else if is_dyb w 0 then Protects (dyb_cleared bits (block_of p a))
    else Falls Sequence

-- of the one-time block's lock (000, Table 6): 68H, and then 48H sets it; 48H alone has its status read
abbrev pub lock_setup : (w : ℕ) → Effect
lock_setup w =
    if is w 0x68 then Goes (Entering OtpLocking)
    else if is w 0x48 then Goes (Reads OtpLock)
    else Falls Sequence

-- 60H: "then 68H and 48H in the same block set its PPB, or 60H and 40H at any address clear all PPBs"
unfoldable pub after60 : Part → Suspension → (a w : ℕ) → Effect
after60 p s a w =
    or_reset s w
    (if at_lock s a then lock_setup w
    else if is w 0x68 then Goes (Entering (PpbSetting (block_of p a)))
    else if is w 0x60 then Goes (Entering PpbClearing)
    else Falls Sequence)

-- "The effect comes with the second of the two, at once; LOCKED is judged there."
abbrev pub unless_locked : Protection → Protection → Effect
unless_locked bits new = if bits.lock then Falls Locked else Protects new

unfoldable pub after68 : Part → Protection → Suspension → (b a w : ℕ) → Effect
after68 p bits s b a w =
    or_reset s w
    (if at_lock s a then Falls Sequence
    else if is w 0x48 && eqb (block_of p a) b then unless_locked bits (ppb_set bits b)
    else Falls Sequence)

unfoldable pub after6060 : Protection → Suspension → (a w : ℕ) → Effect
after6060 bits s a w =
    or_reset s w
    (if at_lock s a then Falls Sequence
    else if is w 0x40 then unless_locked bits (ppbs_cleared bits)
    else Falls Sequence)

-- the lock's 68H: the effect comes with 48H there, at once, and the PPB lock bit has no part in it
unfoldable pub after_lock_68 : Protection → Suspension → (a w : ℕ) → Effect
after_lock_68 bits s a w = or_reset s w (if at_lock s a && is w 0x48 then Protects (sealed_for bits) else Falls Sequence)

-- "After 90H or 58H only F0H is taken; any other write is SEQUENCE."; in the one-time block 90H and then 00H is Exit (000, Table 6)
unfoldable pub exits : Suspension → Reading → (w : ℕ) → Bool
exits s (Identity bank) w = is_entered s && is w 0x00
exits s Dybs w = false
exits s OtpLock w = false

unfoldable pub after_reading : Suspension → Reading → (w : ℕ) → Effect
after_reading s r w = or_reset s w (if exits s r w then Starts Idle else Falls Sequence)

-- the next write of a command that is half entered
unfoldable pub continued : Part → Protection → Suspension → Cycle → Lent → (a w : ℕ) → Effect
continued p bits s Unlock l a w = after_unlock s a w
continued p bits s Unlocked l a w = after_unlocked p bits s a w
continued p bits s ProgramData l a w = after_a0 p bits s l a w
continued p bits s EraseSetup l a w = after80 s a w
continued p bits s EraseUnlock l a w = after_80_unlock s a w
continued p bits s EraseUnlocked l a w = after_80_unlocked p bits s a w
continued p bits s DybData l a w = after48 p bits a w
continued p bits s PpbSetup l a w = after60 p s a w
continued p bits s (PpbSetting b) l a w = after68 p bits s b a w
continued p bits s PpbClearing l a w = after6060 bits s a w
continued p bits s OtpLocking l a w = after_lock_68 bits s a w

unfoldable pub entered : Part → Protection → Suspension → Command → Lent → (a w : ℕ) → Effect
entered p bits s Ground l a w = at_ground s a w
entered p bits s (Entering c) l a w = continued p bits s c l a w
entered p bits s (Reads r) l a w = after_reading s r w

-- ---- while an operation runs

-- "30H in the same bank adds a block (one already listed is taken, too) and starts the 50 µs again": "8 before 9"
unfoldable pub add_block : Part → Protection → Erase → (a : ℕ) → Effect
add_block p bits e a =
    if not (eqb (bank_of p a) (bank_of_block p e.hand)) then Stays Bank
    else if protected bits (block_of p a) then Stays Protected
    else Starts (Window (erase (with_of e.list (block_of p a)) (min e.hand (block_of p a)) (window_time p) e.dq6 e.dq2))

-- in the window: 30H, "B0H suspends; any other write is SEQUENCE". "Suspending in the window ends the window"
unfoldable pub in_window : Part → Protection → Erase → (a w : ℕ) → Effect
in_window p bits e a w =
    if is w 0x30 then add_block p bits e a
    else if is w 0xB0 then Starts (EraseSuspended (suspended (erase_left e (erase_time p)) Nothing))
    else Drops

-- past the window, document 02, request 1: "B0H during a running block erase starts 20 µs in which the block makes no progress";
-- any other write is BUSY
abbrev pub in_erase : Part → Erase → (w : ℕ) → Effect
in_erase p e w = if is w 0xB0 then Starts (Recovering (recovery e (recovery_time p))) else Stays Busy

-- "During a chip erase, or a program inside a suspended erase, it is BUSY."
unfoldable pub in_suspended_erase : Inside → Effect → Effect
in_suspended_erase Nothing effect = effect
in_suspended_erase (Runs q) effect = Stays Busy

-- document 02, request 9: "B0H during any program becomes BUSY.", in the one-time block too, by request 4; and request 1, in the
-- recovery: "every write is BUSY"
unfoldable pub written : Part → Protection → Operation → Command → Lent → (a w : ℕ) → Effect
written p bits Idle c l a w = entered p bits Unsuspended c l a w
written p bits (Programming q) c l a w = Stays Busy
written p bits (ProgramSuspended q) c l a w = entered p bits (OfProgram q) c l a w
written p bits (Window e) c l a w = in_window p bits e a w
written p bits (Erasing e) c l a w = in_erase p e w
written p bits (Recovering r) c l a w = Stays Busy
written p bits (EraseSuspended s) c l a w = in_suspended_erase s.inside (entered p bits (OfErase s.erase) c l a w)
written p bits (ChipErasing e) c l a w = Stays Busy
written p bits InOneTime c l a w = entered p bits Entered c l a w
written p bits (OneTimeProgramming q) c l a w = Stays Busy

-- ---- the record afterwards (document 01, "Refusals by number", the column "afterwards"); every write gives the word 0

unfoldable pub effected : Device → Effect → Answer
effected r (Goes c) = answer Done 0 (device r.meter c r.operation r.bits)
effected r (Starts o) = answer Done 0 (device r.meter Ground o r.bits)
effected r (Protects b) = answer Done 0 (device r.meter Ground r.operation b)
effected r (Falls n) = answer n 0 (device r.meter Ground r.operation r.bits)
effected r (Stays n) = answer n 0 r
effected r Drops = answer Sequence 0 (device r.meter Ground Idle r.bits)
