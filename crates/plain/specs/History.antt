-- The history of a run, told from its events and their answers alone: no record, no soundness and no cells are named here.
use Rattle.std.specs.Prelude.{ℕ, zero, suc, ◌+◌, ◌%◌, min, Bool, true, false, ◌&&◌, List, [], ◌∷◌, ltb, eqb}
use Rattle.blocks.specs.declared.Blocks.{Blocks}
use Rattle.blocks.specs.Blocks.{empty_of, with_of, without_of, first_from}
use Rattle.geometry.specs.declared.Part.{Part}
use Rattle.geometry.specs.Parts.{block_of, bank_of}
use Rattle.protection.specs.Protection.{bits, unprotected}
use Rattle.plain.specs.declared.Refusal.{Refusal}
use Rattle.plain.specs.declared.Refusal.TheVariants.{Done, State, Cells, Address, Clock, Debris, Busy, Sequence, Bank, Protected, Suspended, Locked, OtpLocked, Raise}
use Rattle.plain.specs.declared.Array.{Array}
use Rattle.plain.specs.declared.Array.TheVariants.{Main, OneTime}
use Rattle.plain.specs.declared.Command.{Command}
use Rattle.plain.specs.declared.Command.TheVariants.{Ground, Entering, Reads}
use Rattle.plain.specs.declared.Cycle.{Cycle}
use Rattle.plain.specs.declared.Cycle.TheVariants.{Unlock, Unlocked, ProgramData, EraseSetup, EraseUnlock, EraseUnlocked, DybData, PpbSetup, PpbSetting, PpbClearing, OtpLocking}
use Rattle.plain.specs.declared.Reading.TheVariants.{Identity, Dybs, OtpLock}
use Rattle.std.specs.Prelude.{if◌then◌else◌}
use Rattle.plain.specs.Cycles.{is, first_unlock, is_lock_address}
use Rattle.plain.specs.Events.{Event, read, write, wait, cut, range, Turn}
use Rattle.plain.specs.Doings.{Doing, nothing, programs, waits, erases, recovers, wipes, rests, programs_in, entered, programs_entered, draws, goes, comes, begins_program, goes_on, has_entered, cuts}
use Rattle.plain.specs.Holds.{Fact}
use Rattle.plain.specs.Lent.{otp_words}
use Rattle.plain.specs.Programs.{writing}

-- the commands as far as they were heard, what is under way, the protection bits, the customer's lock, the facts (the latest first),
-- and the microseconds and picocoulombs of the accepted waits
pub record Told : Type 0 where
  pub command : Command
  pub doing : Doing
  pub dyb : Blocks
  pub ppb : Blocks
  pub sealed : Bool
  pub facts : List Fact
  pub clock : ℕ
  pub charge : ℕ

abbrev pub telling : Command → Doing → Blocks → Blocks → Bool → List Fact → ℕ → ℕ → Told
telling c d y q s f t e = record { command = c; doing = d; dyb = y; ppb = q; sealed = s; facts = f; clock = t; charge = e }

-- what an answer says: taken; it continued no command; it was turned down; it was as if it had not been
pub data Kind : Type 0 where
  taken lost dropped unheard : Kind

unfoldable pub kind : Refusal → Kind
kind Done = taken
kind State = unheard
kind Cells = unheard
kind Address = unheard
kind Clock = unheard
kind Debris = unheard
kind Busy = unheard
kind Sequence = lost
kind Bank = unheard
kind Protected = dropped
kind Suspended = dropped
kind Locked = dropped
kind OtpLocked = dropped
kind Raise = dropped

-- ---- a microsecond

unfoldable pub microsecond : Part → Told → Told
microsecond p h =
    telling h.command (goes p h.doing) h.dyb h.ppb h.sealed (comes p h.doing h.facts) (h.clock + 1)
    (h.charge + draws p h.doing)

unfoldable pub time : Part → ℕ → Told → Told
time p zero h = h
time p (suc n) h = time p n (microsecond p h)

-- ---- an accepted write

abbrev pub enters : Told → Command → Told
enters h c = telling c h.doing h.dyb h.ppb h.sealed h.facts h.clock h.charge

abbrev pub begins : Told → Doing → Told
begins h d = telling Ground d h.dyb h.ppb h.sealed h.facts h.clock h.charge

abbrev pub protects : Told → Blocks → Blocks → Told
protects h y q = telling Ground h.doing y q h.sealed h.facts h.clock h.charge

abbrev pub seals : Told → Told
seals h = telling Ground h.doing h.dyb h.ppb true h.facts h.clock h.charge

-- while the one-time block is entered it has the lower addresses, and one of them has its lock (document 02, request 4)
abbrev pub array_at : Told → (a : ℕ) → Array
array_at h a = if has_entered h.doing && ltb a otp_words then OneTime else Main

-- F0H returns to ground, and "exits"
abbrev pub resets : Told → Told
resets h = if has_entered h.doing then begins h nothing else enters h Ground

-- "its list is every unprotected block", by the bits that were told of
abbrev pub open_blocks : Part → Told → Blocks
open_blocks p h = unprotected p (bits h.dyb h.ppb false h.sealed)

-- the next cycle of a command, as it was taken
unfoldable pub hears_cycle : Part → Told → Cycle → (a w : ℕ) → Told
hears_cycle p h Unlock a w = if is w 0xF0 then resets h else enters h (Entering Unlocked)
hears_cycle p h Unlocked a w =
    if is w 0xA0 then enters h (Entering ProgramData)
    else if is w 0x80 then enters h (Entering EraseSetup)
    else if is w 0x90 then enters h (Reads (Identity (bank_of p a)))
    else if is w 0x58 then enters h (Reads Dybs)
    else if is w 0x48 then enters h (Entering DybData)
    else if is w 0x60 then enters h (Entering PpbSetup)
    else if is w 0x88 then begins h entered
    else if is w 0xF0 then resets h
    else enters h Ground
hears_cycle p h ProgramData a w = begins h (begins_program h.doing (writing (array_at h a) a w))
hears_cycle p h EraseSetup a w = if is w 0xF0 then resets h else enters h (Entering EraseUnlock)
hears_cycle p h EraseUnlock a w = if is w 0xF0 then resets h else enters h (Entering EraseUnlocked)
hears_cycle p h EraseUnlocked a w =
    if is w 0xF0 then resets h
    else if is w 0x10 then begins h (wipes (open_blocks p h) (first_from (open_blocks p h) 0) 0)
    else begins h (waits (with_of empty_of (block_of p a)) (block_of p a) 0)
hears_cycle p h DybData a w =
    if eqb (w % 16) 1 then protects h (with_of h.dyb (block_of p a)) h.ppb
    else protects h (without_of h.dyb (block_of p a)) h.ppb
hears_cycle p h PpbSetup a w =
    if is w 0xF0 then resets h
    else if has_entered h.doing && is_lock_address a then (if is w 0x68 then enters h (Entering OtpLocking) else enters h (Reads OtpLock))
    else if is w 0x68 then enters h (Entering (PpbSetting (block_of p a)))
    else enters h (Entering PpbClearing)
hears_cycle p h (PpbSetting b) a w = if is w 0xF0 then resets h else protects h h.dyb (with_of h.ppb b)
hears_cycle p h PpbClearing a w = if is w 0xF0 then resets h else protects h h.dyb empty_of
hears_cycle p h OtpLocking a w = if is w 0xF0 then resets h else seals h

unfoldable pub hears : Part → Told → Command → (a w : ℕ) → Told
hears p h Ground a w =
    if first_unlock a w then enters h (Entering Unlock)
    else if is w 0x30 then begins h (goes_on h.doing)
    else resets h
hears p h (Entering c) a w = hears_cycle p h c a w
hears p h (Reads r) a w = resets h

-- a write taken while an erase runs suspends it, or adds a block in the window: in the window it is suspended at once, past it when it
-- has recovered
unfoldable pub wrote : Part → Told → Doing → (a w : ℕ) → Told
wrote p h nothing a w = hears p h h.command a w
wrote p h (programs d g) a w = h
wrote p h (waits l b g) a w =
    if is w 0x30 then begins h (waits (with_of l (block_of p a)) (min b (block_of p a)) 0) else begins h (rests l b 0)
wrote p h (erases l b g) a w = begins h (recovers l b g 0)
wrote p h (recovers l b g n) a w = h
wrote p h (wipes l b g) a w = h
wrote p h (rests l b g) a w = hears p h h.command a w
wrote p h (programs_in d pg l b g) a w = h
wrote p h entered a w = hears p h h.command a w
wrote p h (programs_entered d g) a w = h

-- ---- a refused write

-- "back to ground, a suspension stands; in the erase window the list is also dropped"
unfoldable pub gave_up : Told → Doing → Told
gave_up h nothing = enters h Ground
gave_up h (programs d g) = enters h Ground
gave_up h (waits l b g) = begins h nothing
gave_up h (erases l b g) = enters h Ground
gave_up h (recovers l b g n) = enters h Ground
gave_up h (wipes l b g) = enters h Ground
gave_up h (rests l b g) = enters h Ground
gave_up h (programs_in d pg l b g) = enters h Ground
gave_up h entered = enters h Ground
gave_up h (programs_entered d g) = enters h Ground

-- "back to ground ..; in the window nothing changed"
unfoldable pub turned_down : Told → Doing → Told
turned_down h nothing = enters h Ground
turned_down h (programs d g) = enters h Ground
turned_down h (waits l b g) = h
turned_down h (erases l b g) = enters h Ground
turned_down h (recovers l b g n) = enters h Ground
turned_down h (wipes l b g) = enters h Ground
turned_down h (rests l b g) = enters h Ground
turned_down h (programs_in d pg l b g) = enters h Ground
turned_down h entered = enters h Ground
turned_down h (programs_entered d g) = enters h Ground

unfoldable pub wrote_as : Part → Told → Kind → (a w : ℕ) → Told
wrote_as p h taken a w = wrote p h h.doing a w
wrote_as p h lost a w = gave_up h h.doing
wrote_as p h dropped a w = turned_down h h.doing
wrote_as p h unheard a w = h

-- ---- waits and cuts

unfoldable pub waited_as : Part → Told → Kind → (n : ℕ) → Told
waited_as p h taken n = time p n h
waited_as p h lost n = h
waited_as p h dropped n = h
waited_as p h unheard n = h

unfoldable pub cut_as : Part → Told → Kind → (debris : List ℕ) → Told
cut_as p h taken debris = telling Ground nothing empty_of h.ppb h.sealed (cuts p h.doing debris h.facts) h.clock h.charge
cut_as p h lost debris = h
cut_as p h dropped debris = h
cut_as p h unheard debris = h

-- ---- the history of a run

unfoldable pub tell : Part → Told → Event → Refusal → Told
tell p h (read a) n = h
tell p h (write a w) n = wrote_as p h (kind n) a w
tell p h (wait m) n = waited_as p h (kind n) m
tell p h (cut debris) n = cut_as p h (kind n) debris
tell p h (range first count) n = h

unfoldable pub told : Part → Told → List Turn → Told
told p h [] = h
told p h (t ∷ ts) = told p (tell p h t.event t.refusal) ts

-- of a fresh device nothing has been told
abbrev pub untold : Told
untold = telling Ground nothing empty_of empty_of false [] 0 0

abbrev pub history : Part → List Turn → Told
history p ts = told p untold ts
