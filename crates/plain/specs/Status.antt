-- What a read gives (document 01, "Status words", and the readings of "Command cycles").
use Rattle.std.specs.Prelude.{ℕ, ◌+◌, ◌%◌, Bool, true, false, not, eqb}
use Rattle.blocks.specs.Blocks.{has}
use Rattle.geometry.specs.declared.Part.{Part}
use Rattle.geometry.specs.Parts.{block_of, bank_of, bank_of_block}
use Rattle.protection.specs.declared.Protection.{Protection}
use Rattle.plain.specs.declared.Program.{Program}
use Rattle.plain.specs.declared.Erase.{Erase}
use Rattle.plain.specs.declared.Inside.{Inside}
use Rattle.plain.specs.declared.Inside.TheVariants.{Nothing, Runs}
use Rattle.plain.specs.declared.SuspendedErase.{SuspendedErase}
use Rattle.plain.specs.declared.Operation.{Operation}
use Rattle.plain.specs.declared.Operation.TheVariants.{Idle, Programming, ProgramSuspended, Window, Erasing, Recovering, EraseSuspended, ChipErasing, InOneTime, OneTimeProgramming}
use Rattle.plain.specs.declared.Running.{Running}
use Rattle.plain.specs.declared.Running.TheVariants.{Still, Programs, Waits, Erases, Recovers, ErasesChip}
use Rattle.plain.specs.declared.Suspension.{Suspension}
use Rattle.plain.specs.declared.Suspension.TheVariants.{Unsuspended, OfProgram, OfErase, Entered}
use Rattle.plain.specs.declared.Command.{Command}
use Rattle.plain.specs.declared.Command.TheVariants.{Ground, Entering, Reads}
use Rattle.plain.specs.declared.Reading.{Reading}
use Rattle.plain.specs.declared.Reading.TheVariants.{Identity, Dybs, OtpLock}
use Rattle.plain.specs.declared.Seen.{Seen}
use Rattle.std.specs.Prelude.{if◌then◌else◌}
use Rattle.plain.specs.Lent.{Lent, word_at}
use Rattle.plain.specs.Operations.{running_of, suspension_of, selected}
use Rattle.plain.specs.Programs.{block_written, bank_written, dq7}
use Rattle.plain.specs.Record.{program, erase, suspended, recovery}

-- ---- status words

-- "All other bits are 0."
abbrev pub status_word : (dq7 dq6 dq3 dq2 : Bool) → ℕ
status_word seven six three two =
    (if seven then 0x80 else 0) + ((if six then 0x40 else 0) + ((if three then 0x08 else 0) + (if two then 0x04 else 0)))

-- "A read in the bank of a running operation (window included; any bank in a chip erase) gives a status word."; document 02,
-- request 1, in the recovery: "reads in that bank give the erase status .. Other banks read at once."
unfoldable pub polls : Part → Running → (a : ℕ) → Bool
polls p Still a = false
polls p (Programs q) a = eqb (bank_of p a) (bank_written p q.writes)
polls p (Waits e) a = eqb (bank_of p a) (bank_of_block p e.hand)
polls p (Erases e) a = eqb (bank_of p a) (bank_of_block p e.hand)
polls p (Recovers r) a = eqb (bank_of p a) (bank_of_block p r.erase.hand)
polls p (ErasesChip e) a = true

-- "Each such read flips DQ6 and shows the new value."
abbrev pub program_polled : Program → Program
program_polled q = program q.writes q.left (not q.dq6)

-- "DQ2 flipped and shown if the address is in a listed block, finished or not, else shown unflipped"
abbrev pub erase_polled : Part → Erase → (a : ℕ) → Erase
erase_polled p e a =
    erase e.list e.hand e.left (not e.dq6) (if has e.list (block_of p a) then not e.dq2 else e.dq2)

unfoldable pub inside_polled : Inside → Inside
inside_polled Nothing = Nothing
inside_polled (Runs q) = Runs (program_polled q)

unfoldable pub polled : Part → Operation → (a : ℕ) → Operation
polled p Idle a = Idle
polled p (Programming q) a = Programming (program_polled q)
polled p (ProgramSuspended q) a = ProgramSuspended q
polled p (Window e) a = Window (erase_polled p e a)
polled p (Erasing e) a = Erasing (erase_polled p e a)
polled p (Recovering r) a = Recovering (recovery (erase_polled p r.erase a) r.left)
polled p (EraseSuspended s) a = EraseSuspended (suspended s.erase (inside_polled s.inside))
polled p (ChipErasing e) a = ChipErasing (erase_polled p e a)
polled p InOneTime a = InOneTime
polled p (OneTimeProgramming q) a = OneTimeProgramming (program_polled q)

-- "Program: DQ7 is the complement of data bit 7, DQ2 shows 1, DQ3 0. Erase: DQ7 0, DQ3 1 except 0 in the window"
unfoldable pub status : Running → ℕ
status Still = 0
status (Programs q) = status_word (dq7 q.writes) q.dq6 false true
status (Waits e) = status_word false e.dq6 false e.dq2
status (Erases e) = status_word false e.dq6 true e.dq2
status (Recovers r) = status_word false r.erase.dq6 true r.erase.dq2
status (ErasesChip e) = status_word false e.dq6 true e.dq2

-- ---- "After that come identity and 58H reading"

-- "90H: identity reading in the bank of this third address"; "58H: each read"; so the status of the customer's lock
unfoldable pub given_at : Part → Reading → (a : ℕ) → Bool
given_at p (Identity bank) a = eqb (bank_of p a) bank
given_at p Dybs a = true
given_at p OtpLock a = true

-- "By the low 8 address bits: 00H gives 00ECH, 02H gives the block's PPB, all others 0"
abbrev pub identity_word : Part → Protection → (a : ℕ) → ℕ
identity_word p bits a =
    if eqb (a % 256) 0x00 then 0x00EC
    else if eqb (a % 256) 0x02 then (if has bits.ppb (block_of p a) then 1 else 0)
    else 0

-- "each read gives the block's DYB in bit 0 and the PPB lock bit in bit 1"
abbrev pub dyb_word : Part → Protection → (a : ℕ) → ℕ
dyb_word p bits a = (if has bits.dyb (block_of p a) then 1 else 0) + (if bits.lock then 2 else 0)

unfoldable pub given_word : Part → Protection → Reading → (a : ℕ) → ℕ
given_word p bits (Identity bank) a = identity_word p bits a
given_word p bits Dybs a = dyb_word p bits a
given_word p bits OtpLock a = if bits.sealed then 1 else 0

unfoldable pub reading_on : Part → Command → (a : ℕ) → Bool
reading_on p Ground a = false
reading_on p (Entering c) a = false
reading_on p (Reads r) a = given_at p r a

unfoldable pub reading_word : Part → Protection → Command → (a : ℕ) → ℕ
reading_word p bits Ground a = 0
reading_word p bits (Entering c) a = 0
reading_word p bits (Reads r) a = given_word p bits r a

-- ---- "then suspension: a listed block reads C0H plus DQ2, which flips; the block of a suspended program reads its DQ7, with
-- DQ6 and DQ2 both 1"

unfoldable pub rests : Part → Suspension → (a : ℕ) → Bool
rests p Unsuspended a = false
rests p (OfProgram q) a = eqb (block_of p a) (block_written p q.writes)
rests p (OfErase e) a = has e.list (block_of p a)
rests p Entered a = false

unfoldable pub rest_word : Suspension → ℕ
rest_word Unsuspended = 0
rest_word (OfProgram q) = status_word (dq7 q.writes) true false true
rest_word (OfErase e) = status_word true true false e.dq2
rest_word Entered = 0

abbrev pub rest_flipped : SuspendedErase → SuspendedErase
rest_flipped s =
    suspended (erase s.erase.list s.erase.hand s.erase.left s.erase.dq6 (not s.erase.dq2)) s.inside

unfoldable pub rested : Operation → Operation
rested Idle = Idle
rested (Programming q) = Programming q
rested (ProgramSuspended q) = ProgramSuspended q
rested (Window e) = Window e
rested (Erasing e) = Erasing e
rested (Recovering r) = Recovering r
rested (EraseSuspended s) = EraseSuspended (rest_flipped s)
rested (ChipErasing e) = ChipErasing e
rested InOneTime = InOneTime
rested (OneTimeProgramming q) = OneTimeProgramming q

-- ---- the word, and the operation with its toggles afterwards: "Any other read gives the cell."; document 02, request 4: "the one-time words
-- or .. the main array", by mode and address

abbrev pub seen : ℕ → Operation → Seen
seen w o = record { word = w; operation = o }

unfoldable pub look : Part → Protection → Command → Operation → Lent → (a : ℕ) → Seen
look p bits c o l a =
    if polls p (running_of o) a then seen (status (running_of (polled p o a))) (polled p o a)
    else if reading_on p c a then seen (reading_word p bits c a) o
    else if rests p (suspension_of o) a then seen (rest_word (suspension_of (rested o))) (rested o)
    else seen (word_at l (selected (suspension_of o) a) a) o
