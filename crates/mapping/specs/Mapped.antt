-- Where a read of a bank gives the cell and changes nothing, at whatever address of it: an emulator may map the cells there.
use Rattle.std.specs.Prelude.{ℕ, Bool, true, false, ◌&&◌, not, eqb}
use Rattle.geometry.specs.declared.Part.{Part}
use Rattle.geometry.specs.Parts.{bank_of, bank_of_block}
use Rattle.plain.specs.declared.Operation.{Operation}
use Rattle.plain.specs.declared.Running.{Running}
use Rattle.plain.specs.declared.Running.TheVariants.{Still, Programs, Waits, Erases, Recovers, ErasesChip}
use Rattle.plain.specs.declared.Suspension.{Suspension}
use Rattle.plain.specs.declared.Suspension.TheVariants.{Unsuspended, OfProgram, OfErase, Entered}
use Rattle.plain.specs.declared.Command.{Command}
use Rattle.plain.specs.declared.Command.TheVariants.{Ground, Entering, Reads}
use Rattle.plain.specs.declared.Reading.{Reading}
use Rattle.plain.specs.declared.Reading.TheVariants.{Identity, Dybs, OtpLock}
use Rattle.plain.specs.Operations.{running_of, suspension_of}
use Rattle.plain.specs.Programs.{bank_written}

-- "identity reading in the bank of this third address"; a 58H reading, and the status of the customer's lock, are on in every bank
unfoldable pub given_in : Reading → (bank : ℕ) → Bool
given_in (Identity b) bank = eqb bank b
given_in Dybs bank = true
given_in OtpLock bank = true

unfoldable pub reading_in : Command → (bank : ℕ) → Bool
reading_in Ground bank = false
reading_in (Entering c) bank = false
reading_in (Reads r) bank = given_in r bank

-- "the bank of a running operation (window included; any bank in a chip erase)"
unfoldable pub runs_in : Part → Running → (bank : ℕ) → Bool
runs_in p Still bank = false
runs_in p (Programs q) bank = eqb bank (bank_written p q.writes)
runs_in p (Waits e) bank = eqb bank (bank_of_block p e.hand)
runs_in p (Erases e) bank = eqb bank (bank_of_block p e.hand)
runs_in p (Recovers r) bank = eqb bank (bank_of_block p r.erase.hand)
runs_in p (ErasesChip e) bank = true

-- the bank of what is suspended: "an erase list .. lies in one bank"; or, while the one-time block is entered, the bank of address 0, where
-- its words are read "at 000000H to 0000FFH" in the cells' place
unfoldable pub rests_in : Part → Suspension → (bank : ℕ) → Bool
rests_in p Unsuspended bank = false
rests_in p (OfProgram q) bank = eqb bank (bank_written p q.writes)
rests_in p (OfErase e) bank = eqb bank (bank_of_block p e.hand)
rests_in p Entered bank = eqb bank (bank_of p 0)

unfoldable pub gives_cells : Part → Command → Operation → (bank : ℕ) → Bool
gives_cells p c o bank =
    not (reading_in c bank) && (not (runs_in p (running_of o) bank) && not (rests_in p (suspension_of o) bank))
