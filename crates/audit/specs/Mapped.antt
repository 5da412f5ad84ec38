-- Where `reads_cells` said yes of a bank it says yes until the next write, and the bank's cells stay as they are: no read, wait, cut or range
-- changes that, taken or refused. So who reads the cells of a bank himself, or keeps a copy of them, asks again after a write, and after
-- nothing else. (Where it says yes a read gives the cell and changes nothing: Promises, CallPromises.)
use Rattle.std.specs.Prelude.{ℕ, ◌≡◌, Bool, true, false, ◌&&◌, not, List, [], ◌∷◌}
use contract.Lifetimes.{Lfts}
use Rattle.geometry.specs.declared.Part.{Part}
use Rattle.geometry.specs.Parts.{bank_of}
use Rattle.plain.specs.declared.Array.TheVariants.{Main}
use Rattle.plain.specs.declared.Device.{Device}
use Rattle.plain.specs.Events.{Event, read, write, wait, cut, range}
use Rattle.plain.specs.Lent.{Lent, word_at}
use Rattle.plain.specs.Machine.{Ran, run}
use Rattle.face.specs.Face.{part_named}
use Rattle.judged.specs.Asked.{reads_cells}
use Rattle.machine.proofs.reads_cells.Reads as Maps
use Rattle.emulator.proofs.asked_of.k5l_reads_cells.Reads as CMaps
use Rattle.audit.specs.Slices.{Location, slice}
use Rattle.audit.specs.Performed.{Performed}
use Rattle.audit.specs.Called.{Held, Calls}

unfoldable pub is_write : Event → Bool
is_write (read a) = false
is_write (write a w) = true
is_write (wait n) = false
is_write (cut debris) = false
is_write (range first count) = false

-- reads, waits, cuts and ranges alone
unfoldable pub no_write : List Event → Bool
no_write [] = true
no_write (e ∷ es) = not (is_write e) && no_write es

-- ---- of the plain machine, whatever the record and what is lent

abbrev pub StaysMapped : Part → Type 0
StaysMapped p =
    (r : Device) (l : Lent) (es : List Event) (bank : ℕ) → no_write es ≡ true → reads_cells p r bank ≡ true
    → let ran = run p r l es in
    (reads_cells p ran.device bank ≡ true) × ((x : ℕ) → bank_of p x ≡ bank → word_at ran.lent Main x ≡ word_at l Main x)

-- ---- of the public functions: `machine::reads_cells` said yes, and after any run without a write it says yes again

abbrev pub Says : Part → Device → (bank : ℕ) → (said : Bool) → Type 0
Says p r bank said = Maps.Learnt tt (p, (r, (bank, tt))) said (p, (r, (bank, tt)))

abbrev pub StaysMappedCode : Part → Type 0
StaysMappedCode p =
    (r : Device) (l : Lent) (es : List Event) (ran : Ran) (bank : ℕ) → Says p r bank true → Performed p r l es ran → no_write es ≡ true
    → ((said : Bool) → Says p ran.device bank said → said ≡ true) × ((x : ℕ) → bank_of p x ≡ bank → word_at ran.lent Main x ≡ word_at l Main x)

-- ---- through C: the same of `k5l_reads_cells`

abbrev pub SaysC : (part : ℕ) → (words : List ℕ) → (bank : ℕ) → (said : Bool) → Lfts 1 → Location → Type 0
SaysC part words bank said t at = CMaps.Learnt t (part, (slice at words, (bank, tt))) said (part, (slice at words, (bank, tt)))

abbrev pub StaysMappedCalls : Type 0
StaysMappedCalls =
    (part : ℕ) (words : List ℕ) (l : Lent) (es : List Event) (ran : Held) (bank : ℕ) (t u : Lfts 1) (at by : Location)
    → SaysC part words bank true t at → Calls part words l es ran → no_write es ≡ true
    → ((said : Bool) → SaysC part ran.words bank said u by → said ≡ true)
    × ((x : ℕ) → bank_of (part_named part) x ≡ bank → word_at ran.lent Main x ≡ word_at l Main x)
