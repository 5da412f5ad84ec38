-- Document 02, request 4: a range that is not refused is handed back whole, of the array that is told, and a refused one is empty. Of what
-- the public functions may answer, and of what `k5l_range` may.
use Rattle.std.specs.Prelude.{ℕ, ◌/◌, ◌%◌, ◌<◌, ◌≡◌, List, [], eqb, length, drop, take}
use contract.Lifetimes.{Lfts}
use Rattle.std.specs.Borrow.{Bor}
use Rattle.geometry.specs.declared.Part.{Part}
use Rattle.plain.specs.declared.Array.{Array}
use Rattle.plain.specs.declared.Refusal.{Refusal}
use Rattle.plain.specs.declared.Refusal.TheVariants.{Done}
use Rattle.plain.specs.declared.Device.{Device}
use Rattle.std.specs.Prelude.{if◌then◌else◌}
use Rattle.plain.specs.Lent.{Lent, array_of}
use Rattle.plain.specs.Machine.{range_words}
use Rattle.layout.specs.Image.{device_of}
use Rattle.face.specs.Face.{part_named}
use Rattle.machine.proofs.range_refusal.Reads as Refuses
use Rattle.machine.proofs.range_array.Reads as Selects
use Rattle.machine.proofs.range.Reads as Hands
use Rattle.emulator.proofs.k5l_range.Reads as CRange
use Rattle.audit.specs.Slices.{Location, slice, slices}

-- ---- of the public functions: `machine::range_refusal`, `range_array` and `range`, asked for one range

abbrev pub RangesLieCode : Part → Type 0
RangesLieCode p =
    (r : Device) (l : Lent) (first count : ℕ) (t : Lfts 2) (u : Lfts 1) (at by : Location) (n : Refusal) (y : Array) (words : Bor (List ℕ))
    → Refuses.Learnt t (p, (r, slices at by l (first, (count, tt)))) n (p, (r, slices at by l (first, (count, tt))))
    → Selects.Learnt tt (r, (first, tt)) y (r, (first, tt))
    → Hands.Learnt u (p, (r, slices at by l (first, (count, tt)))) words (p, (r, slices at by l (first, (count, tt))))
    → (n ≡ Done → (length words.now ≡ count) × (words.now ≡ take count (drop first (array_of y l)))) × ((n ≡ Done → ⊥) → words.now ≡ [])

-- ---- through C: "refusal << 33 | array << 32 | first word"; those words are the plain machine's, and lie in the array

abbrev pub handed_at : (answer count : ℕ) → Lent → List ℕ
handed_at n count l = take count (drop (n % 4294967296) (if eqb (n / 4294967296) 1 then l.otp else l.cells))

abbrev pub RangesLieCalls : Type 0
RangesLieCalls =
    (part : ℕ) (words : List ℕ) (l : Lent) (first count : ℕ) (t : Lfts 3) (at by of : Location) (n : ℕ)
    → CRange.Learnt t (part, (slice at words, slices by of l (first, (count, tt)))) n (part, (slice at words, slices by of l (first, (count, tt))))
    → n < 8589934592
    → (length (handed_at n count l) ≡ count) × (handed_at n count l ≡ range_words (part_named part) (device_of words) l first count)
