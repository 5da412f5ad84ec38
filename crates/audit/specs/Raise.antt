-- Document 02, request 6 (plain/specs/Raise): RAISE is answered exactly where a program would not leave its data. Of the public
-- functions, for every answer that their contracts allow, and of every call through C.
use Rattle.std.specs.Prelude.{ℕ, ◌≡◌, true, List}
use Rattle.geometry.specs.declared.Part.{Part}
use Rattle.plain.specs.declared.Refusal.TheVariants.{Done, Raise}
use Rattle.plain.specs.declared.Device.{Device}
use Rattle.plain.specs.declared.Answer.{Answer}
use Rattle.plain.specs.Events.{Event, write}
use Rattle.plain.specs.Lent.{Lent}
use Rattle.plain.specs.Raise.{WouldStart, Works, CannotWork, raised}
use Rattle.plain.specs.Refusals.{number}
use Rattle.layout.specs.Image.{device_of}
use Rattle.face.specs.Face.{Faced, part_named, stands, shown}
use Rattle.audit.specs.Performed.{Allowed}
use Rattle.audit.specs.Called.{Called}

-- ---- of the public functions

abbrev pub RaiseOnlyCode : Part → Type 0
RaiseOnlyCode p = (r : Device) (l after : Lent) (e : Event) (y : Answer) → Allowed p r l e y after → y.refusal ≡ Raise → CannotWork p r l e

abbrev pub RaiseAlwaysCode : Part → Type 0
RaiseAlwaysCode p =
    (r : Device) (l after : Lent) (e : Event) (y : Answer) → Allowed p r l e y after → CannotWork p r l e → (y ≡ (raised r l).answer) × (after ≡ l)

abbrev pub OthersStartCode : Part → Type 0
OthersStartCode p =
    (r : Device) (l after : Lent) (a w : ℕ) (y : Answer) → Allowed p r l (write a w) y after → WouldStart p r l a w → Works p r l a w → y.refusal ≡ Done

-- ---- through C, of the record that the words stand for

abbrev pub RaiseOnlyCalls : Type 0
RaiseOnlyCalls =
    (part : ℕ) (words : List ℕ) (l : Lent) (e : Event) (f : Faced) → Called part words l e f → f.refusal ≡ number Raise
    → CannotWork (part_named part) (device_of words) l e

abbrev pub RaiseAlwaysCalls : Type 0
RaiseAlwaysCalls =
    (part : ℕ) (words : List ℕ) (l : Lent) (e : Event) (f : Faced) → Called part words l e f → stands part words ≡ true
    → CannotWork (part_named part) (device_of words) l e → f ≡ shown (raised (device_of words) l)

abbrev pub OthersStartCalls : Type 0
OthersStartCalls =
    (part : ℕ) (words : List ℕ) (l : Lent) (a w : ℕ) (f : Faced) → Called part words l (write a w) f → stands part words ≡ true
    → WouldStart (part_named part) (device_of words) l a w → Works (part_named part) (device_of words) l a w → f.refusal ≡ number Done
