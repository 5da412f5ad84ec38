-- Document 02, request 4 (plain/specs/OneTime): what the locks of the one-time block keep, and what leaves it. Of the public functions, for
-- every answer that their contracts allow, and of every call through C; of any record, sound or not, whatever is lent.
use Rattle.std.specs.Prelude.{ℕ, ◌<◌, ◌≡◌, Bool, true, false, List, eqb}
use Rattle.geometry.specs.declared.Part.{Part}
use Rattle.protection.specs.Protection.{factory_words, word_locked_by, word_locked}
use Rattle.plain.specs.declared.Array.TheVariants.{OneTime}
use Rattle.plain.specs.declared.Refusal.TheVariants.{Done}
use Rattle.plain.specs.declared.Device.{Device}
use Rattle.plain.specs.declared.Answer.{Answer}
use Rattle.plain.specs.Events.{Event, cut}
use Rattle.plain.specs.Lent.{Lent, word_at}
use Rattle.plain.specs.Machine.{Ran}
use Rattle.plain.specs.OneTime.{in_one_time, WayOut}
use Rattle.plain.specs.Refusals.{number}
use Rattle.layout.specs.Places.{entered_at, sealed_at}
use Rattle.layout.specs.Image.{word, device_of}
use Rattle.face.specs.Face.{Faced}
use Rattle.audit.specs.Performed.{Allowed, Performed}
use Rattle.audit.specs.Called.{Called, lent_after, Held, Calls}

-- ---- of the public functions

-- "a locked word never changes": no event changes it ..
abbrev pub LockedNeverChangesCode : Part → Type 0
LockedNeverChangesCode p =
    (r : Device) (l after : Lent) (e : Event) (y : Answer) (x : ℕ) → Allowed p r l e y after → word_locked r.bits x ≡ true
    → word_at after OneTime x ≡ word_at l OneTime x

-- .. none takes the customer's lock away ..
abbrev pub LocksStayCode : Part → Type 0
LocksStayCode p =
    (r : Device) (l after : Lent) (e : Event) (y : Answer) → Allowed p r l e y after → r.bits.sealed ≡ true → y.device.bits.sealed ≡ true

-- .. and so no run changes it
abbrev pub LockedInRunsCode : Part → Type 0
LockedInRunsCode p =
    (r : Device) (l : Lent) (es : List Event) (ran : Ran) (x : ℕ) → Performed p r l es ran → word_locked r.bits x ≡ true
    → word_at ran.lent OneTime x ≡ word_at l OneTime x

-- "The factory's words are always locked": no run changes them
abbrev pub FactoryWordsStayCode : Part → Type 0
FactoryWordsStayCode p =
    (r : Device) (l : Lent) (es : List Event) (ran : Ran) (x : ℕ) → Performed p r l es ran → x < factory_words
    → word_at ran.lent OneTime x ≡ word_at l OneTime x

-- "A cut or reset exits and leaves the locks as they are.": the lock, refused or not; and one that is taken exits
abbrev pub CutLeavesLocksCode : Part → Type 0
CutLeavesLocksCode p =
    (r : Device) (l after : Lent) (debris : List ℕ) (y : Answer) → Allowed p r l (cut debris) y after
    → (y.device.bits.sealed ≡ r.bits.sealed) × (y.refusal ≡ Done → in_one_time y.device ≡ false)

-- besides a cut only an F0H, and 00H after 90H, leave the one-time block, and none of them that is refused
abbrev pub OnlyTheseLeaveCode : Part → Type 0
OnlyTheseLeaveCode p =
    (r : Device) (l after : Lent) (e : Event) (y : Answer) → Allowed p r l e y after → in_one_time r ≡ true → in_one_time y.device ≡ false
    → WayOut r.command e × (y.refusal ≡ Done)

-- ---- through C

-- word 31 of a record: "its lock: 1 once the customer's one-time words are sealed"
abbrev pub says_sealed : (words : List ℕ) → Bool
says_sealed i = eqb (word i sealed_at) 1

-- word 30: "1 while it is entered"
abbrev pub says_entered : (words : List ℕ) → Bool
says_entered i = eqb (word i entered_at) 1

abbrev pub LockedNeverChangesCalls : Type 0
LockedNeverChangesCalls =
    (part : ℕ) (words : List ℕ) (l : Lent) (e : Event) (f : Faced) (x : ℕ) → Called part words l e f → word_locked_by (says_sealed words) x ≡ true
    → word_at (lent_after f) OneTime x ≡ word_at l OneTime x

abbrev pub LocksStayCalls : Type 0
LocksStayCalls =
    (part : ℕ) (words : List ℕ) (l : Lent) (e : Event) (f : Faced) → Called part words l e f → says_sealed words ≡ true → says_sealed f.image ≡ true

abbrev pub LockedInRunsCalls : Type 0
LockedInRunsCalls =
    (part : ℕ) (words : List ℕ) (l : Lent) (es : List Event) (ran : Held) (x : ℕ) → Calls part words l es ran → word_locked_by (says_sealed words) x ≡ true
    → word_at ran.lent OneTime x ≡ word_at l OneTime x

abbrev pub FactoryWordsStayCalls : Type 0
FactoryWordsStayCalls =
    (part : ℕ) (words : List ℕ) (l : Lent) (es : List Event) (ran : Held) (x : ℕ) → Calls part words l es ran → x < factory_words
    → word_at ran.lent OneTime x ≡ word_at l OneTime x

abbrev pub CutLeavesLocksCalls : Type 0
CutLeavesLocksCalls =
    (part : ℕ) (words : List ℕ) (l : Lent) (debris : List ℕ) (f : Faced) → Called part words l (cut debris) f
    → (says_sealed f.image ≡ says_sealed words) × (f.refusal ≡ number Done → says_entered f.image ≡ false)

abbrev pub OnlyTheseLeaveCalls : Type 0
OnlyTheseLeaveCalls =
    (part : ℕ) (words : List ℕ) (l : Lent) (e : Event) (f : Faced) → Called part words l e f → says_entered words ≡ true → says_entered f.image ≡ false
    → WayOut (device_of words).command e × (f.refusal ≡ number Done)
