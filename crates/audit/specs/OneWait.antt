-- Document 02, request 8, its first part (plain/specs/OneWait): one wait or two. Of the public functions, for every answer that their contracts
-- allow, and of every call through C; of any record, sound or not, whatever is lent.
use Rattle.std.specs.Prelude.{ℕ, ◌+◌, ◌≡◌, List}
use Rattle.geometry.specs.declared.Part.{Part}
use Rattle.plain.specs.declared.Refusal.TheVariants.{Done}
use Rattle.plain.specs.declared.Device.{Device}
use Rattle.plain.specs.declared.Answer.{Answer}
use Rattle.plain.specs.Events.{Event, wait}
use Rattle.plain.specs.Lent.{Lent}
use Rattle.plain.specs.Machine.{Ran}
use Rattle.plain.specs.OneWait.{Woken, WaitsTaken, besides_waits}
use Rattle.plain.specs.Refusals.{number}
use Rattle.face.specs.Face.{Faced}
use Rattle.audit.specs.Performed.{Allowed, Performed}
use Rattle.audit.specs.Called.{Called, lent_after, Held, Calls}

-- ---- of the public functions

-- a wait of a + b, and, on a device that is the same, a wait of a and then one of b
pub record Waits (p : Part) (r : Device) (l : Lent) (a b : ℕ) (one first second : Answer) (after between twice : Lent) : Type 0 where
  pub once : Allowed p r l (wait (a + b)) one after
  pub early : Allowed p r l (wait a) first between
  pub again : Allowed p first.device between (wait b) second twice

-- "if a wait of a plus b is taken, then waits of a and of b with nothing between are both taken, and record, cells, clock and charge are equal"
abbrev pub OneWaitOrTwoCode : Part → Type 0
OneWaitOrTwoCode p =
    (r : Device) (l : Lent) (a b : ℕ) (one first second : Answer) (after between twice : Lent) → Waits p r l a b one first second after between twice
    → one.refusal ≡ Done → (first.refusal ≡ Done) × ((second.refusal ≡ Done) × ((second.device ≡ one.device) × (twice ≡ after)))

-- and where the two are taken, so is the one
abbrev pub TwoWaitsOrOneCode : Part → Type 0
TwoWaitsOrOneCode p =
    (r : Device) (l : Lent) (a b : ℕ) (one first second : Answer) (after between twice : Lent) → Waits p r l a b one first second after between twice
    → first.refusal ≡ Done → second.refusal ≡ Done → one.refusal ≡ Done

-- so in a run the emulator may wake early as often as it likes
abbrev pub WakingChangesNothingCode : Part → Type 0
WakingChangesNothingCode p =
    (r : Device) (l : Lent) (es fs : List Event) (whole woken : Ran) → Woken es fs → Performed p r l es whole → Performed p r l fs woken
    → WaitsTaken whole.turns
    → WaitsTaken woken.turns
    × ((woken.device ≡ whole.device) × ((woken.lent ≡ whole.lent) × (besides_waits woken.turns ≡ besides_waits whole.turns)))

-- ---- through C

pub record CallWaits (part : ℕ) (words : List ℕ) (l : Lent) (a b : ℕ) (one first second : Faced) : Type 0 where
  pub once : Called part words l (wait (a + b)) one
  pub early : Called part words l (wait a) first
  pub again : Called part first.image (lent_after first) (wait b) second

abbrev pub OneWaitOrTwoCalls : Type 0
OneWaitOrTwoCalls =
    (part : ℕ) (words : List ℕ) (l : Lent) (a b : ℕ) (one first second : Faced) → CallWaits part words l a b one first second
    → one.refusal ≡ number Done
    → (first.refusal ≡ number Done) × ((second.refusal ≡ number Done) × ((second.image ≡ one.image) × (lent_after second ≡ lent_after one)))

abbrev pub TwoWaitsOrOneCalls : Type 0
TwoWaitsOrOneCalls =
    (part : ℕ) (words : List ℕ) (l : Lent) (a b : ℕ) (one first second : Faced) → CallWaits part words l a b one first second
    → first.refusal ≡ number Done → second.refusal ≡ number Done → one.refusal ≡ number Done

abbrev pub WakingChangesNothingCalls : Type 0
WakingChangesNothingCalls =
    (part : ℕ) (words : List ℕ) (l : Lent) (es fs : List Event) (whole woken : Held) → Woken es fs → Calls part words l es whole → Calls part words l fs woken
    → WaitsTaken whole.turns
    → WaitsTaken woken.turns
    × ((woken.words ≡ whole.words) × ((woken.lent ≡ whole.lent) × (besides_waits woken.turns ≡ besides_waits whole.turns)))

abbrev pub WakingGainsNothingCalls : Type 0
WakingGainsNothingCalls =
    (part : ℕ) (words : List ℕ) (l : Lent) (es fs : List Event) (whole woken : Held) → Woken es fs → Calls part words l es whole → Calls part words l fs woken
    → WaitsTaken woken.turns → WaitsTaken whole.turns
