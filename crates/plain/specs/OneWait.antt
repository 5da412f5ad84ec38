-- Document 02, request 8, its first part: "One wait or two. The emulator may wake early and wait again."
use Rattle.std.specs.Prelude.{ℕ, ◌+◌, ◌≡◌, Bool, true, false, List, [], ◌∷◌}
use Rattle.geometry.specs.declared.Part.{Part}
use Rattle.plain.specs.declared.Refusal.TheVariants.{Done}
use Rattle.plain.specs.declared.Device.{Device}
use Rattle.std.specs.Prelude.{if◌then◌else◌}
use Rattle.plain.specs.Events.{Event, read, write, wait, cut, range, Turn}
use Rattle.plain.specs.Lent.{Lent}
use Rattle.plain.specs.Machine.{Outcome, step, run}

abbrev pub Taken : Outcome → Type 0
Taken o = o.answer.refusal ≡ Done

-- "waits of a and of b with nothing between": the second on the record and over the words that the first left
abbrev pub wait_twice : Part → Device → Lent → (a b : ℕ) → Outcome
wait_twice p r l a b =
    let first = step p r l (wait a) in
    step p first.answer.device first.lent (wait b)

-- ---- the statements, on any record, sound or not, whatever is lent

-- "if a wait of a plus b is taken, then waits of a and of b with nothing between are both taken, and record, cells, clock and charge are equal":
-- so are the one-time words
abbrev pub OneWaitOrTwo : Part → Type 0
OneWaitOrTwo p =
    (r : Device) (l : Lent) (a b : ℕ) → Taken (step p r l (wait (a + b)))
    → Taken (step p r l (wait a)) × (Taken (wait_twice p r l a b) × (wait_twice p r l a b ≡ step p r l (wait (a + b))))

-- and where the two are taken, so is the one
abbrev pub TwoWaitsOrOne : Part → Type 0
TwoWaitsOrOne p =
    (r : Device) (l : Lent) (a b : ℕ) → Taken (step p r l (wait a)) → Taken (wait_twice p r l a b) → Taken (step p r l (wait (a + b)))

-- ---- in a run: as often as the emulator likes

-- the same events, but any wait in two, and each of these again
pub data Woken : (whole woken : List Event) → Type 0 where
  none : Woken [] []
  next : {e : Event} {es fs : List Event} → Woken es fs → Woken (e ∷ es) (e ∷ fs)
  early : {a b : ℕ} {es fs : List Event} → Woken (wait a ∷ wait b ∷ es) fs → Woken (wait (a + b) ∷ es) fs

unfoldable pub is_wait : Event → Bool
is_wait (read a) = false
is_wait (write a w) = false
is_wait (wait n) = true
is_wait (cut debris) = false
is_wait (range first count) = false

-- every wait of a run is taken
unfoldable pub WaitsTaken : List Turn → Type 0
WaitsTaken [] = Unit
WaitsTaken (t ∷ ts) = (is_wait t.event ≡ true → t.refusal ≡ Done) × WaitsTaken ts

-- all else of a run, with its answers
unfoldable pub besides_waits : List Turn → List Turn
besides_waits [] = []
besides_waits (t ∷ ts) = if is_wait t.event then besides_waits ts else t ∷ besides_waits ts

-- waking early, and waiting again, leaves the record, every word and all other answers as they are, and no wait is refused for it ..
abbrev pub WakingChangesNothing : Part → Type 0
WakingChangesNothing p =
    (r : Device) (l : Lent) (es fs : List Event) → Woken es fs
    → let whole = run p r l es in
    let woken = run p r l fs in
    WaitsTaken whole.turns
    → WaitsTaken woken.turns
    × ((woken.device ≡ whole.device) × ((woken.lent ≡ whole.lent) × (besides_waits woken.turns ≡ besides_waits whole.turns)))

-- .. nor is one taken for it that would else be refused
abbrev pub WakingGainsNothing : Part → Type 0
WakingGainsNothing p =
    (r : Device) (l : Lent) (es fs : List Event) → Woken es fs → WaitsTaken (run p r l fs).turns → WaitsTaken (run p r l es).turns
