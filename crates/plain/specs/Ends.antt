-- What cannot happen: an operation ends in a block then protected. Document 01 refuses it by number 12, INNER; document 02, request
-- 12: "Show that no sound record can yield it, that every event on a sound record leaves a sound one, and remove the check."
use Rattle.std.specs.Prelude.{ℕ, zero, suc, ◌≡◌, Bool, true, false, ◌&&◌, ◌||◌, List}
use Rattle.geometry.specs.declared.Part.{Part}
use Rattle.protection.specs.declared.Protection.{Protection}
use Rattle.protection.specs.Protection.{protected}
use Rattle.plain.specs.declared.Running.{Running}
use Rattle.plain.specs.declared.Running.TheVariants.{Still, Programs, Waits, Erases, Recovers, ErasesChip}
use Rattle.plain.specs.declared.Device.{Device}
use Rattle.plain.specs.Events.{Event}
use Rattle.plain.specs.Lent.{Lent}
use Rattle.plain.specs.Machine.{now, step, run}
use Rattle.plain.specs.Operations.{running_of}
use Rattle.plain.specs.Programs.{barred}
use Rattle.plain.specs.Record.{fresh}
use Rattle.plain.specs.Refusals.{number}
use Rattle.plain.specs.Sound.{sound}
use Rattle.plain.specs.Time.{Moment, last, tick}

-- ---- "an operation ends in a block then protected", or a program in a one-time word then locked

-- does this microsecond end one so?
unfoldable pub ends_protected : Part → Protection → Running → Bool
ends_protected p bits Still = false
ends_protected p bits (Programs q) = last q.left && barred p bits q.writes
ends_protected p bits (Waits e) = false
ends_protected p bits (Erases e) = last e.left && protected bits e.hand
ends_protected p bits (Recovers r) = false
ends_protected p bits (ErasesChip e) = last e.left && protected bits e.hand

-- does one of n microseconds?
unfoldable pub some_end_protected : Part → Protection → ℕ → Moment → Bool
some_end_protected p bits zero m = false
some_end_protected p bits (suc n) m = ends_protected p bits (running_of m.operation) || some_end_protected p bits n (tick p m)

-- of a record: in a wait of n, over whatever is lent
abbrev pub ends_in_wait : Part → Device → Lent → (microseconds : ℕ) → Bool
ends_in_wait p r l n = some_end_protected p r.bits n (now r l)

-- ---- the statements

-- "no sound record can yield it"
abbrev pub NeverEndsProtected : Part → Type 0
NeverEndsProtected p = (r : Device) (l : Lent) (n : ℕ) → sound p r ≡ true → ends_in_wait p r l n ≡ false

-- "every event on a sound record leaves a sound one", one that is refused too
abbrev pub StaysSound : Part → Type 0
StaysSound p = (r : Device) (l : Lent) (e : Event) → sound p r ≡ true → sound p (step p r l e).answer.device ≡ true

-- so no run of a fresh device comes to it
abbrev pub NoRunEndsProtected : Part → Type 0
NoRunEndsProtected p = (start : Lent) (es : List Event) (l : Lent) (n : ℕ) → ends_in_wait p (run p fresh start es).device l n ≡ false

-- "Number 12 stays unused": it is no event's answer, on any record, sound or not
abbrev pub NoneAnswers12 : Part → Type 0
NoneAnswers12 p = (r : Device) (l : Lent) (e : Event) → number (step p r l e).answer.refusal ≡ 12 → ⊥
