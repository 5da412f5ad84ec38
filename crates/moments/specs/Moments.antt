-- What a wait asks of the record, as soundness and the clock's limit give it, and what it changes.
use Rattle.std.specs.Prelude.{ℕ, ◌+◌, ◌*◌, ◌≤◌, ◌≡◌, true}
use Rattle.geometry.specs.declared.Part.{Part}
use Rattle.meter.specs.declared.Meter.{Meter}
use Rattle.protection.specs.declared.Protection.{Protection}
use Rattle.plain.specs.declared.Operation.{Operation}
use Rattle.plain.specs.Figures.{running_current, clock_limit}
use Rattle.plain.specs.Lent.{Lent, Whole}
use Rattle.plain.specs.Sound.{operation_sound}
use Rattle.plain.specs.Time.{Moment, moment, ticks}
use Rattle.moments.specs.declared.Moved.{Moved}

-- the meter and the operation of a moment
abbrev pub moved : Moment → Moved
moved m = record { meter = m.meter; operation = m.operation }

-- n microseconds make this of a meter and an operation, and leave what is lent as it is, whatever that is
abbrev pub MovesAlone : Part → (n : ℕ) → Meter → Operation → Moved → Type 0
MovesAlone p n m o r = (l : Lent) → ticks p n (moment m o l) ≡ moment r.meter r.operation l

-- the wait ends within the clock's limit, and the charge so far is a sound one
pub record Room (p : Part) (m : Meter) (n : ℕ) : Type 0 where
  pub clock : m.clock + n ≤ clock_limit p
  pub charge : m.charge ≤ running_current p * m.clock

-- besides, what is lent is whole, and the operation is sound under some protection
pub record Passable (p : Part) (m : Meter) (o : Operation) (l : Lent) (n : ℕ) : Type 0 where
  pub room : Room p m n
  pub whole : Whole p l
  pub bits : Protection
  pub sound : operation_sound p bits o ≡ true
