-- What the plain machine leaves of a device and what it is lent, on the small part, event by event.
use Rattle.std.specs.Prelude.{ℕ, List}
use Rattle.geometry.specs.declared.Part.TheVariants.{Small}
use Rattle.plain.specs.declared.Device.{Device}
use Rattle.plain.specs.Lent.{Lent}
use Rattle.plain.specs.Machine.{Outcome, read_event, write_event, wait_event, cut_event, range_event}

-- the record, the cells and the one-time words, as a line finds or leaves them
pub record State : Type 0 where
  pub device : Device
  pub lent : Lent

abbrev pub state : Device → Lent → State
state r l = record { device = r; lent = l }

abbrev after : Outcome → State
after o = state o.answer.device o.lent

abbrev pub after_read : Device → Lent → (address : ℕ) → State
after_read r l a = state (read_event Small r l a).answer.device l

abbrev pub after_write : Device → Lent → (address word : ℕ) → State
after_write r l a w = state (write_event Small r l a w).answer.device l

abbrev pub after_wait : Device → Lent → (microseconds : ℕ) → State
after_wait r l d = after (wait_event Small r l d)

abbrev pub after_cut : Device → Lent → (debris : List ℕ) → State
after_cut r l debris = after (cut_event Small r l debris)

abbrev pub after_range : Device → Lent → (first count : ℕ) → State
after_range r l first count = state (range_event Small r l first count).answer.device l
