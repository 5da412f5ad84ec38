-- Document 01, "Events", and what is told of each: the words in which a run is spoken of.
use Rattle.std.specs.Prelude.{ℕ, List}
use Rattle.plain.specs.declared.Refusal.{Refusal}

-- "Read(address), write(address, data), wait(d microseconds), cut(debris). A cut is loss of power or RESET# low."; document 02, request 4:
-- "a read of a range"
pub data Event : Type 0 where
  read : (address : ℕ) → Event
  write : (address word : ℕ) → Event
  wait : (microseconds : ℕ) → Event
  cut : (debris : List ℕ) → Event
  range : (first count : ℕ) → Event

-- an event with its answer: the refusal and the word
pub record Turn : Type 0 where
  pub event : Event
  pub refusal : Refusal
  pub word : ℕ
