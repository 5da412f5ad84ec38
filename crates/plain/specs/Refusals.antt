-- Document 01, "Refusals by number", and the refusals of document 02: the number of each answer. Number 12 was that of a condition that
-- nothing meets (Ends).
use Rattle.std.specs.Prelude.{ℕ, ◌≡◌}
use Rattle.plain.specs.declared.Refusal.{Refusal}
use Rattle.plain.specs.declared.Refusal.TheVariants.{Done, State, Cells, Address, Clock, Debris, Busy, Sequence, Bank, Protected, Suspended, Locked, OtpLocked, Raise}

unfoldable pub number : Refusal → ℕ
number Done = 0
number State = 1
number Cells = 2
number Address = 3
number Clock = 4
number Debris = 5
number Busy = 6
number Sequence = 7
number Bank = 8
number Protected = 9
number Suspended = 10
number Locked = 11
number OtpLocked = 13
number Raise = 14

-- "Number 12 stays unused." (document 02, request 12)
abbrev pub TwelveUnused : Type 0
TwelveUnused = (n : Refusal) → number n ≡ 12 → ⊥
