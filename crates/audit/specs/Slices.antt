-- Slices that a caller lends, as the contracts speak of them: where each lies, and the words that it holds. One that is lent to be changed
-- (`_mut`) has a name besides.
use Rattle.std.specs.Prelude.{ℕ, List}
use Rattle.std.specs.Borrow.{GName, Bor, MutBor}
use Rattle.plain.specs.Lent.{Lent}

pub record Location : Type 0 where
  pub pointer : ℕ × ℕ
  pub name : GName

abbrev pub slice : Location → (words : List ℕ) → Bor (List ℕ)
slice at words = record { ref_ptr = at.pointer; now = words }

abbrev pub slice_mut : Location → (words : List ℕ) → MutBor (List ℕ)
slice_mut at words = record { ref_ptr = at.pointer; ghost_name = at.name; now = words }

-- the cells and the one-time words, and the arguments after them
abbrev pub slices : {A : Type 0} → (at by : Location) → Lent → A → Bor (List ℕ) × (Bor (List ℕ) × A)
slices at by l rest = (slice at l.cells, (slice by l.otp, rest))

abbrev pub slices_mut : {A : Type 0} → (at by : Location) → Lent → A → MutBor (List ℕ) × (MutBor (List ℕ) × A)
slices_mut at by l rest = (slice_mut at l.cells, (slice_mut by l.otp, rest))
