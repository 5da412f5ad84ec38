-- What a cut that is taken is lent.
use Rattle.std.specs.Prelude.{ℕ, ◌≤◌, List, length}
use Rattle.geometry.specs.declared.Part.{Part}
use Rattle.plain.specs.declared.Operation.{Operation}
use Rattle.plain.specs.Cut.{begun_program, debris_needed}
use Rattle.plain.specs.Lent.{Lent, Whole}
use Rattle.plain.proofs.CutCells.{Lies}

-- both arrays whole, debris enough, and an operation whose begun program lies in its array
pub record Cuttable (p : Part) (o : Operation) (l : Lent) (debris : List ℕ) : Type 0 where
  pub whole : Whole p l
  pub enough : debris_needed p o ≤ length debris
  pub inside : Lies p (begun_program p o)
