-- How much debris a cut can need, and what is left of it for the program.
use Rattle.std.specs.Prelude.{Option, None, Some}
use Prim.Native.Nat.{ℕ, ◌+◌, ◌^◌, ◌<◌, ◌≤◌}
use mathlib.Core.Path.{◌≡◌}
use mathlib.Core.List.{List}
use native.Mathlib.Omega.{arith}
use lib.ListN.{length, drop, length-drop}
use Rattle.geometry.specs.declared.Part.{Part}
use Rattle.geometry.proofs.Laid.{block-fits, words-le}
use Rattle.plain.specs.declared.Operation.{Operation}
use Rattle.plain.specs.Lent.{Lent}
use Rattle.plain.specs.Programs.{debris_words}
use Rattle.plain.specs.Cut.{begun_block, begun_program, block_debris, program_debris, debris_needed}
use Rattle.plain.proofs.CutCells.{block-enough}
use Rattle.cutting.specs.Cuttable.{Cuttable}
use Rattle.plain.specs.declared.Written.{Written}

-- their sum fits: a block has no more words than the part
pub debris-fits : (p : Part) (block : Option ℕ) (program : Option Written) → block_debris p block + program_debris program < 2 ^ 64
unfolding block_debris program_debris debris_words
debris-fits p None None = omega arith
debris-fits p None (Some d) = omega arith
debris-fits p (Some b) None = omega (arith, block-fits p b, words-le p)
debris-fits p (Some b) (Some d) = omega (arith, block-fits p b, words-le p)

-- "A begun erase needs as many debris words as the block in hand has; a begun program needs one, after those."
module _ {p : Part} {o : Operation} {l : Lent} {debris : List ℕ} (cut : Cuttable p o l debris) {block : Option ℕ} (hand : block ≡ begun_block p o) where
  pub block_within : block_debris p block ≤ length debris
  block_within = rw hand (block-enough p o debris l cut.whole cut.enough)

  pub program-within : (next : ℕ) → next ≤ block_debris p block → program_debris (begun_program p o) ≤ length (drop next debris)
  unfolding debris_needed
  program-within next h = rw (length-drop next debris) (omega (arith, cut.enough, rw hand at h))
