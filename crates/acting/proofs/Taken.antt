-- A block that takes its words from more than it has takes those it names.
use Prim.Native.Nat.{ℕ, ◌≤◌}
use mathlib.Core.Path.{◌≡◌}
use mathlib.Core.List.{List}
use native.Mathlib.Omega.{arith}
use lib.ListN.{length, take}
use lib.Seq.{length-take-le, take-take}
use Rattle.cells.specs.Cells.{littered}

pub litters : (cells words : List ℕ) (a n : ℕ) → n ≤ length words → littered cells a n words ≡ littered cells a (length (take n words)) (take n words)
unfolding littered
litters cells words a n h = rw (length-take-le n words h, take-take n n words (omega arith))
