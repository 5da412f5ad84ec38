use Rattle.std.proofs.Common.{◌≡◌, ◌<◌, drop}
use Rattle.sums.specs.Sums.{summed}
use Rattle.sums.proofs.sums_of.Given as goal

abbrev pub invariant-loop-cell : goal.invariant-loop-cell
invariant-loop-cell l =
    (l.sums.first < 65521) × (l.sums.second < 65521) × (summed l.sums (drop l.cell-index l.cells) ≡ summed l.initial.sums l.cells)
