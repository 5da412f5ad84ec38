use mathlib.Core.Path.{sym, ◌∙◌}
use native.Mathlib.Omega.{arith}
use Rattle.deeds.specs.Deeds.{does}
use Rattle.deeds.specs.Tells.{tells}
use Rattle.reporting.proofs.Mores.{alone, followed}
use Rattle.reporting.proofs.Ranges.{told-as}
use Rattle.reporting.proofs.range.Goals as goal

pub returns-then-ne : goal.returns-then-ne
unfolding does tells
returns-then-ne c =
    let a = rw c.refused.ensures at c.answered-left.ensures in
    let n = told-as _ _ _ _ _ (rw c.small-part.ensures at c.range_refusal-refusal.ensures) in
    record { value = rw (← n) a.value; told = rw (← n) (alone _ _ a.told (sym c.ne.ensures ∙ c.if-ne.true) (omega arith)) }

pub returns : goal.returns
unfolding does tells
returns c =
    let a = rw c.refused.ensures at c.answered-left.ensures in
    let small = c.small-part.ensures in
    let n = told-as _ _ _ _ _ (rw small at c.range_refusal-refusal.ensures) in
    let handed = rw (c.range_array-array.ensures, c.sums_of.ensures, c.range-words.ensures, small) at c.range.ensures in
    record { value = rw (← n) a.value; told = rw (← n) (followed _ a.told handed (sym c.ne.ensures ∙ c.if-ne.false) (omega arith)) }
