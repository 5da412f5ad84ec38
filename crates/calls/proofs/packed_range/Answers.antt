use mathlib.Core.Path.{sym, ◌∙◌}
use native.Mathlib.Omega.{arith}
use borrow.Author.Tests.{ne_eqb}
use Rattle.plain.proofs.Refusals.{number-below}
use Rattle.face.proofs.Ranges.{two-arrays}
use Rattle.calls.proofs.packed_range.Goals as goal

pub overflow_mul-result : goal.overflow_mul-result
overflow_mul-result c =
    omega (arith, c.number_of-number.ensures, number-below c.args.refusal)

pub returns-then-number-ne0 : goal.returns-then-number-ne0
returns-then-number-ne0 c =
    rw (← c.number_of-number.ensures, ne_eqb _ _ c.if-number-ne0.true)

pub overflow_mul-result-2 : goal.overflow_mul-result-2
overflow_mul-result-2 c =
    omega (arith, c.array_number.ensures, two-arrays c.args.array)

pub overflow_add-result : goal.overflow_add-result
overflow_add-result c =
    omega (arith, c.array_number.ensures, two-arrays c.args.array, c.requires (sym c.number_of-number.ensures ∙ c.if-number-ne0.false))

pub returns : goal.returns
returns c =
    rw (c.array_number.ensures, ← c.number_of-number.ensures, c.if-number-ne0.false)
