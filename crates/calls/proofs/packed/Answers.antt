use native.Mathlib.Omega.{arith}
use Rattle.plain.proofs.Refusals.{number-below}
use borrow.Author.Rules.{rules}
use Rattle.calls.proofs.packed.Goals as goal

pub overflow_mul-result : goal.overflow_mul-result
overflow_mul-result c =
    omega (arith, c.number_of.ensures, number-below c.args.refusal)

pub overflow_add-result : goal.overflow_add-result
overflow_add-result c =
    omega (arith, c.number_of.ensures, number-below c.args.refusal)

pub returns : goal.returns
returns c =
    rw c.number_of.ensures
