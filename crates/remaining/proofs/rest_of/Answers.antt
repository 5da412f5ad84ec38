use mathlib.Core.Path.{refl}
use native.Mathlib.Omega.{arith}
use Rattle.remaining.proofs.Counting.{rest-fits, rest-sums}
use Rattle.remaining.proofs.rest_of.Goals as goal

pub overflow_mul-result : goal.overflow_mul-result
overflow_mul-result c =
    let a = c.args in rw c.to_come.ensures (omega (arith, rest-fits a.part a.erase.list a.erase.hand _ c.requires.left_bound.1))

pub overflow_add-result : goal.overflow_add-result
overflow_add-result c =
    let a = c.args in
    let asked = c.requires.left_bound in
    rw c.to_come.ensures (omega (arith, (rest-sums a.part a.erase.list a.erase.hand _ _ asked.0 asked.1).0))

pub returns : goal.returns
returns c =
    let a = c.args in
    let asked = c.requires.left_bound in rw c.to_come.ensures (record { value = refl; full_bound = (rest-sums a.part a.erase.list a.erase.hand _ _ asked.0 asked.1).1 })
