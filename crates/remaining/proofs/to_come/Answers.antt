-- At each turn what has been counted and what is still listed from here on make the whole.
use Prim.Native.Nat.{◌+◌}
use native.Mathlib.Omega.{arith}
use Rattle.blocks.proofs.Lowest.{first-from}
use Rattle.geometry.proofs.Counts.{blocks-most}
use Rattle.remaining.proofs.Counting.{count-begins, count-goes-on, count_most, count-ends}
use Rattle.remaining.proofs.to_come.Goals as goal

pub overflow_add-hand : goal.overflow_add-hand
overflow_add-hand c =
    omega (arith, c.requires, blocks-most c.args.part)

pub loop-at-init : goal.loop-at-init
loop-at-init c =
    rw c.first_from-at.ensures (count-begins _ _ _)

pub overflow_add-count : goal.overflow_add-count
overflow_add-count c =
    omega (arith, count_most _ _ c.loop-at.invariant)

pub loop-at-smaller : goal.loop-at-smaller
loop-at-smaller c =
    omega (arith, c.first_from-at-in-loop-at.ensures, c.loop-at-test.true, c.blocks-in-loop-at.ensures, blocks-most c.args.part, first-from c.args.list (c.loop-at.at + 1))

pub loop-at-preserved : goal.loop-at-preserved
loop-at-preserved c =
    rw c.first_from-at-in-loop-at.ensures (count-goes-on _ _ c.loop-at.invariant (rw c.blocks-in-loop-at.ensures at c.loop-at-test.true))

pub returns : goal.returns
returns c =
    count-ends _ _ c.loop-at.invariant (rw c.blocks-in-loop-at.ensures at c.loop-at-test.false)
