-- At each turn the wait that is left, from where it stands, comes to the whole wait.
use mathlib.Core.Path.{◌∙◌}
use native.Mathlib.Omega.{arith}
use Rattle.plain.specs.declared.Array.TheVariants.{Main}
use Rattle.erasing.proofs.Laws.{some_left, hand-below, block-turn, erase-over, erase-stops}
use Rattle.erasing.proofs.pass_erase.Goals as goal

pub finish-requires : goal.finish-requires
finish-requires c =
    c.loop-at.invariant.fit.whole Main

pub after-requires : goal.after-requires
after-requires c =
    hand-below _ _ _ _ _ _ _ _ c.loop-at.invariant

pub returns-in_default : goal.returns-in_default
returns-in_default c =
    let done = erase-over _ _ _ _ _ _ _ _ c.loop-at.invariant c.loop-at-test.true (rw (c.after.ensures, c.block_time.ensures) at c.in_default.is) in
    record {
      value = rw (c.stood_by.ensures, c.ran-spent.ensures) done.result;
      cells_after = c.finish.ensures ∙ done.exit.0;
      otp_value = done.exit.1;
    }

pub loop-at-smaller : goal.loop-at-smaller
loop-at-smaller c =
    omega (arith, some_left _ _ _ _ _ _ _ _ c.loop-at.invariant)

pub loop-at-preserved : goal.loop-at-preserved
loop-at-preserved c =
    rw (c.finish.ensures, c.ran-spent.ensures)
    (block-turn _ _ _ _ _ _ _ _ c.loop-at.invariant c.loop-at-test.true _ (rw (c.after.ensures, c.block_time.ensures) at c.in-Some.is))

pub returns : goal.returns
returns c =
    let done = erase-stops _ _ _ _ _ _ _ _ c.loop-at.invariant c.loop-at-test.false in
    record {
      value = rw (c.erasing.ensures, c.ran.ensures) done.result;
      cells_after = done.exit.0;
      otp_value = done.exit.1;
    }
