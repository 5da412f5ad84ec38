use mathlib.Core.Path.{◌∙◌}
use native.Mathlib.Omega.{arith}
use borrow.Author.Rules.{rules}
use Rattle.plain.proofs.EventLaws.{wait-clock, wait-passes}
use Rattle.plain.proofs.Facts.{sound-clock}
use Rattle.answers.proofs.Outcomes.{answers, leaves}
use Rattle.elapsed.specs.Lapses.{lapsed}
use Rattle.elapsed.proofs.Passable.{passable}
use Rattle.elapsed.proofs.admitted_wait.Goals as goal

pub overflow_sub-clock_limit : goal.overflow_sub-clock_limit
unfolding lapsed
overflow_sub-clock_limit c =
    rw c.clock_limit.ensures (sound-clock _ _ c.requires.sound)

pub returns-then-clock_limit-meter : goal.returns-then-clock_limit-meter
unfolding lapsed
returns-then-clock_limit-meter c =
    let fit = c.requires in
    let same = wait-clock _ _ _ _ fit (omega (arith, sound-clock _ _ fit.sound, rw c.clock_limit.ensures at c.if-clock_limit-meter.true)) in record { result_value = answers same; cells_after = (leaves same).0; otp_after = (leaves same).1 }

pub pass-requires : goal.pass-requires
unfolding lapsed
pass-requires c =
    let fit = c.requires in
    passable _ _ _ _ fit (omega (arith, sound-clock _ _ fit.sound, rw c.clock_limit.ensures at c.if-clock_limit-meter.false))

pub returns : goal.returns
unfolding lapsed
returns c =
    let fit = c.requires in
    let same = wait-passes _ _ _ _ fit (omega (arith, sound-clock _ _ fit.sound, rw c.clock_limit.ensures at c.if-clock_limit-meter.false)) in
    let passed = c.pass.ensures in record { result_value = rw passed.value (answers same); cells_after = passed.cells_after ∙ (leaves same).0; otp_after = passed.otp_after ∙ (leaves same).1 }
