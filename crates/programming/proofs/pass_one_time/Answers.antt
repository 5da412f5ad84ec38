use mathlib.Core.Path.{◌∙◌}
use Rattle.plain.proofs.Facts.{one-time-programming}
use Rattle.programming.proofs.Laws.{told, passed-one-time}
use Rattle.programming.proofs.pass_one_time.Goals as goal

pub run-left-requires-clause-whole : goal.run-left-requires-clause-whole
run-left-requires-clause-whole c =
    (c.requires.whole, (one-time-programming _ _ _ c.requires.sound).in-part)

pub returns : goal.returns
returns c =
    let done = passed-one-time _ _ _ _ _ c.requires in
    let ran = c.run-left.ensures in
    record {
      value = rw (ran.meter, told _ _ _ _ c.map_or.ensures, ran.left) done.result;
      cells_after = ran.cells_after ∙ done.exit.0;
      otp_after = ran.otp_after ∙ done.exit.1;
    }
