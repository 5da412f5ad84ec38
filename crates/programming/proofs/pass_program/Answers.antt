use mathlib.Core.Path.{◌∙◌}
use Rattle.plain.proofs.Facts.{programming}
use Rattle.programming.proofs.Laws.{told, passed-alone}
use Rattle.programming.proofs.pass_program.Goals as goal

pub run-left-requires-clause-whole : goal.run-left-requires-clause-whole
run-left-requires-clause-whole c =
    (c.requires.whole, (programming _ _ _ c.requires.sound).in-part)

pub returns : goal.returns
returns c =
    let done = passed-alone _ _ _ _ _ c.requires in
    let ran = c.run-left.ensures in
    record {
      value = rw (ran.meter, told _ _ _ _ c.map_or.ensures, ran.left) done.result;
      cells_after = ran.cells_after ∙ done.exit.0;
      otp_after = ran.otp_after ∙ done.exit.1;
    }
