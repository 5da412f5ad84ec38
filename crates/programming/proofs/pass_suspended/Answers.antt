use mathlib.Core.Path.{◌∙◌}
use Rattle.programming.proofs.Laws.{told, inside-facts, passed-inside, suspended-stands}
use Rattle.programming.proofs.pass_suspended.Goals as goal

pub run-left-requires-clause-whole : goal.run-left-requires-clause-whole
run-left-requires-clause-whole c =
    (c.requires.whole, (inside-facts _ _ _ _ _ _ c.in-Runs.is c.requires).in-part)

pub returns-in-Nothing : goal.returns-in-Nothing
returns-in-Nothing c =
    let done = suspended-stands _ _ _ _ _ c.in-Nothing.is in
    record { value = rw c.stood_by.ensures done.result; cells_after = done.exit.0; otp_after = done.exit.1 }

pub returns-in-Runs : goal.returns-in-Runs
returns-in-Runs c =
    let done = passed-inside _ _ _ _ _ _ c.in-Runs.is c.requires in
    let ran = c.run-left.ensures in
    record {
      value = rw (ran.meter, told _ _ _ _ c.map_or.ensures, ran.left) done.result;
      cells_after = ran.cells_after ∙ done.exit.0;
      otp_after = ran.otp_after ∙ done.exit.1;
    }
