use mathlib.Core.Path.{sym, ◌∙◌}
use native.Mathlib.Omega.{arith}
use Rattle.std.proofs.lemmas.Grind.{common_steps}
use Rattle.face.proofs.Faces.{read-barred}
use Rattle.idling.proofs.Idle.{read-address, read_cell}
use Rattle.std.proofs.lemmas.Bool.Decides.{nat_tests}
use Rattle.std.proofs.Common.{◌<◌, ◌≤◌, length}
use Rattle.idling.proofs.read.Goals as goal

pub returns-in_err-entry : goal.returns-in_err-entry
returns-in_err-entry c =
    rw (read-barred _ _ _ _ _ _ (sym c.entry.ensures ∙ c.in_err-entry.was)) (grind (arith, common_steps))

pub returns-in-Some : goal.returns-in-Some
returns-in-Some c =
    let inside : c.args.address < length c.args.cells.now = grind (arith, common_steps, nat_tests) in
    rw (read_cell _ _ c.requires _ _ (sym c.entry.ensures ∙ c.in_ok-entry.was) _ inside) (grind (arith, common_steps))

pub returns-in-None : goal.returns-in-None
returns-in-None c =
    let past : length c.args.cells.now ≤ c.args.address = grind (arith, common_steps, nat_tests) in
    rw (read-address _ _ c.requires _ _ (sym c.entry.ensures ∙ c.in_ok-entry.was) _ past) (grind (arith, common_steps))
