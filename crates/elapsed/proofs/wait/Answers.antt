use mathlib.Core.Path.{sym, ◌∙◌}
use borrow.Author.Rules.{rules}
use Rattle.std.proofs.lemmas.Result.{err_from_is_err_and}
use Rattle.plain.proofs.EventLaws.{wait-barred}
use Rattle.plain.proofs.Ladder.{admitted}
use Rattle.answers.proofs.Outcomes.{answers, leaves}
use Rattle.elapsed.specs.Lapses.{lapsed}
use Rattle.elapsed.proofs.wait.Goals as goal

pub admitted_wait-requires : goal.admitted_wait-requires
unfolding lapsed
admitted_wait-requires c =
    admitted _ _ _ (sym (c.entry.ensures _ c.is_sound.ensures) ∙ c.in_ok-entry.was)

pub returns-in_err-entry : goal.returns-in_err-entry
unfolding lapsed
returns-in_err-entry c =
    let p = err_from_is_err_and c.from_residual.result c.from_residual.ensures.1 in
    let same = wait-barred _ _ _ _ _ (sym (c.entry.ensures _ c.is_sound.ensures) ∙ c.in_err-entry.was) in
    rw (p.1, p.2) (record { result_value = answers same; cells_after = (leaves same).0; otp_after = (leaves same).1 })
