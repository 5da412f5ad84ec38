use mathlib.Core.Path.{sym, ◌∙◌}
use borrow.Author.Rules.{rules}
use Rattle.std.proofs.lemmas.Result.{err_from_is_err_and}
use Rattle.plain.proofs.EventLaws.{read-barred}
use Rattle.plain.proofs.Ladder.{admitted}
use Rattle.answers.proofs.Outcomes.{answers}
use Rattle.access.specs.Sights.{sighted}
use Rattle.access.proofs.read.Goals as goal

pub admitted_read-requires : goal.admitted_read-requires
unfolding sighted
admitted_read-requires c =
    admitted _ _ _ (sym (c.entry.ensures _ c.is_sound.ensures) ∙ c.in_ok-entry.was)

pub returns-in_err-entry : goal.returns-in_err-entry
unfolding sighted
returns-in_err-entry c =
    let p = err_from_is_err_and c.from_residual.result c.from_residual.ensures.1 in
    rw (p.1, p.2) (answers (read-barred _ _ _ _ _ (sym (c.entry.ensures _ c.is_sound.ensures) ∙ c.in_err-entry.was)))
