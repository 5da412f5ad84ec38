use mathlib.Core.Path.{sym, ◌∙◌}
use borrow.Author.Rules.{rules}
use Rattle.plain.specs.Commands.{effected}
use Rattle.plain.proofs.EventLaws.{write-barred}
use Rattle.plain.proofs.Ladder.{admitted}
use Rattle.answers.proofs.Outcomes.{answers}
use Rattle.access.proofs.write.Goals as goal

pub admitted_write-requires : goal.admitted_write-requires
unfolding effected
admitted_write-requires c =
    admitted _ _ _ (sym (c.entry.ensures _ c.is_sound.ensures) ∙ c.in-Ok.is)

pub returns-in-Err : goal.returns-in-Err
unfolding effected
returns-in-Err c =
    answers (write-barred _ _ _ _ _ _ (sym (c.entry.ensures _ c.is_sound.ensures) ∙ c.in-Err.is))

pub returns-in-Ok : goal.returns-in-Ok
unfolding effected
returns-in-Ok c =
    search rules
