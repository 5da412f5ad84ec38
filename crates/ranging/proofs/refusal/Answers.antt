use mathlib.Core.Path.{sym, ◌∙◌}
use borrow.Author.Rules.{rules}
use Rattle.plain.proofs.Ladder.{admitted}
use Rattle.ranging.proofs.Laws.{range-barred, range-admitted}
use Rattle.ranging.proofs.refusal.Goals as goal

pub returns-in-Err : goal.returns-in-Err
returns-in-Err c =
    range-barred _ _ _ _ _ _ (sym (c.entry.ensures _ c.is_sound.ensures) ∙ c.in-Err.is)

pub returns-in-Ok : goal.returns-in-Ok
returns-in-Ok c =
    c.within.ensures ∙ range-admitted _ _ _ _ _ (admitted _ _ _ (sym (c.entry.ensures _ c.is_sound.ensures) ∙ c.in-Ok.is))
