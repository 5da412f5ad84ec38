use mathlib.Core.Path.{sym}
use borrow.Author.Rules.{rules}
use Rattle.plain.proofs.Ladder.{entry-state, entry-cells, entry-admitted}
use Rattle.plain.proofs.Lents.{whole-true}
use Rattle.judged.proofs.Laws.{unsound, is-so}
use Rattle.judged.proofs.entry.Goals as goal

pub returns-then-not-good : goal.returns-then-not-good
returns-then-not-good c =
    λ d e. sym (entry-state _ d _ (unsound _ _ e c.if-not-good.true))

pub returns-then-not-is_whole : goal.returns-then-not-is_whole
returns-then-not-is_whole c =
    λ d e. sym (entry-cells _ d _ (is-so _ _ e c.if-not-good.false) (unsound _ _ c.is_whole.ensures c.if-not-is_whole.true))

pub returns : goal.returns
returns c =
    λ d e. sym (entry-admitted _ d _ (record { sound = is-so _ _ e c.if-not-good.false; whole = whole-true _ _ (is-so _ _ c.is_whole.ensures c.if-not-is_whole.false) }))
