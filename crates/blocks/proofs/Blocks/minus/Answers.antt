use borrow.Author.Rules.{rules}
use Rattle.blocks.proofs.Words.{fits}
use Rattle.blocks.proofs.Made.{minus_is}
use Rattle.blocks.proofs.Blocks.minus.Goals as goal

pub returns : goal.returns
returns c =
    minus_is _ _ (search (rules, fits)) (search (rules, fits))
