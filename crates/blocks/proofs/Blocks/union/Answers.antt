use borrow.Author.Rules.{rules}
use Rattle.blocks.proofs.Words.{fits}
use Rattle.blocks.proofs.Made.{union-is}
use Rattle.blocks.proofs.Blocks.union.Goals as goal

pub returns : goal.returns
returns c =
    union-is _ _ (search (rules, fits)) (search (rules, fits))
