use borrow.Author.Rules.{rules}
use Rattle.blocks.proofs.Words.{fits}
use Rattle.blocks.proofs.Made.{none_is}
use Rattle.blocks.proofs.Blocks.is_empty.Goals as goal

pub returns : goal.returns
returns c =
    none_is _ (search (rules, fits))
