use borrow.Author.Rules.{rules}
use Rattle.blocks.proofs.Words.{fits}
use Rattle.blocks.proofs.Made.{meets-is}
use Rattle.blocks.proofs.Blocks.meets.Goals as goal

pub returns : goal.returns
returns c =
    meets-is _ _ (search (rules, fits)) (search (rules, fits))
