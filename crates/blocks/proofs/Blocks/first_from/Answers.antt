-- `Blocks::first_from` meets its contract. At each turn the lowest number from `at` on is the one from n on.
use borrow.Author.Rules.{rules}
use mathlib.Core.Path.{sym, ◌∙◌}
use Rattle.blocks.specs.Blocks.{has}
use Rattle.blocks.proofs.Lowest.{first-skip, first_found, seek-end}
use Rattle.blocks.proofs.Blocks.first_from.Goals as goal

pub returns-then-x-ne0 : goal.returns-then-x-ne0
returns-then-x-ne0 c =
    sym (first_found c.args.self c.loop-at.at c.word_at.result c.word_at.ensures (search rules) c.loop-at-test.true c.if-x-ne0.true).0 ∙ c.loop-at.invariant

pub loop-at-preserved : goal.loop-at-preserved
loop-at-preserved c =
    sym (first-skip c.args.self c.loop-at.at c.loop-at-test.true (rw c.word_at.ensures at c.if-x-ne0.false)) ∙ c.loop-at.invariant

pub returns : goal.returns
returns c =
    sym (seek-end (has c.args.self) 320 c.loop-at.at c.loop-at-test.false) ∙ c.loop-at.invariant
