use borrow.Author.Rules.{rules}
use Rattle.plain.specs.Commands.{effected}
use Rattle.plain.proofs.EventLaws.{write-address, write-passes}
use Rattle.answers.proofs.Outcomes.{answers}
use Rattle.access.proofs.admitted_write.Goals as goal

pub returns-then-words-address : goal.returns-then-words-address
unfolding effected
returns-then-words-address c =
    answers (write-address _ _ _ _ _ c.requires (rw c.words.ensures at c.if-words-address.true))

pub returns : goal.returns
unfolding effected
returns c =
    rw c.written.ensures (answers (write-passes _ _ _ _ _ c.requires (rw c.words.ensures at c.if-words-address.false)))
