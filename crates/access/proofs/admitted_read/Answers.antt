use native.Mathlib.Omega.{arith}
use borrow.Author.Rules.{rules}
use Rattle.plain.specs.declared.Array.TheVariants.{Main, OneTime}
use Rattle.plain.proofs.EventLaws.{read-address, read-passes}
use Rattle.answers.proofs.Outcomes.{answers}
use Rattle.access.specs.Sights.{sighted}
use Rattle.access.proofs.admitted_read.Goals as goal

pub returns-then-words-address : goal.returns-then-words-address
unfolding sighted
returns-then-words-address c =
    answers (read-address _ _ _ _ c.requires (rw c.words.ensures at c.if-words-address.true))

pub look-requires : goal.look-requires
unfolding sighted
look-requires c =
    let fit = c.requires in
    (omega (arith, fit.whole Main, rw c.words.ensures at c.if-words-address.false), fit.whole OneTime)

pub returns : goal.returns
unfolding sighted
returns c =
    rw c.look.ensures (answers (read-passes _ _ _ _ c.requires (rw c.words.ensures at c.if-words-address.false)))
