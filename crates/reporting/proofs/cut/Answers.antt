use mathlib.Core.Path.{sym, ◌∙◌}
use native.Mathlib.Omega.{arith}
use Rattle.deeds.specs.Deeds.{does}
use Rattle.deeds.specs.Tells.{tells}
use Rattle.printing.proofs.Puts.{adds_then}
use Rattle.reporting.proofs.Mores.{alone, followed}
use Rattle.reporting.proofs.cut.Goals as goal

pub returns-then-ne-clause-told : goal.returns-then-ne-clause-told
unfolding does tells
returns-then-ne-clause-told c =
    let e = rw c.small-part.ensures at c.cut-answer.ensures in
    rw (← e.value) (alone _ _ c.answered-left.ensures.told (sym c.ne.ensures ∙ c.if-ne.true) (omega arith))

pub returns-clause-told : goal.returns-clause-told
unfolding does tells
returns-clause-told c =
    let small = c.small-part.ensures in
    let e = rw small at c.cut-answer.ensures in
    let exposed = rw small at c.exposed-exposed.ensures in
    let word = rw (c.word_at-before.ensures, c.word_at-after.ensures, e.cells_after, e.otp_after) at c.word.ensures in
    let lines = adds_then {all = 147} c.block.ensures word (omega arith) in
    rw (← e.value, ← exposed) (followed _ c.answered-left.ensures.told lines (sym c.ne.ensures ∙ c.if-ne.false) (omega arith))
