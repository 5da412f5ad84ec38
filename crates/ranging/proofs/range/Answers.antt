use mathlib.Core.Path.{refl, sym, ◌∙◌}
use native.Mathlib.Nat.{add-sub_cancel_left}
use native.Mathlib.Omega.{arith}
use borrow.Author.Rules.{rules}
use Rattle.plain.proofs.Refusals.{if_refused, if_done}
use Rattle.plain.specs.Lent.{lent}
use Rattle.plain.specs.Machine.{range_words}
use Rattle.ranging.proofs.Laws.{range-fits}
use Rattle.ranging.proofs.range.Goals as goal

pub returns-then-ne : goal.returns-then-ne
unfolding range_words
returns-then-ne c =
    rw (← c.refusal-answer.ensures, if_refused _ (sym c.ne.ensures ∙ c.if-ne.true))

pub overflow_add-result : goal.overflow_add-result
unfolding range_words
overflow_add-result c =
    let a = c.args in
    omega (arith, range-fits a.part a.device (lent a.cells.now a.otp.now) a.first a.count c.refusal-answer.ensures refl (if_done _ (sym c.ne.ensures ∙ c.if-ne.false)) c.array.ensures c.among-words.ensures)

pub offset_bounds-words-first : goal.offset_bounds-words-first
unfolding range_words
offset_bounds-words-first c =
    let a = c.args in
    omega (arith, range-fits a.part a.device (lent a.cells.now a.otp.now) a.first a.count c.refusal-answer.ensures refl (if_done _ (sym c.ne.ensures ∙ c.if-ne.false)) c.array.ensures c.among-words.ensures)

pub slice_bounds-result-end-2 : goal.slice_bounds-result-end-2
unfolding range_words
slice_bounds-result-end-2 c =
    let a = c.args in
    omega (arith, range-fits a.part a.device (lent a.cells.now a.otp.now) a.first a.count c.refusal-answer.ensures refl (if_done _ (sym c.ne.ensures ∙ c.if-ne.false)) c.array.ensures c.among-words.ensures)

pub returns : goal.returns
unfolding range_words
returns c =
    let a = c.args in
    rw (c.among-words.ensures, c.array.ensures, ← c.refusal-answer.ensures, if_done _ (sym c.ne.ensures ∙ c.if-ne.false), add-sub_cancel_left a.first a.count)
