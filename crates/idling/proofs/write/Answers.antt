use mathlib.Core.Path.{sym, ◌∙◌}
use native.Mathlib.Omega.{arith}
use borrow.Author.Tests.{eq-eqb, ne_eqb}
use Rattle.std.proofs.lemmas.Grind.{common_steps}
use Rattle.layout.proofs.Idle.{idle_whole}
use Rattle.face.proofs.Faces.{write-barred}
use Rattle.idling.proofs.Idle.{write-address, write-unlock, write-reset, write-sequence}
use Rattle.idling.proofs.write.Goals as goal

pub returns-in_err-entry : goal.returns-in_err-entry
returns-in_err-entry c =
    rw (write-barred _ _ _ _ _ _ _ (sym c.entry.ensures ∙ c.in_err-entry.was)) (grind (arith, common_steps))

pub returns-then-cells-address : goal.returns-then-cells-address
returns-then-cells-address c =
    rw (write-address _ _ c.requires _ _ (sym c.entry.ensures ∙ c.in_ok-entry.was) _ _ c.if-cells-address.true) (grind (arith, common_steps))

pub unwrap-requires : goal.unwrap-requires
unwrap-requires c = c.as_mut_array.ensures.variant.1 (idle_whole _ c.requires)

pub returns-then-is_first_unlock : goal.returns-then-is_first_unlock
returns-then-is_first_unlock c =
    rw (write-unlock _ _ c.requires _ _ (sym c.entry.ensures ∙ c.in_ok-entry.was) _ _ c.if-cells-address.false (sym c.is_first_unlock.ensures ∙ c.if-is_first_unlock.true)) (grind (arith, common_steps))

pub returns-then-word-eq240 : goal.returns-then-word-eq240
returns-then-word-eq240 c =
    rw (write-reset _ _ c.requires _ _ (sym c.entry.ensures ∙ c.in_ok-entry.was) _ _ c.if-cells-address.false (sym c.is_first_unlock.ensures ∙ c.if-is_first_unlock.false) (eq-eqb _ _ c.if-word-eq240.true)) (grind (arith, common_steps))

pub returns : goal.returns
returns c =
    rw (write-sequence _ _ c.requires _ _ (sym c.entry.ensures ∙ c.in_ok-entry.was) _ _ c.if-cells-address.false (sym c.is_first_unlock.ensures ∙ c.if-is_first_unlock.false) (ne_eqb _ _ c.if-word-eq240.false)) (grind (arith, common_steps))
