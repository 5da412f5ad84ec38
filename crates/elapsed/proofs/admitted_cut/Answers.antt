use mathlib.Core.Path.{refl, ◌∙◌}
use borrow.Author.Rules.{rules}
use Rattle.plain.proofs.BegunSound.{begun-lies}
use Rattle.plain.proofs.EventLaws.{cut-debris, cut-passes}
use Rattle.plain.proofs.Facts.{sound-operation}
use Rattle.answers.proofs.Outcomes.{answers, leaves}
use Rattle.elapsed.specs.Lapses.{cut_by}
use Rattle.elapsed.proofs.admitted_cut.Goals as goal

pub returns-then-debris-debris_needed : goal.returns-then-debris-debris_needed
unfolding cut_by
returns-then-debris-debris_needed c =
    let same = cut-debris _ _ _ _ c.requires (rw c.debris_needed.ensures at c.if-debris-debris_needed.true) in record { result_value = answers same; cells_after = (leaves same).0; otp_after = (leaves same).1 }

pub cut_lent-requires : goal.cut_lent-requires
unfolding cut_by
cut_lent-requires c =
    let fit = c.requires in
    record {
      whole = fit.whole;
      enough = rw c.debris_needed.ensures at c.if-debris-debris_needed.false;
      inside = begun-lies _ _ _ (sound-operation _ _ fit.sound _ refl);
    }

pub returns : goal.returns
unfolding cut_by
returns c =
    let same = cut-passes _ _ _ _ c.requires (rw c.debris_needed.ensures at c.if-debris-debris_needed.false) in
    let cut = c.cut_lent.ensures in record { result_value = answers same; cells_after = cut.cells_after ∙ (leaves same).0; otp_after = cut.otp_after ∙ (leaves same).1 }
