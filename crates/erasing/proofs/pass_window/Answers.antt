use mathlib.Core.Path.{ap, ◌∙◌}
use Rattle.plain.specs.Time.{Moment}
use Rattle.moments.specs.Moments.{moved}
use Rattle.plain.proofs.Facts.{window}
use Rattle.erasing.proofs.Laws.{window-goes-on, window-ends, window-closes}
use Rattle.erasing.proofs.pass_window.Goals as goal

pub pass_erase-requires : goal.pass_erase-requires
pass_erase-requires c =
    rw (c.block_time.ensures, c.stood_by-2.ensures) (window-closes _ _ _ _ _ c.requires c.if-n-left.false)

pub returns : goal.returns
returns c =
    let same = window-ends _ _ _ _ _ (window _ _ _ c.requires.sound).erase.some_left c.if-n-left.false in
    let ended = c.pass_erase.ensures in
    record {
      value = ended.value ∙ rw (c.block_time.ensures, c.stood_by-2.ensures) (ap moved same);
      cells_after = ended.cells_after ∙ rw (c.block_time.ensures, c.stood_by-2.ensures) (ap (λ (m : Moment). m.lent.cells) same);
      otp_value = ended.otp_value ∙ rw (c.block_time.ensures, c.stood_by-2.ensures) (ap (λ (m : Moment). m.lent.otp) same);
    }

pub returns-then-n-left : goal.returns-then-n-left
returns-then-n-left c =
    let done = window-goes-on _ _ _ _ _ c.if-n-left.true in
    record {
      value = rw (c.stood_by.ensures) done.result;
      cells_after = done.exit.0;
      otp_value = done.exit.1;
    }
