use Rattle.std.proofs.Common.{◌≡◌, ◌∙◌, ap, get_or, sym, arith}
use Rattle.plain.specs.Lent.{lent}
use Rattle.printing.proofs.Puts.{adds_then, adds_within}
use Rattle.playing.specs.Runs.{run, ended, fed, answered}
use Rattle.playing.proofs.Runs.{over-end, over-on}
use Rattle.playing.proofs.Told.{told-end, told-on}
use Rattle.playing.proofs.replayed.Goals as goal
use Rattle.playing.proofs.replayed.Goals.{then-byte-eq10, else-byte-eq10}

pub loop-byte-preserved : goal.loop-byte-preserved
unfolding ended fed answered
loop-byte-preserved c =
    let l = c.loop-byte in
    let so = l.invariant in
    let input = c.args.input.now in
    let inside = c.loop-byte-test.true in
    let from = run c.args.replay (lent c.args.cells.now c.args.otp.now) c.args.words.now in
    let s = run l.replay (lent l.cells l.otp) l.words in
    let next = c.if-byte-eq10 in
    elim next.branch [
      | then-byte-eq10 w ↦
          let a = w.act-replay.ensures in
          let e = w.ended-order.ensures in
          let lf = w.if-byte-eq10.true in
          let now : run next.replay (lent next.cells next.otp) next.words ≡ ended s =
          rw (w.replay-is, w.cells-is, w.otp-is, w.words-is, a.value, a.cells_after, a.otp_after, w.begin-replay.ensures, e.value, e.words_after) in
          let line = rw (e.value, e.words_after) at a.told in
          record {
            run_so_far = now ∙ ap ended so.run_so_far ∙ sym (over-end from input l.byte-index inside lf);
            told_so_far = rw (told-end from input l.byte-index inside lf, ← so.run_so_far, w.page-is) (adds_then so.told_so_far line (omega arith));
          }
      | else-byte-eq10 w ↦
          let f = w.fed-replay.ensures in
          let other = w.if-byte-eq10.false in
          let now : run next.replay (lent next.cells next.otp) next.words ≡ fed s (get_or input l.byte-index 0) =
          rw (w.replay-is, w.cells-is, w.otp-is, w.words-is, f.value, f.words_after) in
          record {
            run_so_far = now ∙ ap (λ r. fed r (get_or input l.byte-index 0)) so.run_so_far ∙ sym (over-on from input l.byte-index inside other);
            told_so_far = rw (told-on from input l.byte-index inside other, w.page-is) (adds_within so.told_so_far (omega arith));
          }
    ]
