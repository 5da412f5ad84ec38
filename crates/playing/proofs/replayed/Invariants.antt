use Rattle.std.proofs.Common.{◌≡◌, ◌*◌, take}
use Rattle.plain.specs.Lent.{lent}
use Rattle.printing.specs.Page.{Adds}
use Rattle.playing.specs.Runs.{run, run_over, told_over}
use Rattle.playing.proofs.replayed.Given as goal

abbrev pub invariant-loop-byte : goal.invariant-loop-byte
invariant-loop-byte l =
    let from = run l.initial.replay (lent l.initial.cells l.initial.otp) l.initial.words in
    let done = take l.byte-index l.input in
    record {
      run_so_far : run l.replay (lent l.cells l.otp) l.words ≡ run_over from done;
      told_so_far : Adds l.initial.page l.page (told_over from done) (256 * l.byte-index);
    }
