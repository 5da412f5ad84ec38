use native.Mathlib.Omega.{arith}
use Rattle.remaining.proofs.InHand.{waits-timed, erases-timed, chip-timed, window-short, erase-short, chip-short}
use Rattle.remaining.proofs.until_end.Goals as goal

pub rest_of-requires : goal.rest_of-requires
rest_of-requires c =
    let t = waits-timed _ _ c.requires _ _ c.running_of.ensures c.in-Waits.is in
    record { hand_bound = t.hand; left_bound = (omega (arith, t.most, window-short c.args.part), rw c.erase_time-full.ensures (erase-short _)) }

pub rest_of-requires-in-Erases : goal.rest_of-requires-in-Erases
rest_of-requires-in-Erases c =
    let t = erases-timed _ _ c.requires _ _ c.running_of.ensures c.in-Erases.is in
    record { hand_bound = t.hand; left_bound = (omega (arith, t.most, erase-short c.args.part), rw c.erase_time.ensures (erase-short _)) }

pub rest_of-requires-in-ErasesChip : goal.rest_of-requires-in-ErasesChip
rest_of-requires-in-ErasesChip c =
    let t = chip-timed _ _ c.requires _ _ c.running_of.ensures c.in-ErasesChip.is in
    record { hand_bound = t.hand; left_bound = (omega (arith, t.most, chip-short c.args.part), rw c.chip_time.ensures (chip-short _)) }
