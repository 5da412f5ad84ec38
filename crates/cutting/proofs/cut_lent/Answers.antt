use mathlib.Core.Path.{◌∙◌, ap}
use native.Mathlib.Omega.{arith}
use lib.ListN.{length}
use borrow.Author.Rules.{part_to_end}
use borrow.Author.Rules.{rules}
use Rattle.plain.specs.declared.Array.TheVariants.{Main, OneTime}
use Rattle.plain.specs.Lent.{Lent, lent}
use Rattle.plain.specs.Cut.{block_debris, cut_lent}
use Rattle.plain.proofs.Lents.{whole-both}
use Rattle.cutting.proofs.Laws.{block_within, program-within}
use Rattle.cutting.proofs.cut_lent.Goals as goal

pub cut_block-requires : goal.cut_block-requires
unfolding block_debris cut_lent
cut_block-requires c =
    (c.requires.whole Main, omega (arith, block_within c.requires c.begun_block-block.ensures))

pub offset_bounds-debris-next : goal.offset_bounds-debris-next
unfolding block_debris cut_lent
offset_bounds-debris-next c =
    omega (arith, c.block_debris-next.ensures, block_within c.requires c.begun_block-block.ensures)

pub slice_bounds-cut_program-count : goal.slice_bounds-cut_program-count
unfolding block_debris cut_lent
slice_bounds-cut_program-count c =
    omega (arith, c.block_debris-next.ensures, block_within c.requires c.begun_block-block.ensures)

pub slice_bounds-cut_program-start : goal.slice_bounds-cut_program-start
unfolding block_debris cut_lent
slice_bounds-cut_program-start c =
    omega (arith, c.block_debris-next.ensures, block_within c.requires c.begun_block-block.ensures)

pub cut_program-requires : goal.cut_program-requires
unfolding block_debris cut_lent
cut_program-requires c =
    let start = c in
    let program = c.begun_program-program.ensures in
    let next = c.block_debris-next.result in
    let enough = program-within start.requires c.begun_block-block.ensures next (omega (arith, c.block_debris-next.ensures)) in record { whole = (whole-both _ _ (omega (arith, start.requires.whole Main)) (start.requires.whole OneTime), rw program start.requires.inside); program_in_bounds = rw (part_to_end start.args.debris.now next, program) enough }

pub returns : goal.returns
unfolding block_debris cut_lent
returns c =
    let start = c in
    let end = c.cut_program.ensures in
    let block = c.cut_block.ensures start.args.otp.now in record { cells_after = rw (end.cells_after, part_to_end start.args.debris.now c.block_debris-next.result, c.block_debris-next.ensures, block, c.begun_program-program.ensures, c.begun_block-block.ensures); otp_after = rw (end.otp_after, part_to_end start.args.debris.now c.block_debris-next.result, c.block_debris-next.ensures, block, c.begun_program-program.ensures, c.begun_block-block.ensures) }
