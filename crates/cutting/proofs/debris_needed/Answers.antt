use Rattle.plain.specs.Cut.{debris_needed}
use Rattle.cutting.proofs.Laws.{debris-fits}
use Rattle.cutting.proofs.debris_needed.Goals as goal

pub overflow_add-result : goal.overflow_add-result
unfolding debris_needed
overflow_add-result c =
    rw (c.program_debris.ensures, c.block_debris.ensures) (record { fits = debris-fits _ _ _ })

pub returns : goal.returns
unfolding debris_needed
returns c =
    rw (c.program_debris.ensures, c.block_debris.ensures, c.begun_program-program.ensures, c.begun_block-block.ensures)
