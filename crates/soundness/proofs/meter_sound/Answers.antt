use Rattle.plain.proofs.FigureLaws.{most-fits}
use Rattle.soundness.proofs.meter_sound.Goals as goal

pub overflow_mul-result : goal.overflow_mul-result
overflow_mul-result c =
    let within = rw c.clock_limit.ensures at c.if-meter-clock_limit.true in
    record { fits = rw (← c.running_current.ensures) at (most-fits _ _ within) }
