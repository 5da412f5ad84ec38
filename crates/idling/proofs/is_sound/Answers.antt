use mathlib.Core.Path.{sym}
use Rattle.layout.proofs.Idle.{idle_whole}
use Rattle.idling.proofs.Idle.{no_part, a-part}
use Rattle.idling.proofs.is_sound.Goals as goal

pub returns-in_default : goal.returns-in_default
returns-in_default c = sym (no_part _ _ c.requires c.in_default.ensures)

pub unwrap-record-requires : goal.unwrap-record-requires
unwrap-record-requires c = c.as_array.ensures.variant.1 (idle_whole _ c.requires)

pub returns : goal.returns
returns c =
    let found = rw c.unwrap-record.ensures at c.as_array.ensures.cases in
    rw (a-part _ _ c.requires c.in-Some.ensures.0) (rw (c.in-Some.ensures.1, c.meter_of.ensures, c.bits_of.ensures, found.same) at c.is_sound_idle.ensures)
