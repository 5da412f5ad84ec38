use mathlib.Core.Path.{sym, ap, ◌∙◌}
use Rattle.plain.specs.Refusals.{number}
use Rattle.face.proofs.Ranges.{range_none, range-some, range-first}
use Rattle.spans.proofs.range.Goals as goal

pub returns-in_default : goal.returns-in_default
unfolding number
returns-in_default c =
    c.packed_range.ensures ∙ sym (range_none _ _ _ _ _ _ c.in_default.ensures)

pub packed_range-requires-2 : goal.packed_range-requires-2
unfolding number
packed_range-requires-2 c =
    λ e. range-first _ _ _ _ _ (ap number (sym c.refusal-refusal.ensures) ∙ e)

pub returns : goal.returns
unfolding number
returns c =
    rw (c.packed_range-2.ensures, c.array.ensures, c.refusal-refusal.ensures, c.part_named.ensures, c.device_of-device.ensures, c.in-Some.ensures.1) (sym (range-some _ _ _ _ _ _ c.in-Some.ensures.0))
