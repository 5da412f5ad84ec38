use mathlib.Core.Path.{refl, sym, ◌∙◌}
use native.Mathlib.Omega.{arith}
use Rattle.std.proofs.lemmas.Grind.{common_steps}
use Rattle.layout.proofs.Idle.{idle_whole}
use Rattle.face.proofs.Faces.{wait-barred}
use Rattle.idling.proofs.Idle.{clock-sound, charge-sound, wait-clock, wait-stands}
use Rattle.idling.proofs.wait.Goals as goal

pub returns-in_err-entry : goal.returns-in_err-entry
returns-in_err-entry c =
    rw (wait-barred _ _ _ _ _ _ (sym c.entry.ensures ∙ c.in_err-entry.was)) (grind (arith, common_steps))

pub unwrap-record-requires : goal.unwrap-record-requires
unwrap-record-requires c = c.as_mut_array.ensures.variant.1 (idle_whole _ c.requires)

pub overflow_sub-clock_limit : goal.overflow_sub-clock_limit
overflow_sub-clock_limit c =
    let found = rw c.unwrap-record.ensures at c.as_mut_array.ensures.cases in
    rw (c.clock_limit.ensures, c.part_named-named.ensures, c.meter_of-meter.ensures, found.same) (clock-sound _ _ c.requires _ _ (sym c.entry.ensures ∙ c.in_ok-entry.was))

pub returns-then-clock_limit-meter : goal.returns-then-clock_limit-meter
returns-then-clock_limit-meter c =
    let found = rw c.unwrap-record.ensures at c.as_mut_array.ensures.cases in
    let past = rw (c.clock_limit.ensures, c.part_named-named.ensures, c.meter_of-meter.ensures, found.same) at c.if-clock_limit-meter.true in
    rw (wait-clock _ _ c.requires _ _ (sym c.entry.ensures ∙ c.in_ok-entry.was) c.args.microseconds (omega (arith, past, clock-sound _ _ c.requires _ _ (sym c.entry.ensures ∙ c.in_ok-entry.was)))) (grind (arith, common_steps))

pub stood_by-requires : goal.stood_by-requires
stood_by-requires c =
    let found = rw c.unwrap-record.ensures at c.as_mut_array.ensures.cases in
    let room = rw (c.clock_limit.ensures, c.part_named-named.ensures, c.meter_of-meter.ensures, found.same) at c.if-clock_limit-meter.false in
    rw (c.part_named-named.ensures, c.meter_of-meter.ensures, found.same) (record { clock = omega (arith, room, clock-sound _ _ c.requires _ _ (sym c.entry.ensures ∙ c.in_ok-entry.was)); charge = charge-sound _ _ c.requires _ _ (sym c.entry.ensures ∙ c.in_ok-entry.was) })

pub returns : goal.returns
returns c =
    let found = rw c.unwrap-record.ensures at c.as_mut_array.ensures.cases in
    let room = rw (c.clock_limit.ensures, c.part_named-named.ensures, c.meter_of-meter.ensures, found.same) at c.if-clock_limit-meter.false in
    rw (wait-stands _ _ c.requires _ _ (sym c.entry.ensures ∙ c.in_ok-entry.was) c.args.microseconds (omega (arith, room, clock-sound _ _ c.requires _ _ (sym c.entry.ensures ∙ c.in_ok-entry.was)))) (record { refusal = refl; words_after = rw (c.put_meter.ensures, c.stood_by.ensures, c.part_named-named.ensures, c.meter_of-meter.ensures, found.same); cells_kept = refl; otp_kept = refl })
