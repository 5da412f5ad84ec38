use mathlib.Core.Path.{refl}
use native.Mathlib.Omega.{arith}
use Rattle.std.proofs.lemmas.Grind.{common_steps}
use Rattle.judged.proofs.Laws.{is-so, unsound}
use Rattle.elapsed.specs.Lapses.{cut_by}
use Rattle.layout.proofs.Canonical.{canonical}
use Rattle.face.proofs.Faces.{told, well, whole, cut-none, cut-some}
use Rattle.lapses.proofs.cut.Goals as goal

pub returns-then-not-stands : goal.returns-then-not-stands
unfolding cut_by
returns-then-not-stands c =
    rw (cut-none _ _ _ _ _ (unsound _ _ c.stands.ensures c.if-not-stands.true)) (record { refusal = refl; words_after = refl; cells_after = refl; otp_after = refl })

pub unwrap-record-requires : goal.unwrap-record-requires
unfolding cut_by
unwrap-record-requires c =
    c.as_mut_array.ensures.variant.1 (whole _ _ (is-so _ _ c.stands.ensures c.if-not-stands.false))

pub put_cut-requires : goal.put_cut-requires
unfolding cut_by
put_cut-requires c =
    let found = rw c.unwrap-record.ensures at c.as_mut_array.ensures.cases in
    rw found.same (well _ _ (is-so _ _ c.stands.ensures c.if-not-stands.false))

pub returns-in_err-cut : goal.returns-in_err-cut
unfolding cut_by
returns-in_err-cut c =
    let so = is-so _ _ c.stands.ensures c.if-not-stands.false in
    let found = rw c.unwrap-record.ensures at c.as_mut_array.ensures.cases in
    let event = rw (c.part_named.ensures, c.device_of-device.ensures, found.same) at c.cut.ensures in
    let same = told _ _ _ (cut-some _ _ _ _ _ so) (rw c.in_err-cut.was at event.result_value) in
    let kept = canonical _ (well _ _ so) in
    rw same (grind (arith, common_steps, kept, found.same, event.cells_after, event.otp_after))

pub returns : goal.returns
unfolding cut_by
returns c =
    let so = is-so _ _ c.stands.ensures c.if-not-stands.false in
    let found = rw c.unwrap-record.ensures at c.as_mut_array.ensures.cases in
    let event = rw (c.part_named.ensures, c.device_of-device.ensures, found.same) at c.cut.ensures in
    rw (told _ _ _ (cut-some _ _ _ _ _ so) (rw c.in_ok-cut.was at event.result_value)) (record { refusal = refl; words_after = rw (c.put_cut.ensures, c.device_of-device.ensures, found.same); cells_after = event.cells_after; otp_after = event.otp_after })
