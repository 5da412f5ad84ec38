use mathlib.Core.Path.{refl}
use native.Mathlib.Omega.{arith}
use Rattle.std.proofs.lemmas.Grind.{common_steps}
use Rattle.judged.proofs.Laws.{is-so, unsound}
use Rattle.access.specs.Sights.{sighted}
use Rattle.layout.proofs.Canonical.{canonical}
use Rattle.face.proofs.Faces.{told, well, whole, read_none, read_some}
use Rattle.face.proofs.Kept.{read-stored}
use Rattle.bus.proofs.read.Goals as goal

pub returns-then-not-stands : goal.returns-then-not-stands
returns-then-not-stands c =
    rw (read_none _ _ _ _ _ (unsound _ _ c.stands.ensures c.if-not-stands.true)) (record { refusal = refl; word = refl; words_after = refl })

pub unwrap-record-requires : goal.unwrap-record-requires
unwrap-record-requires c =
    c.as_mut_array.ensures.variant.1 (whole _ _ (is-so _ _ c.stands.ensures c.if-not-stands.false))

pub returns-in_err-seen : goal.returns-in_err-seen
unfolding sighted
returns-in_err-seen c =
    let so = is-so _ _ c.stands.ensures c.if-not-stands.false in
    let found = rw c.unwrap-record.ensures at c.as_mut_array.ensures.cases in
    let same = told _ _ _ (read_some _ _ _ _ _ so) (rw (c.in_err-seen.was, c.part_named.ensures, c.device_of-device.ensures, found.same) at c.read.ensures) in
    let kept = canonical _ (well _ _ so) in
    rw same (grind (arith, common_steps, kept, found.same))

pub returns : goal.returns
unfolding sighted
returns c =
    let so = is-so _ _ c.stands.ensures c.if-not-stands.false in
    let found = rw c.unwrap-record.ensures at c.as_mut_array.ensures.cases in
    let shows = rw (c.in_ok-seen.was, c.part_named.ensures, c.device_of-device.ensures, found.same) at c.read.ensures in
    rw (told _ _ _ (read_some _ _ _ _ _ so) shows) (record { refusal = refl; word = refl; words_after = rw (c.put_toggles.ensures, found.same) (read-stored _ _ _ _ _ _ (well _ _ so) shows) })
