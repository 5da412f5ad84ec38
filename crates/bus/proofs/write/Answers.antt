use mathlib.Core.Path.{refl, ap}
use Rattle.judged.proofs.Laws.{is-so, unsound}
use Rattle.plain.specs.Refusals.{number}
use Rattle.face.proofs.Faces.{told, well, whole, write-none, write-some}
use Rattle.bus.proofs.write.Goals as goal

pub returns-then-not-stands : goal.returns-then-not-stands
returns-then-not-stands c =
    rw (write-none _ _ _ _ _ _ (unsound _ _ c.stands.ensures c.if-not-stands.true)) (record { refusal = refl; words_after = refl })

pub unwrap-record-requires : goal.unwrap-record-requires
unwrap-record-requires c =
    c.as_mut_array.ensures.variant.1 (whole _ _ (is-so _ _ c.stands.ensures c.if-not-stands.false))

pub put_effect-requires : goal.put_effect-requires
put_effect-requires c =
    let found = rw c.unwrap-record.ensures at c.as_mut_array.ensures.cases in
    rw found.same (well _ _ (is-so _ _ c.stands.ensures c.if-not-stands.false))

pub returns : goal.returns
returns c =
    let so = is-so _ _ c.stands.ensures c.if-not-stands.false in
    let found = rw c.unwrap-record.ensures at c.as_mut_array.ensures.cases in
    let stored = rw found.same at c.put_effect.ensures in
    rw (told _ _ _ (write-some _ _ _ _ _ _ so) (rw (c.part_named.ensures, c.device_of-device.ensures, found.same) at c.write-effect.ensures)) (record { refusal = ap number stored.refusal; words_after = stored.words_after })
