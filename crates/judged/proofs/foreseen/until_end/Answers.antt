use mathlib.Core.Path.{refl}
use borrow.Author.Rules.{rules}
use Rattle.plain.proofs.Facts.{sound-operation}
use Rattle.judged.specs.Foreseen.{end_now}
use Rattle.judged.proofs.Laws.{unsound, is-so}
use Rattle.judged.proofs.foreseen.until_end.Goals as goal

pub returns-then-not-is_sound : goal.returns-then-not-is_sound
unfolding end_now
returns-then-not-is_sound c =
    rw (unsound _ _ c.is_sound.ensures c.if-not-is_sound.true)

pub until_end-requires : goal.until_end-requires
unfolding end_now
until_end-requires c =
    record { bits = _; sound = sound-operation _ _ (is-so _ _ c.is_sound.ensures c.if-not-is_sound.false) _ refl }

pub returns : goal.returns
unfolding end_now
returns c =
    rw (c.until_end.ensures, is-so _ _ c.is_sound.ensures c.if-not-is_sound.false)
