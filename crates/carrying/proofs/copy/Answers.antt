use mathlib.Core.Path.{refl, sym, ◌∙◌}
use native.Mathlib.Nat.{zero-add}
use native.Mathlib.Omega.{arith}
use Rattle.layout.specs.Places.{record_words}
use Rattle.cells.proofs.Copied.{copied_on, copied-whole}
use Rattle.carrying.proofs.Copying.{words_long, words-at}
use Rattle.carrying.proofs.copy.Goals as goal

pub loop-i-init : goal.loop-i-init
loop-i-init c =
    record { full = words_long _ 0 record_words ∙ sym c.told-words; turns = omega arith; same = refl; words = refl }

pub loop-i-preserved : goal.loop-i-preserved
loop-i-preserved c =
    copied_on c.loop-i.invariant (omega arith) (λ l. words-at _ 0 record_words _ (omega (arith, l)) ∙ rw zero-add (sym c.word_at.ensures))

pub returns : goal.returns
returns c =
    copied-whole c.loop-i.invariant (omega arith)
