use mathlib.Core.Path.{refl}
use native.Mathlib.Omega.{arith}
use lib.Seq.{length-take-le, get_or-take}
use Rattle.cells.proofs.Copied.{copied_on, copied-whole}
use Rattle.cells.proofs.copy_in.Goals as goal

pub loop-i-init : goal.loop-i-init
loop-i-init c =
    record { full = length-take-le _ _ (omega arith); turns = omega arith; same = refl; words = refl }

pub loop-i-preserved : goal.loop-i-preserved
loop-i-preserved c =
    copied_on c.loop-i.invariant (omega arith) (λ l. get_or-take _ _ _ 0 l)

pub returns : goal.returns
returns c =
    copied-whole c.loop-i.invariant (omega arith)
