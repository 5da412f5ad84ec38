use native.Mathlib.Nat.{add-zero, add_assoc}
use native.Mathlib.Omega.{arith}
use Rattle.std.proofs.Common.{◌-◌, ◌<◌, refl}
use Rattle.std.proofs.lemmas.List.{get_or-take, get_or-drop}
use lib.ListN.{drop, length-drop}
use borrow.Table.Elements.{length-take-le}
use Rattle.shape.proofs.Unused.{joined-on, joined-all}
use Rattle.shape.proofs.sections.are_unused.Goals as goal

pub loop-word-init : goal.loop-word-init
loop-word-init c =
    record { within = omega arith; same = rw add-zero refl }

pub loop-word-preserved : goal.loop-word-preserved
loop-word-preserved c =
    let before : c.loop-word.word-index < c.args.end - c.args.from = omega (arith, length-take-le (c.args.end - c.args.from) (drop c.args.from c.args.words.now), length-drop c.args.from c.args.words.now) in
    rw (get_or-take, get_or-drop, ← add_assoc) (joined-on c.loop-word.invariant (omega arith))

pub returns : goal.returns
returns c =
    joined-all c.loop-word.invariant (omega (arith, length-take-le (c.args.end - c.args.from) (drop c.args.from c.args.words.now) (omega (arith, length-drop c.args.from c.args.words.now)), length-drop c.args.from c.args.words.now))
