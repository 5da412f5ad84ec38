use native.Mathlib.Omega.{arith}
use Rattle.std.proofs.lemmas.Bool.Decides.{nat_tests}
use borrow.Author.Rules.{rules}
use Rattle.layout.specs.Image.{marked, idle_words}
use Rattle.shape.proofs.Unused.{numbers-first}
use Rattle.shape.proofs.is_idle.Goals as goal

pub returns-in_default : goal.returns-in_default
unfolding idle_words marked
returns-in_default c = grind (arith, nat_tests)

pub returns-then-are_unused-2 : goal.returns-then-are_unused-2
unfolding idle_words
returns-then-are_unused-2 c = rw (← numbers-first _) (search rules)

pub returns-else-are_unused-2 : goal.returns-else-are_unused-2
unfolding idle_words
returns-else-are_unused-2 c = rw (← numbers-first _) (search rules)
