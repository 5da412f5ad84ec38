use Prim.Native.Nat.{◌%◌}
use native.Mathlib.Nat.{one-mul, mod-eq_of_lt}
use native.Mathlib.Omega.{arith}
use lib.Pow.{pow-lt}
use borrow.Author.Rules.{rules}
use Rattle.blocks.proofs.Words.{fits}
use Rattle.blocks.proofs.Made.{with-is}
use Rattle.blocks.proofs.Blocks.with.Goals as goal

pub returns : goal.returns
returns c =
    let s = c.args.self in
    let n = c.args.n in
    rw (c.put_at.ensures, c.word_at-x.ensures, one-mul, mod-eq_of_lt (pow-lt {i = n % 64} {j = 64} (omega arith)))
    (with-is s n (search (rules, fits)))
