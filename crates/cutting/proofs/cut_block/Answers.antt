use native.Mathlib.Omega.{arith}
use borrow.Author.Rules.{rules}
use Rattle.geometry.proofs.Laid.{block-fits}
use Rattle.plain.specs.Cut.{block_debris, block_cut}
use Rattle.cutting.proofs.cut_block.Goals as goal

pub returns-in_default : goal.returns-in_default
unfolding block_debris block_cut
returns-in_default c =
    λ otp. rw c.in_default.is

pub returns-in-Some : goal.returns-in-Some
unfolding block_debris block_cut
returns-in-Some c =
    λ otp. rw (c.litter.ensures, c.size_of.ensures, c.first_of.ensures, c.in-Some.is)

pub litter-requires : goal.litter-requires
unfolding block_debris block_cut
litter-requires c =
    let enough = rw c.in-Some.is at c.requires.1 in
    let fits = block-fits c.args.part c.in-Some.b in
    (omega (arith, c.size_of.ensures, c.first_of.ensures, fits, c.requires.0), omega (arith, c.size_of.ensures, enough))
