-- An accepted cut: each word holds what the facts of the history give it.
use Rattle.std.specs.Prelude.{Option}
use Prim.Native.Nat.{ℕ, ◌-◌, ◌≤◌}
use mathlib.Core.Path.{◌≡◌, refl, sym, ◌∙◌}
use mathlib.Core.Bool.{true}
use mathlib.Core.List.{List}
use native.Mathlib.Omega.{arith}
use lib.Dec.{ltb}
use lib.ListN.{length, drop}
use borrow.Author.Tests.{ltb-true, ltb-false, lt-ltb, le-ltb}
use Rattle.geometry.specs.declared.Part.{Part}
use Rattle.geometry.specs.Parts.{size_of}
use Rattle.protection.specs.declared.Protection.{Protection}
use Rattle.plain.specs.declared.Program.{Program}
use Rattle.plain.specs.declared.Inside.{Inside}
use Rattle.plain.specs.declared.Inside.TheVariants.{Nothing, Runs}
use Rattle.plain.specs.declared.SuspendedErase.{SuspendedErase}
use Rattle.plain.specs.declared.Operation.{Operation}
use Rattle.plain.specs.declared.Operation.TheVariants.{Idle, Programming, ProgramSuspended, Window, Erasing, Recovering, EraseSuspended, ChipErasing, InOneTime, OneTimeProgramming}
use Rattle.plain.specs.declared.Suspension.{Suspension}
use Rattle.std.specs.Prelude.{if◌then◌else◌}
use Rattle.plain.specs.Figures.{program_time, erase_time, chip_time}
use Rattle.plain.specs.Lent.{Lent, Whole}
use Rattle.plain.specs.Operations.{suspension_of}
use Rattle.plain.specs.Sound.{operation_sound}
use Rattle.plain.specs.Commands.{program_is_suspended}
use Rattle.plain.specs.Cut.{begun, if_begun, begun_block, program_begun, begun_inside, begun_program, block_debris, debris_needed, block_cut, program_cut, cut_lent}
use Rattle.plain.specs.Doings.{erase_cuts, program_cuts, cuts}
use Rattle.plain.specs.Holds.{Fact}
use Rattle.plain.proofs.CutCells.{length-block}
use Rattle.plain.proofs.Facts.{ProgramFacts, programming, inside-runs, one-time-programming}
use Rattle.plain.proofs.SuspendedProgram.{Awake}
use Rattle.plain.proofs.Tools.{by_cases, clash}
use Rattle.history.proofs.Seen.{seen_inside, seen_op}
use Rattle.history.proofs.Holds.{Holds, holds-cut-program, holds-cut-erase}

-- some time has gone exactly when the time left is below the full time
pub progress : (l full : ℕ) → ltb 0 (full - l) ≡ begun l full
progress l full =
    by_cases (begun l full) (λ e. lt-ltb 0 (full - l) (omega (arith, ltb-true l full e)) ∙ sym e)
    (λ e. le-ltb 0 (full - l) (omega (arith, ltb-false l full e)) ∙ sym e)

module _ (p : Part) (bits : Protection) where
  abbrev block_of : SuspendedErase → Option ℕ
  block_of x = if_begun x.erase.left (erase_time p) x.erase.hand

  debris-of : (left full b : ℕ) → block_debris p (if_begun left full b) ≡ (if ltb 0 (full - left) then size_of p b else 0)
  unfolding block_debris
  debris-of left full b = rw (progress left full) (by_cases (begun left full) (λ e. rw e) (λ e. rw e))

  module _ (start : Lent) where
    block-holds : (debris : List ℕ) (fs : List Fact) (l : Lent) (left full b : ℕ) → Whole p l → block_debris p (if_begun left full b) ≤ length debris → Holds p start fs l
        → Holds p start (erase_cuts (full - left) b debris fs) (block_cut p (if_begun left full b) debris l)
    unfolding block_debris block_cut
    block-holds debris fs l left full b whole enough h =
        rw (progress left full)
        (by_cases (begun left full) (λ e. rw e (holds-cut-erase p start fs l whole h b debris (rw e at enough))) (λ e. rw e h))

    program-holds : (debris : List ℕ) (fs : List Fact) (l : Lent) (s : Suspension) (q : Program) → Whole p l → ProgramFacts p bits s q → Holds p start fs l
        → Holds p start (program_cuts (program_time p - q.left) q.writes debris fs) (program_cut (program_begun p q) debris l)
    unfolding program_cut
    program-holds debris fs l s q whole f h =
        rw (progress q.left (program_time p))
        (by_cases (begun q.left (program_time p)) (λ e. rw e (holds-cut-program p start fs l whole h q.writes debris f.in-part)) (λ e. rw e h))

    inside-holds : (debris : List ℕ) (x : SuspendedErase) (i : Inside) → x.inside ≡ i → operation_sound p bits (EraseSuspended x) ≡ true → (fs : List Fact) (l : Lent)
        → Whole p l → block_debris p (block_of x) ≤ length debris → Holds p start fs l
        → Holds p start (cuts p (seen_inside p x.erase i) debris fs) (program_cut (begun_inside p i) (drop (block_debris p (block_of x)) debris) (block_cut p (block_of x) debris l))
    unfolding cuts seen_inside begun_inside program_cut
    inside-holds debris x Nothing d s fs l whole enough h = block-holds debris fs l x.erase.left (erase_time p) x.erase.hand whole enough h
    inside-holds debris x (Runs q) d s fs l whole enough h =
        rw (debris-of x.erase.left (erase_time p) x.erase.hand)
        (program-holds _ (erase_cuts (erase_time p - x.erase.left) x.erase.hand debris fs) (block_cut p (block_of x) debris l) _ q
        (λ y. length-block p debris l whole (block_of x) enough y ∙ whole y) (inside-runs p bits x q s d).program
        (block-holds debris fs l x.erase.left (erase_time p) x.erase.hand whole enough h))

    pub cut_holds : (debris : List ℕ) (o : Operation) → Awake o → operation_sound p bits o ≡ true → (fs : List Fact) (l : Lent) → Whole p l → debris_needed p o ≤ length debris → Holds p start fs l
        → Holds p start (cuts p (seen_op p o) debris fs) (cut_lent p o debris l)
    unfolding cuts seen_op cut_lent debris_needed begun_block begun_program program_cut block_cut block_debris suspension_of program_is_suspended
    cut_holds debris Idle w f fs l whole enough h = h
    cut_holds debris (Programming q) w f fs l whole enough h = program-holds debris fs l _ q whole (programming p bits q f) h
    cut_holds debris (ProgramSuspended q) w f fs l whole enough h = clash refl w
    cut_holds debris (Window e) w f fs l whole enough h = h
    cut_holds debris (Erasing e) w f fs l whole enough h = block-holds debris fs l e.left (erase_time p) e.hand whole (omega (arith, enough)) h
    cut_holds debris (Recovering r) w f fs l whole enough h =
        block-holds debris fs l r.erase.left (erase_time p) r.erase.hand whole (omega (arith, enough)) h
    cut_holds debris (EraseSuspended x) w f fs l whole enough h = inside-holds debris x x.inside refl f fs l whole (omega (arith, enough)) h
    cut_holds debris (ChipErasing e) w f fs l whole enough h = block-holds debris fs l e.left (chip_time p) e.hand whole (omega (arith, enough)) h
    cut_holds debris InOneTime w f fs l whole enough h = h
    cut_holds debris (OneTimeProgramming q) w f fs l whole enough h = program-holds debris fs l _ q whole (one-time-programming p bits q f) h
