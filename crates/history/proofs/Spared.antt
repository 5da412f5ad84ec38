-- A word of a protected block, or a locked one-time word, is spared by a cut; and a locked one-time word by time.
use Rattle.std.specs.Prelude.{Some}
use Prim.Native.Nat.{ℕ, zero, suc, ◌≤◌}
use mathlib.Core.Path.{◌≡◌, refl, ap, ◌∙◌}
use mathlib.Core.Bool.{true, false}
use mathlib.Core.List.{List}
use lib.ListN.{length}
use borrow.Author.Tests.{ne_eqb}
use Rattle.geometry.specs.declared.Part.{Part}
use Rattle.geometry.specs.Parts.{block_of}
use Rattle.protection.specs.declared.Protection.{Protection}
use Rattle.protection.specs.Protection.{protected, word_locked}
use Rattle.plain.specs.declared.Array.{Array}
use Rattle.plain.specs.declared.Array.TheVariants.{Main, OneTime}
use Rattle.plain.specs.declared.Written.{Written}
use Rattle.plain.specs.declared.Program.{Program}
use Rattle.plain.specs.declared.Inside.{Inside}
use Rattle.plain.specs.declared.Inside.TheVariants.{Nothing, Runs}
use Rattle.plain.specs.declared.SuspendedErase.{SuspendedErase}
use Rattle.plain.specs.declared.Operation.{Operation}
use Rattle.plain.specs.declared.Operation.TheVariants.{Idle, Programming, ProgramSuspended, Window, Erasing, Recovering, EraseSuspended, ChipErasing, InOneTime, OneTimeProgramming}
use Rattle.plain.specs.declared.Suspension.{Suspension}
use Rattle.std.specs.Prelude.{if◌then◌else◌}
use Rattle.plain.specs.Cut.{begun_block, debris_needed, cut_lent}
use Rattle.plain.specs.Holds.{in_block}
use Rattle.plain.specs.Lent.{Lent, word_at, Whole}
use Rattle.plain.specs.Operations.{running_inside, running_of}
use Rattle.plain.specs.Programs.{writes, first_word, array_written, held_back, barred, finished}
use Rattle.plain.specs.Sound.{operation_sound}
use Rattle.plain.specs.Time.{Moment, last, lent_tick, tick, ticks}
use Rattle.plain.proofs.BegunSound.{program-free, begun-lies}
use Rattle.plain.proofs.CutCells.{untouched}
use Rattle.plain.proofs.Facts.{ProgramFacts, programming, inside-runs, one-time-programming}
use Rattle.plain.proofs.Programs.{one_written, first-written, finished-at}
use Rattle.plain.proofs.Quick.{tick-keeps}
use Rattle.plain.proofs.SoundTime.{tick-fit}
use Rattle.plain.proofs.Tools.{by-test, by_cases, clash}
use Rattle.history.proofs.Begun.{block-free}

module _ (p : Part) (bits : Protection) where
  abbrev Fit : Operation → Type 0
  Fit o = operation_sound p bits o ≡ true

  -- no program that may go on writes such a word
  not_written : (y : Array) (x : ℕ) → held_back p bits y x ≡ true → (d : Written) → barred p bits d ≡ false → writes d y x ≡ false
  unfolding barred array_written first_word
  not_written y x h d free =
      by_cases (writes d y x)
      (λ t. let same = one_written p d y (array_written d) x (first_word d) t (first-written p d) in clash h (rw (same.0, same.1) free))
      (λ t. t)

  -- ---- a cut

  not-erased : (o : Operation) → Fit o → (y : Array) (x : ℕ) → held_back p bits y x ≡ true → (b : ℕ) → begun_block p o ≡ Some b → in_block p b y x ≡ false
  not-erased o s Main x h b e = ne_eqb (block_of p x) b (λ d. clash h (ap (protected bits) d ∙ block-free p bits o s b e))
  not-erased o s OneTime x h b e = refl

  pub cut-spares : (o : Operation) → Fit o → (debris : List ℕ) (l : Lent) → Whole p l → debris_needed p o ≤ length debris → (y : Array) (x : ℕ) → held_back p bits y x ≡ true
      → word_at (cut_lent p o debris l) y x ≡ word_at l y x
  cut-spares o s debris l whole enough y x h =
      untouched p o debris l whole enough (begun-lies p bits o s) y x (λ d e. not_written y x h d (program-free p bits o s d e).free) (not-erased o s y x h)

  -- ---- time

  module _ (x : ℕ) (h : word_locked bits x ≡ true) where
    abbrev Same : Lent → Lent → Type 0
    Same l m = word_at m OneTime x ≡ word_at l OneTime x

    program-spares : (s : Suspension) (q : Program) (l : Lent) → Whole p l → ProgramFacts p bits s q → Same l (if last q.left then finished q.writes l else l)
    program-spares s q l whole f =
        by-test (Same l) (last q.left)
        (λ _. finished-at p q.writes l whole f.in-part OneTime x ∙ rw (not_written OneTime x h q.writes f.free)) (λ _. refl)

    inside-spares : (e : SuspendedErase) (i : Inside) → e.inside ≡ i → Fit (EraseSuspended e) → (l : Lent) → Whole p l → Same l (lent_tick p (running_inside i) l)
    unfolding running_inside lent_tick
    inside-spares e Nothing d s l whole = refl
    inside-spares e (Runs q) d s l whole = program-spares _ q l whole (inside-runs p bits e q s d).program

    -- an erase finishes blocks of the cells alone
    tick-spares : (o : Operation) → Fit o → (l : Lent) → Whole p l → Same l (lent_tick p (running_of o) l)
    unfolding running_of lent_tick
    tick-spares Idle s l whole = refl
    tick-spares (Programming q) s l whole = program-spares _ q l whole (programming p bits q s)
    tick-spares (ProgramSuspended q) s l whole = refl
    tick-spares (Window e) s l whole = refl
    tick-spares (Erasing e) s l whole = by-test (Same l) (last e.left) (λ _. refl) (λ _. refl)
    tick-spares (Recovering r) s l whole = refl
    tick-spares (EraseSuspended e) s l whole = inside-spares e e.inside refl s l whole
    tick-spares (ChipErasing e) s l whole = by-test (Same l) (last e.left) (λ _. refl) (λ _. refl)
    tick-spares InOneTime s l whole = refl
    tick-spares (OneTimeProgramming q) s l whole = program-spares _ q l whole (one-time-programming p bits q s)

    pub ticks-spare : (n : ℕ) (m : Moment) → Fit m.operation → Whole p m.lent → Same m.lent (ticks p n m).lent
    unfolding ticks tick
    ticks-spare zero m s whole = refl
    ticks-spare (suc n) m s whole =
        let more = tick-keeps p (running_of m.operation) m.lent whole in
        ticks-spare n (tick p m) (tick-fit p bits m.operation s) (λ y. more y ∙ whole y) ∙ tick-spares m.operation s m.lent whole
