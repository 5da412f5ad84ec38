-- Words alike except for the cells of one bank: all that changes what is lent, a microsecond or a cut, leaves them so. And what a write asks of
-- them.
use Rattle.std.specs.Prelude.{Option, None, Some}
use Prim.Native.Nat.{ℕ, zero, suc, ◌+◌, ◌≤◌}
use mathlib.Core.Path.{◌≡◌, refl, sym, ap, ◌∙◌}
use mathlib.Core.Bool.{Bool}
use mathlib.Core.List.{List}
use lib.ListN.{length, get_or, drop}
use Rattle.cells.proofs.Alike.{programmed-alike, cut_short-alike, erased-alike, littered-alike}
use Rattle.cells.proofs.Laws.{length-programmed, length-erased, length-littered, length-cut_short}
use Rattle.geometry.specs.declared.Part.{Part}
use Rattle.geometry.specs.Parts.{first_of, size_of}
use Rattle.geometry.proofs.Laid.{block-fits}
use Rattle.meter.specs.declared.Meter.{Meter}
use Rattle.protection.specs.declared.Protection.{Protection}
use Rattle.plain.specs.declared.Array.{Array}
use Rattle.plain.specs.declared.Array.TheVariants.{Main}
use Rattle.plain.specs.declared.Erase.{Erase}
use Rattle.plain.specs.declared.Written.{Written}
use Rattle.plain.specs.declared.Operation.{Operation}
use Rattle.plain.specs.declared.Operation.TheVariants.{Idle, Programming, ProgramSuspended, Window, Erasing, Recovering, EraseSuspended, ChipErasing, InOneTime, OneTimeProgramming}
use Rattle.plain.specs.declared.Suspension.{Suspension}
use Rattle.plain.specs.declared.Suspension.TheVariants.{Unsuspended, OfProgram, OfErase, Entered}
use Rattle.plain.specs.declared.Command.{Command}
use Rattle.plain.specs.declared.Command.TheVariants.{Ground, Entering, Reads}
use Rattle.plain.specs.declared.Cycle.TheVariants.{Unlock, Unlocked, ProgramData, EraseSetup, EraseUnlock, EraseUnlocked, DybData, PpbSetup, PpbSetting, PpbClearing, OtpLocking}
use Rattle.plain.specs.declared.Running.{Running}
use Rattle.plain.specs.declared.Running.TheVariants.{Still, Programs, Waits, Erases, Recovers, ErasesChip}
use Rattle.plain.specs.Banks.{AlikeBut}
use Rattle.plain.specs.Commands.{in_suspended_erase, after_a0, continued, entered, written}
use Rattle.plain.specs.Cut.{begun_block, begun_program, block_debris, debris_needed, block_cut, program_cut, cut_lent}
use Rattle.plain.specs.Lent.{Lent, array_of, with_array, word_at, Whole}
use Rattle.plain.specs.Operations.{running_of, suspension_of, selected}
use Rattle.plain.specs.Programs.{writing, same, raises, finished, cut_off, debris_for}
use Rattle.plain.specs.Time.{Moment, moment, last, erase_finished, operation_tick, lent_tick, tick, ticks}
use Rattle.plain.proofs.CutCells.{block-enough}
use Rattle.plain.proofs.Lents.{same_true, word-with, length-with}
use Rattle.plain.proofs.Quick.{tick-keeps}
use Rattle.plain.proofs.Tools.{by_cases}

module _ (p : Part) (bank : ℕ) where
  abbrev Alike : Lent → Lent → Type 0
  Alike l m = AlikeBut p bank l m

  -- one array changed in both, each word of it by that word alone
  with-alike : (y : Array) (l m : Lent) (words others : List ℕ) → Alike l m → length words ≡ length (array_of y l) → length others ≡ length (array_of y m)
      → ((x : ℕ) → word_at l y x ≡ word_at m y x → get_or words x 0 ≡ get_or others x 0) → Alike (with_array y l words) (with_array y m others)
  with-alike y l m words others a e f each =
      record {
        sizes = λ z. length-with y l words e z ∙ a.sizes z ∙ sym (length-with y m others f z);
        words = λ z x h. rw (word-with z y l words x, word-with z y m others x)
            (by_cases (same z y) (λ s. rw s (each x (rw (same_true z y s) at (a.words z x h)))) (λ s. rw s (a.words z x h)));
      }

  -- ---- a program's end, an erase's end

  program-alike : (d : Written) (l m : Lent) → Alike l m → Alike (finished d l) (finished d m)
  unfolding finished
  program-alike d l m a =
      let y = d.array in
      with-alike y l m _ _ a (length-programmed (array_of y l) d.at d.word) (length-programmed (array_of y m) d.at d.word)
      (λ x k. programmed-alike (array_of y l) (array_of y m) (a.sizes y) x k d.at d.word)

  module _ (l m : Lent) (whole : Whole p l) (a : Alike l m) where
    fits : (b : ℕ) → first_of p b + size_of p b ≤ length l.cells
    fits b = rw (whole Main) (block-fits p b)

    fits-other : (b : ℕ) → first_of p b + size_of p b ≤ length m.cells
    fits-other b = rw (← a.sizes Main) (fits b)

    erase-alike : (e : Erase) → Alike (erase_finished p e l) (erase_finished p e m)
    erase-alike e =
        let b = e.hand in
        with-alike Main l m _ _ a (length-erased l.cells (first_of p b) (size_of p b) (fits b)) (length-erased m.cells (first_of p b) (size_of p b) (fits-other b))
        (λ x k. erased-alike l.cells m.cells (a.sizes Main) x k (first_of p b) (size_of p b) (fits b))

    -- ---- a microsecond

    tick-alike : (x : Running) → Alike (lent_tick p x l) (lent_tick p x m)
    unfolding lent_tick
    tick-alike Still = a
    tick-alike (Programs q) = by_cases (last q.left) (λ e. rw e (program-alike q.writes l m a)) (λ e. rw e a)
    tick-alike (Waits e) = a
    tick-alike (Erases e) = by_cases (last e.left) (λ f. rw f (erase-alike e)) (λ f. rw f a)
    tick-alike (Recovers r) = a
    tick-alike (ErasesChip e) = by_cases (last e.left) (λ f. rw f (erase-alike e)) (λ f. rw f a)

    -- ---- a cut

    block-alike : (place : Option ℕ) (debris : List ℕ) → block_debris p place ≤ length debris → Alike (block_cut p place debris l) (block_cut p place debris m)
    unfolding block_debris block_cut
    block-alike None debris h = a
    block-alike (Some b) debris h =
        with-alike Main l m _ _ a (length-littered l.cells (first_of p b) (size_of p b) debris (fits b) h) (length-littered m.cells (first_of p b) (size_of p b) debris (fits-other b) h)
        (λ x k. littered-alike l.cells m.cells (a.sizes Main) x k (first_of p b) (size_of p b) (fits b) debris h)

  program-cut-alike : (w : Option Written) (debris : List ℕ) (l m : Lent) → Alike l m → Alike (program_cut w debris l) (program_cut w debris m)
  unfolding program_cut cut_off
  program-cut-alike None debris l m a = a
  program-cut-alike (Some d) debris l m a =
      let y = d.array in
      let rest = debris_for d debris d.at in
      with-alike y l m _ _ a (length-cut_short (array_of y l) d.at d.word rest) (length-cut_short (array_of y m) d.at d.word rest)
      (λ x k. cut_short-alike (array_of y l) (array_of y m) (a.sizes y) x k d.at d.word rest)

  pub cut-alike : (o : Operation) (debris : List ℕ) (l m : Lent) → Whole p l → debris_needed p o ≤ length debris → Alike l m
      → Alike (cut_lent p o debris l) (cut_lent p o debris m)
  unfolding cut_lent
  cut-alike o debris l m whole enough a =
      program-cut-alike (begun_program p o) (drop (block_debris p (begun_block p o)) debris) _ _
      (block-alike l m whole a (begun_block p o) debris (block-enough p o debris l whole enough))

  -- ---- n microseconds: meter and operation know nothing of the words

  pub record Alongside (one two : Moment) : Type 0 where
    pub meter : one.meter ≡ two.meter
    pub operation : one.operation ≡ two.operation
    pub lent : Alike one.lent two.lent

  pub ticks-alike : (n : ℕ) (t : Meter) (o : Operation) (l m : Lent) → Whole p l → Alike l m → Alongside (ticks p n (moment t o l)) (ticks p n (moment t o m))
  unfolding ticks tick
  ticks-alike zero t o l m whole a = record { meter = refl; operation = refl; lent = a }
  ticks-alike (suc n) t o l m whole a =
      ticks-alike n _ (operation_tick p o) _ _ (λ y. tick-keeps p (running_of o) l whole y ∙ whole y) (tick-alike l m whole a (running_of o))

-- ---- of what is lent, a write asks whether a program's data raises a bit, and nothing else

module _ (p : Part) (bits : Protection) (l m : Lent) (a w : ℕ) where
  abbrev raises_in : Suspension → Lent → Bool
  raises_in s x = raises (writing (selected s a) a w) x

  entered-alike : (s : Suspension) (c : Command) → (c ≡ Entering ProgramData → raises_in s l ≡ raises_in s m) → entered p bits s c l a w ≡ entered p bits s c m a w
  unfolding entered continued after_a0
  entered-alike s Ground h = refl
  entered-alike s (Entering Unlock) h = refl
  entered-alike s (Entering Unlocked) h = refl
  entered-alike s (Entering ProgramData) h = rw (h refl)
  entered-alike s (Entering EraseSetup) h = refl
  entered-alike s (Entering EraseUnlock) h = refl
  entered-alike s (Entering EraseUnlocked) h = refl
  entered-alike s (Entering DybData) h = refl
  entered-alike s (Entering PpbSetup) h = refl
  entered-alike s (Entering (PpbSetting b)) h = refl
  entered-alike s (Entering PpbClearing) h = refl
  entered-alike s (Entering OtpLocking) h = refl
  entered-alike s (Reads r) h = refl

  pub written-alike : (o : Operation) (c : Command) → (c ≡ Entering ProgramData → raises_in (suspension_of o) l ≡ raises_in (suspension_of o) m)
      → written p bits o c l a w ≡ written p bits o c m a w
  unfolding written suspension_of
  written-alike Idle c h = entered-alike Unsuspended c h
  written-alike (Programming q) c h = refl
  written-alike (ProgramSuspended q) c h = entered-alike (OfProgram q) c h
  written-alike (Window e) c h = refl
  written-alike (Erasing e) c h = refl
  written-alike (Recovering r) c h = refl
  written-alike (EraseSuspended s) c h = ap (in_suspended_erase s.inside) (entered-alike (OfErase s.erase) c h)
  written-alike (ChipErasing e) c h = refl
  written-alike InOneTime c h = entered-alike Entered c h
  written-alike (OneTimeProgramming q) c h = refl
