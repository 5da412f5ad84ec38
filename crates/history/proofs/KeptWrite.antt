-- Every write of a sound record has a fine effect.
use Prim.Native.Nat.{ℕ, ◌<◌, min}
use mathlib.Core.Path.{◌≡◌, refl, sym, ◌∙◌}
use mathlib.Core.Bool.{true, false, not}
use native.Mathlib.Omega.{arith}
use lib.Dec.{eqb, ltb, lit<}
use borrow.Author.Tests.{ltb-true, eqb-true, not-false}
use Rattle.blocks.specs.Blocks.{with_of}
use Rattle.geometry.specs.declared.Part.{Part}
use Rattle.geometry.specs.Parts.{block_count, word_count, block_of, bank_of, bank_of_block}
use Rattle.geometry.proofs.Laid.{laid}
use Rattle.protection.specs.declared.Protection.{Protection}
use Rattle.protection.specs.Protection.{protected, stray_bits}
use Rattle.plain.specs.declared.Erase.{Erase}
use Rattle.plain.specs.declared.Inside.{Inside}
use Rattle.plain.specs.declared.Inside.TheVariants.{Nothing, Runs}
use Rattle.plain.specs.declared.Operation.{Operation}
use Rattle.plain.specs.declared.Operation.TheVariants.{Idle, Programming, ProgramSuspended, Window, Erasing, Recovering, EraseSuspended, ChipErasing, InOneTime, OneTimeProgramming}
use Rattle.plain.specs.declared.Suspension.{Suspension}
use Rattle.plain.specs.declared.Suspension.TheVariants.{Unsuspended, OfProgram, OfErase, Entered}
use Rattle.plain.specs.declared.Command.{Command}
use Rattle.plain.specs.declared.Device.{Device}
use Rattle.plain.specs.Figures.{window_time, recovery_time}
use Rattle.plain.specs.Lent.{Lent}
use Rattle.plain.specs.Operations.{suspension_of}
use Rattle.plain.specs.Record.{erase, suspended, recovery}
use Rattle.plain.specs.Refusals.{number}
use Rattle.plain.specs.Cycles.{is}
use Rattle.plain.specs.Sound.{operation_sound, command_sound, sound}
use Rattle.plain.specs.Commands.{program_is_suspended, entered, add_block, in_window, in_erase, in_suspended_erase, written}
use Rattle.plain.proofs.Tools.{by-test}
use Rattle.plain.proofs.Data.{inside_data, data_of, recovery_left}
use Rattle.plain.proofs.FigureLaws.{recovery-some}
use Rattle.plain.proofs.Facts.{sound-bits, sound-operation, sound-command, window, window-lowest, erasing}
use Rattle.plain.proofs.FactsHold.{window-holds, recovering-holds, resting-holds}
use Rattle.plain.proofs.Modest.{raises_inside, raises_in}
use Rattle.plain.proofs.Register.{standing}
use Rattle.plain.proofs.SoundTime.{closed}
use Rattle.history.proofs.KeptLists.{added, added-low}
use Rattle.history.proofs.Fine.{Fine, starts, stays, drops, Asking}
use Rattle.history.proofs.KeptCycle.{enter-fine}

module _ (p : Part) (bits : Protection) (none : stray_bits p bits ≡ false) (l : Lent) (a w : ℕ) (within : a < word_count p) (Reason : Type 0) where
  -- it is the reason for RAISE
  abbrev Reasons : Suspension → Command → Type 0
  Reasons s c = Asking p bits l a w s c → Reason

  block-below : block_of p a < block_count p
  block-below = (laid p).in_block a within

  -- ---- in a block erase

  add-fine : (e : Erase) → operation_sound p bits (Window e) ≡ true → Fine p bits l w Reason (Window e) (add_block p bits e a)
  unfolding add_block data_of recovery_left suspension_of program_is_suspended number raises_in
  add-fine e s =
      let F = Fine p bits l w Reason (Window e) in
      by-test F (not (eqb (bank_of p a) (bank_of_block p e.hand))) (λ _. stays refl)
      (λ h. by-test F (protected bits (block_of p a)) (λ _. stays refl) (λ free. starts (more free (eqb-true _ _ (not-false _ h))) (λ g h. (lit< tt, lit< tt)) refl (λ h. refl)))
    where
      more : protected bits (block_of p a) ≡ false → bank_of p a ≡ bank_of_block p e.hand
          → operation_sound p bits (Window (erase (with_of e.list (block_of p a)) (min e.hand (block_of p a)) (window_time p) e.dq6 e.dq2)) ≡ true
      more free bank =
          window-holds p bits _ (added p bits e (block_of p a) block-below free (sym ((laid p).one-bank a) ∙ bank) (window p bits e s))
          (added-low p e (block_of p a) block-below (window-lowest p bits e s))

  window-fine : (e : Erase) → operation_sound p bits (Window e) ≡ true → Fine p bits l w Reason (Window e) (in_window p bits e a w)
  unfolding in_window data_of recovery_left inside_data suspension_of program_is_suspended raises_in raises_inside
  window-fine e s =
      let F = Fine p bits l w Reason (Window e) in
      by-test F (is w 0x30) (λ _. add-fine e s)
      (λ _. by-test F (is w 0xB0) (λ _. starts (resting-holds p bits _ (closed p bits e (window p bits e s))) (λ g h. (lit< tt, lit< tt)) refl (λ h. refl)) (λ _. drops))

  erase-fine : (e : Erase) → operation_sound p bits (Erasing e) ≡ true → Fine p bits l w Reason (Erasing e) (in_erase p e w)
  unfolding data_of recovery_left inside_data suspension_of program_is_suspended number raises_in raises_inside
  erase-fine e s =
      by-test (Fine p bits l w Reason (Erasing e)) (is w 0xB0) (λ _. starts recovers (λ g h. (lit< tt, recovery-some p)) refl (λ h. refl)) (λ _. stays refl)
    where
      recovers : operation_sound p bits (Recovering (recovery e (recovery_time p))) ≡ true
      recovers = recovering-holds p bits _ (record { erase = erasing p bits e s; some_left = recovery-some p; most-left = omega arith })

  -- ---- in a suspended erase, and any write

  inside-fine : (e : Erase) (i : Inside) (c : Command) → operation_sound p bits (EraseSuspended (suspended e i)) ≡ true → command_sound p (EraseSuspended (suspended e i)) c ≡ true
      → Reasons (OfErase e) c → Fine p bits l w Reason (EraseSuspended (suspended e i)) (in_suspended_erase i (entered p bits (OfErase e) c l a w))
  unfolding standing in_suspended_erase number
  inside-fine e Nothing c s h why = enter-fine p bits none l a w within Reason (OfErase e) c s h why
  inside-fine e (Runs q) c s h why = stays refl

  written-fine : (o : Operation) (c : Command) → operation_sound p bits o ≡ true → command_sound p o c ≡ true → Reasons (suspension_of o) c
      → Fine p bits l w Reason o (written p bits o c l a w)
  unfolding standing suspension_of written number
  written-fine Idle c s h why = enter-fine p bits none l a w within Reason Unsuspended c s h why
  written-fine (Programming q) c s h why = stays refl
  written-fine (ProgramSuspended q) c s h why = enter-fine p bits none l a w within Reason (OfProgram q) c s h why
  written-fine (Window e) c s h why = window-fine e s
  written-fine (Erasing e) c s h why = erase-fine e s
  written-fine (Recovering x) c s h why = stays refl
  written-fine (EraseSuspended x) c s h why = inside-fine x.erase x.inside c s h why
  written-fine (ChipErasing e) c s h why = stays refl
  written-fine InOneTime c s h why = enter-fine p bits none l a w within Reason Entered c s h why
  written-fine (OneTimeProgramming q) c s h why = stays refl

-- a write of a sound record, at an address that there is
pub write-fine : (p : Part) (r : Device) (l : Lent) (a w : ℕ) (Reason : Type 0) → sound p r ≡ true → not (ltb a (word_count p)) ≡ false
    → (Asking p r.bits l a w (suspension_of r.operation) r.command → Reason)
    → Fine p r.bits l w Reason r.operation (written p r.bits r.operation r.command l a w)
write-fine p r l a w Reason s h why =
    written-fine p r.bits (sound-bits p r s) l a w (ltb-true a (word_count p) (not-false (ltb a (word_count p)) h)) Reason r.operation r.command
    (sound-operation p r s r.operation refl) (sound-command p r s) why
