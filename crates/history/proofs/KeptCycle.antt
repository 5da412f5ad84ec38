-- A command's next write while nothing runs has a fine effect.
use Prim.Native.Nat.{ℕ, ◌<◌}
use mathlib.Core.Path.{◌≡◌, refl, sym, ◌∙◌}
use mathlib.Core.Bool.{Bool, true, false, ◌&&◌, not}
use native.Mathlib.Omega.{arith}
use lib.Dec.{eqb, lit<}
use borrow.Author.Tests.{lt-ltb, eqb-true}
use Rattle.geometry.specs.declared.Part.{Part}
use Rattle.geometry.specs.Parts.{block_count, bank_count, word_count, block_of, bank_of}
use Rattle.geometry.proofs.Counts.{bank-below}
use Rattle.geometry.proofs.Laid.{laid}
use Rattle.protection.specs.declared.Protection.{Protection}
use Rattle.protection.specs.Protection.{protected, all_protected, stray_bits}
use Rattle.protection.proofs.Stray.{stray-dyb-set, stray-dyb-cleared, stray-ppb-set, stray-ppbs-cleared}
use Rattle.plain.specs.declared.Refusal.{Refusal}
use Rattle.plain.specs.declared.Inside.TheVariants.{Nothing}
use Rattle.plain.specs.declared.Operation.TheVariants.{Idle, InOneTime, OneTimeProgramming}
use Rattle.plain.specs.declared.Suspension.{Suspension}
use Rattle.plain.specs.declared.Suspension.TheVariants.{Unsuspended, OfProgram, OfErase, Entered}
use Rattle.plain.specs.declared.Command.{Command}
use Rattle.plain.specs.declared.Command.TheVariants.{Ground, Entering, Reads}
use Rattle.plain.specs.declared.Cycle.{Cycle}
use Rattle.plain.specs.declared.Cycle.TheVariants.{Unlock, Unlocked, ProgramData, EraseSetup, EraseUnlock, EraseUnlocked, DybData, PpbSetup, PpbSetting, PpbClearing, OtpLocking}
use Rattle.plain.specs.declared.Effect.{Effect}
use Rattle.plain.specs.declared.Effect.TheVariants.{Goes, Starts, Protects, Falls}
use Rattle.plain.specs.Lent.{Lent}
use Rattle.plain.specs.Operations.{suspension_of, is_entered, selected}
use Rattle.plain.specs.Programs.{barred, barred_as, raises}
use Rattle.plain.specs.Refusals.{number}
use Rattle.plain.specs.Cycles.{is_at, is, first_unlock, second_unlock, is_dyb}
use Rattle.plain.specs.Sound.{operation_sound, cycle_unsuspended, reading_sound, cycle_in_suspension, cycle_sound, still_command, command_sound}
use Rattle.plain.specs.Commands.{is_suspended, program_is_suspended, resumes, keeps_out, started, begins, at_lock, resets, or_reset, unless, chip_erase, block_erase, unless_locked, lock_setup, exits, at_ground, after_unlock, after_unlocked, after_a0, after80, after_80_unlock, after_80_unlocked, after48, after60, after68, after6060, after_lock_68, after_reading, continued, entered}
use Rattle.plain.proofs.Tools.{by-test, both_left, both_right, clash}
use Rattle.plain.proofs.Data.{inside_data, data_of, recovery_left}
use Rattle.plain.proofs.FigureLaws.{program-some}
use Rattle.plain.proofs.Facts.{ProgramFacts, erase-suspended}
use Rattle.plain.proofs.FactsHold.{idle-holds, programming-holds, entered-holds, one-time-holds, window-holds, inside-holds, chip-holds}
use Rattle.plain.proofs.Modest.{raises_inside, raises_in}
use Rattle.plain.proofs.Register.{ground-sound, standing, command-standing}
use Rattle.history.proofs.KeptRegister.{early, unsuspended, late, neither, idle-cycle, lock-cycle, may-program, selected-sound, selected-lies}
use Rattle.history.proofs.KeptLists.{opened, opened-low, chip-opened}
use Rattle.history.proofs.Fine.{special, barred-plain, Fine, goes, starts, protects, falls, raised, asks_for, Asking}

module _ (p : Part) (bits : Protection) (none : stray_bits p bits ≡ false) (l : Lent) (a w : ℕ) (within : a < word_count p) (Reason : Type 0) where
  -- it is the reason for RAISE
  abbrev Reasons : Suspension → Command → Type 0
  Reasons s c = Asking p bits l a w s c → Reason

  block-below : block_of p a < block_count p
  block-below = (laid p).in_block a within

  -- an effect while nothing runs
  abbrev FineIn : Suspension → Effect → Type 0
  FineIn s = Fine p bits l w Reason (standing s)

  -- the register goes on to a state that may stand beside the suspension
  moves : (s : Suspension) (c : Command) → still_command p s c ≡ true → FineIn s (Goes c)
  moves s c e = goes (command-standing p s c ∙ e)

  fallen : (s : Suspension) (n : Refusal) → special n ≡ false → FineIn s (Falls n)
  fallen s n e = falls e

  -- the one-time block is entered, or left
  comes-in : (s : Suspension) → FineIn s (Starts InOneTime)
  unfolding data_of inside_data recovery_left suspension_of program_is_suspended raises_in raises_inside
  comes-in s = starts (entered-holds p bits) (λ g h. (lit< tt, lit< tt)) refl (λ h. refl)

  comes-out : (s : Suspension) → FineIn s (Starts Idle)
  unfolding data_of recovery_left suspension_of program_is_suspended raises_in
  comes-out s = starts (idle-holds p bits) (λ g h. (lit< tt, lit< tt)) refl (λ h. refl)

  resets-fine : (s : Suspension) → FineIn s (resets s)
  unfolding resets
  resets-fine Unsuspended = goes (ground-sound p _)
  resets-fine (OfProgram q) = goes (ground-sound p _)
  resets-fine (OfErase e) = goes (ground-sound p _)
  resets-fine Entered = comes-out Entered

  or-reset : (s : Suspension) {x : Effect} → FineIn s x → FineIn s (or_reset s w x)
  or-reset s f = by-test (FineIn s) (is w 0xF0) (λ _. resets-fine s) (λ _. f)

  unless-fine : (s : Suspension) {x : Effect} → (is_suspended s ≡ false → FineIn s x) → FineIn s (unless (is_suspended s) x)
  unfolding number
  unless-fine s f = by-test (FineIn s) (is_suspended s) (λ _. fallen s _ refl) f

  -- ---- operations that start

  resumes-fine : (s : Suspension) → operation_sound p bits (standing s) ≡ true → FineIn s (resumes s)
  unfolding resumes standing operation_sound data_of recovery_left suspension_of program_is_suspended number raises_in
  resumes-fine Unsuspended e = falls refl
  resumes-fine (OfProgram q) e = starts e (λ g h. h) refl (λ h. h)
  resumes-fine (OfErase x) e = starts (both_left _ _ e) (λ g h. (lit< tt, lit< tt)) refl (λ h. refl)
  resumes-fine Entered e = falls refl

  program-facts : (s : Suspension) → barred p bits (asks_for s a w) ≡ false → ProgramFacts p bits s (started p (asks_for s a w))
  program-facts s free =
      record { array = selected-sound s a w; in-part = selected-lies s a w p within; some_left = program-some p; most-left = omega arith; free = free }

  begins-fine : (s : Suspension) → operation_sound p bits (standing s) ≡ true → barred p bits (asks_for s a w) ≡ false → keeps_out p s (asks_for s a w) ≡ false
      → raises (asks_for s a w) l ≡ false → FineIn s (Starts (begins s (started p (asks_for s a w))))
  unfolding keeps_out begins standing data_of recovery_left inside_data suspension_of program_is_suspended raises_in raises_inside
  begins-fine Unsuspended e free off modest = starts (programming-holds p bits _ (program-facts Unsuspended free)) (λ g h. (g, lit< tt)) refl (λ h. modest)
  begins-fine (OfProgram q) e free off modest = clash refl off
  begins-fine (OfErase x) e free off modest =
      starts (inside-holds p bits _ _ (erase-suspended p bits _ e) (record { program = program-facts (OfErase x) free; off_list = off })) (λ g h. (g, lit< tt)) refl (λ h. modest)
  begins-fine Entered e free off modest = starts (one-time-holds p bits _ (program-facts Entered free)) (λ g h. (g, lit< tt)) refl (λ h. modest)

  data-fine : (s : Suspension) → operation_sound p bits (standing s) ≡ true → Reasons s (Entering ProgramData) → FineIn s (after_a0 p bits s l a w)
  unfolding after_a0 barred_as number
  data-fine s o why =
      let F = FineIn s in
      by-test F (barred p bits (asks_for s a w)) (λ _. fallen s _ (barred-plain (selected s a)))
      (λ free. by-test F (keeps_out p s (asks_for s a w)) (λ _. fallen s _ refl)
      (λ off. by-test F (raises (asks_for s a w) l) (λ more. raised (why (record { cycle = refl; unbarred = free; allowed = off; raises = more }))) (λ modest. begins-fine s o free off modest)))

  chip-fine : FineIn Unsuspended (chip_erase p bits)
  unfolding standing data_of recovery_left suspension_of program_is_suspended number raises_in
  chip-fine = by-test (Fine p bits l w Reason Idle) (all_protected p bits) (λ _. falls refl) (λ h. starts (chip-holds p bits _ (chip-opened p bits h)) (λ g h. (lit< tt, lit< tt)) refl (λ h. refl))

  block-fine : FineIn Unsuspended (block_erase p bits (block_of p a))
  unfolding standing data_of recovery_left suspension_of program_is_suspended number raises_in
  block-fine =
      by-test (Fine p bits l w Reason Idle) (protected bits (block_of p a)) (λ _. falls refl)
      (λ h. starts (window-holds p bits _ (opened p bits (block_of p a) block-below h) (λ n. opened-low p (block_of p a) n block-below)) (λ g h. (lit< tt, lit< tt)) refl (λ h. refl))

  -- ---- protection that changes

  -- where nothing is suspended no operation is hurt
  guards : (s : Suspension) → is_suspended s ≡ false → (new : Protection) → stray_bits p new ≡ false → (bits.sealed ≡ true → new.sealed ≡ true) → FineIn s (Protects new)
  unfolding is_suspended standing operation_sound
  guards Unsuspended n new h k = protects h refl k
  guards (OfProgram q) n new h k = clash refl n
  guards (OfErase e) n new h k = clash refl n
  guards Entered n new h k = protects h refl k

  locked-fine : (s : Suspension) → is_suspended s ≡ false → (new : Protection) → stray_bits p new ≡ false → (bits.sealed ≡ true → new.sealed ≡ true) → FineIn s (unless_locked bits new)
  unfolding number
  locked-fine s n new h k = by-test (FineIn s) bits.lock (λ _. fallen s _ refl) (λ _. guards s n new h k)

  -- ---- the register's states

  third-fine : (s : Suspension) → FineIn s (after_unlocked p bits s a w)
  unfolding after_unlocked number still_command cycle_sound cycle_unsuspended reading_sound
  third-fine s =
      let F = FineIn s in
      let on : (c : Cycle) → ((b : Bool) → cycle_unsuspended p b c ≡ true) → is_suspended s ≡ false → F (Goes (Entering c)) = λ c f n. moves s (Entering c) (unsuspended p s c f n) in
      or-reset s
      (by-test F (not (is_at a 0x555)) (λ _. fallen s _ refl)
      (λ _. by-test F (is w 0xA0) (λ _. by-test F (program_is_suspended s) (λ _. fallen s _ refl) (λ e. moves s _ (may-program p s e)))
      (λ _. by-test F (is w 0x80) (λ _. unless-fine s (λ n. by-test F (is_entered s) (λ _. fallen s _ refl) (λ m. rw (neither s n m) (moves Unsuspended _ refl))))
      (λ _. by-test F (is w 0x88) (λ _. unless-fine s (λ n. comes-in s))
      (λ _. by-test F (is w 0x90) (λ _. moves s _ (lt-ltb (bank_of p a) (bank_count p) (bank-below p a)))
      (λ _. by-test F (is w 0x58) (λ _. moves s _ refl)
      (λ _. by-test F (is w 0x48) (λ _. unless-fine s (on DybData (λ b. refl)))
      (λ _. by-test F (is w 0x78) (λ _. unless-fine s (λ n. guards s n _ none (λ k. k)))
      (λ _. by-test F (is w 0x60) (λ _. unless-fine s (on PpbSetup (λ b. refl))) (λ _. fallen s _ refl))))))))))

  lock-fine : (s : Suspension) → is_entered s ≡ true → FineIn s (lock_setup w)
  unfolding number still_command reading_sound
  lock-fine s e =
      by-test (FineIn s) (is w 0x68) (λ _. moves s _ (lock-cycle p s e)) (λ _. by-test (FineIn s) (is w 0x48) (λ _. moves s _ e) (λ _. fallen s _ refl))

  ppb-fine : (s : Suspension) → is_suspended s ≡ false → FineIn s (after60 p s a w)
  unfolding after60 number still_command cycle_unsuspended
  ppb-fine s n =
      let F = FineIn s in
      or-reset s
      (by-test F (at_lock s a) (λ e. lock-fine s (both_left (is_entered s) _ e))
      (λ _. by-test F (is w 0x68) (λ _. moves s _ (unsuspended p s (PpbSetting (block_of p a)) (λ b. lt-ltb (block_of p a) (block_count p) block-below) n))
      (λ _. by-test F (is w 0x60) (λ _. moves s _ (unsuspended p s PpbClearing (λ b. refl) n)) (λ _. fallen s _ refl))))

  cycle-fine : (c : Cycle) (s : Suspension) → operation_sound p bits (standing s) ≡ true → cycle_sound p s c ≡ true → Reasons s (Entering c) → FineIn s (continued p bits s c l a w)
  unfolding continued after_unlock after80 after_80_unlock after_80_unlocked after48 after68 after6060 after_lock_68 number still_command cycle_sound cycle_unsuspended cycle_in_suspension
  cycle-fine Unlock s o e why =
      by-test (FineIn s) (second_unlock a w) (λ _. moves s _ (early p s Unlocked (λ b. refl) (λ b. refl))) (λ _. or-reset s (fallen s _ refl))
  cycle-fine Unlocked s o e why = third-fine s
  cycle-fine ProgramData s o e why = data-fine s o why
  cycle-fine EraseSetup s o e why =
      rw (idle-cycle p s EraseSetup (λ b. refl) refl e)
      (by-test (FineIn Unsuspended) (first_unlock a w) (λ _. moves Unsuspended _ refl) (λ _. or-reset Unsuspended (fallen Unsuspended _ refl)))
  cycle-fine EraseUnlock s o e why =
      rw (idle-cycle p s EraseUnlock (λ b. refl) refl e)
      (by-test (FineIn Unsuspended) (second_unlock a w) (λ _. moves Unsuspended _ refl) (λ _. or-reset Unsuspended (fallen Unsuspended _ refl)))
  cycle-fine EraseUnlocked s o e why =
      let F = FineIn Unsuspended in
      rw (idle-cycle p s EraseUnlocked (λ b. refl) refl e)
      (or-reset Unsuspended
      (by-test F (is_at a 0x555 && is w 0x10) (λ _. chip-fine) (λ _. by-test F (is w 0x30) (λ _. block-fine) (λ _. fallen Unsuspended _ refl))))
  cycle-fine DybData s o e why =
      let n = late p s DybData (λ b. refl) e in
      by-test (FineIn s) (is_dyb w 1) (λ _. guards s n _ (stray-dyb-set p bits none (block_of p a) block-below) (λ k. k))
      (λ _. by-test (FineIn s) (is_dyb w 0) (λ _. guards s n _ (stray-dyb-cleared p bits none (block_of p a)) (λ k. k)) (λ _. fallen s _ refl))
  cycle-fine PpbSetup s o e why = ppb-fine s (late p s PpbSetup (λ b. refl) e)
  cycle-fine (PpbSetting b) s o e why =
      let n = late p s (PpbSetting b) (λ b. refl) e in
      or-reset s
      (by-test (FineIn s) (at_lock s a) (λ _. fallen s _ refl)
      (λ _. by-test (FineIn s) (is w 0x48 && eqb (block_of p a) b)
      (λ h. locked-fine s n _ (stray-ppb-set p bits none b (rw (← eqb-true (block_of p a) b (both_right (is w 0x48) _ h)) block-below)) (λ k. k))
      (λ _. fallen s _ refl)))
  cycle-fine PpbClearing s o e why =
      let n = late p s PpbClearing (λ b. refl) e in
      or-reset s
      (by-test (FineIn s) (at_lock s a) (λ _. fallen s _ refl)
      (λ _. by-test (FineIn s) (is w 0x40) (λ _. locked-fine s n _ (stray-ppbs-cleared p bits none) (λ k. k)) (λ _. fallen s _ refl)))
  cycle-fine OtpLocking s o e why =
      or-reset s (by-test (FineIn s) (at_lock s a && is w 0x48) (λ _. guards s (late p s OtpLocking (λ b. refl) e) _ none (λ k. refl)) (λ _. fallen s _ refl))

  pub enter-fine : (s : Suspension) (c : Command) → operation_sound p bits (standing s) ≡ true → command_sound p (standing s) c ≡ true → Reasons s c → FineIn s (entered p bits s c l a w)
  unfolding entered at_ground after_reading number still_command cycle_unsuspended cycle_in_suspension
  enter-fine s Ground o e why =
      let F = FineIn s in
      by-test F (first_unlock a w) (λ _. moves s _ (early p s Unlock (λ b. refl) (λ b. refl)))
      (λ _. or-reset s (by-test F (is w 0x30) (λ _. resumes-fine s o) (λ _. fallen s _ refl)))
  enter-fine s (Entering c) o e why = cycle-fine c s o (sym (command-standing p s (Entering c)) ∙ e) why
  enter-fine s (Reads r) o e why = or-reset s (by-test (FineIn s) (exits s r w) (λ _. comes-out s) (λ _. fallen s _ refl))
