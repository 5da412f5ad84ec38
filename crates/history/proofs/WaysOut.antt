-- What a write does in the one-time block while nothing runs: F0H, and 00H after 90H, leave it, and no other write does.
use Prim.Native.Nat.{ℕ, ◌%◌}
use mathlib.Core.Path.{◌≡◌, refl}
use mathlib.Core.Bool.{true, false, ◌&&◌, not, and-false}
use lib.Dec.{eqb}
use borrow.Author.Tests.{eqb-true}
use Rattle.geometry.specs.declared.Part.{Part}
use Rattle.geometry.specs.Parts.{block_of}
use Rattle.protection.specs.declared.Protection.{Protection}
use Rattle.plain.specs.declared.Refusal.{Refusal}
use Rattle.plain.specs.declared.Operation.{Operation}
use Rattle.plain.specs.declared.Operation.TheVariants.{Idle}
use Rattle.plain.specs.declared.Suspension.TheVariants.{Entered}
use Rattle.plain.specs.declared.Command.{Command}
use Rattle.plain.specs.declared.Command.TheVariants.{Ground, Entering, Reads}
use Rattle.plain.specs.declared.Cycle.{Cycle}
use Rattle.plain.specs.declared.Cycle.TheVariants.{Unlock, Unlocked, ProgramData, EraseSetup, EraseUnlock, EraseUnlocked, DybData, PpbSetup, PpbSetting, PpbClearing, OtpLocking}
use Rattle.plain.specs.declared.Reading.{Reading}
use Rattle.plain.specs.declared.Reading.TheVariants.{Identity, Dybs, OtpLock}
use Rattle.plain.specs.declared.Effect.{Effect}
use Rattle.plain.specs.declared.Effect.TheVariants.{Goes, Starts, Protects, Falls}
use Rattle.plain.specs.Commands.{is_suspended, program_is_suspended, resumes, keeps_out, begins, at_lock, resets, or_reset, unless_locked, exits, at_ground, after_unlock, after_unlocked, after_a0, after80, after_80_unlock, after_80_unlocked, after48, after60, after68, after6060, after_lock_68, after_reading, continued, entered}
use Rattle.plain.specs.Cycles.{is_at, is, first_unlock, second_unlock, is_dyb}
use Rattle.plain.specs.Events.{write}
use Rattle.plain.specs.Lent.{Lent}
use Rattle.plain.specs.OneTime.{WayOut, by-reset, by-exit}
use Rattle.plain.specs.Operations.{suspension_of, is_entered}
use Rattle.plain.specs.Programs.{barred, raises}
use Rattle.plain.specs.Sound.{cycle_unsuspended, cycle_sound, still_command}
use Rattle.plain.proofs.Tools.{by-test, clash}
use Rattle.history.proofs.Fine.{asks_for}

module _ (p : Part) (bits : Protection) (l : Lent) (a w : ℕ) where
  -- ---- they leave it

  module _ (f : is w 0xF0 ≡ true) where
    low : w % 256 ≡ 0xF0
    low = eqb-true (w % 256) 0xF0 f

    cycle-resets : (c : Cycle) → (Entering c ≡ Entering ProgramData → ⊥) → (Entering c ≡ Entering DybData → ⊥) → continued p bits Entered c l a w ≡ Starts Idle
    unfolding continued after_unlock after_unlocked after80 after_80_unlock after_80_unlocked after60 after68 after6060 after_lock_68 resets
    cycle-resets Unlock m n = rw (low, and-false (is_at a 0x2AA))
    cycle-resets Unlocked m n = rw f
    cycle-resets ProgramData m n = absurd (m refl)
    cycle-resets EraseSetup m n = rw (low, and-false (is_at a 0x555))
    cycle-resets EraseUnlock m n = rw (low, and-false (is_at a 0x2AA))
    cycle-resets EraseUnlocked m n = rw f
    cycle-resets DybData m n = absurd (n refl)
    cycle-resets PpbSetup m n = rw f
    cycle-resets (PpbSetting b) m n = rw f
    cycle-resets PpbClearing m n = rw f
    cycle-resets OtpLocking m n = rw f

    pub reset-out : (c : Command) → (c ≡ Entering ProgramData → ⊥) → (c ≡ Entering DybData → ⊥) → entered p bits Entered c l a w ≡ Starts Idle
    unfolding entered at_ground after_reading resets
    reset-out Ground m n = rw (low, and-false (is_at a 0x555))
    reset-out (Entering c) m n = cycle-resets c m n
    reset-out (Reads r) m n = rw f

  pub exit_out : (bank : ℕ) → is w 0x00 ≡ true → entered p bits Entered (Reads (Identity bank)) l a w ≡ Starts Idle
  unfolding entered after_reading exits
  exit_out bank f = rw (eqb-true (w % 256) 0x00 f)

  -- ---- no other write does

  -- if the effect leaves the block, the write is one of the two; and no list is dropped there
  pub data Leaving (c : Command) : Effect → Type 0 where
    goes : {d : Command} → Leaving c (Goes d)
    starts : {o : Operation} → (is_entered (suspension_of o) ≡ false → WayOut c (write a w)) → Leaving c (Starts o)
    protects : {new : Protection} → Leaving c (Protects new)
    falls : {n : Refusal} → Leaving c (Falls n)

  resets-leaving : (c : Command) → is w 0xF0 ≡ true → Leaving c (resets Entered)
  unfolding resets
  resets-leaving c f = starts (λ _. by-reset f)

  or-reset : (c : Command) {x : Effect} → Leaving c x → Leaving c (or_reset Entered w x)
  or-reset c k = by-test (Leaving c) (is w 0xF0) (resets-leaving c) (λ _. k)

  data-leaving : (c : Command) → Leaving c (after_a0 p bits Entered l a w)
  unfolding after_a0 begins suspension_of
  data-leaving c =
      let d = asks_for Entered a w in
      by-test (Leaving c) (barred p bits d) (λ _. falls)
      (λ _. by-test (Leaving c) (keeps_out p Entered d) (λ _. falls) (λ _. by-test (Leaving c) (raises d l) (λ _. falls) (λ _. starts (clash refl))))

  third-leaving : (c : Command) → Leaving c (after_unlocked p bits Entered a w)
  unfolding after_unlocked is_suspended program_is_suspended suspension_of
  third-leaving c =
      let F = Leaving c in
      or-reset c
      (by-test F (not (is_at a 0x555)) (λ _. falls)
      (λ _. by-test F (is w 0xA0) (λ _. goes)
      (λ _. by-test F (is w 0x80) (λ _. falls)
      (λ _. by-test F (is w 0x88) (λ _. starts (clash refl))
      (λ _. by-test F (is w 0x90) (λ _. goes)
      (λ _. by-test F (is w 0x58) (λ _. goes)
      (λ _. by-test F (is w 0x48) (λ _. goes)
      (λ _. by-test F (is w 0x78) (λ _. protects)
      (λ _. by-test F (is w 0x60) (λ _. goes) (λ _. falls))))))))))

  locks-leaving : (c : Command) (new : Protection) → Leaving c (unless_locked bits new)
  locks-leaving c new = by-test (Leaving c) bits.lock (λ _. falls) (λ _. protects)

  setup-leaving : (c : Command) → Leaving c (after60 p Entered a w)
  unfolding after60
  setup-leaving c =
      let F = Leaving c in
      or-reset c
      (by-test F (at_lock Entered a) (λ _. by-test F (is w 0x68) (λ _. goes) (λ _. by-test F (is w 0x48) (λ _. goes) (λ _. falls)))
      (λ _. by-test F (is w 0x68) (λ _. goes) (λ _. by-test F (is w 0x60) (λ _. goes) (λ _. falls))))

  cycle-leaving : (c : Cycle) → cycle_sound p Entered c ≡ true → Leaving (Entering c) (continued p bits Entered c l a w)
  unfolding continued after_unlock after80 after_80_unlock after48 after68 after6060 after_lock_68 cycle_sound cycle_unsuspended
  cycle-leaving Unlock s = by-test (Leaving (Entering Unlock)) (second_unlock a w) (λ _. goes) (λ _. or-reset _ falls)
  cycle-leaving Unlocked s = third-leaving _
  cycle-leaving ProgramData s = data-leaving _
  cycle-leaving EraseSetup s = clash s refl
  cycle-leaving EraseUnlock s = clash s refl
  cycle-leaving EraseUnlocked s = clash s refl
  cycle-leaving DybData s =
      let F = Leaving (Entering DybData) in
      by-test F (is_dyb w 1) (λ _. protects) (λ _. by-test F (is_dyb w 0) (λ _. protects) (λ _. falls))
  cycle-leaving PpbSetup s = setup-leaving _
  cycle-leaving (PpbSetting b) s =
      let F = Leaving (Entering (PpbSetting b)) in
      or-reset _ (by-test F (at_lock Entered a) (λ _. falls) (λ _. by-test F (is w 0x48 && eqb (block_of p a) b) (λ _. locks-leaving _ _) (λ _. falls)))
  cycle-leaving PpbClearing s =
      let F = Leaving (Entering PpbClearing) in
      or-reset _ (by-test F (at_lock Entered a) (λ _. falls) (λ _. by-test F (is w 0x40) (λ _. locks-leaving _ _) (λ _. falls)))
  cycle-leaving OtpLocking s = or-reset _ (by-test (Leaving (Entering OtpLocking)) (at_lock Entered a && is w 0x48) (λ _. protects) (λ _. falls))

  exits-leaving : (r : Reading) → exits Entered r w ≡ true → Leaving (Reads r) (Starts Idle)
  unfolding exits
  exits-leaving (Identity bank) e = starts (λ _. by-exit refl e)
  exits-leaving Dybs e = clash e refl
  exits-leaving OtpLock e = clash e refl

  pub leaving : (c : Command) → still_command p Entered c ≡ true → Leaving c (entered p bits Entered c l a w)
  unfolding entered at_ground after_reading resumes still_command
  leaving Ground s =
      let F = Leaving Ground in
      by-test F (first_unlock a w) (λ _. goes) (λ _. or-reset Ground (by-test F (is w 0x30) (λ _. falls) (λ _. falls)))
  leaving (Entering c) s = cycle-leaving c s
  leaving (Reads r) s = or-reset (Reads r) (by-test (Leaving (Reads r)) (exits Entered r w) (λ e. exits-leaving r e) (λ _. falls))
