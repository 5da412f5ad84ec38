-- The register while nothing runs: which of its states may follow which, and which array a program's address selects.
use Prim.Native.Nat.{ℕ, ◌<◌}
use mathlib.Core.Path.{◌≡◌, refl}
use mathlib.Core.Bool.{Bool, true, false, ◌&&◌}
use lib.Dec.{ltb}
use borrow.Author.Tests.{lt-ltb}
use Rattle.geometry.specs.declared.Part.{Part}
use Rattle.geometry.specs.Parts.{word_count}
use Rattle.plain.specs.declared.Array.{Array}
use Rattle.plain.specs.declared.Suspension.{Suspension}
use Rattle.plain.specs.declared.Suspension.TheVariants.{Unsuspended, OfProgram, OfErase, Entered}
use Rattle.plain.specs.declared.Cycle.{Cycle}
use Rattle.plain.specs.declared.Cycle.TheVariants.{ProgramData, OtpLocking}
use Rattle.plain.specs.Commands.{program_is_suspended, is_suspended}
use Rattle.plain.specs.Lent.{otp_words, words_of}
use Rattle.plain.specs.Operations.{is_entered, selected}
use Rattle.plain.specs.Programs.{writing, first_word, array_written, lies_in}
use Rattle.plain.specs.Sound.{array_sound, cycle_unsuspended, cycle_in_suspension, cycle_sound}
use Rattle.plain.proofs.Lents.{same_refl}
use Rattle.plain.proofs.Tools.{by-test, both_right, clash}

-- ---- cycles

-- a cycle that idleness, the one-time block and both suspensions allow
pub early : (p : Part) (s : Suspension) (c : Cycle) → ((b : Bool) → cycle_unsuspended p b c ≡ true) → ((b : Bool) → cycle_in_suspension b c ≡ true) → cycle_sound p s c ≡ true
unfolding cycle_sound
early p Unsuspended c f g = f false
early p (OfProgram q) c f g = g false
early p (OfErase e) c f g = g true
early p Entered c f g = f true

-- one that idleness and the one-time block allow
pub unsuspended : (p : Part) (s : Suspension) (c : Cycle) → ((b : Bool) → cycle_unsuspended p b c ≡ true) → is_suspended s ≡ false → cycle_sound p s c ≡ true
unfolding cycle_sound is_suspended
unsuspended p Unsuspended c f e = f false
unsuspended p (OfProgram q) c f e = clash refl e
unsuspended p (OfErase x) c f e = clash refl e
unsuspended p Entered c f e = f true

-- one that no suspension allows
pub late : (p : Part) (s : Suspension) (c : Cycle) → ((b : Bool) → cycle_in_suspension b c ≡ false) → cycle_sound p s c ≡ true → is_suspended s ≡ false
unfolding cycle_sound is_suspended
late p Unsuspended c f e = refl
late p (OfProgram q) c f e = clash e (f false)
late p (OfErase x) c f e = clash e (f true)
late p Entered c f e = refl

-- neither suspended nor entered
pub neither : (s : Suspension) → is_suspended s ≡ false → is_entered s ≡ false → s ≡ Unsuspended
unfolding is_suspended
neither Unsuspended e f = refl
neither (OfProgram q) e f = clash refl e
neither (OfErase x) e f = clash refl e
neither Entered e f = clash refl f

-- a cycle that idleness alone allows
pub idle-cycle : (p : Part) (s : Suspension) (c : Cycle) → ((b : Bool) → cycle_in_suspension b c ≡ false) → cycle_unsuspended p true c ≡ false → cycle_sound p s c ≡ true → s ≡ Unsuspended
unfolding cycle_sound
idle-cycle p Unsuspended c f n e = refl
idle-cycle p (OfProgram q) c f n e = clash e (f false)
idle-cycle p (OfErase x) c f n e = clash e (f true)
idle-cycle p Entered c f n e = clash e n

-- the customer's lock is set in the one-time block
pub lock-cycle : (p : Part) (s : Suspension) → is_entered s ≡ true → cycle_sound p s OtpLocking ≡ true
unfolding cycle_sound cycle_unsuspended
lock-cycle p Unsuspended e = clash e refl
lock-cycle p (OfProgram q) e = clash e refl
lock-cycle p (OfErase x) e = clash e refl
lock-cycle p Entered e = refl

-- A0H is refused in a suspended program alone
pub may-program : (p : Part) (s : Suspension) → program_is_suspended s ≡ false → cycle_sound p s ProgramData ≡ true
unfolding program_is_suspended cycle_sound cycle_unsuspended cycle_in_suspension
may-program p Unsuspended e = refl
may-program p (OfProgram q) e = clash refl e
may-program p (OfErase x) e = refl
may-program p Entered e = refl

-- ---- the array that a program's address selects

module _ (s : Suspension) (a w : ℕ) where
  pub selected-sound : array_sound s (writing (selected s a) a w) ≡ true
  unfolding array_written first_word
  selected-sound = same_refl (selected s a)

  pub selected-lies : (p : Part) → a < word_count p → lies_in p (writing (selected s a) a w) ≡ true
  unfolding lies_in
  selected-lies p within =
      by-test (λ (y : Array). ltb a (words_of p y) ≡ true) (is_entered s && ltb a otp_words) (λ e. both_right (is_entered s) (ltb a otp_words) e)
      (λ e. lt-ltb a (word_count p) within)
