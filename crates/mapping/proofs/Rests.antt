-- What is suspended or entered in a sound record, and the bank that it rests in.
use Prim.Native.Nat.{ℕ, ◌<◌}
use mathlib.Core.Path.{◌≡◌, refl, sym, ap, ◌∙◌}
use mathlib.Core.Bool.{true, false}
use native.Mathlib.Omega.{arith}
use lib.Dec.{ltb}
use borrow.Author.Tests.{eqb-true, eq-eqb, lt-ltb, ltb-true}
use Rattle.geometry.specs.declared.Part.{Part}
use Rattle.geometry.specs.declared.Part.TheVariants.{Small, Full}
use Rattle.geometry.specs.Parts.{unit_of, bank_of, bank_of_block, block_of}
use Rattle.geometry.proofs.Laid.{laid}
use Rattle.protection.specs.declared.Protection.{Protection}
use Rattle.plain.specs.declared.Array.TheVariants.{Main}
use Rattle.plain.specs.declared.Written.{Written}
use Rattle.plain.specs.declared.Operation.{Operation}
use Rattle.plain.specs.declared.Operation.TheVariants.{Idle, Programming, ProgramSuspended, Window, Erasing, Recovering, EraseSuspended, ChipErasing, InOneTime, OneTimeProgramming}
use Rattle.plain.specs.declared.Suspension.{Suspension}
use Rattle.plain.specs.declared.Suspension.TheVariants.{Unsuspended, OfProgram, OfErase, Entered}
use Rattle.plain.specs.Figures.{erase_time}
use Rattle.plain.specs.Lent.{otp_words}
use Rattle.plain.specs.Operations.{suspension_of, selected}
use Rattle.plain.specs.Programs.{block_written, bank_written}
use Rattle.plain.specs.Sound.{operation_sound}
use Rattle.plain.specs.Status.{rests}
use Rattle.plain.proofs.Tools.{by_cases, clash}
use Rattle.plain.proofs.Facts.{ProgramFacts, program-suspended, BlockEraseFacts, erase-suspended}
use Rattle.mapping.specs.Mapped.{rests_in}

-- what a sound record says of it
unfoldable pub Known : Part → Protection → Suspension → Type 0
Known p bits Unsuspended = Unit {0}
Known p bits (OfProgram q) = ProgramFacts p bits Unsuspended q
Known p bits (OfErase e) = BlockEraseFacts p bits e (erase_time p)
Known p bits Entered = Unit {0}

pub known : (p : Part) (bits : Protection) (o : Operation) → operation_sound p bits o ≡ true → Known p bits (suspension_of o)
unfolding Known suspension_of
known p bits Idle s = tt
known p bits (Programming q) s = tt
known p bits (ProgramSuspended q) s = program-suspended p bits q s
known p bits (Window e) s = tt
known p bits (Erasing e) s = tt
known p bits (Recovering r) s = tt
known p bits (EraseSuspended r) s = erase-suspended p bits r s
known p bits (ChipErasing e) s = tt
known p bits InOneTime s = tt
known p bits (OneTimeProgramming q) s = tt

-- a program's bank is that of its block
pub written-bank : (p : Part) (d : Written) → bank_written p d ≡ bank_of_block p (block_written p d)
unfolding bank_written block_written
written-bank p d = (laid p).one-bank _

module _ (p : Part) (bits : Protection) where
  -- what rests at an address rests in its bank
  rests-in : (s : Suspension) → Known p bits s → (a : ℕ) → rests p s a ≡ true → rests_in p s (bank_of p a) ≡ true
  unfolding Known rests rests_in
  rests-in Unsuspended k a e = clash e refl
  rests-in (OfProgram q) k a e =
      let same = eqb-true (block_of p a) (block_written p q.writes) e in
      eq-eqb _ _ ((laid p).one-bank a ∙ ap (bank_of_block p) same ∙ sym (written-bank p q.writes))
  rests-in (OfErase e) k a listed = eq-eqb _ _ ((laid p).one-bank a ∙ k.one-bank (block_of p a) listed)
  rests-in Entered k a e = clash e refl

  pub none-rests : (s : Suspension) → Known p bits s → (a : ℕ) → rests_in p s (bank_of p a) ≡ false → rests p s a ≡ false
  none-rests s k a e = by_cases (rests p s a) (λ t. clash (rests-in s k a t) e) (λ t. t)

-- ---- the one-time words are read in the bank of address 0

pub one-time-bank : (p : Part) (a : ℕ) → a < otp_words → bank_of p a ≡ bank_of p 0
unfolding bank_of unit_of
one-time-bank Small a h = rw (lt-ltb a 2048 (omega (arith, h)))
one-time-bank Full a h = rw (lt-ltb a 1048576 (omega (arith, h)))

-- elsewhere every address is of the main array
pub main-read : (p : Part) (s : Suspension) (a : ℕ) → rests_in p s (bank_of p a) ≡ false → selected s a ≡ Main
unfolding rests_in
main-read p Unsuspended a e = refl
main-read p (OfProgram q) a e = refl
main-read p (OfErase w) a e = refl
main-read p Entered a e =
    by_cases (ltb a otp_words) (λ t. clash (eq-eqb _ _ (one-time-bank p a (ltb-true a otp_words t))) e) (λ t. rw t)
