-- The word that an event gives: 16 bits of a read over words of 16 bits, and 0 of every other event.
use Prim.Native.Nat.{ℕ, ◌%◌, ◌≤◌, ◌<◌}
use mathlib.Core.Path.{◌≡◌, refl}
use mathlib.Core.Bool.{Bool, true, false}
use mathlib.Core.List.{List}
use native.Mathlib.Omega.{arith}
use lib.Dec.{eqb, lit<}
use Rattle.blocks.specs.Blocks.{has}
use Rattle.geometry.specs.declared.Part.{Part}
use Rattle.geometry.specs.Parts.{block_of}
use Rattle.protection.specs.declared.Protection.{Protection}
use Rattle.plain.specs.declared.Array.{Array}
use Rattle.plain.specs.declared.Refusal.TheVariants.{Address, Clock, Debris}
use Rattle.plain.specs.declared.Running.{Running}
use Rattle.plain.specs.declared.Running.TheVariants.{Still, Programs, Waits, Erases, Recovers, ErasesChip}
use Rattle.plain.specs.declared.Suspension.{Suspension}
use Rattle.plain.specs.declared.Suspension.TheVariants.{Unsuspended, OfProgram, OfErase, Entered}
use Rattle.plain.specs.declared.Command.{Command}
use Rattle.plain.specs.declared.Command.TheVariants.{Ground, Entering, Reads}
use Rattle.plain.specs.declared.Operation.{Operation}
use Rattle.plain.specs.declared.Reading.{Reading}
use Rattle.plain.specs.declared.Reading.TheVariants.{Identity, Dybs, OtpLock}
use Rattle.plain.specs.declared.Effect.{Effect}
use Rattle.plain.specs.declared.Effect.TheVariants.{Goes, Starts, Protects, Falls, Stays, Drops}
use Rattle.plain.specs.declared.Device.{Device}
use Rattle.plain.specs.declared.Seen.{Seen}
use Rattle.std.specs.Prelude.{if◌then◌else◌}
use Rattle.plain.specs.Commands.{effected}
use Rattle.plain.specs.Lent.{Lent, word_at}
use Rattle.plain.specs.Machine.{Outcome, read_event, write_event, wait_event, cut_event}
use Rattle.plain.specs.Operations.{running_of, suspension_of, selected}
use Rattle.plain.specs.Programs.{dq7}
use Rattle.plain.specs.Status.{status_word, polls, polled, status, given_word, reading_on, reading_word, rests, rest_word, rested, look}
use Rattle.plain.proofs.Ladder.{by-ladder}
use Rattle.plain.proofs.Tools.{by-test}
use Rattle.audit.specs.Called.{SixteenBits}

-- ---- of a read

shown : (b : Bool) (n : ℕ) → (if b then n else 0) ≤ n
shown true n = omega arith
shown false n = omega arith

status-short : (seven six three two : Bool) → SixteenBits (status_word seven six three two)
status-short seven six three two = omega (arith, shown seven 0x80, shown six 0x40, shown three 0x08, shown two 0x04)

running-short : (r : Running) → SixteenBits (status r)
unfolding status
running-short Still = lit< tt
running-short (Programs q) = status-short (dq7 q.writes) q.dq6 false true
running-short (Waits e) = status-short false e.dq6 false e.dq2
running-short (Erases e) = status-short false e.dq6 true e.dq2
running-short (Recovers r) = status-short false r.erase.dq6 true r.erase.dq2
running-short (ErasesChip e) = status-short false e.dq6 true e.dq2

rest-short : (s : Suspension) → SixteenBits (rest_word s)
unfolding rest_word
rest-short Unsuspended = lit< tt
rest-short (OfProgram q) = status-short (dq7 q.writes) true false true
rest-short (OfErase e) = status-short true true false e.dq2
rest-short Entered = lit< tt

given-short : (p : Part) (bits : Protection) (r : Reading) (a : ℕ) → SixteenBits (given_word p bits r a)
unfolding given_word
given-short p bits (Identity b) a =
    by-test SixteenBits (eqb (a % 256) 0) (λ _. lit< tt)
    (λ _. by-test SixteenBits (eqb (a % 256) 2) (λ _. by-test SixteenBits (has bits.ppb (block_of p a)) (λ _. lit< tt) (λ _. lit< tt)) (λ _. lit< tt))
given-short p bits Dybs a = omega (arith, shown (has bits.dyb (block_of p a)) 1, shown bits.lock 2)
given-short p bits OtpLock a = omega (arith, shown bits.sealed 1)

reading-short : (p : Part) (bits : Protection) (c : Command) (a : ℕ) → SixteenBits (reading_word p bits c a)
unfolding reading_word
reading-short p bits Ground a = lit< tt
reading-short p bits (Entering c) a = lit< tt
reading-short p bits (Reads r) a = given-short p bits r a

Brief : Seen → Type 0
Brief s = SixteenBits s.word

look-short : (p : Part) (bits : Protection) (c : Command) (o : Operation) (l : Lent) (a : ℕ) → ((y : Array) → SixteenBits (word_at l y a)) → Brief (look p bits c o l a)
unfolding Brief look
look-short p bits c o l a h =
    by-test Brief (polls p (running_of o) a) (λ _. running-short (running_of (polled p o a)))
    (λ _. by-test Brief (reading_on p c a) (λ _. reading-short p bits c a)
    (λ _. by-test Brief (rests p (suspension_of o) a) (λ _. rest-short (suspension_of (rested o))) (λ _. h (selected (suspension_of o) a))))

module _ (p : Part) (r : Device) (l : Lent) where
  Gives16 : Outcome → Type 0
  Gives16 o = SixteenBits o.answer.word

  pub read_word : (a : ℕ) → ((y : Array) → SixteenBits (word_at l y a)) → SixteenBits (read_event p r l a).answer.word
  unfolding Gives16 Brief read_event
  read_word a h = by-ladder p r l _ Address _ Gives16 (λ _. lit< tt) (lit< tt) (λ _. lit< tt) (λ _ _. look-short p r.bits r.command r.operation l a h)

  -- ---- "every event that is no read, gives the word 0"

  Gives0 : Outcome → Type 0
  Gives0 o = o.answer.word ≡ 0

  effect-0 : (e : Effect) → (effected r e).word ≡ 0
  unfolding effected
  effect-0 (Goes c) = refl
  effect-0 (Starts o) = refl
  effect-0 (Protects b) = refl
  effect-0 (Falls n) = refl
  effect-0 (Stays n) = refl
  effect-0 Drops = refl

  pub write_word : (a w : ℕ) → (write_event p r l a w).answer.word ≡ 0
  unfolding Gives0 write_event
  write_word a w = by-ladder p r l _ Address _ Gives0 (λ _. refl) refl (λ _. refl) (λ _ _. effect-0 _)

  pub wait-word : (n : ℕ) → (wait_event p r l n).answer.word ≡ 0
  unfolding Gives0 wait_event
  wait-word n = by-ladder p r l _ Clock _ Gives0 (λ _. refl) refl (λ _. refl) (λ _ _. refl)

  pub cut_word : (debris : List ℕ) → (cut_event p r l debris).answer.word ≡ 0
  unfolding Gives0 cut_event
  cut_word debris = by-ladder p r l _ Debris _ Gives0 (λ _. refl) refl (λ _. refl) (λ _ _. refl)
