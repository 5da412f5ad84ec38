-- A record of an older layout is the same record when it is carried over.
use Prim.Native.Nat.{ℕ, zero, suc, ◌≤◌}
use mathlib.Core.Path.{◌≡◌, refl, ap, sym, ◌∙◌}
use mathlib.Core.Bool.{Bool, true, false, ◌&&◌, or-true}
use mathlib.Core.List.{List, [], ◌∷◌}
use native.Mathlib.Omega.{arith}
use lib.Dec.{eqb, ltb}
use lib.ListN.{length}
use borrow.Author.Tests.{eqb-true}
use Rattle.plain.specs.declared.Program.{Program}
use Rattle.plain.specs.declared.Erase.{Erase}
use Rattle.plain.specs.declared.Operation.{Operation}
use Rattle.plain.specs.declared.Operation.TheVariants.{Idle, Programming, ProgramSuspended, Window, Erasing, Recovering, EraseSuspended, ChipErasing, InOneTime, OneTimeProgramming}
use Rattle.std.specs.Prelude.{if◌then◌else◌}
use Rattle.plain.specs.Operations.{suspension_of, is_entered}
use Rattle.plain.proofs.Tools.{by-test, both, both_left, both_right, clash}
use Rattle.layout.specs.Places.{layout_number, record_words, second_layout, second_words, layout_at, clock_at, operation_at, lock_at, recovery_at, entered_at, sealed_at}
use Rattle.layout.specs.Commands.{command_fits}
use Rattle.layout.specs.Operations.{parts_with, operation_numbered, operation_outside, operation_of}
use Rattle.layout.specs.Image.{word, words_from, section, zeros, command_words_of, erase_of, program_of, of_layout, marked, erase_fits, program_fits, operation_fits, recovery_fits, entered_fits, well_formed, device_of}
use Rattle.layout.specs.Carried.{Older, first, second, number_in, words_in, command_fitted, recovery_fitted, well_formed_in, operation_in, device_in, carriable, carried, CarriesOver, NoneRecovered, NoneEntered, StaysCarried}
use Rattle.layout.proofs.Words.{section-whole}
use Rattle.layout.proofs.Entered.{entered-read}

-- past the end a word is 0
pub past_end : (i : List ℕ) (n : ℕ) → length i ≤ n → word i n ≡ 0
past_end [] n h = refl
past_end (x ∷ i) zero h = absurd (omega arith)
past_end (x ∷ i) (suc n) h = past_end i n (omega arith)

-- ---- what it says that words of an older layout stood for a record, part by part

record Stood (v : Older) (i : List ℕ) : Type 0 where
  of : of_layout (number_in v) (words_in v) i ≡ true
  lock : ltb (word i lock_at) 2 ≡ true
  command : command_fits (command_words_of i) ≡ true
  operation : operation_fits i ≡ true
  recovery : recovery_fitted v i ≡ true

stood : (v : Older) (i : List ℕ) → well_formed_in v i ≡ true → Stood v i
unfolding well_formed_in
stood v i h =
    let mark = of_layout (number_in v) (words_in v) i && ltb (word i lock_at) 2 in
    let fits = both_right mark _ h in
    let rest = both_right (command_fitted (command_words_of i)) _ fits in
    record {
      of = both_left (of_layout (number_in v) (words_in v) i) _ (both_left mark _ h);
      lock = both_right (of_layout (number_in v) (words_in v) i) _ (both_left mark _ h);
      command = both_right (ltb (command_words_of i).number 13) _ (both_left (command_fitted (command_words_of i)) _ fits);
      operation = both_left (operation_fits i) _ rest;
      recovery = both_right (operation_fits i) _ rest;
    }

pub of-older : (v : Older) (i : List ℕ) → well_formed_in v i ≡ true → of_layout (number_in v) (words_in v) i ≡ true
of-older v i h = (stood v i h).of

-- it may be carried
pub older-carriable : (v : Older) (i : List ℕ) → of_layout (number_in v) (words_in v) i ≡ true → carriable i ≡ true
unfolding carriable
older-carriable first i of = rw (of, or-true (of_layout second_layout second_words i)) (or-true (of_layout layout_number record_words i))
older-carriable second i of = rw of (or-true (of_layout layout_number record_words i))

-- ---- carried over

beyond : (v : Older) (i : List ℕ) → of_layout (number_in v) (words_in v) i ≡ true → (n : ℕ) → words_in v ≤ n → word i n ≡ 0
beyond v i of n past =
    let long : length i ≡ words_in v = eqb-true (length i) (words_in v) (both_left (eqb (length i) (words_in v)) _ of) in
    past_end i n (omega (arith, long, past))

-- what the words that it did not have come to, which are 0
record Added (v : Older) (i : List ℕ) : Type 0 where
  recovers : recovery_fits i ≡ true
  runs : operation_outside (word i operation_at) (erase_of i) (program_of false i) (word i recovery_at) ≡ operation_in v i
  entered : word i entered_at ≡ 0
  sealed : word i sealed_at ≡ 0

added : (v : Older) (i : List ℕ) → well_formed_in v i ≡ true → Added v i
unfolding recovery_fits operation_outside operation_in
added first i h =
    let none = beyond first i (of-older first i h) recovery_at (omega arith) in
    record {
      recovers = rw none (or-true (eqb (word i operation_at) 4));
      runs = rw none;
      entered = beyond first i (of-older first i h) entered_at (omega arith);
      sealed = beyond first i (of-older first i h) sealed_at (omega arith);
    }
added second i h =
    record {
      recovers = (stood second i h).recovery;
      runs = refl;
      entered = beyond second i (of-older second i h) entered_at (omega arith);
      sealed = beyond second i (of-older second i h) sealed_at (omega arith);
    }

-- of a lock, and of the mode with any operation
zero-locks : (w : ℕ) → w ≡ 0 → ltb w 2 ≡ true
zero-locks w none = rw none

zero-enters : (few : Bool) (w : ℕ) → w ≡ 0 → (if few then ltb w 2 else eqb w 0) ≡ true
zero-enters true w none = rw none
zero-enters false w none = rw none

module _ (v : Older) (i : List ℕ) (h : well_formed_in v i ≡ true) where
  stands : well_formed (carried i) ≡ true
  unfolding well_formed carried marked operation_fits erase_fits program_fits recovery_fits entered_fits words_from zeros
  stands =
      let s = stood v i h in
      let n = added v i h in
      both _ _ (both _ _ s.lock (zero-locks (word i sealed_at) n.sealed))
      (both _ _ s.command (both _ _ s.operation (both _ _ n.recovers (zero-enters (ltb (word i operation_at) 2) (word i entered_at) n.entered))))

  stands-for : device_of (carried i) ≡ device_in v i
  unfolding carried device_of device_in operation_of words_from
  stands-for = rw ((added v i h).entered, (added v i h).sealed, (added v i h).runs)

pub carries_over : CarriesOver
carries_over v i h = (stands v i h, stands-for v i h)

pub stays-carried : StaysCarried
unfolding carried words_from
stays-carried i h =
    let long = eqb-true (length i) record_words (both_left (eqb (length i) record_words) _ h) in
    let number = eqb-true (word i layout_at) layout_number (both_right (eqb (length i) record_words) _ h) in
    ap (λ (v : ℕ). v ∷ section i clock_at record_words) (sym number) ∙ section-whole i record_words long

-- ---- what there was not

-- those of layout 1
is_early : Operation → Bool
is_early Idle = true
is_early (Programming q) = true
is_early (ProgramSuspended q) = true
is_early (Window e) = true
is_early (Erasing e) = true
is_early (Recovering r) = false
is_early (EraseSuspended s) = true
is_early (ChipErasing e) = true
is_early InOneTime = false
is_early (OneTimeProgramming q) = false

Early : Operation → Type 0
Early o = is_early o ≡ true

numbered-early : (n : ℕ) (e : Erase) (q : Program) → Early (operation_numbered n e q)
unfolding operation_numbered Early is_early
numbered-early n e q =
    by-test Early (eqb n 1) (λ _. refl)
    (λ _. by-test Early (eqb n 2) (λ _. refl)
    (λ _. by-test Early (eqb n 3) (λ _. refl)
    (λ _. by-test Early (eqb n 4) (λ _. refl)
    (λ _. by-test Early (eqb n 5) (λ _. refl)
    (λ _. by-test Early (eqb n 6) (λ _. refl)
    (λ _. by-test Early (eqb n 7) (λ _. refl) (λ _. refl)))))))

pub none-recovered : NoneRecovered
unfolding device_in operation_in Early is_early
none-recovered i r e = clash (numbered-early _ _ _) (ap is_early e)

-- by the words of the mode and of the lock
by_mode : (w n : ℕ) (e : Erase) (q : Program) (t : ℕ) → w ≡ 0 → is_entered (suspension_of (operation_of (parts_with n e q t (eqb w 1)))) ≡ false
by_mode w n e q t none = rw none (entered-read n e q t false)

by-lock : (w : ℕ) → w ≡ 0 → eqb w 1 ≡ false
by-lock w none = rw none

older-few : (v : Older) → words_in v ≤ entered_at
older-few first = omega arith
older-few second = omega arith

pub none-entered : NoneEntered
unfolding carried device_of words_from
none-entered v i of =
    let few = older-few v in
    (by_mode (word i entered_at) _ _ _ _ (beyond v i of entered_at (omega (arith, few))), by-lock (word i sealed_at) (beyond v i of sealed_at (omega (arith, few))))
