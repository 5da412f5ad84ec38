-- Soundness asked so that it is quick to compute: words of a set that are 0 are passed over, and the lent length is not counted anew.
use Rattle.std.specs.Prelude.{Result, Ok, Err}
use Prim.Native.Nat.{ℕ, zero, suc, ◌+◌, ◌*◌, ◌/◌, ◌%◌, ◌<◌}
use mathlib.Core.Path.{◌≡◌, refl, sym, ◌∙◌}
use mathlib.Core.Bool.{Bool, true, false, ◌&&◌, ◌||◌, not}
use native.Mathlib.Nat.{add-zero, add-suc}
use native.Mathlib.Omega.{arith}
use lib.Dec.{ltb, eqb}
use borrow.Author.Tests.{eqb-true}
use Rattle.blocks.specs.declared.Blocks.{Blocks}
use Rattle.blocks.specs.Blocks.{has, some}
use Rattle.blocks.specs.Words.{word}
use Rattle.blocks.proofs.Bit.{bit-zero}
use Rattle.blocks.proofs.Laws.{some_same, some-none}
use Rattle.geometry.specs.declared.Part.{Part}
use Rattle.geometry.specs.Parts.{block_count}
use Rattle.protection.specs.declared.Protection.{Protection}
use Rattle.protection.specs.Protection.{stray_bits}
use Rattle.plain.specs.declared.Refusal.TheVariants.{State, Cells}
use Rattle.plain.specs.declared.Erase.{Erase}
use Rattle.plain.specs.declared.Operation.{Operation}
use Rattle.plain.specs.declared.Operation.TheVariants.{Idle, Programming, ProgramSuspended, Window, Erasing, Recovering, EraseSuspended, ChipErasing, InOneTime, OneTimeProgramming}
use Rattle.plain.specs.declared.Suspension.TheVariants.{Unsuspended, Entered}
use Rattle.plain.specs.declared.Device.{Device}
use Rattle.std.specs.Prelude.{if◌then◌else◌}
use Rattle.plain.specs.Figures.{window_time, erase_time, recovery_time, chip_time}
use Rattle.plain.specs.Lent.{Lent, is_whole}
use Rattle.plain.specs.Machine.{entry}
use Rattle.plain.specs.Sound.{meter_sound, time_sound, program_sound, may_erase, may_chip_erase, only_those, list_sound, chip_list_sound, lowest, inside_sound, operation_sound, command_sound, sound}
use Rattle.plain.specs.declared.Refusal.{Refusal}

or-false : (a : Bool) → (a || false) ≡ a
or-false true = refl
or-false false = refl

or_assoc : (a b c : Bool) → ((a || b) || c) ≡ (a || (b || c))
or_assoc true b c = refl
or_assoc false b c = refl

and_comm : (a b : Bool) → (a && b) ≡ (b && a)
and_comm true true = refl
and_comm true false = refl
and_comm false true = refl
and_comm false false = refl

-- ---- the sets: does some number of a set pass a test?

-- of its word i; a word that is 0 holds none
unfoldable pub some_at : Blocks → (ℕ → Bool) → (i : ℕ) → Bool
some_at s test i = elim (eqb (word s i) 0) [ true ↦ false | false ↦ some (λ k. has s (64 * i + k) && test (64 * i + k)) 64 ]

-- of its first i words
unfoldable pub some_of : Blocks → (ℕ → Bool) → (i : ℕ) → Bool
some_of s test zero = false
some_of s test (suc i) = some_of s test i || some_at s test i

some-add : (p : ℕ → Bool) (m n : ℕ) → some p (m + n) ≡ (some p m || some (λ k. p (m + k)) n)
unfolding some
some-add p m zero = rw add-zero (sym (or-false (some p m)))
some-add p m (suc n) = rw (add-suc, some-add p m n) (or_assoc (some p m) (some (λ k. p (m + k)) n) (p (m + n)))

some_at_lem : (s : Blocks) (test : ℕ → Bool) (i : ℕ) → some (λ k. has s (64 * i + k) && test (64 * i + k)) 64 ≡ some_at s test i
unfolding some_at has
some_at_lem s test i = go (eqb (word s i) 0) refl
  where
    none : word s i ≡ 0 → (k : ℕ) → k < 64 → (has s (64 * i + k) && test (64 * i + k)) ≡ false
    none e k l =
        let q : (64 * i + k) / 64 ≡ i = omega arith in
        rw (q, e, bit-zero ((64 * i + k) % 64))

    go : (b : Bool) → eqb (word s i) 0 ≡ b
        → some (λ k. has s (64 * i + k) && test (64 * i + k)) 64 ≡ (elim b [ true ↦ false | false ↦ some (λ k. has s (64 * i + k) && test (64 * i + k)) 64 ])
    go true e = some-none _ 64 (none (eqb-true _ _ e))
    go false e = refl

some_of_lem : (s : Blocks) (test : ℕ → Bool) (i : ℕ) → some (λ b. has s b && test b) (64 * i) ≡ some_of s test i
unfolding some_of some
some_of_lem s test zero = refl
some_of_lem s test (suc i) =
    let e : 64 * suc i ≡ 64 * i + 64 = omega arith in
    rw (e, some-add (λ b. has s b && test b) (64 * i) 64, some_of_lem s test i, some_at_lem s test i)

quick-stray : (p : Part) (bits : Protection)
    → stray_bits p bits ≡ (some_of bits.dyb (λ b. not (ltb b (block_count p))) 5 || some_of bits.ppb (λ b. not (ltb b (block_count p))) 5)
quick-stray p bits = rw (in-set bits.dyb, in-set bits.ppb)
  where
    in-set : (s : Blocks) → some (λ b. not (ltb b (block_count p)) && has s b) 320 ≡ some_of s (λ b. not (ltb b (block_count p))) 5
    in-set s =
        some_same _ (λ b. has s b && not (ltb b (block_count p))) 320 (λ b l. and_comm (not (ltb b (block_count p))) (has s b))
        ∙ some_of_lem s (λ b. not (ltb b (block_count p))) 5

unfoldable pub quick_only : (ℕ → Bool) → Blocks → Bool
quick_only test list = not (some_of list (λ b. not (test b)) 5)

quick-only : (test : ℕ → Bool) (list : Blocks) → only_those test list ≡ quick_only test list
unfolding quick_only
quick-only test list = rw (some_of_lem list (λ b. not (test b)) 5)

-- ---- the record

unfoldable pub quick_list : Part → Protection → Erase → Bool
quick_list p bits e = has e.list e.hand && quick_only (may_erase p bits e.hand) e.list

quick-list : (p : Part) (bits : Protection) (e : Erase) → list_sound p bits e ≡ quick_list p bits e
unfolding list_sound quick_list
quick-list p bits e = rw (quick-only (may_erase p bits e.hand) e.list)

unfoldable pub quick_chip_list : Part → Protection → Erase → Bool
quick_chip_list p bits e = has e.list e.hand && quick_only (may_chip_erase p bits) e.list

quick-chip-list : (p : Part) (bits : Protection) (e : Erase) → chip_list_sound p bits e ≡ quick_chip_list p bits e
unfolding chip_list_sound quick_chip_list
quick-chip-list p bits e = rw (quick-only (may_chip_erase p bits) e.list)

abbrev quick_block_erase : Part → Protection → Erase → Bool
quick_block_erase p bits e = quick_list p bits e && time_sound e.left (erase_time p)

unfoldable pub quick_operation : Part → Protection → Operation → Bool
quick_operation p bits Idle = true
quick_operation p bits (Programming q) = program_sound p bits Unsuspended q
quick_operation p bits (ProgramSuspended q) = program_sound p bits Unsuspended q
quick_operation p bits (Window e) = quick_list p bits e && (lowest e && time_sound e.left (window_time p))
quick_operation p bits (Erasing e) = quick_block_erase p bits e
quick_operation p bits (Recovering r) = quick_block_erase p bits r.erase && time_sound r.left (recovery_time p)
quick_operation p bits (EraseSuspended s) = quick_block_erase p bits s.erase && inside_sound p bits s.erase s.inside
quick_operation p bits (ChipErasing e) = quick_chip_list p bits e && time_sound e.left (chip_time p)
quick_operation p bits InOneTime = true
quick_operation p bits (OneTimeProgramming q) = program_sound p bits Entered q

quick-operation : (p : Part) (bits : Protection) (o : Operation) → operation_sound p bits o ≡ quick_operation p bits o
unfolding operation_sound quick_operation
quick-operation p bits Idle = refl
quick-operation p bits (Programming q) = refl
quick-operation p bits (ProgramSuspended q) = refl
quick-operation p bits (Window e) = rw (quick-list p bits e)
quick-operation p bits (Erasing e) = rw (quick-list p bits e)
quick-operation p bits (Recovering r) = rw (quick-list p bits r.erase)
quick-operation p bits (EraseSuspended s) = rw (quick-list p bits s.erase)
quick-operation p bits (ChipErasing e) = rw (quick-chip-list p bits e)
quick-operation p bits InOneTime = refl
quick-operation p bits (OneTimeProgramming q) = refl

unfoldable pub quick_sound : Part → Device → Bool
quick_sound p r =
    meter_sound p r.meter && (not (some_of r.bits.dyb (λ b. not (ltb b (block_count p))) 5 || some_of r.bits.ppb (λ b. not (ltb b (block_count p))) 5)
    && (quick_operation p r.bits r.operation && command_sound p r.operation r.command))

quick-sound : (p : Part) (r : Device) → sound p r ≡ quick_sound p r
unfolding sound quick_sound
quick-sound p r = rw (quick-stray p r.bits, quick-operation p r.bits r.operation)

-- ---- the entry, of cells that are known to be whole or not

unfoldable pub quick_entry : Part → Device → (whole : Bool) → Result Unit Refusal
quick_entry p r whole =
    if not (quick_sound p r) then Err State
    else if not whole then Err Cells
    else (Ok tt)

pub quick-entry : (p : Part) (r : Device) (l : Lent) → entry p r l ≡ quick_entry p r (is_whole p l)
unfolding entry quick_entry
quick-entry p r l = rw (quick-sound p r)
