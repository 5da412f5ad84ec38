-- And nowhere else: where `gives_cells` says no, a read of the bank can be a status word, a reading, a suspended block's word or a one-time
-- word.
use Prim.Native.Nat.{ℕ, ◌<◌}
use mathlib.Core.Path.{◌≡◌, refl, sym, ◌∙◌}
use mathlib.Core.Bool.{Bool, true, false, ◌||◌, or-true}
use native.Mathlib.Omega.{arith}
use borrow.Author.Tests.{eqb-true, eq-eqb, not-false}
use Rattle.geometry.specs.declared.Part.{Part}
use Rattle.geometry.specs.declared.Part.TheVariants.{Small, Full}
use Rattle.geometry.specs.Parts.{unit_of, block_count, bank_count, word_count, first_of, block_of, bank_of, bank_of_block}
use Rattle.geometry.proofs.Counts.{held}
use Rattle.geometry.proofs.Laid.{laid, first_below, first_block, first-bank}
use Rattle.protection.specs.declared.Protection.{Protection}
use Rattle.plain.specs.declared.Array.TheVariants.{OneTime}
use Rattle.plain.specs.declared.Operation.{Operation}
use Rattle.plain.specs.declared.Suspension.{Suspension}
use Rattle.plain.specs.declared.Suspension.TheVariants.{Unsuspended, OfProgram, OfErase, Entered}
use Rattle.plain.specs.declared.Command.{Command}
use Rattle.plain.specs.Operations.{running_of, suspension_of, selected}
use Rattle.plain.specs.Programs.{same, first_word, array_written, block_written, bank_written}
use Rattle.plain.specs.Sound.{operation_sound}
use Rattle.plain.specs.Status.{polls, reading_on, rests}
use Rattle.plain.proofs.Tools.{by_cases, clash}
use Rattle.plain.proofs.Programs.{first-written, written-in-block, first-inside, main-written}
use Rattle.mapping.specs.Mapped.{reading_in, runs_in, rests_in, gives_cells}
use Rattle.mapping.proofs.Rests.{Known, known, written-bank}
use Rattle.mapping.proofs.GivesCells.{polls-same, reading-same}

some_words : (p : Part) → 0 < word_count p
unfolding unit_of
some_words Small = omega arith
some_words Full = omega arith

-- an address of the bank where a test of addresses holds
pub record Somewhere (p : Part) (bank : ℕ) (test : ℕ → Bool) : Type 0 where
  pub address : ℕ
  pub in-part : address < word_count p
  pub in-bank : bank_of p address ≡ bank
  pub holds : test address ≡ true

module _ (p : Part) (bank : ℕ) (test : ℕ → Bool) where
  -- at the first word of a block
  at_block : (b : ℕ) → b < block_count p → bank_of_block p b ≡ bank
      → (bank_of p (first_of p b) ≡ bank → block_of p (first_of p b) ≡ b → test (first_of p b) ≡ true) → Somewhere p bank test
  at_block b below e f =
      let at = first-bank p b below ∙ e in
      record { address = first_of p b; in-part = first_below p b below; in-bank = at; holds = f at (first_block p b below) }

  -- what holds at every address of the bank
  anywhere : bank < bank_count p → ((a : ℕ) → bank_of p a ≡ bank → test a ≡ true) → Somewhere p bank test
  anywhere l f = let h = held p bank l in at_block h.block h.below h.of-bank (λ e g. f _ e)

-- a suspended block's word or a one-time word is read in the cell's place
abbrev pub stands : Part → Suspension → (a : ℕ) → Bool
stands p s a = rests p s a || same (selected s a) OneTime

-- what rests in the bank stands at one of its addresses
standing : (p : Part) (bits : Protection) (s : Suspension) → Known p bits s → (bank : ℕ) → rests_in p s bank ≡ true
    → Somewhere p bank (stands p s)
unfolding Known rests rests_in
standing p bits Unsuspended k bank e = clash e refl
standing p bits (OfProgram q) k bank e =
    let d = q.writes in
    let inside = rw (main-written p d k.array) at (first-inside p d k.in-part) in
    let below = rw (written-in-block p d (array_written d) (first_word d) (first-written p d)) at ((laid p).in_block (first_word d) inside) in
    let of-bank = sym (written-bank p d) ∙ sym (eqb-true bank (bank_written p d) e) in
    at_block p bank (stands p (OfProgram q)) (block_written p d) below of-bank (λ g h. rw (eq-eqb _ _ h))
standing p bits (OfErase w) k bank e =
    let b = w.hand in
    let listed = k.erase.hand-listed in
    at_block p bank (stands p (OfErase w)) b (k.erase.below b listed) (sym (eqb-true bank (bank_of_block p b) e))
    (λ g h. rw (h, listed))
standing p bits Entered k bank e =
    record { address = 0; in-part = some_words p; in-bank = sym (eqb-true bank (bank_of p 0) e); holds = refl }

-- a status word, a reading, or what stands in the cell's place answers the read
abbrev pub answered : Part → Command → Operation → (a : ℕ) → Bool
answered p c o a = polls p (running_of o) a || (reading_on p c a || stands p (suspension_of o) a)

module _ (p : Part) (c : Command) (o : Operation) (bank : ℕ) where
  abbrev pub Disturbed : Type 0
  Disturbed = Somewhere p bank (answered p c o)

  by-running : bank < bank_count p → runs_in p (running_of o) bank ≡ true → Disturbed
  by-running l t = anywhere p bank (answered p c o) l (λ a n. rw (polls-same p a (running_of o), n, t))

  by-reading : bank < bank_count p → reading_in c bank ≡ true → Disturbed
  by-reading l t = anywhere p bank (answered p c o) l (λ a n. rw (reading-same p a c, n, t) (or-true (polls p (running_of o) a)))

  by-standing : Somewhere p bank (stands p (suspension_of o)) → Disturbed
  by-standing h =
      record {
        address = h.address;
        in-part = h.in-part;
        in-bank = h.in-bank;
        holds = rw (h.holds, or-true (reading_on p c h.address)) (or-true (polls p (running_of o) h.address));
      }

  pub else-disturbed : (bits : Protection) → operation_sound p bits o ≡ true → bank < bank_count p → gives_cells p c o bank ≡ false → Disturbed
  unfolding gives_cells
  else-disturbed bits s l e =
      by_cases (runs_in p (running_of o) bank) (by-running l)
      (λ t. by_cases (reading_in c bank) (by-reading l)
      (λ u. by-standing (standing p bits (suspension_of o) (known p bits o s) bank (not-false (rests_in p (suspension_of o) bank) (rw (t, u) at e)))))
