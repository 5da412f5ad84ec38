-- The checks that every event begins with, told once: what each rung comes to, and what holds of an event if it holds on each.
use Rattle.std.specs.Prelude.{Ok, Err}
use Prim.Native.Nat.{ℕ}
use mathlib.Core.Path.{◌≡◌, sym, ◌∙◌}
use mathlib.Core.Bool.{Bool, true, false}
use native.Mathlib.Omega.{arith}
use Rattle.geometry.specs.declared.Part.{Part}
use Rattle.plain.specs.declared.Refusal.{Refusal}
use Rattle.plain.specs.declared.Refusal.TheVariants.{State, Cells}
use Rattle.plain.specs.declared.Device.{Device}
use Rattle.plain.specs.Lent.{Lent, is_whole}
use Rattle.plain.specs.Sound.{sound}
use Rattle.plain.specs.Machine.{Outcome, refused, entry, climbed, ladder, Fit}
use Rattle.plain.proofs.Lents.{whole-true, true-whole}
use Rattle.plain.proofs.Tools.{by_cases}

module _ (p : Part) (r : Device) (l : Lent) where
  -- ---- the entry

  pub entry-state : sound p r ≡ false → entry p r l ≡ Err State
  unfolding entry
  entry-state s = rw s

  pub entry-cells : sound p r ≡ true → is_whole p l ≡ false → entry p r l ≡ Err Cells
  unfolding entry
  entry-cells s n = rw (s, n)

  pub entry-admitted : Fit p r l → entry p r l ≡ (Ok tt)
  unfolding entry
  entry-admitted f = rw (f.sound, true-whole p l f.whole)

  -- what holds of each answer of it holds of its answer
  pub by-entry : {P : Type 0} → (sound p r ≡ false → P) → (sound p r ≡ true → is_whole p l ≡ false → P) → (Fit p r l → P) → P
  by-entry f g h =
      by_cases (sound p r)
      (λ s. by_cases (is_whole p l) (λ e. h (record { sound = s; whole = whole-true p l e })) (λ e. g s e))
      f

  -- an admitted event's record is sound, and its cells are whole
  pub admitted : entry p r l ≡ (Ok tt) → Fit p r l
  admitted e =
      by-entry (λ s. not-barred (entry-state s)) (λ s n. not-barred (entry-cells s n)) (λ f. f)
    where
      not-barred : {P : Type 0} {n : Refusal} → entry p r l ≡ Err n → P
      not-barred b = let z : ◌≡◌ {A = ℕ} 0 1 = cc in absurd (omega arith)

  -- ---- the ladder

  module _ (fails : Bool) (own : Refusal) (taken : Outcome) where
    pub ladder-barred : (n : Refusal) → entry p r l ≡ Err n → ladder p r l fails own taken ≡ refused n r l
    unfolding ladder climbed
    ladder-barred n e = rw e

    pub ladder-own : entry p r l ≡ (Ok tt) → fails ≡ true → ladder p r l fails own taken ≡ refused own r l
    unfolding ladder climbed
    ladder-own e f = rw (e, f)

    pub ladder-taken : entry p r l ≡ (Ok tt) → fails ≡ false → ladder p r l fails own taken ≡ taken
    unfolding ladder climbed
    ladder-taken e f = rw (e, f)

    -- what holds of every refusal and of the event that is taken holds of the event
    pub by-ladder : (P : Outcome → Type 0) → (sound p r ≡ false → P (refused State r l)) → P (refused Cells r l) → (Fit p r l → P (refused own r l))
        → (Fit p r l → fails ≡ false → P taken) → P (ladder p r l fails own taken)
    by-ladder P f g h k =
        by-entry (λ s. rw (ladder-barred State (entry-state s)) (f s)) (λ s n. rw (ladder-barred Cells (entry-cells s n)) g)
        (λ fit. by_cases fails (λ t. rw (ladder-own (entry-admitted fit) t) (h fit)) (λ t. rw (ladder-taken (entry-admitted fit) t) (k fit t)))

-- ---- the same record, and other words lent: the checks come out alike where both are whole, or neither is

module _ (p : Part) (r : Device) (l m : Lent) (many : is_whole p l ≡ is_whole p m) where
  entry-alike : entry p r l ≡ entry p r m
  unfolding entry
  entry-alike = rw many

  pub by_both : (Q : Outcome → Outcome → Type 0) (fails : Bool) (own : Refusal) (one two : Outcome) → ((n : Refusal) → Q (refused n r l) (refused n r m))
      → (Fit p r l → fails ≡ false → Q one two) → Q (ladder p r l fails own one) (ladder p r m fails own two)
  by_both Q fails own one two f g =
      by-entry p r l (λ s. barred State (entry-state p r l s)) (λ s n. barred Cells (entry-cells p r l s n))
      (λ fit. admitted-alike (entry-admitted p r l fit) (g fit))
    where
      barred : (n : Refusal) → entry p r l ≡ Err n → Q (ladder p r l fails own one) (ladder p r m fails own two)
      barred n e = rw (ladder-barred p r l fails own one n e, ladder-barred p r m fails own two n (sym entry-alike ∙ e)) (f n)

      admitted-alike : entry p r l ≡ (Ok tt) → (fails ≡ false → Q one two) → Q (ladder p r l fails own one) (ladder p r m fails own two)
      admitted-alike e h =
          by_cases fails (λ t. rw (ladder-own p r l fails own one e t, ladder-own p r m fails own two (sym entry-alike ∙ e) t) (f own))
          (λ t. rw (ladder-taken p r l fails own one e t, ladder-taken p r m fails own two (sym entry-alike ∙ e) t) (h t))
