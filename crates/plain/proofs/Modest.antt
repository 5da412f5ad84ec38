-- An operation is modest over what is lent if its program asks for no 1 where the lent word has a 0: time keeps it so.
use Prim.Native.Nat.{ℕ, zero, suc, ◌-◌}
use mathlib.Core.Path.{◌≡◌, refl}
use mathlib.Core.Bool.{Bool, false}
use lib.Dec.{ltb}
use Rattle.blocks.specs.Blocks.{first_from}
use Rattle.geometry.specs.declared.Part.{Part}
use Rattle.geometry.specs.Parts.{block_count}
use Rattle.plain.specs.declared.Erase.{Erase}
use Rattle.plain.specs.declared.Inside.{Inside}
use Rattle.plain.specs.declared.Inside.TheVariants.{Nothing, Runs}
use Rattle.plain.specs.declared.Operation.{Operation}
use Rattle.plain.specs.declared.Operation.TheVariants.{Idle, Programming, ProgramSuspended, Window, Erasing, Recovering, EraseSuspended, ChipErasing, InOneTime, OneTimeProgramming}
use Rattle.std.specs.Prelude.{if◌then◌else◌}
use Rattle.plain.specs.Figures.{erase_time, chip_time}
use Rattle.plain.specs.Lent.{Lent}
use Rattle.plain.specs.Operations.{running_inside, running_of}
use Rattle.plain.specs.Programs.{raises}
use Rattle.plain.specs.Record.{erase_left}
use Rattle.plain.specs.Time.{Moment, last, onward, inside_tick, operation_tick, lent_tick, tick, ticks}
use Rattle.plain.proofs.Tools.{by-test, by_cases}

unfoldable pub raises_inside : Lent → Inside → Bool
raises_inside l Nothing = false
raises_inside l (Runs q) = raises q.writes l

unfoldable pub raises_in : Lent → Operation → Bool
raises_in l Idle = false
raises_in l (Programming q) = raises q.writes l
raises_in l (ProgramSuspended q) = raises q.writes l
raises_in l (Window e) = false
raises_in l (Erasing e) = false
raises_in l (Recovering r) = false
raises_in l (EraseSuspended s) = raises_inside l s.inside
raises_in l (ChipErasing e) = false
raises_in l InOneTime = false
raises_in l (OneTimeProgramming q) = raises q.writes l

abbrev pub Modest : Lent → Operation → Type 0
Modest l o = raises_in l o ≡ false

module _ (p : Part) where
  erase-modest : (l : Lent) (again : Erase → Operation) (full : ℕ) (e : Erase) → ((x : Erase) → Modest l (again x))
      → Modest l (if last e.left then onward p again full e else again (erase_left e (e.left - 1)))
  unfolding raises_in
  erase-modest l again full e f =
      by-test (Modest l) (last e.left) (λ _. by-test (Modest l) (ltb (first_from e.list (suc e.hand)) (block_count p)) (λ _. f _) (λ _. refl)) (λ _. f _)

  -- before its last microsecond nothing that is lent changes, and then it ends
  inside-modest : (e : Erase) (i : Inside) (l : Lent) → raises_inside l i ≡ false → Modest (lent_tick p (running_inside i) l) (inside_tick e i)
  unfolding raises_inside raises_in running_inside inside_tick lent_tick
  inside-modest e Nothing l h = refl
  inside-modest e (Runs q) l h = by_cases (last q.left) (λ t. rw t) (λ t. rw t h)

  pub tick-modest : (o : Operation) (l : Lent) → Modest l o → Modest (lent_tick p (running_of o) l) (operation_tick p o)
  unfolding raises_in raises_inside running_of operation_tick lent_tick
  tick-modest Idle l h = refl
  tick-modest (Programming q) l h = by_cases (last q.left) (λ t. rw t) (λ t. rw t h)
  tick-modest (ProgramSuspended q) l h = h
  tick-modest (Window e) l h = by-test (Modest l) (last e.left) (λ _. refl) (λ _. refl)
  tick-modest (Erasing e) l h = erase-modest _ Erasing (erase_time p) e (λ x. refl)
  tick-modest (Recovering r) l h = by-test (Modest l) (last r.left) (λ _. refl) (λ _. refl)
  tick-modest (EraseSuspended s) l h = inside-modest s.erase s.inside l h
  tick-modest (ChipErasing e) l h = erase-modest _ ChipErasing (chip_time p) e (λ x. refl)
  tick-modest InOneTime l h = refl
  tick-modest (OneTimeProgramming q) l h = by_cases (last q.left) (λ t. rw t) (λ t. rw t h)

  pub ticks-modest : (n : ℕ) (m : Moment) → Modest m.lent m.operation → Modest (ticks p n m).lent (ticks p n m).operation
  unfolding ticks tick
  ticks-modest zero m h = h
  ticks-modest (suc n) m h = ticks-modest n (tick p m) (tick-modest m.operation m.lent h)
