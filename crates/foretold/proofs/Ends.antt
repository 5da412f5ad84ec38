-- The times left are right: proved microsecond by microsecond.
use Prim.Native.Nat.{ℕ, zero, suc, ◌+◌, ◌-◌, ◌*◌, ◌<◌, ◌≤◌}
use mathlib.Core.Path.{◌≡◌, refl, sym, ap, ◌∙◌}
use mathlib.Core.Bool.{Bool, true, false}
use native.Mathlib.Nat.{suc-mul}
use native.Mathlib.Omega.{arith}
use lib.Dec.{leb, ltb}
use borrow.Author.Tests.{ltb-true, ltb-false, leb-true, leb-false, le-leb, lt-leb}
use Rattle.blocks.specs.Blocks.{first_from}
use Rattle.geometry.specs.declared.Part.{Part}
use Rattle.geometry.specs.Parts.{block_count}
use Rattle.protection.specs.declared.Protection.{Protection}
use Rattle.plain.specs.declared.Erase.{Erase}
use Rattle.plain.specs.declared.Inside.{Inside}
use Rattle.plain.specs.declared.Inside.TheVariants.{Nothing, Runs}
use Rattle.plain.specs.declared.Operation.{Operation}
use Rattle.plain.specs.declared.Operation.TheVariants.{Idle, Programming, ProgramSuspended, Window, Erasing, Recovering, EraseSuspended, ChipErasing, InOneTime, OneTimeProgramming}
use Rattle.plain.specs.declared.Running.{Running}
use Rattle.plain.specs.declared.Running.TheVariants.{Still, Programs, Waits, Erases, Recovers, ErasesChip}
use Rattle.plain.specs.Figures.{erase_time, chip_time}
use Rattle.plain.specs.Operations.{running_of, running_inside}
use Rattle.plain.specs.Sound.{is_still}
use Rattle.plain.specs.Time.{Moment, last, onward, operation_tick, inside_tick, tick, ticks}
use Rattle.plain.proofs.SoundTime.{tick-fit}
use Rattle.plain.proofs.Tools.{by-test, by_cases}
use Rattle.remaining.specs.Remaining.{Fits, to_come, until_end}
use Rattle.foretold.specs.Foretold.{EndsThen}
use Rattle.remaining.proofs.Counting.{come-next, come-none}
use Rattle.remaining.proofs.InHand.{Timed, Timely, fits-timely}

module _ (p : Part) where
  abbrev end : Operation → ℕ
  end o = until_end p (running_of o)

  -- the next operation has a microsecond less to go
  abbrev Less : ℕ → Operation → Type 0
  Less n o = end o ≡ n - 1

  -- the last microsecond of a block: on to the next listed one, or the end
  onward-less : (again : Erase → Operation) (full : ℕ) (e : Erase) → ((x : Erase) → end (again x) ≡ x.left + to_come p x.list x.hand * full)
      → e.left ≡ 1 → end (onward p again full e) ≡ (e.left + to_come p e.list e.hand * full) - 1
  unfolding until_end running_of
  onward-less again full e is one =
      by-test (Less (e.left + to_come p e.list e.hand * full)) (ltb (first_from e.list (suc e.hand)) (block_count p))
      (λ h. is _ ∙ next (come-next p e.list e.hand (ltb-true _ _ h)))
      (λ h. done (come-none p e.list e.hand (ltb-false _ _ h)))
    where
      next : to_come p e.list e.hand ≡ suc (to_come p e.list (first_from e.list (suc e.hand)))
          → full + to_come p e.list (first_from e.list (suc e.hand)) * full ≡ (e.left + to_come p e.list e.hand * full) - 1
      next h = rw (h, one) (omega (arith, suc-mul (to_come p e.list (first_from e.list (suc e.hand))) full))

      done : to_come p e.list e.hand ≡ 0 → 0 ≡ (e.left + to_come p e.list e.hand * full) - 1
      done h = rw (h, one) (omega arith)

  inside-less : (e : Erase) (i : Inside) → Timely p (running_inside i) → Less (until_end p (running_inside i)) (inside_tick e i)
  unfolding until_end running_of running_inside inside_tick Timely
  inside-less e Nothing t = refl
  inside-less e (Runs q) t = by-test (Less q.left) (last q.left) (λ h. omega (arith, leb-true q.left 1 h)) (λ h. refl)

  tick-less : (o : Operation) → Timely p (running_of o) → Less (end o) (operation_tick p o)
  unfolding until_end running_of running_inside operation_tick Timely
  tick-less Idle t = refl
  tick-less (Programming q) t = by-test (Less q.left) (last q.left) (λ h. omega (arith, leb-true q.left 1 h)) (λ h. refl)
  tick-less (ProgramSuspended q) t = refl
  tick-less (Window e) t =
      by-test (Less (end (Window e))) (last e.left) (λ h. omega (arith, leb-true e.left 1 h, t.some)) (λ h. omega (arith, t.some))
  tick-less (Erasing e) t =
      by-test (Less (end (Erasing e))) (last e.left) (λ h. onward-less Erasing (erase_time p) e (λ x. refl) (omega (arith, leb-true e.left 1 h, t.some))) (λ h. omega (arith, t.some))
  tick-less (Recovering r) t = by-test (Less r.left) (last r.left) (λ h. omega (arith, leb-true r.left 1 h)) (λ h. refl)
  tick-less (EraseSuspended s) t = inside-less s.erase s.inside t
  tick-less (ChipErasing e) t =
      by-test (Less (end (ChipErasing e))) (last e.left) (λ h. onward-less ChipErasing (chip_time p) e (λ x. refl) (omega (arith, leb-true e.left 1 h, t.some))) (λ h. omega (arith, t.some))
  tick-less InOneTime t = refl
  tick-less (OneTimeProgramming q) t = by-test (Less q.left) (last q.left) (λ h. omega (arith, leb-true q.left 1 h)) (λ h. refl)

  still-now : (r : Running) → Timely p r → is_still r ≡ leb (until_end p r) 0
  unfolding until_end is_still Timely
  still-now Still t = refl
  still-now (Programs q) t = sym (lt-leb q.left 0 t)
  still-now (Waits e) t = sym (lt-leb (until_end p (Waits e)) 0 (omega (arith, t.some)))
  still-now (Erases e) t = sym (lt-leb (until_end p (Erases e)) 0 (omega (arith, t.some)))
  still-now (Recovers r) t = sym (lt-leb r.left 0 t)
  still-now (ErasesChip e) t = sym (lt-leb (until_end p (ErasesChip e)) 0 (omega (arith, t.some)))

  one_more : (n k : ℕ) → leb (n - 1) k ≡ leb n (suc k)
  one_more n k =
      by_cases (leb n (suc k)) (λ h. le-leb (n - 1) k (omega (arith, leb-true n (suc k) h)) ∙ sym h) (λ h. lt-leb (n - 1) k (omega (arith, leb-false n (suc k) h)) ∙ sym h)

  -- something runs before the end, and nothing from then on
  pub ends-then : EndsThen p
  unfolding ticks tick
  ends-then m f zero = still-now (running_of m.operation) (fits-timely p m.operation f)
  ends-then m f (suc k) =
      ends-then (tick p m) (record { bits = f.bits; sound = tick-fit p f.bits m.operation f.sound }) k
      ∙ ap (λ (n : ℕ). leb n k) (tick-less m.operation (fits-timely p m.operation f))
      ∙ one_more (end m.operation) k
