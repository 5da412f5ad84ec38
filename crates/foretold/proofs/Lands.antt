-- The change comes just when it is told, and at the place that is told.
use Prim.Native.Nat.{ℕ, suc, ◌<◌, ◌≤◌}
use mathlib.Core.Path.{◌≡◌, refl, ap, ◌∙◌}
use mathlib.Core.Bool.{Bool, true, false}
use native.Mathlib.Omega.{arith}
use lib.Dec.{eqb, ltb}
use borrow.Author.Tests.{eqb-true, eqb-false}
use Rattle.blocks.specs.Blocks.{first_from}
use Rattle.blocks.proofs.Lowest.{first-from}
use Rattle.cells.proofs.Laws.{erased-out}
use Rattle.geometry.specs.declared.Part.{Part}
use Rattle.geometry.specs.Parts.{block_count, block_of, first_of, size_of}
use Rattle.geometry.proofs.Laid.{laid, block-fits}
use Rattle.meter.specs.declared.Meter.{Meter}
use Rattle.protection.specs.declared.Protection.{Protection}
use Rattle.plain.specs.declared.Array.{Array}
use Rattle.plain.specs.declared.Array.TheVariants.{Main, OneTime}
use Rattle.plain.specs.declared.Program.{Program}
use Rattle.plain.specs.declared.Erase.{Erase}
use Rattle.plain.specs.declared.Inside.{Inside}
use Rattle.plain.specs.declared.Inside.TheVariants.{Nothing, Runs}
use Rattle.plain.specs.declared.Recovery.{Recovery}
use Rattle.plain.specs.declared.Operation.{Operation}
use Rattle.plain.specs.declared.Operation.TheVariants.{Idle, Programming, ProgramSuspended, Window, Erasing, Recovering, EraseSuspended, ChipErasing, InOneTime, OneTimeProgramming}
use Rattle.plain.specs.declared.Running.{Running}
use Rattle.plain.specs.declared.Running.TheVariants.{Still, Programs, Waits, Erases, Recovers, ErasesChip}
use Rattle.plain.specs.Figures.{erase_time, chip_time}
use Rattle.plain.specs.Holds.{in_block}
use Rattle.plain.specs.Lent.{Lent, words_of, word_at, Whole}
use Rattle.plain.specs.Operations.{running_of, running_inside, suspension_of, is_entered}
use Rattle.plain.specs.Programs.{writes, first_word, array_written, lies_in, finished}
use Rattle.plain.specs.Record.{suspended}
use Rattle.plain.specs.Sound.{operation_sound}
use Rattle.plain.specs.Time.{Moment, moment, erase_finished, onward, ticks}
use Rattle.plain.proofs.Facts.{ProgramFacts, programming, inside-runs, one-time-programming}
use Rattle.plain.proofs.InTime.{program-running, inside-running, one-time-running, window-running, erase-running, recovery-running}
use Rattle.plain.proofs.Programs.{finished-at}
use Rattle.plain.proofs.Ticks.{lands}
use Rattle.plain.proofs.Tools.{by-test, clash}
use Rattle.remaining.specs.Remaining.{Fits, change_of}
use Rattle.foretold.specs.Foretold.{comes_at, changes_at, timeless, completed, Changed, ChangedThen}
use Rattle.remaining.proofs.InHand.{Timely, fits-timely}

-- ---- another thing runs

abbrev Other : Running → Operation → Type 0
Other r o = timeless (running_of o) ≡ timeless r → ⊥

-- the block in hand, if there is one
unfoldable hand_of : Running → ℕ
hand_of Still = 0
hand_of (Programs q) = 0
hand_of (Waits e) = e.hand
hand_of (Erases e) = e.hand
hand_of (Recovers r) = r.erase.hand
hand_of (ErasesChip e) = e.hand

module _ (p : Part) where
  program-ends : (q : Program) → Other (Programs q) Idle
  unfolding timeless running_of
  program-ends q h = let z : ◌≡◌ {A = ℕ} 0 1 = cc in absurd (omega arith)

  inside-ends : (e : Erase) (q : Program) → Other (Programs q) (EraseSuspended (suspended e Nothing))
  unfolding timeless running_of running_inside
  inside-ends e q h = let z : ◌≡◌ {A = ℕ} 0 1 = cc in absurd (omega arith)

  one-time-ends : (q : Program) → Other (Programs q) InOneTime
  unfolding timeless running_of
  one-time-ends q h = let z : ◌≡◌ {A = ℕ} 0 1 = cc in absurd (omega arith)

  window-ends : (e x : Erase) → Other (Waits e) (Erasing x)
  unfolding timeless running_of
  window-ends e x h = let z : ◌≡◌ {A = ℕ} 0 1 = cc in absurd (omega arith)

  recovery-ends : (r : Recovery) → Other (Recovers r) (EraseSuspended (suspended r.erase Nothing))
  unfolding timeless running_of running_inside
  recovery-ends r h = let z : ◌≡◌ {A = ℕ} 0 1 = cc in absurd (omega arith)

  abbrev next : Erase → ℕ
  next e = first_from e.list (suc e.hand)

  -- the next block in hand is another
  moves-on : (e : Erase) → next e ≡ e.hand → ⊥
  moves-on e h = omega (arith, h, first-from e.list (suc e.hand))

  erase-ends : (e : Erase) → Other (Erases e) (onward p Erasing (erase_time p) e)
  unfolding timeless running_of hand_of
  erase-ends e =
      by-test (Other (Erases e)) (ltb (next e) (block_count p)) (λ t h. moves-on e (ap hand_of h)) (λ t h. let z : ◌≡◌ {A = ℕ} 0 1 = cc in absurd (omega arith))

  chip-ends : (e : Erase) → Other (ErasesChip e) (onward p ChipErasing (chip_time p) e)
  unfolding timeless running_of hand_of
  chip-ends e =
      by-test (Other (ErasesChip e)) (ltb (next e) (block_count p)) (λ t h. moves-on e (ap hand_of h)) (λ t h. let z : ◌≡◌ {A = ℕ} 0 1 = cc in absurd (omega arith))

  -- ---- time neither enters the one-time block nor exits

  abbrev mode : Operation → Bool
  mode o = is_entered (suspension_of o)

  -- an erase goes on or ends outside
  onward-mode : (again : Erase → Operation) (full : ℕ) (e : Erase) → ((x : Erase) → mode (again x) ≡ false) → mode (onward p again full e) ≡ false
  unfolding suspension_of
  onward-mode again full e out = by-test (λ o. mode o ≡ false) (ltb (next e) (block_count p)) (λ _. out _) (λ _. refl)

  -- ---- no other word has changed

  abbrev Elsewhere : Running → Lent → Type 0
  Elsewhere r l = (y : Array) (x : ℕ) → x < words_of p y → changes_at p (change_of r) y x ≡ false → word_at (completed p r l) y x ≡ word_at l y x

  module _ (l : Lent) (whole : Whole p l) where
    program-elsewhere : (q : Program) → lies_in p q.writes ≡ true → Elsewhere (Programs q) l
    unfolding changes_at change_of completed writes first_word array_written
    program-elsewhere q lies y x hx h = finished-at p q.writes l whole lies y x ∙ rw h

    block-elsewhere : (e : Erase) (y : Array) (x : ℕ) → in_block p e.hand y x ≡ false → word_at (erase_finished p e l) y x ≡ word_at l y x
    block-elsewhere e Main x h =
        erased-out l.cells (first_of p e.hand) (size_of p e.hand) (rw (whole Main) (block-fits p e.hand)) x (λ from to. eqb-false (block_of p x) e.hand h ((laid p).no_other x e.hand from to))
    block-elsewhere e OneTime x h = refl

  -- ---- just then

  changed : (mt after : Meter) (o x : Operation) (l : Lent) (k : ℕ) → ticks p k (moment mt o l) ≡ moment after x (completed p (running_of o) l)
      → Other (running_of o) x → mode x ≡ mode o → Elsewhere (running_of o) l → Changed p (moment mt o l) (ticks p k (moment mt o l))
  changed mt after o x l k e other kept elsewhere = rw e (record { lent = refl; runs = other; mode = kept; elsewhere = elsewhere })

  module _ (bits : Protection) (mt : Meter) (l : Lent) (whole : Whole p l) (k : ℕ) where
    abbrev Then : Operation → Type 0
    Then o =
        operation_sound p bits o ≡ true → Timely p (running_of o) → comes_at (change_of (running_of o)) k ≡ true
        → Changed p (moment mt o l) (ticks p k (moment mt o l))

    -- k is the time left
    due : (n : ℕ) → eqb n k ≡ true → (A : ℕ → Type 0) → A n → A k
    due n h A a = rw (← eqb-true n k h) a

    inside-then : (e : Erase) (i : Inside) → Then (EraseSuspended (suspended e i))
    unfolding comes_at change_of running_of running_inside suspension_of completed Timely
    inside-then e Nothing s t h = clash h refl
    inside-then e (Runs q) s t h =
        due q.left h (λ n. Changed p (moment mt (EraseSuspended (suspended e (Runs q))) l) (ticks p n (moment mt (EraseSuspended (suspended e (Runs q))) l)))
        (changed mt _ _ _ l q.left (lands p _ _ _ _ (inside-running p e q) q.left mt l t) (inside-ends e q) refl (program-elsewhere l whole q (inside-runs p bits (suspended e (Runs q)) q s refl).program.in-part))

    then : (o : Operation) → Then o
    unfolding comes_at change_of running_of suspension_of completed changes_at Timely
    then Idle s t h = clash h refl
    then (Programming q) s t h =
        due q.left h (λ n. Changed p (moment mt (Programming q) l) (ticks p n (moment mt (Programming q) l)))
        (changed mt _ _ _ l q.left (lands p _ _ _ _ (program-running p q) q.left mt l t) (program-ends q) refl (program-elsewhere l whole q (programming p bits q s).in-part))
    then (ProgramSuspended q) s t h = clash h refl
    then (Window e) s t h =
        due e.left h (λ n. Changed p (moment mt (Window e) l) (ticks p n (moment mt (Window e) l)))
        (changed mt _ _ _ l e.left (lands p _ _ _ _ (window-running p e) e.left mt l t.some) (window-ends e _) refl (λ y x hx g. refl))
    then (Erasing e) s t h =
        due e.left h (λ n. Changed p (moment mt (Erasing e) l) (ticks p n (moment mt (Erasing e) l)))
        (changed mt _ _ _ l e.left (lands p _ _ _ _ (erase-running p false e) e.left mt l t.some) (erase-ends e) (onward-mode Erasing (erase_time p) e (λ x. refl)) (λ y x hx g. block-elsewhere l whole e y x g))
    then (Recovering r) s t h =
        due r.left h (λ n. Changed p (moment mt (Recovering r) l) (ticks p n (moment mt (Recovering r) l)))
        (changed mt _ _ _ l r.left (lands p _ _ _ _ (recovery-running p r.erase) r.left mt l t) (recovery-ends r) refl (λ y x hx g. refl))
    then (EraseSuspended s) f t h = inside-then s.erase s.inside f t h
    then (ChipErasing e) s t h =
        due e.left h (λ n. Changed p (moment mt (ChipErasing e) l) (ticks p n (moment mt (ChipErasing e) l)))
        (changed mt _ _ _ l e.left (lands p _ _ _ _ (erase-running p true e) e.left mt l t.some) (chip-ends e) (onward-mode ChipErasing (chip_time p) e (λ x. refl)) (λ y x hx g. block-elsewhere l whole e y x g))
    then InOneTime s t h = clash h refl
    then (OneTimeProgramming q) s t h =
        due q.left h (λ n. Changed p (moment mt (OneTimeProgramming q) l) (ticks p n (moment mt (OneTimeProgramming q) l)))
        (changed mt _ _ _ l q.left (lands p _ _ _ _ (one-time-running p q) q.left mt l t) (one-time-ends q) refl (program-elsewhere l whole q (one-time-programming p bits q s).in-part))

  pub changed_then : ChangedThen p
  changed_then m f whole k h =
      then f.bits m.meter m.lent whole k m.operation f.sound (fits-timely p m.operation f) h
