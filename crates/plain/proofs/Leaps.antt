-- Waits in leaps, from happening to happening: the same as microsecond by microsecond, and quick to compute.
use Prim.Native.Nat.{ℕ, zero, suc, ◌+◌, ◌-◌, ◌<◌, ◌≤◌}
use mathlib.Core.Path.{◌≡◌, refl, sym, ap, ◌∙◌}
use mathlib.Core.Bool.{Bool, true, false}
use native.Mathlib.Omega.{arith}
use lib.Dec.{ltb}
use borrow.Author.Tests.{ltb-true, ltb-false}
use Rattle.geometry.specs.declared.Part.{Part}
use Rattle.meter.specs.declared.Meter.{Meter}
use Rattle.plain.specs.declared.Erase.{Erase}
use Rattle.plain.specs.declared.Inside.{Inside}
use Rattle.plain.specs.declared.Inside.TheVariants.{Nothing, Runs}
use Rattle.plain.specs.declared.Operation.{Operation}
use Rattle.plain.specs.declared.Operation.TheVariants.{Idle, Programming, ProgramSuspended, Window, Erasing, Recovering, EraseSuspended, ChipErasing, InOneTime, OneTimeProgramming}
use Rattle.plain.specs.Lent.{Lent}
use Rattle.plain.specs.Operations.{running_of, running_inside}
use Rattle.plain.specs.Record.{program_left, erase_left, suspended, recovery}
use Rattle.plain.specs.Time.{Moment, moment, current, tick, ticks}
use Rattle.plain.proofs.Ticks.{ticks-add, drawn, still, drift}
use Rattle.plain.proofs.InTime.{idle-still, program-still, erase-still, entered-still, program-running, inside-running, one-time-running, window-running, erase-running, recovery-running}

-- ---- when the next thing happens

pub data Due : Type 0 where
  never : Due
  due : ℕ → Due

unfoldable pub inside_due : Inside → Due
inside_due Nothing = never
inside_due (Runs q) = due q.left

unfoldable pub due_of : Operation → Due
due_of Idle = never
due_of (Programming q) = due q.left
due_of (ProgramSuspended q) = never
due_of (Window e) = due e.left
due_of (Erasing e) = due e.left
due_of (Recovering r) = due r.left
due_of (EraseSuspended s) = inside_due s.inside
due_of (ChipErasing e) = due e.left
due_of InOneTime = never
due_of (OneTimeProgramming q) = due q.left

-- the operation with k microseconds less to go
unfoldable pub inside_less : Inside → ℕ → Inside
inside_less Nothing k = Nothing
inside_less (Runs q) k = Runs (program_left q (q.left - k))

unfoldable pub less : Operation → ℕ → Operation
less Idle k = Idle
less (Programming q) k = Programming (program_left q (q.left - k))
less (ProgramSuspended q) k = ProgramSuspended q
less (Window e) k = Window (erase_left e (e.left - k))
less (Erasing e) k = Erasing (erase_left e (e.left - k))
less (Recovering r) k = Recovering (recovery r.erase (r.left - k))
less (EraseSuspended s) k = EraseSuspended (suspended s.erase (inside_less s.inside k))
less (ChipErasing e) k = ChipErasing (erase_left e (e.left - k))
less InOneTime k = InOneTime
less (OneTimeProgramming q) k = OneTimeProgramming (program_left q (q.left - k))

-- k microseconds in which nothing happens
unfoldable pub drifted : Part → ℕ → Moment → Moment
drifted p k m = moment (drawn m.meter k (current p (running_of m.operation))) (less m.operation k) m.lent

inside-never : (p : Part) (e : Erase) (i : Inside) → inside_due i ≡ never → (n : ℕ) (m : Meter) (cells : Lent)
    → ticks p n (moment m (EraseSuspended (suspended e i)) cells) ≡ drifted p n (moment m (EraseSuspended (suspended e i)) cells)
unfolding inside_due drifted running_of running_inside current less inside_less
inside-never p e Nothing d n m cells = still p (EraseSuspended (suspended e Nothing)) _ (erase-still p e) n m cells
inside-never p e (Runs q) d n m cells = let z : ◌≡◌ {A = ℕ} 0 1 = cc in absurd (omega arith)

drift-never : (p : Part) (o : Operation) → due_of o ≡ never → (n : ℕ) (m : Meter) (cells : Lent) → ticks p n (moment m o cells) ≡ drifted p n (moment m o cells)
unfolding due_of drifted running_of current less
drift-never p Idle d n m cells = still p Idle _ (idle-still p) n m cells
drift-never p (Programming q) d n m cells = let z : ◌≡◌ {A = ℕ} 0 1 = cc in absurd (omega arith)
drift-never p (ProgramSuspended q) d n m cells = still p (ProgramSuspended q) _ (program-still p q) n m cells
drift-never p (Window e) d n m cells = let z : ◌≡◌ {A = ℕ} 0 1 = cc in absurd (omega arith)
drift-never p (Erasing e) d n m cells = let z : ◌≡◌ {A = ℕ} 0 1 = cc in absurd (omega arith)
drift-never p (Recovering r) d n m cells = let z : ◌≡◌ {A = ℕ} 0 1 = cc in absurd (omega arith)
drift-never p (EraseSuspended s) d n m cells = inside-never p s.erase s.inside d n m cells
drift-never p (ChipErasing e) d n m cells = let z : ◌≡◌ {A = ℕ} 0 1 = cc in absurd (omega arith)
drift-never p InOneTime d n m cells = still p InOneTime _ (entered-still p) n m cells
drift-never p (OneTimeProgramming q) d n m cells = let z : ◌≡◌ {A = ℕ} 0 1 = cc in absurd (omega arith)

inside-due : (p : Part) (e : Erase) (i : Inside) (l : ℕ) → inside_due i ≡ due l → (n : ℕ) → n < l → (m : Meter) (cells : Lent)
    → ticks p n (moment m (EraseSuspended (suspended e i)) cells) ≡ drifted p n (moment m (EraseSuspended (suspended e i)) cells)
unfolding inside_due drifted running_of running_inside current less inside_less
inside-due p e Nothing l d n h m cells = let z : ◌≡◌ {A = ℕ} 0 1 = cc in absurd (omega arith)
inside-due p e (Runs q) l d n h m cells =
    let i : q.left ≡ l = cc in
    drift p _ _ _ _ (inside-running p e q) n q.left m cells (omega arith)

drift-due : (p : Part) (o : Operation) (l : ℕ) → due_of o ≡ due l → (n : ℕ) → n < l → (m : Meter) (cells : Lent)
    → ticks p n (moment m o cells) ≡ drifted p n (moment m o cells)
unfolding due_of drifted running_of current less
drift-due p Idle l d n h m cells = let z : ◌≡◌ {A = ℕ} 0 1 = cc in absurd (omega arith)
drift-due p (Programming q) l d n h m cells =
    let i : q.left ≡ l = cc in
    drift p _ _ _ _ (program-running p q) n q.left m cells (omega arith)
drift-due p (ProgramSuspended q) l d n h m cells = let z : ◌≡◌ {A = ℕ} 0 1 = cc in absurd (omega arith)
drift-due p (Window e) l d n h m cells =
    let i : e.left ≡ l = cc in
    drift p _ _ _ _ (window-running p e) n e.left m cells (omega arith)
drift-due p (Erasing e) l d n h m cells =
    let i : e.left ≡ l = cc in
    drift p _ _ _ _ (erase-running p false e) n e.left m cells (omega arith)
drift-due p (Recovering r) l d n h m cells =
    let i : r.left ≡ l = cc in
    drift p _ _ _ _ (recovery-running p r.erase) n r.left m cells (omega arith)
drift-due p (EraseSuspended s) l d n h m cells = inside-due p s.erase s.inside l d n h m cells
drift-due p (ChipErasing e) l d n h m cells =
    let i : e.left ≡ l = cc in
    drift p _ _ _ _ (erase-running p true e) n e.left m cells (omega arith)
drift-due p InOneTime l d n h m cells = let z : ◌≡◌ {A = ℕ} 0 1 = cc in absurd (omega arith)
drift-due p (OneTimeProgramming q) l d n h m cells =
    let i : q.left ≡ l = cc in
    drift p _ _ _ _ (one-time-running p q) n q.left m cells (omega arith)

-- ---- leaps, as many as there is fuel for; the rest by microseconds

unfoldable pub leap : Part → (fuel n : ℕ) → Moment → Moment
leap p zero n m = ticks p n m
leap p (suc fuel) n m =
    elim (due_of m.operation) [
      | never ↦ drifted p n m
      | due l ↦ elim (ltb n l) [
        | true ↦ drifted p n m
        | false ↦ elim (ltb 0 l) [ true ↦ leap p fuel (n - l) (tick p (drifted p (l - 1) m)) | false ↦ ticks p n m ]
      ]
    ]

pub leap-ticks : (p : Part) (fuel n : ℕ) (m : Moment) → leap p fuel n m ≡ ticks p n m
unfolding leap ticks
leap-ticks p zero n m = refl
leap-ticks p (suc fuel) n m = go (due_of m.operation) refl (leap-ticks p fuel)
  where
    next : (l : ℕ) → due_of m.operation ≡ due l → l ≤ n → 0 < l → ticks p (n - l) (tick p (drifted p (l - 1) m)) ≡ ticks p n m
    next l d h k =
        let one : n ≡ (l - 1) + suc (n - l) = omega arith in
        ap (λ (x : Moment). ticks p (n - l) (tick p x)) (sym (drift-due p m.operation l d (l - 1) (omega arith) m.meter m.lent))
        ∙ sym (ticks-add p (l - 1) (suc (n - l)) m)
        ∙ ap (λ (k : ℕ). ticks p k m) (sym one)

    go : (d : Due) → due_of m.operation ≡ d → ((k : ℕ) (x : Moment) → leap p fuel k x ≡ ticks p k x)
        → (elim d [
          | never ↦ drifted p n m
          | due l ↦ elim (ltb n l) [
            | true ↦ drifted p n m
            | false ↦ elim (ltb 0 l) [ true ↦ leap p fuel (n - l) (tick p (drifted p (l - 1) m)) | false ↦ ticks p n m ]
          ]
        ]) ≡ ticks p n m
    go never e rest = sym (drift-never p m.operation e n m.meter m.lent)
    go (due l) e rest = at (ltb n l) refl (ltb 0 l) refl
      where
        at : (b : Bool) → ltb n l ≡ b → (c : Bool) → ltb 0 l ≡ c
            → (elim b [ true ↦ drifted p n m | false ↦ elim c [ true ↦ leap p fuel (n - l) (tick p (drifted p (l - 1) m)) | false ↦ ticks p n m ] ]) ≡ ticks p n m
        at true f c g = sym (drift-due p m.operation l e n (ltb-true n l f) m.meter m.lent)
        at false f true g = rest (n - l) (tick p (drifted p (l - 1) m)) ∙ next l e (ltb-false n l f) (ltb-true 0 l g)
        at false f false g = refl
