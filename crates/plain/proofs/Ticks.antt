-- Microseconds in a row: what n of them come to where nothing happens, and where something ends.
use Prim.Native.Nat.{ℕ, zero, suc, ◌+◌, ◌-◌, ◌*◌, ◌<◌, ◌≤◌}
use mathlib.Core.Path.{◌≡◌, sym, ap, ◌∙◌}
use native.Mathlib.Nat.{zero-add, suc-add, suc-mul}
use native.Mathlib.Omega.{arith}
use Rattle.geometry.specs.declared.Part.{Part}
use Rattle.meter.specs.declared.Meter.{Meter}
use Rattle.meter.specs.Meter.{metered}
use Rattle.plain.specs.declared.Operation.{Operation}
use Rattle.plain.specs.declared.Device.{Device}
use Rattle.plain.specs.Lent.{Lent}
use Rattle.plain.specs.Machine.{now, waited, wait_taken}
use Rattle.plain.specs.Operations.{running_of}
use Rattle.plain.specs.Time.{Moment, moment, current, operation_tick, lent_tick, tick, ticks}

-- a + b microseconds are a, and then b
pub ticks-add : (p : Part) (a b : ℕ) (m : Moment) → ticks p (a + b) m ≡ ticks p b (ticks p a m)
unfolding ticks
ticks-add p zero b m = rw zero-add
ticks-add p (suc a) b m = rw suc-add (ticks-add p a b (tick p m))

-- so what two waits leave is what the one leaves, on any record
pub waited-twice : (p : Part) (r : Device) (l : Lent) (a b : ℕ)
    → let first = wait_taken p r l a in
    wait_taken p first.answer.device first.lent b ≡ wait_taken p r l (a + b)
waited-twice p r l a b = ap (waited r) (sym (ticks-add p a b (now r l)))

-- the meter after n microseconds at one current
abbrev pub drawn : Meter → (n rate : ℕ) → Meter
drawn m n rate = metered m n (n * rate)

drawn-none : (m : Meter) (rate : ℕ) → m ≡ drawn m 0 rate
drawn-none m rate = λ i. record { clock = time i; charge = same i }
  where
    time : m.clock ≡ m.clock + 0
    time = omega arith

    same : m.charge ≡ m.charge + 0 * rate
    same = omega arith

drawn-more : (m : Meter) (n rate : ℕ) → drawn (metered m 1 rate) n rate ≡ drawn m (suc n) rate
drawn-more m n rate = λ i. record { clock = time i; charge = more i }
  where
    time : m.clock + 1 + n ≡ m.clock + suc n
    time = omega arith

    more : m.charge + rate + n * rate ≡ m.charge + suc n * rate
    more = omega (arith, suc-mul n rate)

-- ---- nothing happens

-- an operation that time leaves as it is
pub record Still (p : Part) (o : Operation) (rate : ℕ) : Type 0 where
  pub draws : current p (running_of o) ≡ rate
  pub stays : operation_tick p o ≡ o
  pub keeps : (l : Lent) → lent_tick p (running_of o) l ≡ l

pub still : (p : Part) (o : Operation) (rate : ℕ) → Still p o rate → (n : ℕ) (m : Meter) (cells : Lent)
    → ticks p n (moment m o cells) ≡ moment (drawn m n rate) o cells
unfolding ticks tick
still p o rate s zero m cells = λ i. moment (drawn-none m rate i) o cells
still p o rate s (suc n) m cells =
    rw (s.draws, s.stays, s.keeps cells) (still p o rate s n (metered m 1 rate) cells ∙ (λ i. moment (drawn-more m n rate i) o cells))

-- ---- something runs out

-- an operation told by its time left: each microsecond takes one away, and the last one makes `next` of it, and `done` of what is lent
pub record Running (p : Part) (at : ℕ → Operation) (rate : ℕ) (next : Operation) (done : Lent → Lent) : Type 0 where
  pub draws : (n : ℕ) → current p (running_of (at n)) ≡ rate
  pub steps : (n : ℕ) → 1 < n → operation_tick p (at n) ≡ at (n - 1)
  pub keeps : (n : ℕ) → 1 < n → (l : Lent) → lent_tick p (running_of (at n)) l ≡ l
  pub ends : operation_tick p (at 1) ≡ next
  pub finishes : (l : Lent) → lent_tick p (running_of (at 1)) l ≡ done l

module _ (p : Part) (at : ℕ → Operation) (rate : ℕ) (next : Operation) (done : Lent → Lent) (r : Running p at rate next done) where
  one-step : (l : ℕ) (m : Meter) (cells : Lent) → 1 < l → tick p (moment m (at l) cells) ≡ moment (metered m 1 rate) (at (l - 1)) cells
  unfolding tick
  one-step l m cells h = rw (r.draws l, r.steps l h, r.keeps l h cells)

  last_step : (m : Meter) (cells : Lent) → tick p (moment m (at 1) cells) ≡ moment (metered m 1 rate) next (done cells)
  unfolding tick
  last_step m cells = rw (r.draws 1, r.ends, r.finishes cells)

  -- before the end
  pub drift : (n l : ℕ) (m : Meter) (cells : Lent) → n < l → ticks p n (moment m (at l) cells) ≡ moment (drawn m n rate) (at (l - n)) cells
  unfolding ticks
  drift zero l m cells h = λ i. moment (drawn-none m rate i) (at (same i)) cells
    where
      same : l ≡ l - 0
      same = omega arith
  drift (suc n) l m cells h =
      let fewer : l - 1 - n ≡ l - suc n = omega arith in
      ap (ticks p n) (one-step l m cells (omega arith))
      ∙ drift n (l - 1) (metered m 1 rate) cells (omega arith)
      ∙ (λ i. moment (drawn-more m n rate i) (at (fewer i)) cells)

  -- at the end
  pub lands : (l : ℕ) (m : Meter) (cells : Lent) → 1 ≤ l → ticks p l (moment m (at l) cells) ≡ moment (drawn m l rate) next (done cells)
  unfolding ticks
  lands zero m cells h = absurd (omega arith)
  lands (suc zero) m cells h =
      last_step m cells ∙ (λ i. moment (metered m 1 (one i)) next (done cells))
    where
      one : rate ≡ 1 * rate
      one = omega arith
  lands (suc (suc l)) m cells h =
      let fewer : suc (suc l) - 1 ≡ suc l = omega arith in
      ap (ticks p (suc l)) (one-step (suc (suc l)) m cells (omega arith) ∙ (λ i. moment (metered m 1 rate) (at (fewer i)) cells))
      ∙ lands (suc l) (metered m 1 rate) cells (omega arith)
      ∙ (λ i. moment (drawn-more m (suc l) rate i) next (done cells))

  -- past the end: what is left of the wait is waited after it
  pub passes : (n l : ℕ) (m : Meter) (cells : Lent) → 1 ≤ l → l ≤ n
      → ticks p n (moment m (at l) cells) ≡ ticks p (n - l) (moment (drawn m l rate) next (done cells))
  passes n l m cells h g =
      let whole : n ≡ l + (n - l) = omega arith in
      ap (λ (k : ℕ). ticks p k (moment m (at l) cells)) whole
      ∙ ticks-add p l (n - l) (moment m (at l) cells)
      ∙ ap (ticks p (n - l)) (lands l m cells h)
