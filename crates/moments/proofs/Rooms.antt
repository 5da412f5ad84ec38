-- Room on the meter: for a part of the wait, and for the rest of it after a part.
use Prim.Native.Nat.{ℕ, ◌+◌, ◌-◌, ◌*◌, ◌^◌, ◌<◌, ◌≤◌}
use native.Mathlib.Nat.{mul-le-mul}
use native.Mathlib.Omega.{arith}
use Rattle.geometry.specs.declared.Part.{Part}
use Rattle.meter.specs.declared.Meter.{Meter}
use Rattle.meter.specs.Meter.{metered}
use Rattle.plain.specs.Figures.{running_current, standby_current}
use Rattle.plain.proofs.FigureLaws.{clock-fits, running-fits, running-sound, standby-sound}
use Rattle.moments.specs.Moments.{Room}

module _ (p : Part) (m : Meter) (n k : ℕ) (h : k ≤ n) (r : Room p m n) where
  pub room-first : Room p m k
  room-first = record { clock = omega (arith, r.clock); charge = r.charge }

  pub room-ran : Room p (metered m k (k * running_current p)) (n - k)
  room-ran =
      record { clock = omega (arith, r.clock); charge = running-sound p m.clock m.charge k room-first.clock r.charge }

  pub room-stood-by : Room p (metered m k (k * standby_current p)) (n - k)
  room-stood-by =
      record { clock = omega (arith, r.clock); charge = standby-sound p m.clock m.charge k room-first.clock r.charge }

-- ---- what is added to the meter fits 64 bits

abbrev top : ℕ
top = 2 ^ 64

module _ (p : Part) (m : Meter) (n : ℕ) (r : Room p m n) where
  -- n microseconds draw no more than they do at the running current
  pub sums-fit : (rate : ℕ) → rate ≤ running_current p → (m.clock + n < top) × (m.charge + n * rate < top)
  sums-fit rate h =
      let most : n * rate ≤ n * running_current p = mul-le-mul (omega arith) h in
      (clock-fits p m.clock m.charge n r.clock r.charge, omega (arith, most, running-fits p m.clock m.charge n r.clock r.charge))
