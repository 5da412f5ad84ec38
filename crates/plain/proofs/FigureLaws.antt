-- What is known of the figures of every part: no time is 0, no current is above the running one, and every charge fits 64 bits.
use Prim.Native.Nat.{ℕ, ◌+◌, ◌*◌, ◌^◌, ◌<◌, ◌≤◌}
use native.Mathlib.Omega.{arith}
use lib.Dec.{lit≤}
use Rattle.geometry.specs.declared.Part.{Part}
use Rattle.plain.specs.Figures.{program_time, window_time, erase_time, recovery_time, chip_time, running_current, standby_current, clock_limit}

module _ (p : Part) where
  pub program-some : 1 ≤ program_time p
  unfolding program_time
  program-some = lit≤ tt

  pub window-some : 1 ≤ window_time p
  unfolding window_time
  window-some = lit≤ tt

  pub erase-some : 1 ≤ erase_time p
  unfolding erase_time
  erase-some = lit≤ tt

  pub recovery-some : 1 ≤ recovery_time p
  unfolding recovery_time
  recovery-some = lit≤ tt

  pub chip-some : 1 ≤ chip_time p
  unfolding chip_time
  chip-some = lit≤ tt

  pub standby-most : standby_current p ≤ running_current p
  unfolding standby_current running_current
  standby-most = lit≤ tt

  -- ---- n microseconds more, within the clock's limit, from a meter whose charge is sound

  module _ (clock charge n : ℕ) (limit : clock + n ≤ clock_limit p) (sound : charge ≤ running_current p * clock) where
    pub clock-fits : clock + n < 2 ^ 64
    unfolding clock_limit
    clock-fits = omega arith

    pub running-fits : charge + n * running_current p < 2 ^ 64
    unfolding running_current clock_limit
    running-fits = omega arith

    pub standby-fits : charge + n * standby_current p < 2 ^ 64
    unfolding running_current standby_current clock_limit
    standby-fits = omega arith

    -- the charge stays sound
    pub running-sound : charge + n * running_current p ≤ running_current p * (clock + n)
    unfolding running_current
    running-sound = omega arith

    pub standby-sound : charge + n * standby_current p ≤ running_current p * (clock + n)
    unfolding running_current standby_current
    standby-sound = omega arith

  -- a microsecond at a current that is not above the running one
  pub one-sound : (clock charge rate : ℕ) → rate ≤ running_current p → charge ≤ running_current p * clock → charge + rate ≤ running_current p * (clock + 1)
  unfolding running_current
  one-sound clock charge rate h g = omega arith

  -- what a test of a sound charge multiplies
  pub most-fits : (clock : ℕ) → clock ≤ clock_limit p → running_current p * clock < 2 ^ 64
  unfolding running_current clock_limit
  most-fits clock h = omega arith
