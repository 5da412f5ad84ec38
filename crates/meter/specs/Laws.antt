-- Two runs are metered as one: what a caller uses to join the parts of a wait.
use Rattle.std.specs.Prelude.{◌≡◌, ℕ, ◌+◌}
use Rattle.std.proofs.Common.{add_assoc}
use Rattle.meter.specs.declared.Meter.{Meter}
use Rattle.meter.specs.Meter.{metered}

pub metered-twice : (m : Meter) (a p b q : ℕ) → metered (metered m a p) b q ≡ metered m (a + b) (p + q)
metered-twice m a p b q = λ i. record { clock = add_assoc m.clock a b i; charge = add_assoc m.charge p q i }
