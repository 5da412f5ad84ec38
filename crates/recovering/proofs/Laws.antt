-- What a wait comes to in a recovery: it goes on, or it ends, and the rest of the wait passes in suspension.
use Prim.Native.Nat.{ℕ, ◌-◌, ◌*◌, ◌<◌, ◌≤◌}
use mathlib.Core.Path.{◌∙◌}
use Rattle.geometry.specs.declared.Part.{Part}
use Rattle.meter.specs.declared.Meter.{Meter}
use Rattle.meter.specs.Meter.{metered}
use Rattle.plain.specs.declared.Inside.TheVariants.{Nothing}
use Rattle.plain.specs.declared.Operation.TheVariants.{Recovering, EraseSuspended}
use Rattle.plain.specs.declared.Recovery.{Recovery}
use Rattle.plain.specs.Figures.{running_current, standby_current}
use Rattle.plain.specs.Record.{suspended, recovery}
use Rattle.plain.proofs.InTime.{erase-still, recovery-running}
use Rattle.plain.proofs.Ticks.{still, drift, passes}
use Rattle.moments.specs.Moments.{MovesAlone}

module _ (p : Part) (m : Meter) (n : ℕ) (r : Recovery) where
  abbrev runs : ℕ → Meter
  runs k = metered m k (k * running_current p)

  pub goes_on : n < r.left → MovesAlone p n m (Recovering r) (record { meter = runs n; operation = Recovering (recovery r.erase (r.left - n)) })
  goes_on h l = drift p _ _ _ _ (recovery-running p r.erase) n r.left m l h

  pub ends : 1 ≤ r.left → r.left ≤ n
      → MovesAlone p n m (Recovering r) (record { meter = metered (runs r.left) (n - r.left) ((n - r.left) * standby_current p); operation = EraseSuspended (suspended r.erase Nothing) })
  ends s h l =
      passes p _ _ _ _ (recovery-running p r.erase) n r.left m l s h
      ∙ still p (EraseSuspended (suspended r.erase Nothing)) (standby_current p) (erase-still p r.erase) (n - r.left) (runs r.left) l
