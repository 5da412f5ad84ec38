-- The meter, the operation and what is lent are what n microseconds make of them: how that is shown.
use Prim.Native.Nat.{ℕ, ◌*◌}
use mathlib.Core.Path.{◌≡◌, sym, ap, ◌∙◌}
use Rattle.geometry.specs.declared.Part.{Part}
use Rattle.meter.specs.declared.Meter.{Meter}
use Rattle.meter.specs.Meter.{metered}
use Rattle.plain.specs.declared.Operation.{Operation}
use Rattle.plain.specs.Figures.{standby_current}
use Rattle.plain.specs.Lent.{Lent}
use Rattle.plain.specs.Time.{Moment, moment, ticks}
use Rattle.plain.proofs.Ticks.{Still, still}
use Rattle.moments.specs.declared.Moved.{Moved}
use Rattle.moments.specs.Moments.{moved}

pub record Passed (p : Part) (n : ℕ) (from : Moment) (r : Moved) (l : Lent) : Type 0 where
  pub result : r ≡ moved (ticks p n from)
  pub exit : (l.cells ≡ (ticks p n from).lent.cells) × (l.otp ≡ (ticks p n from).lent.otp)

pub passed : (p : Part) (n : ℕ) (from to : Moment) → ticks p n from ≡ to → Passed p n from (moved to) to.lent
passed p n from to e =
    record { result = sym (ap moved e); exit = (sym (ap (λ (m : Moment). m.lent.cells) e), sym (ap (λ (m : Moment). m.lent.otp) e)) }

-- a wait from elsewhere that comes to the same
pub instead : (p : Part) (n k : ℕ) (from x : Moment) (r : Moved) (l : Lent) → ticks p k x ≡ ticks p n from → Passed p k x r l → Passed p n from r l
instead p n k from x r l e d =
    record {
      result = d.result ∙ ap moved e;
      exit = (d.exit.0 ∙ ap (λ (m : Moment). m.lent.cells) e, d.exit.1 ∙ ap (λ (m : Moment). m.lent.otp) e);
    }

-- nothing runs
pub still-passed : (p : Part) (m : Meter) (o : Operation) (l : Lent) (n : ℕ) → Still p o (standby_current p)
    → Passed p n (moment m o l) (moved (moment (metered m n (n * standby_current p)) o l)) l
still-passed p m o l n s = passed p n (moment m o l) (moment (metered m n (n * standby_current p)) o l) (still p o (standby_current p) s n m l)
