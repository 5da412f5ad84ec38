-- A sound record stays sound, whatever happens to it.
use Prim.Native.Nat.{ℕ, ◌<◌, ◌≤◌}
use mathlib.Core.Path.{◌≡◌, refl}
use mathlib.Core.Bool.{true}
use mathlib.Core.List.{List}
use lib.ListN.{length}
use Rattle.geometry.specs.declared.Part.{Part}
use Rattle.plain.specs.declared.Refusal.TheVariants.{Done, State, Debris}
use Rattle.plain.specs.declared.Device.{Device}
use Rattle.plain.specs.Ends.{StaysSound, NoRunEndsProtected}
use Rattle.plain.specs.Events.{Event, cut}
use Rattle.plain.specs.Lent.{Lent}
use Rattle.plain.specs.Record.{fresh}
use Rattle.plain.specs.Refusals.{number}
use Rattle.plain.specs.Promises.{NeverState}
use Rattle.plain.specs.Sound.{sound}
use Rattle.plain.specs.Cut.{debris_needed}
use Rattle.plain.specs.Machine.{step, run, Fit}
use Rattle.plain.proofs.Tools.{clash}
use Rattle.plain.proofs.Facts.{fresh-sound}
use Rattle.plain.proofs.Ends.{never-ends-protected}
use Rattle.plain.proofs.EventLaws.{cut-debris, cut-passes}
use Rattle.history.proofs.Fine.{never}
use Rattle.history.proofs.KeptEvents.{step_kept}
use Rattle.history.proofs.KeptOperation.{run-keeps}

-- every event on a sound record leaves a sound one
pub step-sound : (p : Part) → StaysSound p
step-sound p r l e s = (step_kept p r s l e).device

-- so a fresh device's record is sound after any run
pub always-sound : (p : Part) (l : Lent) (es : List Event) → sound p (run p fresh l es).device ≡ true
always-sound p l es = run-keeps p (λ r. sound p r ≡ true) (step-sound p) fresh l es (fresh-sound p)

-- ---- what never comes

pub no-run-ends-protected : (p : Part) → NoRunEndsProtected p
no-run-ends-protected p start es l n =
    never-ends-protected p (run p fresh start es).device l n (always-sound p start es)

pub never-state : (p : Part) → NeverState p
unfolding number
never-state p start es l e q =
    let state : never State ≡ true = refl in
    clash state (rw q at (step_kept p (run p fresh start es).device (always-sound p start es) l e).refusal)

-- ---- a cut is taken if the debris is enough, and refused if not

module _ (p : Part) (r : Device) (l : Lent) (debris : List ℕ) (f : Fit p r l) where
  pub cut-accepted : debris_needed p r.operation ≤ length debris → (step p r l (cut debris)).answer.refusal ≡ Done
  unfolding step
  cut-accepted h = rw (cut-passes p r l debris f h)

  pub cut-refused : length debris < debris_needed p r.operation → (step p r l (cut debris)).answer.refusal ≡ Debris
  unfolding step
  cut-refused h = rw (cut-debris p r l debris f h)
