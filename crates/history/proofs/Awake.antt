-- No event suspends a program, so no run of a fresh device holds a suspended one.
use Prim.Native.Nat.{ℕ}
use mathlib.Core.Path.{refl, ◌∙◌}
use Rattle.geometry.specs.declared.Part.{Part}
use Rattle.plain.specs.declared.Operation.{Operation}
use Rattle.plain.specs.declared.Effect.TheVariants.{Starts}
use Rattle.plain.specs.declared.Device.{Device}
use Rattle.plain.specs.Commands.{program_is_suspended}
use Rattle.plain.specs.Lent.{Lent}
use Rattle.plain.specs.Operations.{suspension_of}
use Rattle.plain.specs.Record.{fresh}
use Rattle.plain.specs.SuspendedProgram.{NoEventSuspendsProgram, NoRunSuspendsProgram}
use Rattle.plain.proofs.SuspendedProgram.{Awake, awake-lasts}
use Rattle.history.proofs.Fine.{Fine, starts}
use Rattle.history.proofs.KeptOperation.{step_keeps, run-keeps}

starts-awake : {p : Part} {l : Lent} {w : ℕ} {Reason : Type 0} (r : Device) (x : Operation) → Fine p r.bits l w Reason r.operation (Starts x) → Awake x
starts-awake r x (starts _ _ awake _) = awake

pub no-event-suspends-program : (p : Part) → NoEventSuspendsProgram p
no-event-suspends-program p r l e h = step_keeps p r l Awake awake-lasts h e (λ o same. same.resting ∙ h) (λ a w _. starts-awake r)

pub fresh-awake : Awake fresh.operation
unfolding suspension_of program_is_suspended
fresh-awake = refl

pub no-run-suspends-program : (p : Part) → NoRunSuspendsProgram p
no-run-suspends-program p start es = run-keeps p (λ r. Awake r.operation) (no-event-suspends-program p) fresh start es fresh-awake
