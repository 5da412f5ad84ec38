-- The register: which of its states may stand beside which operation.
use mathlib.Core.Path.{◌≡◌, refl}
use mathlib.Core.Bool.{true}
use Rattle.geometry.specs.declared.Part.{Part}
use Rattle.plain.specs.declared.Inside.TheVariants.{Nothing}
use Rattle.plain.specs.declared.Operation.{Operation}
use Rattle.plain.specs.declared.Operation.TheVariants.{Idle, ProgramSuspended, EraseSuspended, InOneTime}
use Rattle.plain.specs.declared.Suspension.{Suspension}
use Rattle.plain.specs.declared.Suspension.TheVariants.{Unsuspended, OfProgram, OfErase, Entered}
use Rattle.plain.specs.declared.Command.{Command}
use Rattle.plain.specs.declared.Command.TheVariants.{Ground, Entering, Reads}
use Rattle.plain.specs.Operations.{running_of, running_inside, suspension_of}
use Rattle.plain.specs.Record.{suspended}
use Rattle.plain.specs.Sound.{still_command, is_ground, is_still, command_sound}
use Rattle.plain.proofs.Tools.{by_cases, clash}

-- ground is sound whatever goes on
pub ground-sound : (p : Part) (o : Operation) → command_sound p o Ground ≡ true
unfolding command_sound still_command is_ground
ground-sound p o = by_cases (is_still (running_of o)) (λ t. rw t) (λ t. rw t)

-- and nothing else while an operation runs
pub running-ground : (c : Command) → is_ground c ≡ true → c ≡ Ground
unfolding is_ground
running-ground Ground e = refl
running-ground (Entering c) e = clash e refl
running-ground (Reads r) e = clash e refl

-- what runs may become anything
pub ran : (p : Part) (o : Operation) (c : Command) → is_ground c ≡ true → command_sound p o c ≡ true
ran p o c e = rw (running-ground c e) (ground-sound p o)

-- ---- while nothing runs

-- the operation of which just that is suspended, and of which nothing runs
unfoldable pub standing : Suspension → Operation
standing Unsuspended = Idle
standing (OfProgram q) = ProgramSuspended q
standing (OfErase e) = EraseSuspended (suspended e Nothing)
standing Entered = InOneTime

pub command-standing : (p : Part) (s : Suspension) (c : Command) → command_sound p (standing s) c ≡ still_command p s c
unfolding command_sound standing running_of running_inside suspension_of is_still
command-standing p Unsuspended c = refl
command-standing p (OfProgram q) c = refl
command-standing p (OfErase e) c = refl
command-standing p Entered c = refl
