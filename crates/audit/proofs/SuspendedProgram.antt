-- No event suspends a program: of the public functions, and through C.
use Prim.Native.Nat.{ℕ}
use mathlib.Core.Path.{◌≡◌, refl, ◌∙◌}
use mathlib.Core.Bool.{false}
use mathlib.Core.List.{List}
use lib.Dec.{eqb}
use Rattle.geometry.specs.declared.Part.{Part}
use Rattle.plain.specs.declared.Erase.{Erase}
use Rattle.plain.specs.declared.Inside.{Inside}
use Rattle.plain.specs.declared.Inside.TheVariants.{Nothing, Runs}
use Rattle.plain.specs.declared.Operation.{Operation}
use Rattle.plain.specs.declared.Operation.TheVariants.{Idle, Programming, ProgramSuspended, Window, Erasing, Recovering, EraseSuspended, ChipErasing, InOneTime, OneTimeProgramming}
use Rattle.plain.specs.declared.Device.{Device}
use Rattle.plain.specs.Commands.{program_is_suspended}
use Rattle.plain.specs.Events.{Event}
use Rattle.plain.specs.Lent.{Lent}
use Rattle.plain.specs.Machine.{step}
use Rattle.plain.specs.Operations.{suspension_of}
use Rattle.plain.specs.Record.{fresh}
use Rattle.plain.specs.SuspendedProgram.{program_rests}
use Rattle.plain.proofs.SuspendedProgram.{Awake, awake-lasts}
use Rattle.plain.proofs.Tools.{clash}
use Rattle.history.proofs.Awake.{fresh-awake, no-event-suspends-program, no-run-suspends-program}
use Rattle.layout.specs.Operations.{suspended_parts, operation_parts}
use Rattle.layout.specs.Image.{image_of, device_of, parts_of}
use Rattle.face.specs.Face.{part_named}
use Rattle.audit.specs.Called.{Held, Calls, none, more}
use Rattle.audit.specs.Promises.{AnswersSuspendNoProgram, RunsSuspendNoProgram}
use Rattle.audit.specs.CallPromises.{says_suspended, CallsSuspendNoProgram, CallRunsSuspendNoProgram}
use Rattle.audit.proofs.Numbers.{by_number}
use Rattle.audit.proofs.Called.{called, by-standing, called_is}
use Rattle.audit.proofs.CallPromises.{made-fresh}
use Rattle.audit.proofs.Same.{allowed-is, runs-are}

pub answers-suspend-no-program : (p : Part) → AnswersSuspendNoProgram p
answers-suspend-no-program p r l after e y f h = rw (allowed-is f).answer (no-event-suspends-program p r l e h)

pub runs-suspend-no-program : (p : Part) → RunsSuspendNoProgram p
runs-suspend-no-program p start es ran f = rw (runs-are f) (no-run-suspends-program p start es)

-- ---- word 5 says whether a program is suspended

inside-says : (e : Erase) (i : Inside) → eqb (suspended_parts e i).number 2 ≡ false
unfolding suspended_parts
inside-says e Nothing = refl
inside-says e (Runs q) = refl

number-says : (o : Operation) → eqb (operation_parts o).number 2 ≡ program_rests o
unfolding operation_parts suspension_of program_is_suspended
number-says Idle = refl
number-says (Programming q) = refl
number-says (ProgramSuspended q) = refl
number-says (Window e) = refl
number-says (Erasing e) = refl
number-says (Recovering r) = refl
number-says (EraseSuspended s) = inside-says s.erase s.inside
number-says (ChipErasing e) = refl
number-says InOneTime = refl
number-says (OneTimeProgramming q) = refl

image-says : (r : Device) → says_suspended (image_of r) ≡ program_rests r.operation
unfolding image_of
image-says r = number-says r.operation

device-awake : (i : List ℕ) → says_suspended i ≡ false → Awake (device_of i).operation
unfolding device_of suspension_of program_is_suspended
device-awake i h = by_number Awake awake-lasts (parts_of i) refl (λ e. clash e h) refl refl

-- ---- through C

says-no : (part : ℕ) (words : List ℕ) (l : Lent) (e : Event) → says_suspended words ≡ false → says_suspended (called part words l e).image ≡ false
says-no part words l e h =
    by-standing part words l (λ f. says_suspended f.image ≡ false) e h
    (image-says (step (part_named part) (device_of words) l e).answer.device
    ∙ no-event-suspends-program (part_named part) (device_of words) l e (device-awake words h))

pub calls-suspend-no-program : CallsSuspendNoProgram
calls-suspend-no-program part words l e f c h = rw (called_is part words l c) (says-no part words l e h)

run-says : {part : ℕ} {words : List ℕ} {l : Lent} {es : List Event} {ran : Held} → Calls part words l es ran → says_suspended words ≡ false → says_suspended ran.words ≡ false
run-says none h = h
run-says {part} {words} {l} (more {e = e} {f = f} c m g) h = run-says g (calls-suspend-no-program part words l e f c h)

pub call-runs-suspend-no-program : CallRunsSuspendNoProgram
call-runs-suspend-no-program part start es ran runs = run-says runs.calls (rw (made-fresh runs.made) (image-says fresh ∙ fresh-awake))
