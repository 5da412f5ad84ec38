-- Each operation is passed by its own function.
use mathlib.Core.Path.{◌≡◌}
use mathlib.Core.Logic.{◌⊎◌, inl, inr}
use Rattle.geometry.specs.declared.Part.{Part}
use Rattle.plain.specs.declared.Program.{Program}
use Rattle.plain.specs.declared.Operation.{Operation}
use Rattle.plain.specs.declared.Operation.TheVariants.{Idle, ProgramSuspended, InOneTime}
use Rattle.plain.specs.Figures.{standby_current}
use Rattle.plain.proofs.Ticks.{Still}
use native.Mathlib.Omega.{arith}
use Rattle.plain.proofs.Facts.{recovering}
use Rattle.plain.proofs.InTime.{idle-still, program-still, entered-still}
use Rattle.moments.proofs.Rooms.{room-first}
use Rattle.moments.proofs.Passed.{still-passed}
use Rattle.waiting.proofs.pass.Goals as goal

rests : (p : Part) (o : Operation) → (o ≡ Idle) ⊎ (((q : Program) × (o ≡ ProgramSuspended q)) ⊎ (o ≡ InOneTime)) → Still p o (standby_current p)
rests p o (inl e) = rw e (idle-still p)
rests p o (inr (inl (q, e))) = rw e (program-still p q)
rests p o (inr (inr e)) = rw e (entered-still p)

pub pass_recovery-requires : goal.pass_recovery-requires
pass_recovery-requires c =
    let fit = c.requires in record { room = room-first _ _ _ _ (omega arith) fit.room; le_left = (recovering _ _ _ (rw c.in-Recovering.is at fit.sound)).some_left }

pub returns-in-Idle : goal.returns-in-Idle
returns-in-Idle c =
    let done = still-passed _ _ _ _ _ (rests _ _ c.in-Idle.is) in
    rw c.stood_by.ensures (record { value = done.result; cells_after = done.exit.0; otp_after = done.exit.1 })
