-- What the history must say, given the record: the time that made progress is the full time less the time left.
use Prim.Native.Nat.{ℕ, ◌-◌}
use mathlib.Core.Path.{◌≡◌, refl}
use mathlib.Core.List.{List}
use native.Mathlib.Omega.{arith}
use Rattle.geometry.specs.declared.Part.{Part}
use Rattle.plain.specs.declared.Erase.{Erase}
use Rattle.plain.specs.declared.Inside.{Inside}
use Rattle.plain.specs.declared.Inside.TheVariants.{Nothing, Runs}
use Rattle.plain.specs.declared.Operation.{Operation}
use Rattle.plain.specs.declared.Operation.TheVariants.{Idle, Programming, ProgramSuspended, Window, Erasing, Recovering, EraseSuspended, ChipErasing, InOneTime, OneTimeProgramming}
use Rattle.plain.specs.declared.Device.{Device}
use Rattle.plain.specs.Figures.{program_time, window_time, erase_time, recovery_time, chip_time}
use Rattle.plain.specs.Doings.{Doing, nothing, programs, waits, erases, recovers, wipes, rests, programs_in, entered, programs_entered}
use Rattle.plain.specs.History.{Told, telling}
use Rattle.plain.specs.Holds.{Fact}
use Rattle.plain.specs.Status.{polled, inside_polled, rested}

unfoldable pub seen_inside : Part → Erase → Inside → Doing
seen_inside p e Nothing = rests e.list e.hand (erase_time p - e.left)
seen_inside p e (Runs q) = programs_in q.writes (program_time p - q.left) e.list e.hand (erase_time p - e.left)

-- a run of a fresh device holds no suspended program (`no-run-suspends-program`): nothing is told of one
unfoldable pub seen_op : Part → Operation → Doing
seen_op p Idle = nothing
seen_op p (Programming q) = programs q.writes (program_time p - q.left)
seen_op p (ProgramSuspended q) = nothing
seen_op p (Window e) = waits e.list e.hand (window_time p - e.left)
seen_op p (Erasing e) = erases e.list e.hand (erase_time p - e.left)
seen_op p (Recovering r) = recovers r.erase.list r.erase.hand (erase_time p - r.erase.left) (recovery_time p - r.left)
seen_op p (EraseSuspended s) = seen_inside p s.erase s.inside
seen_op p (ChipErasing e) = wipes e.list e.hand (chip_time p - e.left)
seen_op p InOneTime = entered
seen_op p (OneTimeProgramming q) = programs_entered q.writes (program_time p - q.left)

abbrev pub seen : Part → Device → List Fact → Told
seen p r fs =
    telling r.command (seen_op p r.operation) r.bits.dyb r.bits.ppb r.bits.sealed fs r.meter.clock r.meter.charge

-- of what has its full time left no time has gone
pub none-gone : (full : ℕ) → full - full ≡ 0
none-gone full = omega arith

-- ---- toggles are not seen

polled-inside : (p : Part) (e : Erase) (i : Inside) → seen_inside p e (inside_polled i) ≡ seen_inside p e i
unfolding seen_inside inside_polled
polled-inside p e Nothing = refl
polled-inside p e (Runs q) = refl

pub polled-seen : (p : Part) (o : Operation) (a : ℕ) → seen_op p (polled p o a) ≡ seen_op p o
unfolding seen_op polled
polled-seen p Idle a = refl
polled-seen p (Programming q) a = refl
polled-seen p (ProgramSuspended q) a = refl
polled-seen p (Window e) a = refl
polled-seen p (Erasing e) a = refl
polled-seen p (Recovering r) a = refl
polled-seen p (EraseSuspended s) a = polled-inside p s.erase s.inside
polled-seen p (ChipErasing e) a = refl
polled-seen p InOneTime a = refl
polled-seen p (OneTimeProgramming q) a = refl

rested-inside : (p : Part) (e f : Erase) (i : Inside) → e.list ≡ f.list → e.hand ≡ f.hand → e.left ≡ f.left → seen_inside p e i ≡ seen_inside p f i
unfolding seen_inside
rested-inside p e f Nothing a b c = rw (a, b, c)
rested-inside p e f (Runs q) a b c = rw (a, b, c)

pub rested-seen : (p : Part) (o : Operation) → seen_op p (rested o) ≡ seen_op p o
unfolding seen_op rested
rested-seen p Idle = refl
rested-seen p (Programming q) = refl
rested-seen p (ProgramSuspended q) = refl
rested-seen p (Window e) = refl
rested-seen p (Erasing e) = refl
rested-seen p (Recovering r) = refl
rested-seen p (EraseSuspended s) = rested-inside p _ s.erase s.inside refl refl refl
rested-seen p (ChipErasing e) = refl
rested-seen p InOneTime = refl
rested-seen p (OneTimeProgramming q) = refl
