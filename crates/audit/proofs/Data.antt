-- The data of a record's program has 16 bits if that of each write has, a recovery has time left, and a program's array is the one that its
-- address selects: so every record that a call leaves has an image.
use Prim.Native.Nat.{ℕ, ◌<◌}
use mathlib.Core.Path.{◌≡◌, refl}
use mathlib.Core.Bool.{false}
use mathlib.Core.List.{List}
use native.Mathlib.Nat.{mod-lt}
use lib.Dec.{lit<}
use Rattle.geometry.specs.declared.Part.{Part}
use Rattle.plain.specs.declared.Refusal.TheVariants.{State, Address, Clock, Debris}
use Rattle.plain.specs.declared.Erase.{Erase}
use Rattle.plain.specs.declared.Inside.{Inside}
use Rattle.plain.specs.declared.Inside.TheVariants.{Nothing, Runs}
use Rattle.plain.specs.declared.Recovery.{Recovery}
use Rattle.plain.specs.declared.Operation.{Operation}
use Rattle.plain.specs.declared.Operation.TheVariants.{Idle, Programming, ProgramSuspended, Window, Erasing, Recovering, EraseSuspended, ChipErasing, InOneTime, OneTimeProgramming}
use Rattle.plain.specs.declared.Effect.TheVariants.{Starts}
use Rattle.plain.specs.declared.Device.{Device}
use Rattle.plain.specs.Events.{Event, read, write, wait, cut, range}
use Rattle.plain.specs.Lent.{Lent}
use Rattle.plain.specs.Machine.{refused, read_event, write_event, wait_event, cut_event, range_event, step}
use Rattle.plain.specs.Record.{fresh}
use Rattle.plain.specs.Sound.{sound}
use Rattle.plain.proofs.Data.{inside_data, data_of, recovery_left, Short, short-lasts}
use Rattle.plain.proofs.Facts.{sound-operation}
use Rattle.plain.proofs.Ladder.{entry-state, ladder-barred}
use Rattle.plain.proofs.Tools.{by_cases, clash}
use Rattle.history.proofs.Fine.{Fine, starts}
use Rattle.history.proofs.Kept.{step-sound}
use Rattle.history.proofs.KeptOperation.{step_keeps}
use Rattle.layout.specs.declared.OperationParts.{OperationParts}
use Rattle.layout.specs.Operations.{suspended_parts, operation_parts, operation_of}
use Rattle.layout.specs.Image.{device_of, parts_of}
use Rattle.layout.specs.Promises.{Selects, Fits}
use Rattle.layout.proofs.Arrays.{sound-selects, words-select}
use Rattle.audit.proofs.Numbers.{by_number}

-- ---- by the words for C

inside-told : (e : Erase) (i : Inside) → (suspended_parts e i).program.writes.word ≡ inside_data i
unfolding suspended_parts inside_data
inside-told e Nothing = refl
inside-told e (Runs q) = refl

data-told : (o : Operation) → (operation_parts o).program.writes.word ≡ data_of o
unfolding operation_parts data_of
data-told Idle = refl
data-told (Programming q) = refl
data-told (ProgramSuspended q) = refl
data-told (Window e) = refl
data-told (Erasing e) = refl
data-told (Recovering r) = refl
data-told (EraseSuspended s) = inside-told s.erase s.inside
data-told (ChipErasing e) = refl
data-told InOneTime = refl
data-told (OneTimeProgramming q) = refl

time-told : (o : Operation) → ((x : Recovery) → o ≡ Recovering x → 0 < x.left) → 0 < recovery_left o
unfolding recovery_left
time-told Idle h = lit< tt
time-told (Programming q) h = lit< tt
time-told (ProgramSuspended q) h = lit< tt
time-told (Window e) h = lit< tt
time-told (Erasing e) h = lit< tt
time-told (Recovering r) h = h r refl
time-told (EraseSuspended s) h = lit< tt
time-told (ChipErasing e) h = lit< tt
time-told InOneTime h = lit< tt
time-told (OneTimeProgramming q) h = lit< tt

module _ (r : Device) where
  short-fits : Short r.operation → Selects (operation_parts r.operation) → Fits r
  unfolding recovery_left
  short-fits h s = record { word = rw (data-told r.operation) h.0; array = s; recovery = λ x e. rw e at h.1 }

  fits-short : Fits r → Short r.operation
  fits-short f = (rw (data-told r.operation) at f.word, time-told r.operation f.recovery)

of_parts : (o : OperationParts) → o.program.writes.word < 65536 → Short (operation_of o)
unfolding data_of inside_data recovery_left
of_parts o h = by_number Short short-lasts o (h, lit< tt) (λ _. (h, lit< tt)) (h, lit< tt) (h, lit< tt)

image-short : (i : List ℕ) → Short (device_of i).operation
unfolding device_of
image-short i = of_parts (parts_of i) (mod-lt _ (lit< tt))

pub image-fits : (i : List ℕ) → Fits (device_of i)
image-fits i = short-fits (device_of i) (image-short i) (words-select i)

pub fresh-fits : Fits fresh
unfolding operation_parts data_of recovery_left
fresh-fits = short-fits fresh (lit< tt, lit< tt) (λ has. clash has refl)

-- ---- by the events

-- the word of a write has 16 bits
unfoldable pub Brief : Event → Type 0
Brief (read a) = Unit {0}
Brief (write a w) = w < 65536
Brief (wait n) = Unit {0}
Brief (cut debris) = Unit {0}
Brief (range first count) = Unit {0}

pub cut-brief : (debris : List ℕ) → Brief (cut debris)
unfolding Brief
cut-brief debris = tt

starts-short : {p : Part} {l : Lent} {w : ℕ} {Reason : Type 0} (r : Device) → w < 65536 → Short r.operation → (x : Operation)
    → Fine p r.bits l w Reason r.operation (Starts x) → Short x
starts-short r g h x (starts _ short _ _) = short g h

module _ (p : Part) (r : Device) (l : Lent) where
  step-short : Short r.operation → (e : Event) → Brief e → Short (step p r l e).answer.device.operation
  unfolding Brief
  step-short h e c = step_keeps p r l Short short-lasts h e (λ o same. same.short h) (λ a w is. starts-short r (rw is at c) h)

  -- every event on a record that is not sound is STATE
  all-state : (e : Event) → sound p r ≡ false → step p r l e ≡ refused State r l
  unfolding step read_event write_event wait_event cut_event range_event
  all-state (read a) s = ladder-barred p r l _ Address _ State (entry-state p r l s)
  all-state (write a w) s = ladder-barred p r l _ Address _ State (entry-state p r l s)
  all-state (wait n) s = ladder-barred p r l _ Clock _ State (entry-state p r l s)
  all-state (cut debris) s = ladder-barred p r l _ Debris _ State (entry-state p r l s)
  all-state (range first count) s = ladder-barred p r l _ Address _ State (entry-state p r l s)

  step-selects : Selects (operation_parts r.operation) → (e : Event) → Selects (operation_parts (step p r l e).answer.device.operation)
  step-selects h e =
      let left = (step p r l e).answer.device in
      by_cases (sound p r) (λ s. sound-selects p left.bits left.operation (sound-operation p left (step-sound p r l e s) left.operation refl))
      (λ s. rw (all-state e s) h)

  pub step_fits : Fits r → (e : Event) → Brief e → Fits (step p r l e).answer.device
  step_fits f e c = short-fits (step p r l e).answer.device (step-short (fits-short r f) e c) (step-selects f.array e)
