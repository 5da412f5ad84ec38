-- A run of the public functions: each event is given the record and what is lent as the one before left them, and each answer is
-- any that the function's contract allows. `Learnt` is what a caller learns of a call: the function's `ensures`, whatever they are.
use Rattle.std.specs.Prelude.{ℕ, List, [], ◌∷◌}
use contract.Lifetimes.{Lfts}
use Rattle.geometry.specs.declared.Part.{Part}
use Rattle.plain.specs.declared.Refusal.{Refusal}
use Rattle.plain.specs.declared.Device.{Device}
use Rattle.plain.specs.declared.Answer.{Answer}
use Rattle.plain.specs.Events.{Event, read, write, wait, cut, range, Turn}
use Rattle.plain.specs.Lent.{Lent}
use Rattle.plain.specs.Machine.{Ran}
use Rattle.plain.specs.Record.{answer}
use Rattle.machine.proofs.fresh.Reads as Fresh
use Rattle.machine.proofs.read.Reads as Read
use Rattle.machine.proofs.write.Reads as Write
use Rattle.machine.proofs.wait.Reads as Wait
use Rattle.machine.proofs.cut.Reads as Cut
use Rattle.machine.proofs.range_refusal.Reads as Range
use Rattle.audit.specs.Slices.{Location, slice, slices, slices_mut}

-- a record that `machine::fresh` may give
abbrev pub Begun : Device → Type 0
Begun r = Fresh.Learnt tt tt r tt

-- an answer that `machine::read`, `write`, `wait` and `cut` may give, and what is lent afterwards: a call's arguments, its answer, and the
-- arguments at its end; with a read, a write and a range it is lent unchangeable. Of a range `machine::range_refusal` tells the refusal: the
-- record stays, and the word is 0 (what it hands back: Ranges)
pub data Allowed (p : Part) (r : Device) (l : Lent) : Event → Answer → Lent → Type 0 where
  reads : (t : Lfts 2) (at by : Location) {a : ℕ} {y : Answer}
      → Read.Learnt t (p, (r, slices at by l (a, tt))) y (p, (r, slices at by l (a, tt))) → Allowed p r l (read a) y l
  writes : (t : Lfts 2) (at by : Location) {a w : ℕ} {y : Answer}
      → Write.Learnt t (p, (r, slices at by l (a, (w, tt)))) y (p, (r, slices at by l (a, (w, tt)))) → Allowed p r l (write a w) y l
  waits : (t : Lfts 2) (at by : Location) {n : ℕ} {y : Answer} {after : Lent}
      → Wait.Learnt t (p, (r, slices_mut at by l (n, tt))) y (p, (r, slices_mut at by after (n, tt))) → Allowed p r l (wait n) y after
  cuts : (t : Lfts 3) (at by with' : Location) {debris : List ℕ} {y : Answer} {after : Lent}
      → Cut.Learnt t (p, (r, slices_mut at by l (slice with' debris, tt))) y (p, (r, slices_mut at by after (slice with' debris, tt)))
      → Allowed p r l (cut debris) y after
  ranges : (t : Lfts 2) (at by : Location) {first count : ℕ} {n : Refusal}
      → Range.Learnt t (p, (r, slices at by l (first, (count, tt)))) n (p, (r, slices at by l (first, (count, tt))))
      → Allowed p r l (range first count) (answer n 0 r) l

abbrev pub turn : Event → Answer → Turn
turn e y = record { event = e; refusal = y.refusal; word = y.word }

pub data Performed (p : Part) : Device → Lent → List Event → Ran → Type 0 where
  none : {r : Device} {l : Lent} → Performed p r l [] (record { device = r; lent = l; turns = [] })
  more : {r : Device} {l after : Lent} {e : Event} {es : List Event} {y : Answer} {rest : Ran}
      → Allowed p r l e y after → Performed p y.device after es rest
      → Performed p r l (e ∷ es) (record { device = rest.device; lent = rest.lent; turns = turn e y ∷ rest.turns })

-- a run from what `machine::fresh` gives, over any cells and one-time words
pub record Runs (p : Part) (start : Lent) (es : List Event) (ran : Ran) : Type 0 where
  pub first : Device
  pub begun : Begun first
  pub performed : Performed p first start es ran
