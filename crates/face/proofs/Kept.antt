-- A read stores nothing but toggles.
use Prim.Native.Nat.{ℕ}
use mathlib.Core.Path.{◌≡◌, ap}
use mathlib.Core.Bool.{true, not}
use mathlib.Core.List.{List}
use lib.Dec.{ltb}
use Rattle.geometry.specs.declared.Part.{Part}
use Rattle.geometry.specs.Parts.{word_count}
use Rattle.plain.specs.declared.Refusal.TheVariants.{Done, Address}
use Rattle.plain.specs.declared.Operation.{Operation}
use Rattle.plain.specs.declared.Device.{Device}
use Rattle.plain.specs.declared.Answer.{Answer}
use Rattle.plain.specs.Lent.{Lent}
use Rattle.plain.specs.Record.{device, answer}
use Rattle.plain.specs.Machine.{Outcome, read_taken, read_event}
use Rattle.plain.proofs.Ladder.{by-ladder}
use Rattle.layout.specs.Image.{image_of, well_formed, device_of}
use Rattle.layout.specs.Stored.{with_toggles}
use Rattle.layout.proofs.Stored.{stored_toggles}
use Rattle.layout.proofs.Toggles.{Retoggled, same, look-flips}

module _ (p : Part) (r : Device) (l : Lent) where
  read-flips : (a : ℕ) → Retoggled r.operation (read_event p r l a).answer.device.operation
  unfolding read_event
  read-flips a =
      by-ladder p r l (not (ltb a (word_count p))) Address (read_taken p r l a) (λ (o : Outcome). Retoggled r.operation o.answer.device.operation)
      (λ s. same r.operation) (same r.operation) (λ f. same r.operation) (λ f t. look-flips p r.bits r.command r.operation l a)

-- of what a read shows, its toggles stored give the record afterwards
pub read-stored : (p : Part) (i : List ℕ) (l : Lent) (a w : ℕ) (o : Operation) → well_formed i ≡ true
    → answer Done w (device (device_of i).meter (device_of i).command o (device_of i).bits) ≡ (read_event p (device_of i) l a).answer
    → with_toggles i o ≡ image_of (device (device_of i).meter (device_of i).command o (device_of i).bits)
read-stored p i l a w o well e =
    stored_toggles i well o (rw (ap (λ (y : Answer). y.device.operation) e) (read-flips p (device_of i) l a))
