-- What is stored over words that stand for a record gives the image of the record with that part; over any words, the whole.
use Prim.Native.Nat.{ℕ}
use mathlib.Core.Path.{◌≡◌, refl, ap, subst}
use mathlib.Core.Bool.{true}
use mathlib.Core.List.{List}
use lib.ListN.{length}
use Rattle.meter.specs.declared.Meter.{Meter}
use Rattle.protection.specs.declared.Protection.{Protection}
use Rattle.plain.specs.declared.Operation.{Operation}
use Rattle.plain.specs.declared.Command.{Command}
use Rattle.plain.specs.declared.Device.{Device}
use Rattle.plain.specs.Record.{device, program, erase}
use Rattle.layout.specs.declared.OperationParts.{OperationParts}
use Rattle.layout.specs.Places.{record_words}
use Rattle.layout.specs.Commands.{command_words}
use Rattle.layout.specs.Operations.{parts_with, operation_parts}
use Rattle.layout.specs.Image.{sections, image_of, words_from, well_formed, device_of}
use Rattle.layout.specs.Stored.{with_meter, with_command, with_blocks, with_erase, with_program, with_operation, with_toggles, with_bits, with_record}
use Rattle.layout.proofs.Words.{section-whole}
use Rattle.layout.proofs.Canonical.{canonical}

-- ---- over words that stand for a record

-- an operation's parts with the toggles of another's
abbrev pub retoggled : OperationParts → OperationParts → OperationParts
retoggled x y =
    parts_with x.number (erase x.erase.list x.erase.hand x.erase.left y.erase.dq6 y.erase.dq2)
    (program x.program.writes x.program.left y.program.dq6) x.recovery x.entered

module _ (i : List ℕ) (well : well_formed i ≡ true) where
  over : (store : List ℕ → List ℕ) (r : Device) → store (image_of (device_of i)) ≡ image_of r → store i ≡ image_of r
  over store r e = subst (λ (z : List ℕ). store z ≡ image_of r) (canonical i well) e

  pub stored_meter : (m : Meter) → with_meter i m ≡ image_of (device m (device_of i).command (device_of i).operation (device_of i).bits)
  unfolding image_of with_meter
  stored_meter m = over (λ z. with_meter z m) (device m (device_of i).command (device_of i).operation (device_of i).bits) refl

  pub stored_command : (c : Command) → with_command i c ≡ image_of (device (device_of i).meter c (device_of i).operation (device_of i).bits)
  unfolding image_of with_command
  stored_command c = over (λ z. with_command z c) (device (device_of i).meter c (device_of i).operation (device_of i).bits) refl

  -- what a read may change,
  pub stored_toggles : (o : Operation) → retoggled (operation_parts (device_of i).operation) (operation_parts o) ≡ operation_parts o
      → with_toggles i o ≡ image_of (device (device_of i).meter (device_of i).command o (device_of i).bits)
  unfolding image_of with_toggles
  stored_toggles o e =
      over (λ z. with_toggles z o) (device (device_of i).meter (device_of i).command o (device_of i).bits)
      (ap (λ (x : OperationParts). sections (device_of i).meter (command_words (device_of i).command) x (device_of i).bits) e)

  -- a wait,
  pub stored_passed : (m : Meter) (o : Operation) → with_operation (with_meter i m) o ≡ image_of (device m (device_of i).command o (device_of i).bits)
  unfolding image_of with_meter with_operation with_erase with_blocks with_program
  stored_passed m o = over (λ z. with_operation (with_meter z m) o) (device m (device_of i).command o (device_of i).bits) refl

  -- a write that starts an operation, or one that protects,
  pub stored_started : (c : Command) (o : Operation) → with_operation (with_command i c) o ≡ image_of (device (device_of i).meter c o (device_of i).bits)
  unfolding image_of with_command with_operation with_erase with_blocks with_program
  stored_started c o = over (λ z. with_operation (with_command z c) o) (device (device_of i).meter c o (device_of i).bits) refl

  pub stored_protected : (c : Command) (b : Protection) → with_bits (with_command i c) b ≡ image_of (device (device_of i).meter c (device_of i).operation b)
  unfolding image_of with_command with_bits with_blocks
  stored_protected c b = over (λ z. with_bits (with_command z c) b) (device (device_of i).meter c (device_of i).operation b) refl

  -- and a cut
  pub stored_cut : (c : Command) (o : Operation) (b : Protection) → with_bits (with_operation (with_command i c) o) b ≡ image_of (device (device_of i).meter c o b)
  unfolding image_of with_command with_operation with_erase with_blocks with_program with_bits
  stored_cut c o b = over (λ z. with_bits (with_operation (with_command z c) o) b) (device (device_of i).meter c o b) refl

-- ---- over any words

pub stored : (i : List ℕ) → length i ≡ record_words → (r : Device) → with_record i r ≡ image_of r
unfolding image_of with_record with_meter with_command with_operation with_erase with_blocks with_program with_bits words_from
stored i e r =
    subst (λ (z : List ℕ). with_record z r ≡ image_of r) (section-whole i record_words e) refl
