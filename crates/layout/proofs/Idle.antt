-- Words of an idle device are well-formed, and say of it no more than its meter and its protection bits.
use Prim.Native.Nat.{ℕ}
use mathlib.Core.Path.{◌≡◌, refl}
use mathlib.Core.Bool.{true}
use mathlib.Core.List.{List}
use native.Mathlib.Omega.{arith}
use lib.ListN.{length}
use Rattle.meter.specs.declared.Meter.{Meter}
use Rattle.protection.specs.declared.Protection.{Protection}
use Rattle.plain.specs.declared.Operation.TheVariants.{Idle}
use Rattle.plain.specs.declared.Command.TheVariants.{Ground}
use Rattle.plain.specs.Record.{device}
use Rattle.plain.proofs.Tools.{both, both_left, both_right}
use Rattle.layout.specs.Places.{record_words, command_at, place_at, operation_at, list_at, address_at, dyb_at, recovery_at, entered_at, sealed_at}
use Rattle.layout.specs.Commands.{command_words, command_fits, command_of}
use Rattle.layout.specs.Operations.{operation_parts, operation_numbered, operation_outside, operation_of}
use Rattle.layout.specs.Image.{image_of, word, words_from, zeros, unused, marked, erase_fits, program_fits, operation_fits, recovery_fits, entered_fits, well_formed, idle_words, meter_of, bits_of, device_of}
use Rattle.layout.proofs.Words.{unused-at, unused-part, flag-fits}
use Rattle.layout.proofs.Canonical.{is-marked}

module _ (i : List ℕ) (h : idle_words i ≡ true) where
  mark : marked i ≡ true
  unfolding idle_words
  mark = both_left (marked i) _ h

  none : unused i command_at dyb_at ≡ true
  unfolding idle_words
  none = both_left (unused i command_at dyb_at) _ (both_right (marked i) _ h)

  none-added : unused i recovery_at sealed_at ≡ true
  unfolding idle_words
  none-added = both_right (unused i command_at dyb_at) _ (both_right (marked i) _ h)

  no-recovery : word i recovery_at ≡ 0
  no-recovery = unused-at i recovery_at sealed_at recovery_at none-added (omega arith) (omega arith)

  not_entered : word i entered_at ≡ 0
  not_entered = unused-at i recovery_at sealed_at entered_at none-added (omega arith) (omega arith)

  pub idle_whole : length i ≡ record_words
  idle_whole = (is-marked i mark).long

  no-command : word i command_at ≡ 0
  no-command = unused-at i command_at dyb_at command_at none (omega arith) (omega arith)

  no-operation : word i operation_at ≡ 0
  no-operation = unused-at i command_at dyb_at operation_at none (omega arith) (omega arith)

  pub idle-well : well_formed i ≡ true
  unfolding well_formed command_fits operation_fits recovery_fits entered_fits erase_fits program_fits
  idle-well =
      rw (mark, no-command, unused-at i command_at dyb_at place_at none (omega arith) (omega arith), no-operation, no-recovery, not_entered)
      (both _ _ (both _ _ (unused-part i command_at dyb_at list_at address_at none (omega arith) (omega arith) (omega arith))
      (unused-part i command_at dyb_at address_at dyb_at none (omega arith) (omega arith) (omega arith))) refl)

  pub idle-device : device_of i ≡ device (meter_of i) Ground Idle (bits_of i)
  unfolding device_of command_of operation_numbered operation_outside operation_of
  idle-device = rw (no-command, no-operation, no-recovery, not_entered)

-- and the words of every idle device are such
pub idle-image : (m : Meter) (b : Protection) → idle_words (image_of (device m Ground Idle b)) ≡ true
unfolding idle_words marked image_of words_from zeros command_words operation_parts
idle-image m b = rw (flag-fits b.lock, flag-fits b.sealed)
