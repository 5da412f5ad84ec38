-- The words with a part of the record stored anew.
use Rattle.std.specs.Prelude.{ℕ, ◌+◌, List, set}
use Rattle.blocks.specs.declared.Blocks.{Blocks}
use Rattle.meter.specs.declared.Meter.{Meter}
use Rattle.protection.specs.declared.Protection.{Protection}
use Rattle.plain.specs.declared.Program.{Program}
use Rattle.plain.specs.declared.Erase.{Erase}
use Rattle.plain.specs.declared.Operation.{Operation}
use Rattle.plain.specs.declared.Command.{Command}
use Rattle.plain.specs.declared.Device.{Device}
use Rattle.layout.specs.declared.CommandWords.{CommandWords}
use Rattle.layout.specs.declared.OperationParts.{OperationParts}
use Rattle.layout.specs.Places.{layout_number, layout_at, clock_at, charge_at, command_at, place_at, operation_at, list_at, hand_at, erase_left_at, toggles_at, address_at, data_at, program_left_at, toggle_at, dyb_at, ppb_at, lock_at, recovery_at, entered_at, sealed_at}
use Rattle.layout.specs.Commands.{command_words}
use Rattle.layout.specs.Operations.{operation_parts}
use Rattle.layout.specs.Image.{flag, toggles}

unfoldable pub with_meter : List ℕ → Meter → List ℕ
with_meter i m = set (set i clock_at m.clock) charge_at m.charge

abbrev pub with_command_words : List ℕ → CommandWords → List ℕ
with_command_words i c = set (set i command_at c.number) place_at c.place

unfoldable pub with_command : List ℕ → Command → List ℕ
with_command i c = with_command_words i (command_words c)

unfoldable pub with_blocks : List ℕ → (from : ℕ) → Blocks → List ℕ
with_blocks i n s = set (set (set (set (set i n s.w0) (n + 1) s.w1) (n + 2) s.w2) (n + 3) s.w3) (n + 4) s.w4

unfoldable pub with_erase : List ℕ → Erase → List ℕ
with_erase i e =
    set (set (set (with_blocks i list_at e.list) hand_at e.hand) erase_left_at e.left) toggles_at (toggles e.dq6 e.dq2)

unfoldable pub with_program : List ℕ → Program → List ℕ
with_program i q =
    set (set (set (set i address_at q.writes.at) data_at q.writes.word) program_left_at q.left) toggle_at (flag q.dq6)

abbrev pub with_parts : List ℕ → OperationParts → List ℕ
with_parts i o =
    set (set (set (with_program (with_erase i o.erase) o.program) operation_at o.number) recovery_at o.recovery) entered_at (flag o.entered)

unfoldable pub with_operation : List ℕ → Operation → List ℕ
with_operation i o = with_parts i (operation_parts o)

-- the toggles of what runs or is suspended, and nothing else
abbrev pub with_toggles_of : List ℕ → OperationParts → List ℕ
with_toggles_of i o = set (set i toggles_at (toggles o.erase.dq6 o.erase.dq2)) toggle_at (flag o.program.dq6)

unfoldable pub with_toggles : List ℕ → Operation → List ℕ
with_toggles i o = with_toggles_of i (operation_parts o)

unfoldable pub with_bits : List ℕ → Protection → List ℕ
with_bits i b =
    set (set (with_blocks (with_blocks i dyb_at b.dyb) ppb_at b.ppb) lock_at (flag b.lock)) sealed_at (flag b.sealed)

-- all of them
unfoldable pub with_record : List ℕ → Device → List ℕ
with_record i r =
    set (with_bits (with_operation (with_command (with_meter i r.meter) r.command) r.operation) r.bits) layout_at layout_number
