-- A record's image is well-formed, and stands for that record.
use Prim.Native.Nat.{◌/◌, ◌%◌, ◌<◌}
use mathlib.Core.Path.{◌≡◌, ap₂, ◌∙◌}
use mathlib.Core.Bool.{Bool, true, false, ◌&&◌}
use native.Mathlib.Nat.{mod-eq_of_lt}
use lib.Dec.{eqb, ltb}
use borrow.Author.Tests.{lt-ltb}
use Rattle.meter.specs.declared.Meter.{Meter}
use Rattle.protection.specs.declared.Protection.{Protection}
use Rattle.protection.specs.Protection.{bits}
use Rattle.plain.specs.declared.Program.{Program}
use Rattle.plain.specs.declared.Erase.{Erase}
use Rattle.plain.specs.declared.Operation.{Operation}
use Rattle.plain.specs.declared.Command.{Command}
use Rattle.plain.specs.declared.Device.{Device}
use Rattle.std.specs.Prelude.{if◌then◌else◌}
use Rattle.plain.specs.Operations.{selected}
use Rattle.plain.specs.Programs.{writing}
use Rattle.plain.specs.Record.{device, program, erase}
use Rattle.plain.proofs.Tools.{both}
use Rattle.layout.specs.Operations.{no_erase, no_program, parts_with, operation_parts, erases, programs, operation_of}
use Rattle.layout.specs.Image.{flag, toggles, erase_section, program_section, mode, image_of, words_from, zeros, marked, erase_fits, program_fits, operation_fits, recovery_fits, entered_fits, well_formed, device_of}
use Rattle.layout.specs.Promises.{Fits, ReadsBack, ImagesStand}
use Rattle.layout.proofs.Words.{flag_is, flag-fits, toggles-low, toggles-high, toggles-fit}
use Rattle.layout.proofs.Commands.{command-told}
use Rattle.layout.proofs.Operations.{told}

-- ---- back again

erase-round : (e : Erase)
    → erase e.list e.hand e.left (eqb (toggles e.dq6 e.dq2 % 2) 1) (eqb (toggles e.dq6 e.dq2 / 2) 1) ≡ e
erase-round e = rw (toggles-low e.dq6 e.dq2, toggles-high e.dq6 e.dq2)

-- a program as its words tell it
abbrev retold : Program → (entered : Bool) → Program
retold q entered =
    program (writing (selected (mode entered) q.writes.at) q.writes.at (q.writes.word % 65536)) q.left (eqb (flag q.dq6) 1)

program-round : (q : Program) (entered : Bool) → q.writes.word < 65536 → q.writes.array ≡ selected (mode entered) q.writes.at → retold q entered ≡ q
program-round q entered h s = rw (← s, mod-eq_of_lt h, flag_is q.dq6)

device-same : (m : Meter) {c c' : Command} {o o' : Operation} {b b' : Protection} → c ≡ c' → o ≡ o' → b ≡ b' → device m c o b ≡ device m c' o' b'
device-same m p q s = rw (p, q, s)

bits-round : (b : Protection) → bits b.dyb b.ppb (eqb (flag b.lock) 1) (eqb (flag b.sealed) 1) ≡ b
bits-round b = rw (flag_is b.lock, flag_is b.sealed)

operation-round : (r : Device) → Fits r
    → let o = operation_parts r.operation in
    let entered = eqb (flag o.entered) 1 in
    operation_of (parts_with o.number (erase o.erase.list o.erase.hand o.erase.left (eqb (toggles o.erase.dq6 o.erase.dq2 % 2) 1) (eqb (toggles o.erase.dq6 o.erase.dq2 / 2) 1)) (retold o.program entered) o.recovery entered) ≡ r.operation
operation-round r h =
    let o = operation_parts r.operation in
    ap₂ (λ (e : Erase) (entered : Bool). operation_of (parts_with o.number e (retold o.program entered) o.recovery entered)) (erase-round o.erase) (flag_is o.entered)
    ∙ (told r.operation).back h.recovery (retold o.program o.entered) (λ has. program-round o.program o.entered h.word (h.array has))

pub round : ReadsBack
unfolding device_of image_of
round r h = device-same r.meter (command-told r.command).back (operation-round r h) (bits-round r.bits)

-- ---- well-formed

erase-fits : (has : Bool) (e : Erase) → e ≡ (if has then e else no_erase)
    → (if has then ltb (toggles e.dq6 e.dq2) 4 else zeros (erase_section e)) ≡ true
unfolding zeros
erase-fits true e h = toggles-fit e.dq6 e.dq2
erase-fits false e h = rw h

program-fits : (has : Bool) (q : Program) → q.writes.word < 65536 → q ≡ (if has then q else no_program)
    → (if has then ltb q.writes.word 65536 && ltb (flag q.dq6) 2 else zeros (program_section q)) ≡ true
unfolding zeros
program-fits true q w h = both _ _ (lt-ltb _ _ w) (flag-fits q.dq6)
program-fits false q w h = rw h

pub well-formed : ImagesStand
unfolding well_formed marked operation_fits recovery_fits entered_fits erase_fits program_fits image_of words_from zeros
well-formed r w =
    let o = operation_parts r.operation in
    let t = told r.operation in
    both _ _ (both _ _ (flag-fits r.bits.lock) (flag-fits r.bits.sealed))
    (both _ _ (command-told r.command).fits (both _ _ (both _ _ t.number
    (both _ _ (erase-fits (erases o.number) o.erase t.erase) (program-fits (programs o.number) o.program w.word t.program)))
    (both _ _ t.recovery t.entered)))
