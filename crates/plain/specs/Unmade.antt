-- What an operation that ends in a block then protected would be (Ends): worked instances, of records that no event makes.
use Rattle.std.specs.Prelude.{ℕ, ◌≡◌, Bool, true, false, List, [], ◌∷◌, map, replicate}
use Rattle.blocks.specs.Blocks.{empty_of, with_of}
use Rattle.geometry.specs.declared.Part.TheVariants.{Small}
use Rattle.protection.specs.Protection.{fresh_bits, ppb_set}
use Rattle.plain.specs.declared.Array.TheVariants.{Main}
use Rattle.plain.specs.declared.Program.{Program}
use Rattle.plain.specs.declared.Erase.{Erase}
use Rattle.plain.specs.declared.Inside.TheVariants.{Runs}
use Rattle.plain.specs.declared.Operation.{Operation}
use Rattle.plain.specs.declared.Operation.TheVariants.{Programming, Erasing, EraseSuspended, ChipErasing}
use Rattle.plain.specs.declared.Command.TheVariants.{Ground}
use Rattle.plain.specs.declared.Device.{Device}
use Rattle.plain.specs.Ends.{ends_in_wait}
use Rattle.plain.specs.Lent.{Lent}
use Rattle.plain.specs.Programs.{writing}
use Rattle.plain.specs.Record.{device, program, erase, suspended}

-- block 8 (of the small part words 64 to 127) has its PPB set, and something ends there in two microseconds
abbrev ends_soon : Operation → Device
ends_soon o = device (record { clock = 0; charge = 0 }) Ground o (ppb_set fresh_bits 8)

abbrev unmade : List Device
unmade =
    let q : Program = program (writing Main 100 0x1234) 2 false in
    let e : Erase = erase (with_of empty_of 8) 8 2 false false in
    map ends_soon (Programming q ∷ Erasing e ∷ EraseSuspended (suspended e (Runs q)) ∷ ChipErasing e ∷ [])

-- is it met in a wait of n, of each?
abbrev met_in : Lent → (microseconds : ℕ) → List Bool
met_in l n = map (λ (r : Device). ends_in_wait Small r l n) unmade

-- in the second microsecond, and not before
abbrev pub Met : Type 0
Met = (l : Lent) → (met_in l 1 ≡ replicate 4 false) × (met_in l 2 ≡ replicate 4 true)
