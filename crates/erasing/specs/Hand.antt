-- The block in hand, one after the other.
use Rattle.std.specs.Prelude.{ℕ, suc, ltb, Option, Some, None, if◌then◌else◌}
use Rattle.blocks.specs.Blocks.{first_from}
use Rattle.geometry.specs.declared.Part.{Part}
use Rattle.geometry.specs.Parts.{block_count}
use Rattle.plain.specs.declared.Erase.{Erase}
use Rattle.plain.specs.Record.{erase}

-- the next listed block in hand, with its full time
abbrev pub after_hand : Erase → (full : ℕ) → Erase
after_hand e full = erase e.list (first_from e.list (suc e.hand)) full e.dq6 e.dq2

-- none, where no other block of the part is listed
abbrev pub next_hand : Part → Erase → (full : ℕ) → Option Erase
next_hand p e full = if ltb (after_hand e full).hand (block_count p) then Some (after_hand e full) else None
