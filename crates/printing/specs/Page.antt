-- What is put on a page.
use Rattle.std.specs.Prelude.{ℕ, ◌+◌, ◌≡◌, ◌≤◌, List, length}
use Rattle.printing.specs.declared.Page.{Page}
use Rattle.printing.specs.Put.{Put}

-- so many bytes more fit
abbrev pub HasRoom : Page → (count : ℕ) → Type 0
HasRoom p count = p.end + count ≤ length p.buffer.now

-- on the same buffer the bytes, no more than so many, are put behind those that were there
pub record Adds (before after : Page) (bytes : List ℕ) (most : ℕ) : Type 0 where
  pub same_buffer : after.buffer.ghost_name ≡ before.buffer.ghost_name
  pub same_length : length after.buffer.now ≡ length before.buffer.now
  pub put : Put before.buffer.now before.end after.buffer.now after.end bytes
  pub upper_bound : after.end ≤ before.end + most
