-- Bytes put one after the other.
use Prim.Native.Nat.{ℕ, ◌+◌, ◌≤◌}
use mathlib.Core.Path.{◌∙◌}
use mathlib.Core.List.{List, ◌++◌, append_assoc}
use native.Mathlib.Omega.{arith}
use lib.ListN.{length-append}
use Rattle.printing.specs.declared.Page.{Page}
use Rattle.printing.specs.Page.{Adds}

pub adds_then : {before between after : Page} {bytes more : List ℕ} {most rest all : ℕ} → Adds before between bytes most → Adds between after more rest → most + rest ≤ all
    → Adds before after (bytes ++ more) all
adds_then {bytes = bytes} {more = more} p q within =
    record {
      same_buffer = q.same_buffer ∙ p.same_buffer;
      same_length = q.same_length ∙ p.same_length;
      put = record { counts = rw (length-append bytes more) (omega arith); filled = rw (q.put.filled, p.put.filled, append_assoc) };
      upper_bound = omega arith;
    }

-- no more than so many are no more than more
pub adds_within : {before after : Page} {bytes : List ℕ} {most all : ℕ} → Adds before after bytes most → most ≤ all → Adds before after bytes all
adds_within p within =
    record { same_buffer = p.same_buffer; same_length = p.same_length; put = p.put; upper_bound = omega arith }
