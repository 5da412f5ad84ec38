-- Bytes put into a buffer.
use Rattle.std.specs.Prelude.{ℕ, ◌+◌, ◌≡◌, List, ◌++◌, length, take}

-- a buffer that was filled up to `at` is filled up to `end`: what was there is followed by the bytes
pub record Put (before : List ℕ) (at : ℕ) (after : List ℕ) (end : ℕ) (bytes : List ℕ) : Type 0 where
  pub counts : end ≡ at + length bytes
  pub filled : take end after ≡ take at before ++ bytes
