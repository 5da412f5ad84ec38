-- The rules that every part keeps: its blocks fill it, one after the other, and each lies in one bank.
use Rattle.std.specs.Prelude.{ℕ, suc, ◌+◌, ◌<◌, ◌≤◌, ◌≡◌}
use Rattle.geometry.specs.declared.Part.{Part}
use Rattle.geometry.specs.Parts.{block_count, word_count, block_of, bank_of, first_of, size_of, bank_of_block}

pub record Laid (p : Part) : Type 0 where
  -- an address lies in one of the blocks, between its first and its last word
  pub in_block : (a : ℕ) → a < word_count p → block_of p a < block_count p
  pub from_first : (a : ℕ) → a < word_count p → first_of p (block_of p a) ≤ a
  pub to_last : (a : ℕ) → a < word_count p → a < first_of p (block_of p a) + size_of p (block_of p a)
  -- and in no other
  pub no_other : (a b : ℕ) → first_of p b ≤ a → a < first_of p b + size_of p b → block_of p a ≡ b
  -- the blocks fill the part without gap or overlap
  pub begins : first_of p 0 ≡ 0
  pub goes_on : (b : ℕ) → b < block_count p → first_of p b + size_of p b ≡ first_of p (suc b)
  pub ends : first_of p (block_count p) ≡ word_count p
  pub some_words : (b : ℕ) → b < block_count p → 0 < size_of p b
  -- a block lies in one bank
  pub one-bank : (a : ℕ) → bank_of p a ≡ bank_of_block p (block_of p a)
