-- What a program in C is told of an address, by plain numbers (document 01, "The die and its small twin").
use Rattle.std.specs.Prelude.{ℕ, cond, ltb}
use Rattle.geometry.specs.declared.Part.{Part}
use Rattle.geometry.specs.Parts.{word_count, block_of, bank_of}

-- "3 ADDRESS: the address is not below the word count"; 0 is DONE
unfoldable pub refusal_asked : Part → ℕ → ℕ
refusal_asked p a = cond (ltb a (word_count p)) 0 3

-- "with ADDRESS both numbers are 0"
unfoldable pub block_asked : Part → ℕ → ℕ
block_asked p a = cond (ltb a (word_count p)) (block_of p a) 0

unfoldable pub bank_asked : Part → ℕ → ℕ
bank_asked p a = cond (ltb a (word_count p)) (bank_of p a) 0
