-- An item fed byte by byte stands for the words that its bytes stand for.
use Prim.Native.Nat.{ℕ, ◌-◌, ◌^◌}
use mathlib.Core.Bool.{Bool, true, false}
use mathlib.Core.Path.{◌≡◌, refl, ◌∙◌}
use mathlib.Core.List.{List, [], ◌∷◌, ◌++◌}
use native.Mathlib.Omega.{arith}
use borrow.Author.Tests.{eqb-true}
use lib.Dec.{leb}
use lib.ListN.{replicate}
use Rattle.std.proofs.lemmas.Grind.{common_steps}
use Rattle.spelling.specs.declared.numbers.Number.{Number}
use Rattle.std.specs.Prelude.{Option, Some, None}
use Rattle.spelling.specs.declared.Times.{Times}
use Rattle.spelling.specs.declared.Words.{Words}
use Rattle.spelling.specs.Numbers.{value_of}
use Rattle.spelling.specs.Items.{item, starred_by, counted_by, words_of, as_words, repeated_by, words_by}
use Rattle.language.specs.Language.{any_number, at_most, word, times, words_from}
use Rattle.conformance.proofs.NumberBytes.{number_over, number-snoc, number-over}
use Rattle.conformance.proofs.ItemBytes.{item_over, item_of, over-star, over-byte, star-over}

abbrev pub listed : Option Words → Option (List ℕ)
listed None = None
listed (Some w) = Some (replicate w.times w.word)

abbrev listed_by : Times → Option ℕ → Option (List ℕ)
listed_by t v = listed (as_words t v)

-- a value within 2^64 - 1 is as much at most a lower limit as without
at-most-less : (top : ℕ) (v : Option ℕ) → leb top (2 ^ 64 - 1) ≡ true → at_most top (at_most (2 ^ 64 - 1) v) ≡ at_most top v
at-most-less top None h = refl
at-most-less top (Some n) h = grind (arith, common_steps)

word_value : (bytes : List ℕ) → at_most 0xffff (value_of (number_over Number.Nothing bytes)) ≡ word bytes
word_value bytes = rw (number-over bytes) (at-most-less 0xffff (any_number bytes) refl)

-- ---- what a value and a multiplier stand for

of-listed : (n : ℕ) (v : Option ℕ) → listed_by (Times.Of n) v ≡ times (Some n) (at_most 0xffff v)
unfolding as_words repeated_by words_by
of-listed n None = refl
of-listed n (Some w) = grind (arith, common_steps)

once-listed : (v : Option ℕ) → listed_by Times.Once v ≡ times (Some 1) (at_most 0xffff v)
unfolding as_words repeated_by words_by
once-listed None = refl
once-listed (Some w) = grind (arith, common_steps)

wrong-listed : (v : Option ℕ) → listed_by Times.Wrong v ≡ None
unfolding as_words repeated_by words_by
wrong-listed None = refl
wrong-listed (Some w) = grind (arith, common_steps)

-- ---- after the `*`, and before it

abbrev Lists : Times → Number → List ℕ → Option (List ℕ) → Type 0
Lists t n bytes x = (l : ℕ) (r : Bool) → listed (words_of (item_over (item l r t n) bytes)) ≡ x

wrong-words : (bytes : List ℕ) (n : Number) → Lists Times.Wrong n bytes None
unfolding item_over starred_by
wrong-words [] n l r = wrong-listed (value_of n)
wrong-words (b ∷ bytes) n l r = grind (arith, common_steps, over-star, over-byte, wrong-words bytes)

of_words : (bytes : List ℕ) (n : Number) (k : ℕ) → Lists (Times.Of k) n bytes (times (Some k) (at_most 0xffff (value_of (number_over n bytes))))
unfolding item_over number_over starred_by
of_words [] n k l r = of-listed k (value_of n)
of_words (b ∷ bytes) n k l r = grind (arith, common_steps, over-star, over-byte, eqb-true, star-over, wrong-words bytes, of_words bytes)

counted_words : (bytes : List ℕ) (v : Option ℕ) → Lists (counted_by (at_most (2 ^ 64 - 1) v)) Number.Nothing bytes (times (at_most 16384 v) (word bytes))
unfolding counted_by
counted_words bytes None l r = wrong-words bytes _ l r
counted_words bytes (Some n) l r = grind (arith, common_steps, word_value, wrong-words bytes, of_words bytes)

once-words : (passed bytes : List ℕ) → Lists Times.Once (number_over Number.Nothing passed) bytes (words_from passed bytes)
unfolding item_over starred_by words_from
once-words passed [] l r = once-listed (value_of (number_over Number.Nothing passed)) ∙ rw (word_value passed)
once-words passed (b ∷ bytes) l r = grind (arith, common_steps, over-star, over-byte, number-over passed, number-snoc Number.Nothing passed b, counted_words bytes, once-words (passed ++ (b ∷ [])) bytes)

pub item-words : (bytes : List ℕ) → listed (words_of (item_of bytes)) ≡ words_from [] bytes
unfolding number_over
item-words bytes = once-words [] bytes 1 false
