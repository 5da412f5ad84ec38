-- The words from a place on, one by one, and after each turn of the loop that copies them.
use Prim.Native.Nat.{ℕ, zero, suc, ◌+◌, ◌<◌}
use mathlib.Core.Path.{◌≡◌, refl, ap, ◌∙◌}
use mathlib.Core.List.{List}
use native.Mathlib.Nat.{add-zero, add-suc, suc-add}
use native.Mathlib.Omega.{arith}
use lib.ListN.{length, get_or}
use Rattle.layout.specs.Image.{word, words_from}

module _ (i : List ℕ) where
  pub words_long : (from n : ℕ) → length (words_from i from n) ≡ n
  unfolding words_from
  words_long from zero = refl
  words_long from (suc n) = ap suc (words_long (suc from) n)

  pub words-at : (from n k : ℕ) → k < n → get_or (words_from i from n) k 0 ≡ word i (from + k)
  unfolding words_from
  words-at from zero k h = absurd (omega arith)
  words-at from (suc n) zero h = rw add-zero
  words-at from (suc n) (suc k) h = words-at (suc from) n k (omega arith) ∙ rw (suc-add from k, add-suc from k)
