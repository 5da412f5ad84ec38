-- An item fed byte by byte is the number and the words that its bytes are.
use native.Mathlib.Omega.{arith}
use Prim.Native.Nat.{ℕ}
use mathlib.Core.Bool.{Bool, true, false}
use mathlib.Core.Path.{◌≡◌, refl, ◌∙◌, ap}
use mathlib.Core.List.{List, [], ◌∷◌, ◌++◌}
use borrow.Author.Tests.{eqb-true}
use lib.Dec.{eqb}
use Rattle.std.proofs.lemmas.Grind.{common_steps}
use Rattle.spelling.specs.declared.numbers.Number.{Number}
use Rattle.std.specs.Prelude.{Option, Some, None}
use Rattle.spelling.specs.declared.Item.{Item}
use Rattle.spelling.specs.declared.Times.{Times}
use Rattle.spelling.specs.Numbers.{grown_to, decimal_on, hexadecimal_on, next_number, value_of}
use Rattle.spelling.specs.Items.{item, no_item, next_item, spelt_on, remarks_on, starred_by, counted_by, unrepeated, number_of}
use Rattle.language.specs.Language.{digit_of, figure}
use Rattle.conformance.proofs.NumberBytes.{number_over, wrong-over, number-over}

-- the item with all these bytes more
unfoldable pub item_over : Item → (bytes : List ℕ) → Item
item_over i [] = i
item_over i (b ∷ bytes) = item_over (next_item i b) bytes

pub item-snoc : (i : Item) (bytes : List ℕ) (b : ℕ) → item_over i (bytes ++ (b ∷ [])) ≡ next_item (item_over i bytes) b
unfolding item_over
item-snoc i [] b = refl
item-snoc i (a ∷ bytes) b = item-snoc (next_item i a) bytes b

abbrev pub item_of : (bytes : List ℕ) → Item
item_of bytes = item_over no_item bytes

-- a `*` is no byte of a number
star-wrong : (n : Number) → next_number n 42 ≡ Number.Wrong
unfolding next_number decimal_on hexadecimal_on grown_to digit_of
star-wrong Number.Nothing = refl
star-wrong Number.Zero = refl
star-wrong (Number.Decimal v) = refl
star-wrong Number.Prefix = refl
star-wrong (Number.Hexadecimal v) = refl
star-wrong Number.Wrong = refl

pub star-over : (n : Number) (bytes : List ℕ) → value_of (number_over (next_number n 42) bytes) ≡ None
star-over n bytes = rw (star-wrong n, wrong-over bytes)

-- one byte of an item: a `*`, or another
module _ (bytes : List ℕ) (l : ℕ) (r : Bool) (t : Times) (n : Number) (b : ℕ) where
  pub over-star : eqb b 42 ≡ true → item_over (item l r t n) (b ∷ bytes) ≡ item_over (item (spelt_on l b) (remarks_on l r b) (starred_by t (value_of n)) Number.Nothing) bytes
  unfolding item_over next_item
  over-star e = rw (eqb-true b 42 e)

  pub over-byte : eqb b 42 ≡ false → item_over (item l r t n) (b ∷ bytes) ≡ item_over (item (spelt_on l b) (remarks_on l r b) t (next_number n b)) bytes
  unfolding item_over next_item
  over-byte e = ap (λ (i : Item). item_over i bytes) (rw e)

-- ---- as a number

abbrev Numbers : Times → Number → List ℕ → Option ℕ → Type 0
Numbers t n bytes v = (l : ℕ) (r : Bool) → number_of (item_over (item l r t n) bytes) ≡ v

wrong-number : (bytes : List ℕ) (n : Number) → Numbers Times.Wrong n bytes None
unfolding item_over unrepeated starred_by
wrong-number [] n l r = refl
wrong-number (b ∷ bytes) n l r = grind (arith, common_steps, over-star, over-byte, wrong-number bytes)

of_number : (bytes : List ℕ) (n : Number) (k : ℕ) → Numbers (Times.Of k) n bytes None
unfolding item_over unrepeated starred_by
of_number [] n k l r = refl
of_number (b ∷ bytes) n k l r = grind (arith, common_steps, over-star, over-byte, wrong-number bytes, of_number bytes)

counted-number : (bytes : List ℕ) (n : Number) (v : Option ℕ) → Numbers (counted_by v) n bytes None
unfolding counted_by
counted-number bytes n None l r = wrong-number bytes n l r
counted-number bytes n (Some k) l r = grind (arith, common_steps, wrong-number, of_number)

once-number : (bytes : List ℕ) (n : Number) → Numbers Times.Once n bytes (value_of (number_over n bytes))
unfolding item_over unrepeated starred_by number_over
once-number [] n l r = refl
once-number (b ∷ bytes) n l r = grind (arith, common_steps, over-star, over-byte, eqb-true, star-over, counted-number bytes, once-number bytes)

pub item-number : (bytes : List ℕ) → number_of (item_of bytes) ≡ figure bytes
item-number bytes = once-number bytes Number.Nothing 1 false ∙ number-over bytes
