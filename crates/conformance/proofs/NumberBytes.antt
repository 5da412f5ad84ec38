-- A number fed byte by byte has the value that its bytes have.
use Prim.Native.Nat.{ℕ, ◌+◌, ◌*◌, ◌-◌, ◌^◌, ◌<◌, ◌≤◌}
use mathlib.Core.Path.{◌≡◌, refl}
use mathlib.Core.List.{List, [], ◌∷◌, ◌++◌}
use native.Mathlib.Omega.{arith}
use borrow.Author.Tests.{eqb-true}
use Rattle.std.proofs.lemmas.Grind.{common_steps}
use Rattle.spelling.specs.declared.numbers.Number.{Number}
use Rattle.std.specs.Prelude.{Some, None}
use Rattle.spelling.specs.Numbers.{grown_to, decimal_on, hexadecimal_on, next_number, value_of, number_as}
use Rattle.language.specs.Language.{digit_of, digits, some_digits, any_number, at_most, number, figure}

-- the number with all these bytes more
unfoldable pub number_over : Number → (bytes : List ℕ) → Number
number_over n [] = n
number_over n (b ∷ bytes) = number_over (next_number n b) bytes

pub number-snoc : (n : Number) (bytes : List ℕ) (b : ℕ) → number_over n (bytes ++ (b ∷ [])) ≡ next_number (number_over n bytes) b
unfolding number_over
number-snoc n [] b = refl
number-snoc n (a ∷ bytes) b = number-snoc (next_number n a) bytes b

pub wrong-over : (bytes : List ℕ) → number_over Number.Wrong bytes ≡ Number.Wrong
unfolding number_over next_number
wrong-over [] = refl
wrong-over (b ∷ bytes) = wrong-over bytes

-- in a base: once a value has passed 2^64 it stays so
module _ (base : ℕ) (grows : (v d : ℕ) → v ≤ v * base + d) where
  past : (bytes : List ℕ) (v : ℕ) → 2 ^ 64 ≤ v → at_most (2 ^ 64 - 1) (digits base bytes v) ≡ None
  unfolding digits
  past [] v h = grind (arith, common_steps)
  past (b ∷ bytes) v h = grind (arith, common_steps, grows, past bytes)

  module _ (kind : ℕ → Number)
      (on : (v b : ℕ) → next_number (kind v) b ≡ number_as kind (grown_to v base (digit_of b)))
      (value : (v : ℕ) → value_of (kind v) ≡ Some v) where
    digits-over : (bytes : List ℕ) (v : ℕ) → v < 2 ^ 64 → value_of (number_over (kind v) bytes) ≡ at_most (2 ^ 64 - 1) (digits base bytes v)
    unfolding number_over digits grown_to
    digits-over [] v h = grind (arith, common_steps, value v)
    digits-over (b ∷ bytes) v h = grind (arith, common_steps, on, wrong-over, past bytes, digits-over bytes)

decimal-over : (bytes : List ℕ) → value_of (number_over (Number.Decimal 0) bytes) ≡ at_most (2 ^ 64 - 1) (digits 10 bytes 0)
unfolding next_number decimal_on
decimal-over bytes =
    digits-over 10 (λ v d. omega arith) Number.Decimal (λ v b. refl) (λ v. refl) bytes 0 (omega arith)

hexadecimal-over : (bytes : List ℕ) → value_of (number_over (Number.Hexadecimal 0) bytes) ≡ at_most (2 ^ 64 - 1) (digits 16 bytes 0)
unfolding next_number hexadecimal_on
hexadecimal-over bytes =
    digits-over 16 (λ v d. omega arith) Number.Hexadecimal (λ v b. refl) (λ v. refl) bytes 0 (omega arith)

prefix-over : (bytes : List ℕ) → value_of (number_over Number.Prefix bytes) ≡ at_most (2 ^ 64 - 1) (some_digits 16 bytes)
unfolding number_over next_number
prefix-over [] = refl
prefix-over (b ∷ bytes) = hexadecimal-over (b ∷ bytes)

-- after a single 0
zero-over : (c : ℕ) (bytes : List ℕ) → value_of (number_over Number.Zero (c ∷ bytes)) ≡ number (2 ^ 64 - 1) (48 ∷ c ∷ bytes)
unfolding number_over next_number any_number digits digit_of
zero-over c bytes = grind (arith, common_steps, prefix-over bytes, decimal-over (c ∷ bytes))

pub number-over : (bytes : List ℕ) → value_of (number_over Number.Nothing bytes) ≡ figure bytes
unfolding number_over next_number any_number digits digit_of
number-over [] = refl
number-over (b ∷ []) = grind (arith, common_steps, decimal-over (b ∷ []), eqb-true b 48)
number-over (b ∷ c ∷ bytes) = grind (arith, common_steps, zero-over c bytes, decimal-over (b ∷ c ∷ bytes), eqb-true b 48)
