-- The digits that `io` tells are those of the definition.
use Prim.Native.Nat.{ℕ, zero, suc, ◌-◌, ◌*◌, ◌/◌, ◌%◌, ◌^◌, ◌<◌, ◌≤◌}
use mathlib.Core.Path.{◌≡◌, refl}
use native.Mathlib.Nat.{mod-eq_of_lt, pow-suc, one-le-pow, pow-le-pow_right}
use native.Mathlib.Decide.{dec_le}
use native.Mathlib.Numerals.{unary_clauses}
use native.Mathlib.Omega.{arith}
use borrow.Author.Tests.{lt-ltb, le-ltb}
use lib.Dec.{lit<}
use Rattle.io.specs.Digits.{hex_digit_ascii, last_digits, IsDigitCount}
use Rattle.printing.specs.Text.{digit, decimal, decimal_within}

-- each of the ten
glyph-digit : (d : ℕ) → d < 10 → hex_digit_ascii d ≡ digit d
unfolding digit
glyph-digit zero h = refl
glyph-digit (suc zero) h = refl
glyph-digit (suc (suc zero)) h = refl
glyph-digit (suc (suc (suc zero))) h = refl
glyph-digit (suc (suc (suc (suc zero)))) h = refl
glyph-digit (suc (suc (suc (suc (suc zero))))) h = refl
glyph-digit (suc (suc (suc (suc (suc (suc zero)))))) h = refl
glyph-digit (suc (suc (suc (suc (suc (suc (suc zero))))))) h = refl
glyph-digit (suc (suc (suc (suc (suc (suc (suc (suc zero)))))))) h = refl
glyph-digit (suc (suc (suc (suc (suc (suc (suc (suc (suc zero))))))))) h = refl
glyph-digit (suc (suc (suc (suc (suc (suc (suc (suc (suc (suc d)))))))))) h = absurd (omega arith)

digits-within : (places k n : ℕ) → k ≤ places → IsDigitCount 10 1 n k → last_digits 10 k n ≡ decimal_within places n
unfolding decimal_within
digits-within zero k n room f = absurd (omega arith)
digits-within (suc places) zero n room f = absurd (omega arith)
digits-within (suc places) (suc zero) n room f =
    let small : n < 10 = omega (arith, f.1) in
    rw (lt-ltb n 10 small, glyph-digit (n % 10) (omega arith), mod-eq_of_lt small)
digits-within (suc places) (suc (suc k)) n room f =
    let low : 10 ^ k * 10 ≤ n = simp unary_clauses at (f.2 (omega arith)) in
    let large : 10 ≤ n = omega (arith, one-le-pow k 10 (omega arith)) in
    rw (le-ltb n 10 large, glyph-digit (n % 10) (omega arith), digits-within places (suc k) (n / 10) (omega arith) (omega arith, omega (arith, f.1, pow-suc 10 (suc k)), λ h. simp unary_clauses (omega arith)))

pub at-most-20 : (n k : ℕ) → n < 2 ^ 64 → IsDigitCount 10 1 n k → k ≤ 20
at-most-20 n k small f = by (dec_le k 20)
  where
    by : Dec (k ≤ 20) → k ≤ 20
    by (yes h) = h
    by (no h) = absurd (omega (arith, f.2 (omega arith), pow-le-pow_right {n = 10} (lit< tt) {i = 20} {j = k - 1} (omega arith)))

pub digits_decimal : (n k : ℕ) → n < 2 ^ 64 → IsDigitCount 10 1 n k → last_digits 10 k n ≡ decimal n
digits_decimal n k small f = digits-within 20 k n (at-most-20 n k small f) f
