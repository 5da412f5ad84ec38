-- Every part keeps the rules: what holds in units holds in words, for a unit of any size above 0.
use Prim.Native.Nat.{ℕ, suc, ◌+◌, ◌*◌, ◌/◌, ◌<◌, ◌≤◌}
use mathlib.Core.Path.{◌≡◌, sym, ap, ◌∙◌}
use mathlib.Core.Bool.{cond}
use native.Mathlib.Nat.{div-lt_iff_lt-mul, le-div_iff_mul-le, mul_comm, mul-add, mul-zero, mul-pos, mul-le-mul_left}
use native.Mathlib.Omega.{arith}
use lib.Dec.{lit<, lit≤, ltb}
use Rattle.geometry.specs.declared.Part.{Part}
use Rattle.geometry.specs.declared.Part.TheVariants.{Small, Full}
use Rattle.geometry.specs.Parts.{unit_of, size_in, first_in, block_in, block_of, bank_in, bank_of, bank_of_block, first_of, size_of, block_count, word_count}
use Rattle.geometry.specs.Rules.{Laid}
use Rattle.geometry.proofs.Counts.{blocks-are, bank-is}
use Rattle.geometry.proofs.Units.{within, no_other, goes_on, some-units, same_test, bank-in, end-le}

module _ (u : ℕ) (positive : 0 < u) where
  unit-below : (a m : ℕ) → a < u * m → a / u < m
  unit-below a m h = (div-lt_iff_lt-mul positive).1 (rw (mul_comm u m) at h)

  below-unit : (a m : ℕ) → a / u < m → a < u * m
  below-unit a m h = rw (mul_comm u m) ((div-lt_iff_lt-mul positive).0 h)

  unit-from : (a m : ℕ) → u * m ≤ a → m ≤ a / u
  unit-from a m h = (le-div_iff_mul-le positive).1 (rw (mul_comm u m) at h)

  from-unit : (a m : ℕ) → m ≤ a / u → u * m ≤ a
  from-unit a m h = rw (mul_comm u m) ((le-div_iff_mul-le positive).0 h)

  pub to-last-at : (a b : ℕ) → a / u < first_in b + size_in b → a < u * first_in b + u * size_in b
  to-last-at a b h = rw (← mul-add u (first_in b) (size_in b)) (below-unit a (first_in b + size_in b) h)

  pub no-other-at : (a b : ℕ) → u * first_in b ≤ a → a < u * first_in b + u * size_in b → block_in (a / u) ≡ b
  no-other-at a b h g =
      no_other (a / u) b (unit-from a (first_in b) h) (unit-below a (first_in b + size_in b) (rw (← mul-add u (first_in b) (size_in b)) at g))

  pub goes-on-at : (b : ℕ) → b < 270 → u * first_in b + u * size_in b ≡ u * first_in (suc b)
  goes-on-at b h = sym (mul-add u (first_in b) (size_in b)) ∙ ap (λ (n : ℕ). u * n) (goes_on b h)

  pub some-words-at : (b : ℕ) → b < 270 → 0 < u * size_in b
  some-words-at b h = mul-pos positive (some-units b h)

  same-mark : (a m : ℕ) → ltb a (u * m) ≡ ltb (a / u) m
  same-mark a m = same_test a (u * m) (a / u) m (unit-below a m) (unit-from a m)

  pub bank-at : (a : ℕ) → cond (ltb a (u * 256)) 0 (cond (ltb a (u * 1024)) 1 (cond (ltb a (u * 1792)) 2 3)) ≡ bank_in (block_in (a / u))
  bank-at a = rw (same-mark a 256, same-mark a 1024, same-mark a 1792) (bank-in (a / u))

unit-positive : (p : Part) → 0 < unit_of p
unfolding unit_of
unit-positive Small = lit< tt
unit-positive Full = lit< tt

pub laid : (p : Part) → Laid p
unfolding bank_of first_in
laid p =
    let u = unit_of p in
    let more = unit-positive p in
    record {
      in_block = λ a h. rw (blocks-are p) (within (a / u) (unit-below u more a 2048 h)).below;
      from_first = λ a h. from-unit u more a (first_in (block_in (a / u))) (within (a / u) (unit-below u more a 2048 h)).from_first;
      to_last = λ a h. to-last-at u more a (block_in (a / u)) (within (a / u) (unit-below u more a 2048 h)).to_last;
      no_other = no-other-at u more;
      begins = mul-zero u;
      goes_on = λ b h. goes-on-at u more b (rw (blocks-are p) at h);
      ends = rw (blocks-are p);
      some_words = λ b h. some-words-at u more b (rw (blocks-are p) at h);
      one-bank = λ a. bank-at u more a ∙ sym (bank-is p (block_in (a / u)));
    }

-- every block lies within the part; what is asked of a number that is no block's, too
pub block-fits : (p : Part) (b : ℕ) → first_of p b + size_of p b ≤ word_count p
block-fits p b = rw (← mul-add (unit_of p) (first_in b) (size_in b)) (mul-le-mul_left (unit_of p) (end-le b))

-- a part has at most 8,388,608 words
pub words-le : (p : Part) → word_count p ≤ 8388608
unfolding unit_of
words-le Small = lit≤ tt
words-le Full = lit≤ tt

-- the first word of a block lies in the part, in that block and in its bank
module _ (p : Part) (b : ℕ) (below : b < block_count p) where
  pub first_below : first_of p b < word_count p
  first_below = omega (arith, block-fits p b, (laid p).some_words b below)

  pub first_block : block_of p (first_of p b) ≡ b
  first_block = (laid p).no_other (first_of p b) b (omega arith) (omega (arith, (laid p).some_words b below))

  pub first-bank : bank_of p (first_of p b) ≡ bank_of_block p b
  first-bank = (laid p).one-bank (first_of p b) ∙ ap (bank_of_block p) first_block
