-- What a program does to the lent words, word by word: the laws that callers use.
use Prim.Native.Nat.{ℕ, ◌<◌}
use mathlib.Core.Path.{◌≡◌, refl, sym, ap, ◌∙◌}
use mathlib.Core.Bool.{Bool, true, false, cond, ◌&&◌}
use mathlib.Core.List.{List}
use native.Mathlib.Omega.{arith}
use lib.Bits.{bit_and, bit_or}
use lib.Dec.{eqb}
use lib.ListN.{length, get_or}
use borrow.Author.Tests.{eqb-true, eq-eqb, ltb-true}
use Rattle.cells.specs.Cells.{programmed, cut_short}
use Rattle.cells.proofs.Bits.{raises-none, leaves-raises}
use Rattle.cells.proofs.Laws.{length-programmed, programmed-at, length-cut_short, cut_short-at}
use Rattle.geometry.specs.declared.Part.{Part}
use Rattle.geometry.specs.Parts.{word_count, block_of}
use Rattle.plain.specs.declared.Array.{Array}
use Rattle.plain.specs.declared.Array.TheVariants.{Main}
use Rattle.plain.specs.declared.Suspension.TheVariants.{Unsuspended}
use Rattle.plain.specs.declared.Written.{Written}
use Rattle.std.specs.Prelude.{if◌then◌else◌}
use Rattle.plain.specs.Lent.{Lent, array_of, with_array, words_of, word_at, Whole}
use Rattle.plain.specs.Programs.{same, writes, datum, first_word, array_written, lies_in, block_written, raises, finished, debris_for, cut_off}
use Rattle.plain.specs.Sound.{array_sound}
use Rattle.plain.proofs.Tools.{both, both_left, both_right, clash}
use Rattle.plain.proofs.Lents.{same_true, same_refl, word-with, length-with}

as-choice : (b : Bool) (x y : ℕ) → cond b x y ≡ (if b then x else y)
as-choice true x y = refl
as-choice false x y = refl

-- an array with one word of it changed, word by word: `new` tells the word from the one that was there
one-changed : (y z : Array) (l : Lent) (words : List ℕ) (at x : ℕ) (new : ℕ → ℕ) → get_or words x 0 ≡ (if eqb x at then new (word_at l z x) else word_at l z x)
    → word_at (with_array z l words) y x ≡ (if same y z && eqb x at then new (word_at l y x) else word_at l y x)
one-changed y z l words at x new e = word-with y z l words x ∙ go (same y z) refl
  where
    go : (t : Bool) → same y z ≡ t → (if t then get_or words x 0 else word_at l y x) ≡ (if t && eqb x at then new (word_at l y x) else word_at l y x)
    go true s = rw (same_true y z s) e
    go false s = refl

module _ (p : Part) (d : Written) where
  -- ---- where it writes

  same-array : (y : Array) (x : ℕ) → writes d y x ≡ true → y ≡ d.array
  unfolding writes
  same-array y x e = same_true y d.array (both_left (same y d.array) _ e)

  same_word : (y : Array) (x : ℕ) → writes d y x ≡ true → x ≡ d.at
  unfolding writes
  same_word y x e = eqb-true x d.at (both_right (same y d.array) _ e)

  pub written-inside : (y : Array) (x : ℕ) → lies_in p d ≡ true → writes d y x ≡ true → x < words_of p y
  unfolding lies_in
  written-inside y x h e = rw (same-array y x e) (omega (arith, ltb-true d.at (words_of p d.array) h, same_word y x e))

  pub written-in-block : (y : Array) (x : ℕ) → writes d y x ≡ true → block_of p x ≡ block_written p d
  unfolding block_written
  written-in-block y x e = ap (block_of p) (same_word y x e)

  pub first-written : writes d (array_written d) (first_word d) ≡ true
  unfolding writes array_written first_word
  first-written = both _ _ (same_refl d.array) (eq-eqb d.at d.at refl)

  -- it is one word
  pub one_written : (y z : Array) (x u : ℕ) → writes d y x ≡ true → writes d z u ≡ true → (y ≡ z) × (x ≡ u)
  one_written y z x u e f = (same-array y x e ∙ sym (same-array z u f), same_word y x e ∙ sym (same_word z u f))

  pub first-inside : lies_in p d ≡ true → first_word d < words_of p (array_written d)
  first-inside h = written-inside (array_written d) (first_word d) h first-written

  -- outside the one-time block it is of the main array
  pub main-written : array_sound Unsuspended d ≡ true → array_written d ≡ Main
  main-written e = same_true (array_written d) Main e

  -- ---- what it leaves

  -- data that asks for no 1 where the word has a 0 stays as it is
  pub modest-leaves : (l : Lent) → raises d l ≡ false → (y : Array) (x : ℕ) → writes d y x ≡ true → bit_and (word_at l y x) (datum d x) ≡ datum d x
  unfolding raises datum
  modest-leaves l h y x e = rw (same-array y x e, same_word y x e) (raises-none (word_at l d.array d.at) d.word h)

  -- and other data does not
  pub others-spoil : (l : Lent) → raises d l ≡ true
      → ((x : ℕ) → writes d (array_written d) x ≡ true → bit_and (word_at l (array_written d) x) (datum d x) ≡ datum d x) → ⊥
  unfolding raises datum array_written first_word
  others-spoil l h f = clash h (leaves-raises (word_at l d.array d.at) d.word (f d.at first-written))

  module _ (l : Lent) (whole : Whole p l) (lies : lies_in p d ≡ true) where
    inside : d.at < length (array_of d.array l)
    unfolding lies_in
    inside = omega (arith, whole d.array, ltb-true d.at (words_of p d.array) lies)

    pub finished-at : (y : Array) (x : ℕ) → word_at (finished d l) y x ≡ (if writes d y x then bit_and (word_at l y x) (datum d x) else word_at l y x)
    unfolding finished writes datum
    finished-at y x =
        one-changed y d.array l _ d.at x (λ old. bit_and old d.word)
        (programmed-at (array_of d.array l) d.at d.word inside x ∙ as-choice (eqb x d.at) _ _)

    pub cut_at : (debris : List ℕ) (y : Array) (x : ℕ)
        → word_at (cut_off d debris l) y x ≡ (if writes d y x then bit_and (word_at l y x) (bit_or (datum d x) (debris_for d debris x)) else word_at l y x)
    unfolding cut_off writes datum debris_for
    cut_at debris y x =
        one-changed y d.array l _ d.at x (λ old. bit_and old (bit_or d.word (get_or debris 0 0)))
        (cut_short-at (array_of d.array l) d.at d.word _ inside x ∙ as-choice (eqb x d.at) _ _)

-- as many words as before
pub length-finished : (d : Written) (l : Lent) (y : Array) → length (array_of y (finished d l)) ≡ length (array_of y l)
unfolding finished
length-finished d l = length-with d.array l _ (length-programmed (array_of d.array l) d.at d.word)

pub length-cut-off : (d : Written) (debris : List ℕ) (l : Lent) (y : Array) → length (array_of y (cut_off d debris l)) ≡ length (array_of y l)
unfolding cut_off
length-cut-off d debris l = length-with d.array l _ (length-cut_short (array_of d.array l) d.at d.word _)
