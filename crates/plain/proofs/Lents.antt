-- The two arrays that are lent: what changing the one leaves of the other.
use Prim.Native.Nat.{ℕ}
use mathlib.Core.Path.{◌≡◌, refl}
use mathlib.Core.Bool.{true, ◌&&◌}
use mathlib.Core.List.{List}
use lib.Dec.{eqb}
use lib.ListN.{length, get_or}
use borrow.Author.Tests.{eqb-true, eq-eqb}
use Rattle.geometry.specs.declared.Part.{Part}
use Rattle.geometry.specs.Parts.{word_count}
use Rattle.plain.specs.declared.Array.{Array}
use Rattle.plain.specs.declared.Array.TheVariants.{Main, OneTime}
use Rattle.std.specs.Prelude.{if◌then◌else◌}
use Rattle.plain.specs.Lent.{Lent, otp_words, array_of, with_array, word_at, is_whole, Whole}
use Rattle.plain.specs.Programs.{same}
use Rattle.plain.proofs.Tools.{both, both_left, both_right, clash}

pub same_true : (y z : Array) → same y z ≡ true → y ≡ z
same_true Main Main e = refl
same_true Main OneTime e = clash e refl
same_true OneTime Main e = clash e refl
same_true OneTime OneTime e = refl

pub same_refl : (y : Array) → same y y ≡ true
same_refl Main = refl
same_refl OneTime = refl

-- ---- an array with other words in it

pub word-with : (y z : Array) (l : Lent) (words : List ℕ) (x : ℕ) → word_at (with_array z l words) y x ≡ (if same y z then get_or words x 0 else word_at l y x)
word-with Main Main l words x = refl
word-with Main OneTime l words x = refl
word-with OneTime Main l words x = refl
word-with OneTime OneTime l words x = refl

pub length-with : (z : Array) (l : Lent) (words : List ℕ) → length words ≡ length (array_of z l) → (y : Array) → length (array_of y (with_array z l words)) ≡ length (array_of y l)
length-with Main l words e Main = e
length-with Main l words e OneTime = refl
length-with OneTime l words e Main = refl
length-with OneTime l words e OneTime = e

-- ---- both lengths

pub whole-both : (p : Part) (l : Lent) → length l.cells ≡ word_count p → length l.otp ≡ otp_words → Whole p l
whole-both p l e f Main = e
whole-both p l e f OneTime = f

pub whole-true : (p : Part) (l : Lent) → is_whole p l ≡ true → Whole p l
whole-true p l e =
    let c = eqb (length l.cells) (word_count p) in
    whole-both p l (eqb-true _ _ (both_left c _ e)) (eqb-true _ _ (both_right c _ e))

pub true-whole : (p : Part) (l : Lent) → Whole p l → is_whole p l ≡ true
true-whole p l w = both _ _ (eq-eqb _ _ (w Main)) (eq-eqb _ _ (w OneTime))
