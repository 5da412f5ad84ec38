-- The letters that an item keeps tell the words of the language from all others, and its first byte is kept.
use Prim.Native.Nat.{ℕ, ◌+◌, ◌*◌, ◌<◌, ◌≤◌}
use mathlib.Core.Bool.{true, false}
use mathlib.Core.Path.{◌≡◌, refl, sym, ◌∙◌}
use mathlib.Core.List.{List, [], ◌∷◌, ◌++◌, append-nil}
use native.Mathlib.Omega.{arith}
use borrow.Author.Tests.{eq-eqb, ne_eqb, eqb-true}
use lib.Dec.{eqb}
use Rattle.std.proofs.lemmas.Grind.{common_steps}
use Rattle.spelling.specs.declared.Item.{Item}
use Rattle.spelling.specs.Items.{no_item, next_item, spelt_on, remarks_on}
use Rattle.language.specs.Language.{Bytes, same, is_remark}
use Rattle.conformance.proofs.ItemBytes.{item_over, item_of}

unfoldable pub letters_over : (letters : ℕ) (bytes : List ℕ) → ℕ
letters_over l [] = l
letters_over l (b ∷ bytes) = letters_over (spelt_on l b) bytes

next-letters : (i : Item) (b : ℕ) → (next_item i b).letters ≡ spelt_on i.letters b
unfolding next_item
next-letters i b = grind (arith, common_steps)

next-remark : (i : Item) (b : ℕ) → (next_item i b).remark ≡ remarks_on i.letters i.remark b
unfolding next_item
next-remark i b = grind (arith, common_steps)

over-letters : (bytes : List ℕ) (i : Item) → (item_over i bytes).letters ≡ letters_over i.letters bytes
unfolding item_over letters_over
over-letters [] i = refl
over-letters (b ∷ bytes) i = over-letters bytes (next_item i b) ∙ rw (next-letters i b)

pub item-letters : (bytes : List ℕ) → (item_of bytes).letters ≡ letters_over 1 bytes
item-letters bytes = over-letters bytes no_item

-- ---- an item with a byte is told from none, and has its first byte's mark

grown-letters : (l b : ℕ) → 1 ≤ l → 256 ≤ spelt_on l b
unfolding spelt_on
grown-letters l b h = grind (arith, common_steps)

grown-over : (bytes : List ℕ) (l : ℕ) → 256 ≤ l → 256 ≤ letters_over l bytes
unfolding letters_over
grown-over [] l h = h
grown-over (b ∷ bytes) l h = grown-over bytes (spelt_on l b) (grown-letters l b (omega arith))

pub some-letters : (b : ℕ) (bytes : List ℕ) → eqb (item_of (b ∷ bytes)).letters 1 ≡ false
unfolding letters_over
some-letters b bytes =
    let big : 256 ≤ letters_over 1 (b ∷ bytes) = grown-over bytes (spelt_on 1 b) (grown-letters 1 b (omega arith)) in
    rw (item-letters (b ∷ bytes)) (ne_eqb (letters_over 1 (b ∷ bytes)) 1 (λ e. omega arith))

over-remark : (bytes : List ℕ) (i : Item) → 256 ≤ i.letters → (item_over i bytes).remark ≡ i.remark
unfolding item_over remarks_on
over-remark [] i h = refl
over-remark (b ∷ bytes) i h =
    over-remark bytes (next_item i b) (rw (next-letters i b) (grown-letters i.letters b (omega arith)))
    ∙ (next-remark i b ∙ rw (ne_eqb i.letters 1 (λ e. omega arith)))

pub item-remark : (b : ℕ) (bytes : List ℕ) → (item_of (b ∷ bytes)).remark ≡ is_remark (b ∷ bytes)
unfolding item_over remarks_on
item-remark b bytes =
    over-remark bytes (next_item no_item b) (rw (next-letters no_item b) (grown-letters 1 b (omega arith))) ∙ next-remark no_item b

-- ---- the letters from the last to the first: with the same letters, the same bytes

backward : (bytes : List ℕ) → ℕ
backward [] = 1
backward (b ∷ bytes) = spelt_on (backward bytes) b

onto : (bytes behind : List ℕ) → List ℕ
onto [] behind = behind
onto (b ∷ bytes) behind = onto bytes (b ∷ behind)

over-backward : (bytes behind : List ℕ) → letters_over (backward behind) bytes ≡ backward (onto bytes behind)
unfolding letters_over onto backward
over-backward [] behind = refl
over-backward (b ∷ bytes) behind = over-backward bytes (b ∷ behind)

onto-twice : (bytes behind more : List ℕ) → onto (onto bytes behind) more ≡ onto behind (bytes ++ more)
unfolding onto
onto-twice [] behind more = refl
onto-twice (b ∷ bytes) behind more = onto-twice bytes (b ∷ behind) more

onto-bytes : (bytes behind : List ℕ) → Bytes bytes → Bytes behind → Bytes (onto bytes behind)
unfolding onto
onto-bytes [] behind p q = q
onto-bytes (b ∷ bytes) behind p q = onto-bytes bytes (b ∷ behind) p.1 (p.0, q)

backward-some : (bytes : List ℕ) → 1 ≤ backward bytes
unfolding backward
backward-some [] = omega arith
backward-some (b ∷ bytes) = omega (arith, grown-letters (backward bytes) b (backward-some bytes))

-- below 2^48 nothing is left out
plainly : (l b : ℕ) → spelt_on l b < 0x1000000000000 → spelt_on l b ≡ l * 256 + b
unfolding spelt_on
plainly l b h = grind (arith, common_steps)

backward-same : (xs ys : List ℕ) → Bytes xs → Bytes ys → backward ys < 0x1000000000000 → backward xs ≡ backward ys → xs ≡ ys
unfolding backward
backward-same [] [] p q h e = refl
backward-same [] (y ∷ ys) p q h e = absurd (omega (arith, e, grown-letters (backward ys) y (backward-some ys)))
backward-same (x ∷ xs) [] p q h e = absurd (omega (arith, e, grown-letters (backward xs) x (backward-some xs)))
backward-same (x ∷ xs) (y ∷ ys) p q h e =
    let a = plainly (backward xs) x (rw e h) in
    let b = plainly (backward ys) y h in
    let first : x ≡ y = omega (arith, p.0, q.0, a, b, e) in
    let rest : backward xs ≡ backward ys = omega (arith, p.0, q.0, a, b, e) in
    rw (first, backward-same xs ys p.1 q.1 (omega (arith, b)) rest)

letters-same : (bytes letters : List ℕ) → Bytes bytes → Bytes letters → letters_over 1 letters < 0x1000000000000 → letters_over 1 bytes ≡ letters_over 1 letters → bytes ≡ letters
unfolding backward onto
letters-same bytes letters p q h e =
    let turned = backward-same (onto bytes []) (onto letters []) (onto-bytes bytes [] p tt) (onto-bytes letters [] q tt)
    (rw (over-backward letters []) at h) (sym (over-backward bytes []) ∙ (e ∙ over-backward letters [])) in
    let again : onto (onto bytes []) [] ≡ onto (onto letters []) [] = rw turned in
    let left : onto (onto bytes []) [] ≡ bytes = onto-twice bytes [] [] ∙ append-nil bytes in
    let right : onto (onto letters []) [] ≡ letters = onto-twice letters [] [] ∙ append-nil letters in
    sym left ∙ (again ∙ right)

same_true : (bytes letters : List ℕ) → same bytes letters ≡ true → bytes ≡ letters
unfolding same
same_true [] [] e = refl
same_true [] (l ∷ letters) e = grind (arith, common_steps)
same_true (b ∷ bytes) [] e = grind (arith, common_steps)
same_true (b ∷ bytes) (l ∷ letters) e = grind (arith, common_steps, eqb-true, same_true bytes letters)

-- the number of a word's letters is a byte string's exactly where the two are the same
pub letters-tell : (letters : List ℕ) → Bytes letters → letters_over 1 letters < 0x1000000000000 → same letters letters ≡ true
    → (bytes : List ℕ) → Bytes bytes → eqb (letters_over 1 bytes) (letters_over 1 letters) ≡ same bytes letters
letters-tell letters q h self bytes p = grind (arith, common_steps, same_true bytes letters, letters-same bytes letters p q h, eq-eqb, ne_eqb)
