-- A line fed item by item asks for what its items mean.
use Prim.Native.Nat.{ℕ, ◌-◌, ◌^◌}
use mathlib.Core.Path.{◌≡◌, refl, ◌∙◌}
use mathlib.Core.List.{List, [], ◌∷◌}
use native.Mathlib.Omega.{arith}
use Rattle.std.proofs.lemmas.Grind.{common_steps}
use Rattle.std.specs.Prelude.{Option, Some, None}
use Rattle.forms.specs.declared.Verb.{Verb}
use Rattle.forms.specs.declared.Form.{Form}
use Rattle.forms.specs.Forms.{taken_by, kept_by, numbered_by, verb_with, written_by, ranged_by}
use Rattle.script.specs.Orders.{order_of}
use Rattle.language.specs.Language.{Meaning, nothing, malformed, read, write, wait, range, figure, word, any_number, at_most, asked, one_figure, two_numbers, fresh_line}
use Rattle.language.specs.Orders.{seen}
use Rattle.conformance.proofs.ItemBytes.{item_of, item-number}

-- what the reader makes of the further items of a line
unfoldable pub ordered : Form → (kept : List ℕ) (items : List (List ℕ)) → Meaning
ordered f kept [] = seen (order_of f 16384) kept
ordered f kept (i ∷ items) = ordered (taken_by f (item_of i) 16384) (kept_by f (item_of i) kept) items

pub wrong-ordered : (items : List (List ℕ)) (kept : List ℕ) → ordered Form.Wrong kept items ≡ malformed
unfolding ordered order_of taken_by kept_by
wrong-ordered [] kept = refl
wrong-ordered (i ∷ items) kept = wrong-ordered items kept

pub remark-ordered : (items : List (List ℕ)) (kept : List ℕ) → ordered Form.Remark kept items ≡ nothing
unfolding ordered order_of taken_by kept_by
remark-ordered [] kept = refl
remark-ordered (i ∷ items) kept = remark-ordered items kept

pub fresh-ordered : (items : List (List ℕ)) (kept : List ℕ) → ordered Form.Freshens kept items ≡ fresh_line items
unfolding ordered order_of taken_by kept_by
fresh-ordered [] kept = refl
fresh-ordered (i ∷ items) kept = wrong-ordered items kept

-- ---- `read A`, `wait D`

abbrev alone : (ℕ → Meaning) → Option ℕ → (items : List (List ℕ)) → Meaning
alone meaning v [] = asked meaning v
alone meaning v (i ∷ items) = malformed

module _ (verb : Verb) (meaning : ℕ → Meaning)
    (ends : (n : ℕ) (kept : List ℕ) → ordered (verb_with verb n) kept [] ≡ meaning n)
    (over : (n : ℕ) (i : List ℕ) (items : List (List ℕ)) (kept : List ℕ) → ordered (verb_with verb n) kept (i ∷ items) ≡ malformed) where
  figure-then : (v : Option ℕ) (items : List (List ℕ)) (kept : List ℕ) → ordered (numbered_by verb v) kept items ≡ alone meaning v items
  figure-then None [] kept = wrong-ordered [] kept
  figure-then (Some n) [] kept = ends n kept
  figure-then None (i ∷ items) kept = wrong-ordered (i ∷ items) kept
  figure-then (Some n) (i ∷ items) kept = over n i items kept

  figure-ordered : (items : List (List ℕ)) (kept : List ℕ) → ordered (Form.Named verb) kept items ≡ one_figure meaning items
  unfolding ordered order_of taken_by kept_by
  figure-ordered [] kept = refl
  figure-ordered (a ∷ []) kept = rw (item-number a) (figure-then (figure a) [] kept)
  figure-ordered (a ∷ b ∷ items) kept = rw (item-number a) (figure-then (figure a) (b ∷ items) kept)

pub read-ordered : (items : List (List ℕ)) (kept : List ℕ) → ordered (Form.Named Verb.Read) kept items ≡ one_figure read items
unfolding ordered order_of taken_by kept_by verb_with
read-ordered = figure-ordered Verb.Read read (λ n kept. refl) (λ n i items kept. wrong-ordered items kept)

pub wait-ordered : (items : List (List ℕ)) (kept : List ℕ) → ordered (Form.Named Verb.Wait) kept items ≡ one_figure wait items
unfolding ordered order_of taken_by kept_by verb_with
wait-ordered = figure-ordered Verb.Wait wait (λ n kept. refl) (λ n i items kept. wrong-ordered items kept)

-- ---- `write A W`, `range A N`

never : (v : Option ℕ) → asked (λ n. malformed) v ≡ malformed
never None = refl
never (Some n) = refl

-- the items behind the address
abbrev second : (ℕ → ℕ → Meaning) → (List ℕ → Option ℕ) → (items : List (List ℕ)) (address : ℕ) → Meaning
second meaning value [] address = malformed
second meaning value (b ∷ []) address = asked (meaning address) (value b)
second meaning value (b ∷ x ∷ items) address = malformed

module _ (verb : Verb) (meaning : ℕ → ℕ → Meaning) (value : List ℕ → Option ℕ)
    (behind : (n : ℕ) (items : List (List ℕ)) (kept : List ℕ) → ordered (verb_with verb n) kept items ≡ second meaning value items n) where
  address-then : (v : Option ℕ) (items : List (List ℕ)) (kept : List ℕ) → ordered (numbered_by verb v) kept items ≡ asked (second meaning value items) v
  address-then None items kept = wrong-ordered items kept
  address-then (Some n) items kept = behind n items kept

  two-ordered : (items : List (List ℕ)) (kept : List ℕ) → ordered (Form.Named verb) kept items ≡ two_numbers meaning value items
  unfolding ordered order_of taken_by kept_by
  two-ordered [] kept = refl
  two-ordered (a ∷ []) kept = rw (item-number a) (address-then (figure a) [] kept ∙ never (figure a))
  two-ordered (a ∷ b ∷ []) kept = rw (item-number a) (address-then (figure a) (b ∷ []) kept)
  two-ordered (a ∷ b ∷ x ∷ items) kept = rw (item-number a) (address-then (figure a) (b ∷ x ∷ items) kept ∙ never (figure a))

written-alone : (n : ℕ) (v : Option ℕ) (kept : List ℕ) → ordered (written_by n (at_most (2 ^ 64 - 1) v)) kept [] ≡ asked (write n) (at_most 0xffff v)
unfolding ordered order_of
written-alone n None kept = refl
written-alone n (Some k) kept = grind (arith, common_steps)

written-more : (n : ℕ) (v : Option ℕ) (i : List ℕ) (items : List (List ℕ)) (kept : List ℕ) → ordered (written_by n v) kept (i ∷ items) ≡ malformed
unfolding ordered taken_by kept_by
written-more n None i items kept = wrong-ordered items kept
written-more n (Some k) i items kept = grind (arith, common_steps, wrong-ordered)

word-ordered : (n : ℕ) (items : List (List ℕ)) (kept : List ℕ) → ordered (verb_with Verb.Write n) kept items ≡ second write word items n
unfolding ordered order_of taken_by kept_by verb_with
word-ordered n [] kept = refl
word-ordered n (w ∷ []) kept = rw (item-number w) (written-alone n (any_number w) kept)
word-ordered n (w ∷ x ∷ items) kept = rw (item-number w) (written-more n (figure w) x items kept)

pub write-ordered : (items : List (List ℕ)) (kept : List ℕ) → ordered (Form.Named Verb.Write) kept items ≡ two_numbers write word items
write-ordered = two-ordered Verb.Write write word word-ordered

ranged-then : (n : ℕ) (v : Option ℕ) (items : List (List ℕ)) (kept : List ℕ) → ordered (ranged_by n v) kept items ≡ alone (range n) v items
unfolding ordered order_of taken_by kept_by
ranged-then n None [] kept = refl
ranged-then n (Some k) [] kept = refl
ranged-then n None (i ∷ items) kept = wrong-ordered items kept
ranged-then n (Some k) (i ∷ items) kept = wrong-ordered items kept

count-ordered : (n : ℕ) (items : List (List ℕ)) (kept : List ℕ) → ordered (verb_with Verb.Range n) kept items ≡ second range figure items n
unfolding ordered order_of taken_by kept_by verb_with
count-ordered n [] kept = refl
count-ordered n (k ∷ []) kept = rw (item-number k) (ranged-then n (figure k) [] kept)
count-ordered n (k ∷ x ∷ items) kept = rw (item-number k) (ranged-then n (figure k) (x ∷ items) kept)

pub range-ordered : (items : List (List ℕ)) (kept : List ℕ) → ordered (Form.Named Verb.Range) kept items ≡ two_numbers range figure items
range-ordered = two-ordered Verb.Range range figure count-ordered
