-- A line fed byte by byte asks for what its bytes mean.
use Prim.Native.Nat.{ℕ, ◌<◌}
use mathlib.Core.Bool.{false}
use mathlib.Core.Path.{◌≡◌, refl, ◌∙◌}
use mathlib.Core.List.{List, [], ◌∷◌, ◌++◌}
use native.Mathlib.Omega.{arith}
use borrow.Author.Tests.{eqb-true}
use lib.Dec.{eqb}
use lib.ListN.{length}
use Rattle.std.proofs.lemmas.Grind.{common_steps}
use Rattle.std.specs.Prelude.{Option, Some, None}
use Rattle.spelling.specs.declared.Item.{Item}
use Rattle.spelling.specs.declared.Words.{Words}
use Rattle.forms.specs.declared.Form.{Form}
use Rattle.script.specs.declared.Line.{Line}
use Rattle.std.specs.Prelude.{if◌then◌else◌}
use Rattle.spelling.specs.Items.{no_item, next_item, words_of}
use Rattle.forms.specs.Forms.{taken_form, taken_words, kept_by, stored_to, put_words}
use Rattle.script.specs.Orders.{order_of}
use Rattle.script.specs.Lines.{line, fed_line, fed_words, ended_order, ended_words, separates_items}
use Rattle.language.specs.Language.{Bytes, Meaning, without_cr, before, items_from, meaning}
use Rattle.language.specs.Orders.{Within, seen}
use Rattle.script.proofs.Within.{order_within}
use Rattle.conformance.specs.Reading.{read_from, read_line}
use Rattle.conformance.proofs.ItemBytes.{item_over, item_of, item-snoc}
use Rattle.conformance.proofs.Letters.{some-letters}
use Rattle.conformance.proofs.LineItems.{ordered}
use Rattle.conformance.proofs.LineVerbs.{Begins, line-ordered}

-- ---- no byte changes how many words are lent

put-size : (kept : List ℕ) (n t w : ℕ) → length (put_words kept n t w) ≡ length kept
unfolding put_words
put-size kept n t w = grind (arith, common_steps)

stored-size : (kept : List ℕ) (n : ℕ) (x : Option Words) → length (stored_to kept n x) ≡ length kept
unfolding stored_to
stored-size kept n None = refl
stored-size kept n (Some w) = put-size kept n w.times w.word

kept-size : (f : Form) (i : Item) (kept : List ℕ) → length (kept_by f i kept) ≡ length kept
unfolding kept_by
kept-size Form.Empty i kept = refl
kept-size Form.Remark i kept = refl
kept-size (Form.Named verb) i kept = refl
kept-size (Form.Reads a) i kept = refl
kept-size (Form.Addresses a) i kept = refl
kept-size (Form.Writes a w) i kept = refl
kept-size (Form.Waits d) i kept = refl
kept-size (Form.Cuts n) i kept = stored-size kept n (words_of i)
kept-size (Form.Starts a) i kept = refl
kept-size (Form.Ranges a n) i kept = refl
kept-size (Form.Sets t a n) i kept = stored-size kept n (words_of i)
kept-size Form.Freshens i kept = refl
kept-size Form.Wrong i kept = refl

taken-size : (f : Form) (i : Item) (kept : List ℕ) → length (taken_words f i kept) ≡ length kept
unfolding taken_words
taken-size f i kept = grind (arith, common_steps, kept-size)

-- ---- a line without a CR at its end

unfoldable read_all : Form → Item → (kept bytes : List ℕ) → Meaning
read_all f i kept [] = seen (order_of (taken_form f i 16384) 16384) (taken_words f i kept)
read_all f i kept (b ∷ bytes) =
    if separates_items b then read_all (taken_form f i 16384) no_item (taken_words f i kept) bytes else read_all f (next_item i b) kept bytes

-- the item that has begun, and the further ones
item-taken : (f : Form) (begun : List ℕ) (kept : List ℕ) (items : List (List ℕ))
    → ordered (taken_form f (item_of begun) 16384) (taken_words f (item_of begun) kept) items ≡ ordered f kept (before begun items)
unfolding ordered taken_form taken_words item_over
item-taken f [] kept items = refl
item-taken f (b ∷ bytes) kept items = rw (some-letters b bytes)

read-items : (bytes : List ℕ) (f : Form) (begun : List ℕ) (kept : List ℕ) → read_all f (item_of begun) kept bytes ≡ ordered f kept (items_from begun bytes)
unfolding read_all ordered items_from item_over
read-items [] f begun kept = item-taken f begun kept []
read-items (b ∷ bytes) f begun kept = grind (arith, common_steps, item-snoc no_item begun b, item-taken f begun kept (items_from [] bytes), read-items bytes)

-- ---- the first item of bytes is bytes

more_bytes : (begun : List ℕ) (b : ℕ) → Bytes begun → b < 256 → Bytes (begun ++ (b ∷ []))
more_bytes [] b p h = (h, tt)
more_bytes (a ∷ begun) b p h = (p.0, more_bytes begun b p.1 h)

before-begins : (begun : List ℕ) (items : List (List ℕ)) → Bytes begun → Begins items → Begins (before begun items)
before-begins [] items p q = q
before-begins (b ∷ bytes) items p q = p

begins : (bytes begun : List ℕ) → Bytes bytes → Bytes begun → Begins (items_from begun bytes)
unfolding items_from
begins [] begun p q = before-begins begun [] q tt
begins (b ∷ bytes) begun p q = grind (arith, common_steps, before-begins, begins bytes, more_bytes)

without-bytes : (bytes : List ℕ) → Bytes bytes → Bytes (without_cr bytes)
unfolding without_cr
without-bytes [] p = tt
without-bytes (b ∷ []) p = grind (arith, common_steps)
without-bytes (b ∷ c ∷ bytes) p = (p.0, without-bytes (c ∷ bytes) p.1)

-- ---- a CR is held back

abbrev Reads : List ℕ → List ℕ → Type 0
Reads bytes plain = (f : Form) (i : Item) (kept : List ℕ) → length kept ≡ 16384 → read_from (line f i false) kept bytes ≡ read_all f i kept plain

-- any other byte goes through
other_byte : (b : ℕ) (bytes plain : List ℕ) → eqb b 13 ≡ false → Reads bytes plain → Reads (b ∷ bytes) (b ∷ plain)
unfolding read_from read_all fed_line fed_words
other_byte b bytes plain other go f i kept size = grind (arith, common_steps, go, taken-size)

without-cr : (bytes : List ℕ) → Reads bytes (without_cr bytes)
unfolding read_from read_all fed_line fed_words ended_order ended_words without_cr
without-cr [] f i kept size = rw size
without-cr (b ∷ []) f i kept size = grind (arith, common_steps, (λ (e : eqb b 13 ≡ false). other_byte b [] [] e (without-cr []) f i kept size))
without-cr (b ∷ c ∷ bytes) f i kept size = grind (arith, common_steps, eqb-true b 13, without-cr (c ∷ bytes) f (next_item i 13) kept size, (λ (e : eqb b 13 ≡ false). other_byte b (c ∷ bytes) (without_cr (c ∷ bytes)) e (without-cr (c ∷ bytes)) f i kept size))

-- ---- the whole: what the reader gives for a line's bytes is what they mean

pub reads-meaning : (words bytes : List ℕ) → length words ≡ 16384 → Bytes bytes → read_line words bytes ≡ meaning bytes
unfolding item_over
reads-meaning words bytes size p =
    let plain = without_cr bytes in
    without-cr bytes Form.Empty no_item words size
    ∙ (read-items plain Form.Empty [] words
    ∙ line-ordered (items_from [] plain) words size (begins plain [] (without-bytes bytes p) tt))

-- a byte, or the end of a line, leaves as many words lent
pub fed-size : (l : Line) (b : ℕ) (words : List ℕ) → length (fed_words l b words) ≡ length words
unfolding fed_words
fed-size l b words = grind (arith, common_steps, taken-size)

pub ended-size : (l : Line) (words : List ℕ) → length (ended_words l words) ≡ length words
unfolding ended_words
ended-size l words = taken-size l.form l.item words

-- and the order of a line that ends asks for no more than there is
pub ended-within : (l : Line) (room : ℕ) → Within (ended_order l room) room
unfolding ended_order
ended-within l room = order_within _ room
