-- A line with words, `cut W..`, `cell A W..` or `otp A W..`, keeps all of them, or as many as there is room for.
use Prim.Native.Nat.{ℕ, ◌≤◌}
use mathlib.Core.Path.{◌≡◌, refl, ◌∙◌}
use mathlib.Core.List.{List, [], ◌∷◌, ◌++◌, append-nil, append_assoc}
use native.Mathlib.Omega.{arith}
use borrow.Author.Tests.{le-ltb, lt-ltb}
use lib.ListN.{length, take, replicate}
use lib.Seq.{take_all}
use Rattle.std.proofs.lemmas.Grind.{common_steps}
use Rattle.std.specs.Prelude.{Option, Some, None}
use Rattle.spelling.specs.declared.Item.{Item}
use Rattle.spelling.specs.declared.Words.{Words}
use Rattle.forms.specs.declared.Form.{Form}
use Rattle.forms.specs.declared.Target.{Target}
use Rattle.forms.specs.declared.Verb.{Verb}
use Rattle.spelling.specs.Items.{words_of}
use Rattle.forms.specs.Forms.{taken_by, kept_by, numbered_by, verb_with, counted_to, stored_to, put_count, put_words}
use Rattle.script.specs.Orders.{order_of, size_of, setting, cut_of as cut_order, set_of as set_order}
use Rattle.language.specs.Language.{Meaning, malformed, cut, cell, otp, joined, words, figure, asked, cut_of, set_of, set_line}
use Rattle.language.specs.Orders.{seen}
use Rattle.conformance.proofs.ItemBytes.{item_of, item-number}
use Rattle.conformance.proofs.ItemWords.{listed, item-words}
use Rattle.conformance.proofs.Kept.{Kept, whole, more, kept_put, kept-none}
use Rattle.conformance.proofs.LineItems.{ordered, wrong-ordered}

-- a line whose words are `all`, and those of its further items
abbrev rest : (List ℕ → Meaning) → List ℕ → Option (List ℕ) → Meaning
rest end all None = malformed
rest end all (Some others) = end (all ++ others)

rest-joined : (end : List ℕ → Meaning) (all some : List ℕ) (x : Option (List ℕ)) → rest end (all ++ some) x ≡ rest end all (joined (Some some) x)
rest-joined end all some None = refl
rest-joined end all some (Some others) = rw append_assoc

-- what lines with words share
pub record Gathers (form : ℕ → Form) (end : List ℕ → Meaning) : Type 0 where
  pub refuses : (n : ℕ) (i : Item) → words_of i ≡ None → taken_by (form n) i 16384 ≡ Form.Wrong
  pub counts : (n : ℕ) (i : Item) (w : Words) → words_of i ≡ Some w → taken_by (form n) i 16384 ≡ form (put_count 16384 n w.times)
  pub stores : (n : ℕ) (i : Item) (w : Words) (kept : List ℕ) → words_of i ≡ Some w → kept_by (form n) i kept ≡ put_words kept n w.times w.word
  pub ends : (n : ℕ) (all kept : List ℕ) → Kept 16384 all n kept → seen (order_of (form n) 16384) kept ≡ end all

module _ {form : ℕ → Form} {end : List ℕ → Meaning} (g : Gathers form end) where
  gathered : (items : List (List ℕ)) (n : ℕ) (all kept : List ℕ) → Kept 16384 all n kept → ordered (form n) kept items ≡ rest end all (words items)
  unfolding ordered words
  gathered [] n all kept k = g.ends n all kept k ∙ rw append-nil
  gathered (i ∷ items) n all kept k = rw (← item-words i) (by (words_of (item_of i)) refl (λ m others stored held. gathered items m others stored held))
    where
      by : (x : Option Words) → words_of (item_of i) ≡ x
          → ((m : ℕ) (others stored : List ℕ) → Kept 16384 others m stored → ordered (form m) stored items ≡ rest end others (words items))
          → ordered (taken_by (form n) (item_of i) 16384) (kept_by (form n) (item_of i) kept) items ≡ rest end all (joined (listed x) (words items))
      by None e go = rw (g.refuses n (item_of i) e) (wrong-ordered items _)
      by (Some w) e go =
          rw (g.counts n (item_of i) w e, g.stores n (item_of i) w kept e)
          (go _ (all ++ replicate w.times w.word) _ (kept_put 16384 all kept n w.times w.word k) ∙ rest-joined end all (replicate w.times w.word) (words items))

-- ---- `cut W..`

cut-ends : (n : ℕ) (all kept : List ℕ) → Kept 16384 all n kept → seen (order_of (Form.Cuts n) 16384) kept ≡ cut (take 16384 all)
unfolding order_of cut_order
cut-ends n all kept (whole same below begins size) = rw (le-ltb 16384 n below, begins, take_all 16384 all (omega arith))
cut-ends n all kept (more over is ends size) = rw (lt-ltb 16384 n (omega arith), ends)

cut-gathers : Gathers Form.Cuts (λ all. cut (take 16384 all))
unfolding taken_by kept_by counted_to stored_to
cut-gathers = record {
  refuses = λ n i e. rw e;
  counts = λ n i w e. rw e;
  stores = λ n i w kept e. rw e;
  ends = cut-ends;
}

pub cut-ordered : (items : List (List ℕ)) (kept : List ℕ) → length kept ≡ 16384 → ordered (Form.Cuts 0) kept items ≡ cut_of (words items)
cut-ordered items kept size = gathered cut-gathers items 0 [] kept (kept-none 16384 kept size) ∙ same (words items)
  where
    same : (x : Option (List ℕ)) → rest (λ all. cut (take 16384 all)) [] x ≡ cut_of x
    same None = refl
    same (Some debris) = refl

-- ---- `cell A W..`, `otp A W..`

abbrev meant : Target → ℕ → List ℕ → Meaning
meant Target.Cells = cell
meant Target.OneTime = otp

setting-seen : (t : Target) (a n : ℕ) (kept : List ℕ) → seen (setting t a n) kept ≡ meant t a (take n kept)
setting-seen Target.Cells a n kept = refl
setting-seen Target.OneTime a n kept = refl

-- there is room for more words than can be set
size-within : (t : Target) → size_of t ≤ 16384
size-within Target.Cells = omega arith
size-within Target.OneTime = omega arith

-- a verb whose words are set there
module _ (t : Target) (verb : Verb) (named : (a : ℕ) → verb_with verb a ≡ Form.Sets t a 0) where
  set-ends : (a n : ℕ) (all kept : List ℕ) → Kept 16384 all n kept → seen (order_of (Form.Sets t a n) 16384) kept ≡ set_of (meant t) (size_of t) a (Some all)
  unfolding order_of set_order
  set-ends a n all kept (whole same below begins size) = grind (arith, common_steps, setting-seen)
  set-ends a n all kept (more over is ends size) = grind (arith, common_steps, size-within)

  set-gathers : (a : ℕ) → Gathers (Form.Sets t a) (λ all. set_of (meant t) (size_of t) a (Some all))
  unfolding taken_by kept_by counted_to stored_to
  set-gathers a = record {
    refuses = λ n i e. rw e;
    counts = λ n i w e. rw e;
    stores = λ n i w kept e. rw e;
    ends = set-ends a;
  }

  sets-ordered : (a : ℕ) (items : List (List ℕ)) (kept : List ℕ) → length kept ≡ 16384 → ordered (Form.Sets t a 0) kept items ≡ set_of (meant t) (size_of t) a (words items)
  sets-ordered a items kept size = gathered (set-gathers a) items 0 [] kept (kept-none 16384 kept size) ∙ same (words items)
    where
      same : (x : Option (List ℕ)) → rest (λ all. set_of (meant t) (size_of t) a (Some all)) [] x ≡ set_of (meant t) (size_of t) a x
      same None = refl
      same (Some set) = refl

  set_then : (v : Option ℕ) (items : List (List ℕ)) (kept : List ℕ) → length kept ≡ 16384 → ordered (numbered_by verb v) kept items ≡ asked (λ address. set_of (meant t) (size_of t) address (words items)) v
  set_then None items kept size = wrong-ordered items kept
  set_then (Some a) items kept size = rw (named a) (sets-ordered a items kept size)

  set-ordered : (items : List (List ℕ)) (kept : List ℕ) → length kept ≡ 16384 → ordered (Form.Named verb) kept items ≡ set_line (meant t) (size_of t) items
  unfolding ordered order_of taken_by kept_by
  set-ordered [] kept size = refl
  set-ordered (a ∷ items) kept size = rw (item-number a) (set_then (figure a) items kept size)

pub cell-ordered : (items : List (List ℕ)) (kept : List ℕ) → length kept ≡ 16384 → ordered (Form.Named Verb.Cell) kept items ≡ set_line cell 16384 items
unfolding verb_with
cell-ordered = set-ordered Target.Cells Verb.Cell (λ a. refl)

pub otp-ordered : (items : List (List ℕ)) (kept : List ℕ) → length kept ≡ 16384 → ordered (Form.Named Verb.Otp) kept items ≡ set_line otp 256 items
unfolding verb_with
otp-ordered = set-ordered Target.OneTime Verb.Otp (λ a. refl)
