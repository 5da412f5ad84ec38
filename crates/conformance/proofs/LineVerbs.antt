-- A line asks for what its verb and the items behind it mean.
use Prim.Native.Nat.{ℕ}
use mathlib.Core.Bool.{Bool, true, false}
use mathlib.Core.Path.{◌≡◌, refl}
use mathlib.Core.List.{List, [], ◌∷◌}
use lib.Dec.{eqb, lit<}
use lib.ListN.{length}
use Rattle.forms.specs.declared.Verb.{Verb}
use Rattle.forms.specs.declared.Form.{Form}
use Rattle.std.specs.Prelude.{if◌then◌else◌}
use Rattle.spelling.specs.Items.{spelt_on}
use Rattle.forms.specs.Forms.{taken_by, kept_by, named_by}
use Rattle.script.specs.Orders.{order_of}
use Rattle.language.specs.Language.{Bytes, nothing, malformed, read, write, wait, range, cell, otp, figure, word, words, one_figure, two_numbers, cut_of, set_line, fresh_line, same, is_remark, read_word, write_word, wait_word, cut_word, range_word, cell_word, otp_word, fresh_word, means}
use Rattle.conformance.proofs.Letters.{letters_over, item-letters, item-remark, letters-tell}
use Rattle.conformance.proofs.LineItems.{ordered, wrong-ordered, remark-ordered, read-ordered, wait-ordered, write-ordered, range-ordered, fresh-ordered}
use Rattle.conformance.proofs.LineWords.{cut-ordered, cell-ordered, otp-ordered}

-- the table of lines, by what its tests say
module _ (items : List (List ℕ)) (kept : List ℕ) (size : length kept ≡ 16384) where
  by-verb : (remark reads writes waits cuts ranges cells otps freshens : Bool) →
      ordered
      (if remark then Form.Remark
      else if reads then Form.Named Verb.Read
      else if writes then Form.Named Verb.Write
      else if waits then Form.Named Verb.Wait
      else if cuts then Form.Cuts 0
      else if ranges then Form.Named Verb.Range
      else if cells then Form.Named Verb.Cell
      else if otps then Form.Named Verb.Otp
      else if freshens then Form.Freshens
      else Form.Wrong)
      kept items
      ≡ (if remark then nothing
      else if reads then one_figure read items
      else if writes then two_numbers write word items
      else if waits then one_figure wait items
      else if cuts then cut_of (words items)
      else if ranges then two_numbers range figure items
      else if cells then set_line cell 16384 items
      else if otps then set_line otp 256 items
      else if freshens then fresh_line items
      else malformed)
  by-verb true a b c d e f g h = remark-ordered items kept
  by-verb false true b c d e f g h = read-ordered items kept
  by-verb false false true c d e f g h = write-ordered items kept
  by-verb false false false true d e f g h = wait-ordered items kept
  by-verb false false false false true e f g h = cut-ordered items kept size
  by-verb false false false false false true f g h = range-ordered items kept
  by-verb false false false false false false true g h = cell-ordered items kept size
  by-verb false false false false false false false true h = otp-ordered items kept size
  by-verb false false false false false false false false true = fresh-ordered items kept
  by-verb false false false false false false false false false = wrong-ordered items kept

-- a word of the language by its letters
module _ (verb : List ℕ) (bytes : Bytes verb) where
  is_read : eqb (letters_over 1 verb) 0x172656164 ≡ same verb read_word
  unfolding letters_over spelt_on same
  is_read = letters-tell read_word (lit< tt, (lit< tt, (lit< tt, (lit< tt, tt)))) (lit< tt) refl verb bytes

  is-write : eqb (letters_over 1 verb) 0x17772697465 ≡ same verb write_word
  unfolding letters_over spelt_on same
  is-write = letters-tell write_word (lit< tt, (lit< tt, (lit< tt, (lit< tt, (lit< tt, tt))))) (lit< tt) refl verb bytes

  is-wait : eqb (letters_over 1 verb) 0x177616974 ≡ same verb wait_word
  unfolding letters_over spelt_on same
  is-wait = letters-tell wait_word (lit< tt, (lit< tt, (lit< tt, (lit< tt, tt)))) (lit< tt) refl verb bytes

  is_cut : eqb (letters_over 1 verb) 0x1637574 ≡ same verb cut_word
  unfolding letters_over spelt_on same
  is_cut = letters-tell cut_word (lit< tt, (lit< tt, (lit< tt, tt))) (lit< tt) refl verb bytes

  is-range : eqb (letters_over 1 verb) 0x172616e6765 ≡ same verb range_word
  unfolding letters_over spelt_on same
  is-range = letters-tell range_word (lit< tt, (lit< tt, (lit< tt, (lit< tt, (lit< tt, tt))))) (lit< tt) refl verb bytes

  is-cell : eqb (letters_over 1 verb) 0x163656c6c ≡ same verb cell_word
  unfolding letters_over spelt_on same
  is-cell = letters-tell cell_word (lit< tt, (lit< tt, (lit< tt, (lit< tt, tt)))) (lit< tt) refl verb bytes

  is-otp : eqb (letters_over 1 verb) 0x16f7470 ≡ same verb otp_word
  unfolding letters_over spelt_on same
  is-otp = letters-tell otp_word (lit< tt, (lit< tt, (lit< tt, tt))) (lit< tt) refl verb bytes

  is-fresh : eqb (letters_over 1 verb) 0x16672657368 ≡ same verb fresh_word
  unfolding letters_over spelt_on same
  is-fresh = letters-tell fresh_word (lit< tt, (lit< tt, (lit< tt, (lit< tt, (lit< tt, tt))))) (lit< tt) refl verb bytes

-- the first item has a byte, and its bytes are bytes
abbrev pub Begins : List (List ℕ) → Type 0
Begins [] = Unit {0}
Begins ([] ∷ items) = ⊥
Begins ((b ∷ bytes) ∷ items) = Bytes (b ∷ bytes)

pub line-ordered : (items : List (List ℕ)) (kept : List ℕ) → length kept ≡ 16384 → Begins items → ordered Form.Empty kept items ≡ means items
unfolding ordered order_of taken_by kept_by named_by means
line-ordered [] kept size p = refl
line-ordered ([] ∷ items) kept size p = absurd p
line-ordered ((b ∷ bytes) ∷ items) kept size p =
    let v = b ∷ bytes in
    rw (item-remark b bytes, item-letters v, is_read v p, is-write v p, is-wait v p, is_cut v p, is-range v p, is-cell v p, is-otp v p, is-fresh v p)
    (by-verb items kept size (is_remark v) (same v read_word) (same v write_word) (same v wait_word) (same v cut_word) (same v range_word) (same v cell_word) (same v otp_word) (same v fresh_word))
