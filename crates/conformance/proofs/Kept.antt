-- The words of a line in the room that is lent: all of them, or as many as there is room for.
use Prim.Native.Nat.{ℕ, ◌+◌, ◌-◌, ◌<◌, ◌≤◌}
use mathlib.Core.Path.{◌≡◌, refl, sym, ◌∙◌}
use mathlib.Core.List.{List, [], ◌++◌, append_assoc, append-nil}
use native.Mathlib.Omega.{arith}
use borrow.Author.Tests.{lt-leb}
use lib.ListN.{length, take, drop, replicate, length-append, length-replicate, length-drop, replicate-append-replicate}
use lib.Seq.{take_at, take_all, take-append-le, length-take-le}
use Rattle.std.proofs.lemmas.Grind.{common_steps}
use Rattle.forms.specs.Forms.{put_count, put_words}

module _ (room : ℕ) where
  pub data Kept (all : List ℕ) (count : ℕ) (words : List ℕ) : Type 0 where
    whole : length all ≡ count → count ≤ room → take count words ≡ all → length words ≡ room → Kept all count words
    more : room < length all → count ≡ room + 1 → take room words ≡ take room all → length words ≡ room → Kept all count words

  pub kept-none : (words : List ℕ) → length words ≡ room → Kept [] 0 words
  kept-none words h = whole refl (omega arith) refl h

  -- a word `times` times behind all of them
  module _ (all words : List ℕ) (count times word : ℕ) where
    longer : length (all ++ replicate times word) ≡ length all + times
    longer = length-append all (replicate times word) ∙ rw (length-replicate times word)

    -- there is room
    module _ (same : length all ≡ count) (begins : take count words ≡ all) (size : length words ≡ room) (fits : count + times ≤ room) where
      kept-fits : Kept (all ++ replicate times word) (count + times) (take count words ++ (replicate times word ++ drop times (drop count words)))
      kept-fits =
          whole (longer ∙ rw same) fits
          (rw (begins, ← append_assoc all (replicate times word) (drop times (drop count words)))
          (take_at (all ++ replicate times word) (drop times (drop count words)) (count + times) (longer ∙ rw same)))
          (rw (length-append, length-append, length-replicate, length-take-le count words (omega arith), length-drop, length-drop) (omega arith))

    -- there is not
    module _ (same : length all ≡ count) (begins : take count words ≡ all) (size : length words ≡ room) (below : count ≤ room) (over : room < count + times) where
      filled : List ℕ
      filled = all ++ replicate (room - count) word

      filled-size : length filled ≡ room
      unfolding filled
      filled-size = length-append all (replicate (room - count) word) ∙ rw (length-replicate (room - count) word) (omega arith)

      filled-same : take room (all ++ replicate times word) ≡ filled
      unfolding filled
      filled-same =
          let parts : times ≡ (room - count) + (times - (room - count)) = omega arith in
          rw (parts, ← replicate-append-replicate (room - count) (times - (room - count)) word, ← append_assoc)
          (take_at filled (replicate (times - (room - count)) word) room filled-size)

      kept-over : Kept (all ++ replicate times word) (room + 1) (take count words ++ replicate (length words - count) word)
      unfolding filled
      kept-over =
          rw (begins, size)
          (more (omega (arith, longer)) refl (take_all room filled (omega (arith, filled-size)) ∙ sym filled-same) filled-size)

  pub kept_put : (all words : List ℕ) (count times word : ℕ) → Kept all count words → Kept (all ++ replicate times word) (put_count room count times) (put_words words count times word)
  unfolding put_count put_words
  kept_put all words count times word (whole same below begins size) = grind (arith, common_steps, kept-fits all words count times word same begins size, kept-over all words count times word same begins size below)
  kept_put all words count times word (more over is ends size) =
      let none : room - count ≡ 0 = omega arith in
      rw (size, lt-leb (count + times) room (omega arith), none, append-nil, take_all count words (omega arith))
      (more (omega (arith, longer all words count times word)) refl (ends ∙ sym (take-append-le room all (replicate times word) (omega arith))) size)
