-- Each word holds what the facts give it: kept by a finished program, a finished erase and a cut.
use Prim.Native.Nat.{ℕ, ◌+◌, ◌<◌, ◌≤◌}
use mathlib.Core.Path.{◌≡◌, ◌∙◌}
use mathlib.Core.Bool.{true, false}
use mathlib.Core.List.{List, ◌∷◌}
use lib.Dec.{eqb}
use lib.ListN.{length}
use borrow.Author.Tests.{eqb-true, eqb-false}
use Rattle.cells.proofs.Laws.{erased-in, erased-out, littered-in, littered-out}
use Rattle.cells.specs.Cells.{littered}
use Rattle.geometry.specs.declared.Part.{Part}
use Rattle.geometry.specs.Parts.{word_count, block_of, first_of, size_of}
use Rattle.geometry.proofs.Laid.{laid, block-fits}
use Rattle.plain.specs.declared.Array.{Array}
use Rattle.plain.specs.declared.Array.TheVariants.{Main, OneTime}
use Rattle.plain.specs.declared.Written.{Written}
use Rattle.plain.specs.declared.Erase.{Erase}
use Rattle.plain.specs.Lent.{Lent, with_array, words_of, word_at, Whole}
use Rattle.plain.specs.Programs.{writes, lies_in, finished, cut_off}
use Rattle.plain.specs.Time.{erase_finished}
use Rattle.plain.specs.Holds.{Fact, program_done, erase_done, program_cut, erase_cut, after_fact, holds}
use Rattle.plain.proofs.Programs.{finished-at, cut_at}
use Rattle.plain.proofs.Tools.{by_cases}

unfoldable pub Holds : Part → (start : Lent) → List Fact → Lent → Type 0
Holds p start fs l = (y : Array) (x : ℕ) → x < words_of p y → word_at l y x ≡ holds p start fs y x

module _ (p : Part) (start : Lent) (fs : List Fact) (l : Lent) (whole : Whole p l) (h : Holds p start fs l) where
  pub holds-program : (d : Written) → lies_in p d ≡ true → Holds p start (program_done d ∷ fs) (finished d l)
  unfolding Holds holds after_fact
  holds-program d lies y x hx = finished-at p d l whole lies y x ∙ rw (h y x hx) (by_cases (writes d y x) (λ e. rw e) (λ e. rw e))

  pub holds-cut-program : (d : Written) (debris : List ℕ) → lies_in p d ≡ true → Holds p start (program_cut d debris ∷ fs) (cut_off d debris l)
  unfolding Holds holds after_fact
  holds-cut-program d debris lies y x hx = cut_at p d l whole lies debris y x ∙ rw (h y x hx) (by_cases (writes d y x) (λ e. rw e) (λ e. rw e))

  -- a word lies in the block, or not
  in_block : (b x : ℕ) → x < word_count p → eqb (block_of p x) b ≡ true → (first_of p b ≤ x) × (x < first_of p b + size_of p b)
  in_block b x hx e = rw (← eqb-true (block_of p x) b e) ((laid p).from_first x hx, (laid p).to_last x hx)

  out-of-block : (b x : ℕ) → eqb (block_of p x) b ≡ false → first_of p b ≤ x → x < first_of p b + size_of p b → ⊥
  out-of-block b x e from to = eqb-false (block_of p x) b e ((laid p).no_other x b from to)

  fits : (b : ℕ) → first_of p b + size_of p b ≤ length l.cells
  fits b = rw (whole Main) (block-fits p b)

  -- one-time words lie in no block
  pub holds-erase : (e : Erase) → Holds p start (erase_done e.hand ∷ fs) (erase_finished p e l)
  unfolding Holds holds after_fact
  holds-erase e Main x hx =
      let b = e.hand in
      by_cases (eqb (block_of p x) b)
      (λ t. rw t (erased-in l.cells (first_of p b) (size_of p b) (fits b) x (in_block b x hx t).0 (in_block b x hx t).1))
      (λ t. rw t (erased-out l.cells (first_of p b) (size_of p b) (fits b) x (out-of-block b x t) ∙ h Main x hx))
  holds-erase e OneTime x hx = h OneTime x hx

  pub holds-cut-erase : (b : ℕ) (debris : List ℕ) → size_of p b ≤ length debris
      → Holds p start (erase_cut b debris ∷ fs) (with_array Main l (littered l.cells (first_of p b) (size_of p b) debris))
  unfolding Holds holds after_fact
  holds-cut-erase b debris enough Main x hx =
      by_cases (eqb (block_of p x) b)
      (λ t. rw t (littered-in l.cells (first_of p b) (size_of p b) debris (fits b) enough x (in_block b x hx t).0 (in_block b x hx t).1))
      (λ t. rw t (littered-out l.cells (first_of p b) (size_of p b) debris (fits b) enough x (out-of-block b x t) ∙ h Main x hx))
  holds-cut-erase b debris enough OneTime x hx = h OneTime x hx
