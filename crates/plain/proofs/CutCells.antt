-- What a cut leaves, word by word: what its program was to write, the words of its block, and all others as they were.
use Rattle.std.specs.Prelude.{Option, None, Some}
use Prim.Native.Nat.{ℕ, ◌+◌, ◌-◌, ◌<◌, ◌≤◌}
use mathlib.Core.Path.{◌≡◌, refl, ap, ◌∙◌}
use mathlib.Core.Bool.{true, false}
use mathlib.Core.List.{List}
use native.Mathlib.Omega.{arith}
use lib.Bits.{bit_and, bit_or}
use lib.ListN.{length, get_or}
use borrow.Author.Tests.{eq-eqb}
use Rattle.cells.proofs.Laws.{length-littered, littered-in, littered-out}
use Rattle.geometry.specs.declared.Part.{Part}
use Rattle.geometry.specs.Parts.{word_count, block_of, first_of, size_of}
use Rattle.geometry.proofs.Laid.{laid, block-fits}
use Rattle.plain.specs.declared.Written.{Written}
use Rattle.plain.specs.declared.Operation.{Operation}
use Rattle.plain.specs.declared.Array.{Array}
use Rattle.plain.specs.declared.Array.TheVariants.{Main, OneTime}
use Rattle.plain.specs.Holds.{in_block}
use Rattle.plain.specs.Lent.{Lent, array_of, word_at, Whole}
use Rattle.plain.specs.Programs.{writes, datum, lies_in, debris_for}
use Rattle.plain.specs.Cut.{begun_block, begun_program, block_debris, debris_needed, block_cut, program_cut, cut_lent}
use Rattle.plain.proofs.Programs.{cut_at, length-cut-off}
use Rattle.plain.proofs.Tools.{clash}

pub nowhere : {P : Type 0} {a : ℕ} → None ≡ Some a → P
nowhere e = let z : ◌≡◌ {A = ℕ} 0 1 = cc in absurd (omega arith)

pub no_program : {P : Type 0} {d : Written} → None ≡ Some d → P
no_program e = let z : ◌≡◌ {A = ℕ} 0 1 = cc in absurd (omega arith)

-- ---- the program

-- what it writes lies in its array
pub record Lies (p : Part) (w : Option Written) : Type 0 where
  pub lies : (d : Written) → w ≡ Some d → lies_in p d ≡ true

module _ (p : Part) (debris : List ℕ) (l : Lent) where
  pub length-program : (w : Option Written) (y : Array) → length (array_of y (program_cut w debris l)) ≡ length (array_of y l)
  unfolding program_cut
  length-program None y = refl
  length-program (Some d) y = length-cut-off d debris l y

  module _ (whole : Whole p l) where
    pub program-out : (w : Option Written) → Lies p w → (y : Array) (x : ℕ) → ((d : Written) → w ≡ Some d → writes d y x ≡ false) → word_at (program_cut w debris l) y x ≡ word_at l y x
    unfolding program_cut
    program-out None f y x miss = refl
    program-out (Some d) f y x miss = rw (cut_at p d l whole (f.lies d refl) debris y x, miss d refl)

    pub program-hit : (w : Option Written) → Lies p w → (y : Array) (x : ℕ) (d : Written) → w ≡ Some d → writes d y x ≡ true
        → word_at (program_cut w debris l) y x ≡ bit_and (word_at l y x) (bit_or (datum d x) (debris_for d debris x))
    unfolding program_cut
    program-hit w f y x d e h = rw e (rw (cut_at p d l whole (f.lies d e) debris y x, h))

-- ---- the block

module _ (p : Part) (debris : List ℕ) (l : Lent) (whole : Whole p l) where
  fits : (b : ℕ) → first_of p b + size_of p b ≤ length l.cells
  fits b = rw (whole Main) (block-fits p b)

  pub length-block : (block : Option ℕ) → block_debris p block ≤ length debris → (y : Array) → length (array_of y (block_cut p block debris l)) ≡ length (array_of y l)
  unfolding block_debris block_cut
  length-block None h y = refl
  length-block (Some b) h Main = length-littered l.cells (first_of p b) (size_of p b) debris (fits b) h
  length-block (Some b) h OneTime = refl

  pub block_out : (block : Option ℕ) → block_debris p block ≤ length debris → (y : Array) (x : ℕ) → ((b : ℕ) → block ≡ Some b → in_block p b y x ≡ false)
      → word_at (block_cut p block debris l) y x ≡ word_at l y x
  unfolding block_debris block_cut
  block_out None h y x miss = refl
  block_out (Some b) h Main x miss =
      littered-out l.cells (first_of p b) (size_of p b) debris (fits b) h x (λ from to. clash (eq-eqb _ _ ((laid p).no_other x b from to)) (miss b refl))
  block_out (Some b) h OneTime x miss = refl

  pub block-hit : (block : Option ℕ) → block_debris p block ≤ length debris → (x : ℕ) → x < word_count p → block ≡ Some (block_of p x)
      → word_at (block_cut p block debris l) Main x ≡ get_or debris (x - first_of p (block_of p x)) 0
  unfolding block_debris block_cut
  block-hit None h x k e = nowhere e
  block-hit (Some b) h x k e =
      let same : b ≡ block_of p x = cc in
      let in-it : (first_of p b ≤ x) × (x < first_of p b + size_of p b) = rw same ((laid p).from_first x k, (laid p).to_last x k) in
      littered-in l.cells (first_of p b) (size_of p b) debris (fits b) h x in-it.0 in-it.1
      ∙ ap (λ (k : ℕ). get_or debris (x - first_of p k) 0) same

-- ---- both

module _ (p : Part) (o : Operation) (debris : List ℕ) (l : Lent) (whole : Whole p l) (enough : debris_needed p o ≤ length debris) where
  pub block-enough : block_debris p (begun_block p o) ≤ length debris
  unfolding debris_needed
  block-enough = omega (arith, enough)

  block_size : (y : Array) → length (array_of y (block_cut p (begun_block p o) debris l)) ≡ length (array_of y l)
  block_size = length-block p debris l whole (begun_block p o) block-enough

  pub block-whole : Whole p (block_cut p (begun_block p o) debris l)
  block-whole y = block_size y ∙ whole y

  pub length_cut : (y : Array) → length (array_of y (cut_lent p o debris l)) ≡ length (array_of y l)
  unfolding cut_lent
  length_cut y = length-program p _ _ (begun_program p o) y ∙ block_size y

  -- a word that neither the begun program writes nor the begun block has
  pub untouched : Lies p (begun_program p o) → (y : Array) (x : ℕ) → ((d : Written) → begun_program p o ≡ Some d → writes d y x ≡ false)
      → ((b : ℕ) → begun_block p o ≡ Some b → in_block p b y x ≡ false) → word_at (cut_lent p o debris l) y x ≡ word_at l y x
  unfolding cut_lent
  untouched f y x no_word no_block =
      program-out p _ _ block-whole (begun_program p o) f y x no_word ∙ block_out p debris l whole (begun_block p o) block-enough y x no_block
