-- What `machine::exposed` and `machine::reads_cells` tell is so.
use Rattle.std.specs.Prelude.{Option, Some}
use Prim.Native.Nat.{ℕ, ◌<◌, ◌≤◌}
use mathlib.Core.Path.{◌≡◌, refl, sym, ap, ◌∙◌}
use mathlib.Core.Bool.{true, false}
use mathlib.Core.List.{List}
use lib.ListN.{length}
use borrow.Author.Tests.{ltb-false}
use Rattle.geometry.specs.declared.Part.{Part}
use Rattle.geometry.specs.Parts.{word_count, bank_of}
use Rattle.plain.specs.declared.Array.{Array}
use Rattle.plain.specs.declared.Array.TheVariants.{Main}
use Rattle.plain.specs.declared.Refusal.TheVariants.{Done, Debris}
use Rattle.plain.specs.declared.Written.{Written}
use Rattle.plain.specs.declared.Device.{Device}
use Rattle.plain.specs.Holds.{in_block}
use Rattle.plain.specs.Lent.{Lent, word_at, Whole}
use Rattle.plain.specs.Programs.{writes, first_word, array_written}
use Rattle.plain.specs.Record.{answer}
use Rattle.plain.specs.Sound.{sound}
use Rattle.plain.specs.Cut.{word_of, begun_program, debris_needed, cut_lent, spot}
use Rattle.plain.specs.Machine.{Outcome, outcome, Fit, read_event, cut_event, step}
use Rattle.plain.proofs.BegunSound.{begun-lies}
use Rattle.plain.proofs.CutCells.{untouched}
use Rattle.plain.proofs.EventLaws.{read-passes}
use Rattle.plain.proofs.Facts.{sound-operation}
use Rattle.plain.proofs.Ladder.{by-ladder}
use Rattle.plain.proofs.Programs.{first-written, one_written}
use Rattle.plain.proofs.Tools.{by_cases, both_left, both_right}
use Rattle.cutting.specs.declared.begun.Exposed.{Exposed}
use Rattle.cutting.specs.Exposes.{exposed_by}
use Rattle.mapping.specs.Mapped.{gives_cells}
use Rattle.mapping.proofs.GivesCells.{gives-cells}
use Rattle.judged.specs.Asked.{exposed_now, reads_cells}
use Rattle.audit.specs.Promises.{Spared, ReadsCells}
use Rattle.audit.proofs.Same.{allowed-is}

-- ---- no accepted cut changes a word outside what `exposed` tells

-- of a sound record it tells what has begun
exposed-told : (p : Part) (r : Device) → sound p r ≡ true → exposed_now p r ≡ exposed_by p r.operation
unfolding exposed_now
exposed-told p r s = rw s

-- the word that a begun program is named by is all that it writes
named : (p : Part) (w : Option Written) (d : Written) (y : Array) (x : ℕ) → w ≡ Some d → writes d y x ≡ true → word_of w ≡ Some (spot y x)
unfolding word_of
named p w d y x e h =
    let one = one_written p d (array_written d) y (first_word d) x (first-written p d) h in
    rw e (λ k. Some (spot (one.0 k) (one.1 k)))

module _ (p : Part) (r : Device) (l : Lent) (debris : List ℕ) (y : Array) (x : ℕ) (no_word : (exposed_now p r).word ≡ Some (spot y x) → ⊥) (no_block : (b : ℕ) → (exposed_now p r).block ≡ Some b → in_block p b y x ≡ false) where
  abbrev Spares : Outcome → Type 0
  Spares o = word_at o.lent y x ≡ word_at l y x

  sparing : Fit p r l → debris_needed p r.operation ≤ length debris → word_at (cut_lent p r.operation debris l) y x ≡ word_at l y x
  sparing f n =
      let told = exposed-told p r f.sound in
      untouched p r.operation debris l f.whole n (begun-lies p r.bits r.operation (sound-operation p r f.sound r.operation refl)) y x
      (λ d e. by_cases (writes d y x) (λ t. absurd (no_word (ap (λ (z : Exposed). z.word) told ∙ named p (begun_program p r.operation) d y x e t))) (λ t. t))
      (λ b e. no_block b (ap (λ (z : Exposed). z.block) told ∙ e))

  pub sparing-all : word_at (cut_event p r l debris).lent y x ≡ word_at l y x
  unfolding cut_event
  sparing-all = by-ladder p r l _ Debris _ Spares (λ _. refl) refl (λ _. refl) (λ f t. sparing f (ltb-false (length debris) (debris_needed p r.operation) t))

pub spared : (p : Part) → Spared p
unfolding step
spared p r l after debris y told z x is c no_word no_block =
    rw (allowed-is c).lent (sparing-all p r l debris z x (λ e. no_word (ap (λ (t : Exposed). t.word) is ∙ e)) (λ b e. no_block b (ap (λ (t : Exposed). t.block) is ∙ e)))

-- ---- where `reads_cells` says so, a read gives the cell and changes nothing

pub read_cell : (p : Part) (r : Device) (l : Lent) (a : ℕ) → Whole p l → a < word_count p → reads_cells p r (bank_of p a) ≡ true
    → read_event p r l a ≡ outcome (answer Done (word_at l Main a) r) l
unfolding reads_cells
read_cell p r l a whole h e =
    let s = both_left (sound p r) (gives_cells p r.command r.operation (bank_of p a)) e in
    let g = both_right (sound p r) (gives_cells p r.command r.operation (bank_of p a)) e in
    read-passes p r l a (record { sound = s; whole = whole }) h
    ∙ rw (gives-cells p r.bits r.command r.operation l a (sound-operation p r s r.operation refl) g)

pub reads-cells : (p : Part) → ReadsCells p
unfolding step
reads-cells p r l after a y is whole h c = (allowed-is c).answer ∙ ap (λ (o : Outcome). o.answer) (read_cell p r l a whole h (sym is))
