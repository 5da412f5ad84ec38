-- Demand 3, proved: what an accepted cut leaves, after any run of a fresh device; and what the history says of words and charge.
use Rattle.std.specs.Prelude.{Some}
use Prim.Native.Nat.{ℕ, ◌-◌, ◌<◌, ◌≤◌}
use mathlib.Core.Path.{◌≡◌, refl, sym, ap, ◌∙◌, subst}
use mathlib.Core.Bool.{true, false}
use mathlib.Core.List.{List, []}
use native.Mathlib.Omega.{arith}
use lib.ListN.{length, get_or}
use borrow.Author.Tests.{ltb-false, eq-eqb, ne_eqb}
use Rattle.cells.specs.Bits.{Partly}
use Rattle.cells.proofs.Bits.{partly}
use Rattle.geometry.specs.declared.Part.{Part}
use Rattle.geometry.specs.Parts.{word_count, block_of, first_of}
use Rattle.plain.specs.declared.Array.{Array}
use Rattle.plain.specs.declared.Array.TheVariants.{Main, OneTime}
use Rattle.plain.specs.declared.Refusal.TheVariants.{Done, Debris}
use Rattle.plain.specs.declared.Written.{Written}
use Rattle.plain.specs.declared.Device.{Device}
use Rattle.plain.specs.Events.{cut}
use Rattle.plain.specs.Lent.{Lent, array_of, word_at, Whole}
use Rattle.plain.specs.Programs.{writes, datum, held_back}
use Rattle.plain.specs.Record.{fresh}
use Rattle.plain.specs.Sound.{operation_sound}
use Rattle.plain.specs.Cut.{begun_block, begun_program, block_debris, debris_needed, block_cut, cut_lent, cut_device}
use Rattle.plain.specs.Machine.{Outcome, cut_event, step, run, Fit}
use Rattle.plain.specs.History.{Told, history}
use Rattle.plain.specs.Holds.{Fact, in_block, holds}
use Rattle.plain.specs.Promises.{ProgramBegun, EraseBegun, Left, Demand3, Holding, ProgramsLeaveData, Agrees, ChargeByHistory}
use Rattle.plain.proofs.Tools.{by_cases, clash}
use Rattle.plain.proofs.BegunSound.{begun-lies}
use Rattle.plain.proofs.CutCells.{Lies, program-out, program-hit, block_out, block-hit, block-enough, block-whole, length_cut, untouched}
use Rattle.plain.proofs.Facts.{sound-operation}
use Rattle.plain.proofs.Ladder.{by-ladder}
use Rattle.plain.proofs.Programs.{written-in-block, one_written}
use Rattle.plain.proofs.SuspendedProgram.{Awake}
use Rattle.history.proofs.Awake.{fresh-awake, no-run-suspends-program}
use Rattle.history.proofs.Seen.{seen_op, seen}
use Rattle.history.proofs.Holds.{Holds}
use Rattle.history.proofs.Leaves.{Leaves, none-leave}
use Rattle.history.proofs.Modest.{fresh-modest}
use Rattle.history.proofs.Runs.{run-told}
use Rattle.history.proofs.Taken.{run_long}
use Rattle.history.proofs.Begun.{program-told, block-told, program-is, block-is, same-program, same_block, apart}
use Rattle.history.proofs.Spared.{cut-spares}

-- ---- what the cut leaves, given the record

module _ (p : Part) (start : Lent) (fs : List Fact) (r : Device) (l : Lent) (debris : List ℕ) (fit : Fit p r l)
    (long : (y : Array) → length (array_of y l) ≡ length (array_of y start)) (enough : debris_needed p r.operation ≤ length debris) (awake : Awake r.operation) (h : Holds p start fs l) where
  op-sound : operation_sound p r.bits r.operation ≡ true
  op-sound = sound-operation p r fit.sound r.operation refl

  lies : Lies p (begun_program p r.operation)
  lies = begun-lies p r.bits r.operation op-sound

  for-block : block_debris p (begun_block p r.operation) ≤ length debris
  for-block = block-enough p r.operation debris l fit.whole enough

  abbrev after : Lent
  after = cut_lent p r.operation debris l

  abbrev after_block : Lent
  after_block = block_cut p (begun_block p r.operation) debris l

  after-whole : Whole p after_block
  after-whole = block-whole p r.operation debris l fit.whole enough

  missed : (y : Array) (x : ℕ) → ((d : Written) → begun_program p r.operation ≡ Some d → writes d y x ≡ false)
      → ((b : ℕ) → begun_block p r.operation ≡ Some b → in_block p b y x ≡ false) → word_at after y x ≡ word_at l y x
  missed y x no_word no_block = untouched p r.operation debris l fit.whole enough lies y x no_word no_block

  -- a word of the begun program lies outside the begun block
  outside : (y : Array) (x : ℕ) (d : Written) → begun_program p r.operation ≡ Some d → writes d y x ≡ true → (b : ℕ) → begun_block p r.operation ≡ Some b → in_block p b y x ≡ false
  outside Main x d e t b f = ne_eqb (block_of p x) b (λ g. apart p r.bits r.operation op-sound d b e f (sym (written-in-block p d Main x t) ∙ g))
  outside OneTime x d e t b f = refl

  word-left : (y : Array) (x : ℕ) (d : Written) → ProgramBegun (seen_op p r.operation) d → writes d y x ≡ true → Partly (word_at l y x) (datum d x) (word_at after y x)
  unfolding cut_lent
  word-left y x d g t =
      let is = program-is p r.operation d g in
      rw (
        program-hit p _ after_block after-whole (begun_program p r.operation) lies y x d is t,
        block_out p debris l fit.whole (begun_block p r.operation) for-block y x (outside y x d is t),
      )
      (partly (word_at l y x) (datum d x) _)

  block-left : (x : ℕ) → x < word_count p → EraseBegun (seen_op p r.operation) (block_of p x) → word_at after Main x ≡ get_or debris (x - first_of p (block_of p x)) 0
  unfolding cut_lent
  block-left x hx g =
      let is = block-is p r.operation (block_of p x) g in
      program-out p _ after_block after-whole (begun_program p r.operation) lies Main x
      (λ d e. by_cases (writes d Main x) (λ t. clash (eq-eqb (block_of p x) (block_of p x) refl) (outside Main x d e t (block_of p x) is)) (λ t. t))
      ∙ block-hit p debris l fit.whole (begun_block p r.operation) for-block x hx is

  -- a word of a protected block, or a locked one-time word
  spared : (y : Array) (x : ℕ) → held_back p r.bits y x ≡ true → word_at after y x ≡ word_at l y x
  spared = cut-spares p r.bits r.operation op-sound debris l fit.whole enough

  left : Left p start (seen p r fs) debris (cut_device r) after
  unfolding Holds
  left =
      record {
        others = λ y x hx nw nb. missed y x (λ d e. nw d (program-told p r.operation d awake e)) (λ b e. nb b (block-told p r.operation b e)) ∙ h y x hx;
        word = λ y x d hx g t. rw (← h y x hx) (word-left y x d g t);
        block = λ x hx g. block-left x hx g;
        one_word = λ y z x u d e f g t v. one_written p d y z x u t (ap (λ (w : Written). writes w z u) (same-program p (seen_op p r.operation) f g) ∙ v);
        one_block = λ b c f g. same_block p (seen_op p r.operation) f g;
        kept = λ x hx e. spared Main x e ∙ h Main x hx;
        locked = λ x hx e. spared OneTime x e ∙ h OneTime x hx;
        size = λ y. length_cut p r.operation debris l fit.whole enough y ∙ long y;
        rest = refl;
      }

-- ---- the cut is accepted

module _ (p : Part) (start : Lent) (fs : List Fact) (r : Device) (l : Lent) (debris : List ℕ) where
  Claim : Outcome → Type 0
  Claim o = o.answer.refusal ≡ Done → Left p start (seen p r fs) debris o.answer.device o.lent

  accepted : Awake r.operation → ((y : Array) → length (array_of y l) ≡ length (array_of y start)) → Holds p start fs l → Claim (step p r l (cut debris))
  unfolding Claim step cut_event
  accepted awake long h =
      by-ladder p r l _ Debris _ Claim (λ s e. let z : ◌≡◌ {A = ℕ} 0 1 = cc in absurd (omega arith)) (λ e. let z : ◌≡◌ {A = ℕ} 0 1 = cc in absurd (omega arith))
      (λ f e. let z : ◌≡◌ {A = ℕ} 0 1 = cc in absurd (omega arith))
      (λ f t e. left p start fs r l debris f long (ltb-false (length debris) (debris_needed p r.operation) t) awake h)

pub demand-3 : (p : Part) → Demand3 p
unfolding seen_op Holds holds Claim
demand-3 p start es debris e =
    let t = run-told p start fresh start [] es fresh-awake in
    let ran = run p fresh start es in
    let o = step p ran.device ran.lent (cut debris) in
    subst (λ (h : Told). Left p start h debris o.answer.device o.lent) (sym t.tells)
    (accepted p start t.facts ran.device ran.lent debris (no-run-suspends-program p start es) (run_long p fresh start es) (t.hold (λ y x hx. refl)) e)

pub holding : (p : Part) → Holding p
unfolding seen_op Holds holds
holding p start es y x hx =
    let t = run-told p start fresh start [] es fresh-awake in
    t.hold (λ z u hu. refl) y x hx ∙ ap (λ (h : Told). holds p start h.facts y x) (sym t.tells)

pub programs-leave-data : (p : Part) → ProgramsLeaveData p
unfolding seen_op Holds holds Leaves
programs-leave-data p start es y x d hx last =
    let t = run-told p start fresh start [] es fresh-awake in
    let facts : (history p (run p fresh start es).turns).facts ≡ t.facts = ap (λ (h : Told). h.facts) t.tells in
    t.hold (λ z u hu. refl) y x hx ∙ t.leave (λ z u hu. refl) (fresh-modest start) (none-leave p start) y x d hx (rw (← facts) last)

pub charge-by-history : (p : Part) → ChargeByHistory p
unfolding seen_op
charge-by-history p start es =
    let t = run-told p start fresh start [] es fresh-awake in
    subst (λ (h : Told). Agrees h (run p fresh start es).device) (sym t.tells) (record { clock = refl; charge = refl; dyb = refl; ppb = refl; sealed = refl })
