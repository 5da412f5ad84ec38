-- What had begun by the record is what had begun by the history; it is one program and one block at most, apart and unprotected.
use Rattle.std.specs.Prelude.{Option, Some}
use Prim.Native.Nat.{ℕ, ◌-◌, ◌<◌}
use mathlib.Core.Path.{◌≡◌, refl, sym, ap, ◌∙◌}
use mathlib.Core.Bool.{true, false}
use native.Mathlib.Omega.{arith}
use borrow.Author.Tests.{ltb-true, lt-ltb}
use Rattle.blocks.specs.Blocks.{has}
use Rattle.geometry.specs.declared.Part.{Part}
use Rattle.protection.specs.declared.Protection.{Protection}
use Rattle.protection.specs.Protection.{protected}
use Rattle.plain.specs.declared.Written.{Written}
use Rattle.plain.specs.declared.Program.{Program}
use Rattle.plain.specs.declared.Erase.{Erase}
use Rattle.plain.specs.declared.Inside.{Inside}
use Rattle.plain.specs.declared.Inside.TheVariants.{Nothing, Runs}
use Rattle.plain.specs.declared.SuspendedErase.{SuspendedErase}
use Rattle.plain.specs.declared.Operation.{Operation}
use Rattle.plain.specs.declared.Operation.TheVariants.{Idle, Programming, ProgramSuspended, Window, Erasing, Recovering, EraseSuspended, ChipErasing, InOneTime, OneTimeProgramming}
use Rattle.plain.specs.Figures.{program_time, erase_time, chip_time}
use Rattle.plain.specs.Programs.{block_written}
use Rattle.plain.specs.Operations.{suspension_of}
use Rattle.plain.specs.Sound.{operation_sound}
use Rattle.plain.specs.Commands.{program_is_suspended}
use Rattle.plain.specs.Cut.{begun, if_begun, begun_block, program_begun, begun_inside, begun_program}
use Rattle.plain.specs.Doings.{Doing, programs, erases, recovers, wipes, rests, programs_in, programs_entered, nothing, waits, entered}
use Rattle.plain.specs.Promises.{ProgramBegun, EraseBegun}
use Rattle.plain.specs.Promises as said
use Rattle.plain.proofs.Tools.{by-test, clash}
use Rattle.plain.proofs.BegunSound.{begins}
use Rattle.plain.proofs.CutCells.{nowhere, no_program}
use Rattle.plain.proofs.Facts.{EraseFacts, erasing, recovering, erase-suspended, chip-erasing, inside-runs}
use Rattle.plain.proofs.Ends.{erasable-free}
use Rattle.plain.proofs.SuspendedProgram.{Awake}
use Rattle.history.proofs.Seen.{seen_inside, seen_op}

-- ---- a block, or a program, that has begun

record There (left full b a : ℕ) : Type 0 where
  time : 0 < full - left
  place : b ≡ a

there : (left full b a : ℕ) → if_begun left full b ≡ Some a → There left full b a
there left full b a =
    by-test (λ (x : Option ℕ). x ≡ Some a → There left full b a) (begun left full)
    (λ t e. record { time = omega (arith, ltb-true left full t); place = cc }) (λ t e. nowhere e)

here : (left full b : ℕ) → 0 < full - left → if_begun left full b ≡ Some b
here left full b g = rw (lt-ltb left full (omega arith))

writing : (p : Part) (q : Program) → 0 < program_time p - q.left → program_begun p q ≡ Some q.writes
writing p q g = rw (lt-ltb q.left (program_time p) (omega arith))

-- ---- the record's begun program and block are the history's

module _ (p : Part) where
  inside-program-told : (e : Erase) (i : Inside) (d : Written) → begun_inside p i ≡ Some d → ProgramBegun (seen_inside p e i) d
  unfolding begun_inside seen_inside
  inside-program-told e Nothing d h = no_program h
  inside-program-told e (Runs q) d h = let b = begins p q d h in rw (← b.what) (said.inside b.time)

  pub program-told : (o : Operation) (d : Written) → Awake o → begun_program p o ≡ Some d → ProgramBegun (seen_op p o) d
  unfolding begun_program seen_op suspension_of program_is_suspended
  program-told Idle d w h = no_program h
  program-told (Programming q) d w h = let b = begins p q d h in rw (← b.what) (said.ProgramBegun.running b.time)
  program-told (ProgramSuspended q) d w h = clash refl w
  program-told (Window e) d w h = no_program h
  program-told (Erasing e) d w h = no_program h
  program-told (Recovering r) d w h = no_program h
  program-told (EraseSuspended x) d w h = inside-program-told x.erase x.inside d h
  program-told (ChipErasing e) d w h = no_program h
  program-told InOneTime d w h = no_program h
  program-told (OneTimeProgramming q) d w h = let b = begins p q d h in rw (← b.what) (said.entered b.time)

  inside-block-told : (e : Erase) (i : Inside) (b : ℕ) → if_begun e.left (erase_time p) e.hand ≡ Some b → EraseBegun (seen_inside p e i) b
  unfolding seen_inside
  inside-block-told e Nothing b d = let t = there e.left (erase_time p) e.hand b d in rw (← t.place) (said.resting t.time)
  inside-block-told e (Runs q) b d = let t = there e.left (erase_time p) e.hand b d in rw (← t.place) (said.around t.time)

  pub block-told : (o : Operation) (b : ℕ) → begun_block p o ≡ Some b → EraseBegun (seen_op p o) b
  unfolding begun_block seen_op
  block-told Idle b d = nowhere d
  block-told (Programming q) b d = nowhere d
  block-told (ProgramSuspended q) b d = nowhere d
  block-told (Window e) b d = nowhere d
  block-told (Erasing e) b d =
      let t = there e.left (erase_time p) e.hand b d in
      rw (← t.place) (said.EraseBegun.running t.time)
  block-told (Recovering r) b d =
      let t = there r.erase.left (erase_time p) r.erase.hand b d in
      rw (← t.place) (said.recovering t.time)
  block-told (EraseSuspended x) b d = inside-block-told x.erase x.inside b d
  block-told (ChipErasing e) b d = let t = there e.left (chip_time p) e.hand b d in rw (← t.place) (said.wiping t.time)
  block-told InOneTime b d = nowhere d
  block-told (OneTimeProgramming q) b d = nowhere d

  -- ---- and back

  inside-program-is : (e : Erase) (i : Inside) (d : Written) → ProgramBegun (seen_inside p e i) d → begun_inside p i ≡ Some d
  unfolding seen_inside begun_inside
  inside-program-is e (Runs q) d (said.inside g) = writing p q g
  inside-program-is e Nothing d x' = elim x' [ ]

  pub program-is : (o : Operation) (d : Written) → ProgramBegun (seen_op p o) d → begun_program p o ≡ Some d
  unfolding seen_op begun_program
  program-is (Programming q) d (said.ProgramBegun.running g) = writing p q g
  program-is (EraseSuspended x) d g = inside-program-is x.erase x.inside d g
  program-is (OneTimeProgramming q) d (said.entered g) = writing p q g
  program-is Idle d g = elim g [ ]
  program-is (ProgramSuspended _) d g = elim g [ ]
  program-is (Window _) d g = elim g [ ]
  program-is (Erasing _) d g = elim g [ ]
  program-is (Recovering _) d g = elim g [ ]
  program-is (ChipErasing _) d g = elim g [ ]
  program-is InOneTime d g = elim g [ ]

  inside-block-is : (e : Erase) (i : Inside) (b : ℕ) → EraseBegun (seen_inside p e i) b → if_begun e.left (erase_time p) e.hand ≡ Some b
  unfolding seen_inside
  inside-block-is e Nothing b (said.resting g) = here e.left (erase_time p) e.hand g
  inside-block-is e (Runs q) b (said.around g) = here e.left (erase_time p) e.hand g

  pub block-is : (o : Operation) (b : ℕ) → EraseBegun (seen_op p o) b → begun_block p o ≡ Some b
  unfolding seen_op begun_block
  block-is (Erasing e) b (said.EraseBegun.running g) = here e.left (erase_time p) e.hand g
  block-is (Recovering r) b (said.recovering g) = here r.erase.left (erase_time p) r.erase.hand g
  block-is (EraseSuspended x) b g = inside-block-is x.erase x.inside b g
  block-is (ChipErasing e) b (said.wiping g) = here e.left (chip_time p) e.hand g
  block-is Idle b g = elim g [ ]
  block-is (Programming _) b g = elim g [ ]
  block-is (ProgramSuspended _) b g = elim g [ ]
  block-is (Window _) b g = elim g [ ]
  block-is InOneTime b g = elim g [ ]
  block-is (OneTimeProgramming _) b g = elim g [ ]

  -- ---- at most one of each

  pub same-program : (h : Doing) {d e : Written} → ProgramBegun h d → ProgramBegun h e → d ≡ e
  same-program (programs d g) (said.ProgramBegun.running u) (said.ProgramBegun.running v) = refl
  same-program (programs_in d g l b eg) (said.inside u) (said.inside v) = refl
  same-program (programs_entered d g) (said.entered u) (said.entered v) = refl
  same-program nothing {d = d} {e = e} x'' _ = elim x'' [ ]
  same-program (waits list block gone) {d = d} {e = e} x3 _ = elim x3 [ ]
  same-program (erases list block gone) {d = d} {e = e} x4 _ = elim x4 [ ]
  same-program (recovers list block gone over) {d = d} {e = e} x5 _ = elim x5 [ ]
  same-program (wipes list block gone) {d = d} {e = e} x6 _ = elim x6 [ ]
  same-program (rests list block gone) {d = d} {e = e} x7 _ = elim x7 [ ]
  same-program entered {d = d} {e = e} x8 _ = elim x8 [ ]

  pub same_block : (h : Doing) {b c : ℕ} → EraseBegun h b → EraseBegun h c → b ≡ c
  same_block (erases l b g) (said.EraseBegun.running u) (said.EraseBegun.running v) = refl
  same_block (recovers l b g n) (said.recovering u) (said.recovering v) = refl
  same_block (wipes l b g) (said.wiping u) (said.wiping v) = refl
  same_block (rests l b g) (said.resting u) (said.resting v) = refl
  same_block (programs_in d pg l b g) (said.around u) (said.around v) = refl
  same_block nothing {b = b} {c = c} x'' _ = elim x'' [ ]
  same_block (programs _ gone) {b = b} {c = c} x4 _ = elim x4 [ ]
  same_block (waits list block gone) {b = b} {c = c} x4 _ = elim x4 [ ]
  same_block entered {b = b} {c = c} x5 _ = elim x5 [ ]
  same_block (programs_entered _ gone) {b = b} {c = c} x7 _ = elim x7 [ ]

  -- ---- by soundness the program and the block are apart, in the part, and unprotected

  module _ (bits : Protection) where
    block-free-of : (e : Erase) (full b : ℕ) → EraseFacts p bits e full → if_begun e.left full e.hand ≡ Some b → protected bits b ≡ false
    block-free-of e full b f d = rw (← (there e.left full e.hand b d).place) (erasable-free bits e.hand (f.erasable e.hand f.hand-listed))

    pub block-free : (o : Operation) → operation_sound p bits o ≡ true → (b : ℕ) → begun_block p o ≡ Some b → protected bits b ≡ false
    unfolding begun_block
    block-free Idle s b e = nowhere e
    block-free (Programming q) s b e = nowhere e
    block-free (ProgramSuspended q) s b e = nowhere e
    block-free (Window x) s b e = nowhere e
    block-free (Erasing x) s b e = block-free-of x (erase_time p) b (erasing p bits x s).erase e
    block-free (Recovering x) s b e = block-free-of x.erase (erase_time p) b (recovering p bits x s).erase.erase e
    block-free (EraseSuspended x) s b e = block-free-of x.erase (erase_time p) b (erase-suspended p bits x s).erase e
    block-free (ChipErasing x) s b e = block-free-of x (chip_time p) b (chip-erasing p bits x s) e
    block-free InOneTime s b e = nowhere e
    block-free (OneTimeProgramming q) s b e = nowhere e

    inside-apart : (x : SuspendedErase) (i : Inside) → x.inside ≡ i → operation_sound p bits (EraseSuspended x) ≡ true → (d : Written) (b : ℕ) → begun_inside p i ≡ Some d
        → if_begun x.erase.left (erase_time p) x.erase.hand ≡ Some b → block_written p d ≡ b → ⊥
    unfolding begun_inside
    inside-apart x Nothing t s d b e f g = no_program e
    inside-apart x (Runs q) t s d b e f g =
        let u = there x.erase.left (erase_time p) x.erase.hand b f in
        let block : block_written p q.writes ≡ x.erase.hand = ap (block_written p) (begins p q d e).what ∙ g ∙ sym u.place in
        clash (erase-suspended p bits x s).erase.hand-listed (ap (has x.erase.list) (sym block) ∙ (inside-runs p bits x q s t).off_list)

    pub apart : (o : Operation) → operation_sound p bits o ≡ true → (d : Written) (b : ℕ) → begun_program p o ≡ Some d → begun_block p o ≡ Some b → block_written p d ≡ b → ⊥
    unfolding begun_program begun_block
    apart Idle s d b e f g = no_program e
    apart (Programming q) s d b e f g = nowhere f
    apart (ProgramSuspended q) s d b e f g = nowhere f
    apart (Window x) s d b e f g = no_program e
    apart (Erasing x) s d b e f g = no_program e
    apart (Recovering x) s d b e f g = no_program e
    apart (EraseSuspended x) s d b e f g = inside-apart x x.inside refl s d b e f g
    apart (ChipErasing x) s d b e f g = no_program e
    apart InOneTime s d b e f g = nowhere f
    apart (OneTimeProgramming q) s d b e f g = nowhere f
