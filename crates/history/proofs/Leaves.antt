-- What a finished program left in its word stays there until something else befalls it: kept by every fact that comes.
use Prim.Native.Nat.{ℕ, suc, ◌-◌, ◌<◌}
use mathlib.Core.Path.{◌≡◌, refl, ◌∙◌}
use mathlib.Core.Bool.{Bool, true, false}
use mathlib.Core.List.{List, [], ◌∷◌}
use native.Mathlib.Omega.{arith}
use lib.Dec.{eqb, ltb}
use lib.ListN.{length}
use Rattle.geometry.specs.declared.Part.{Part}
use Rattle.plain.specs.declared.Array.{Array}
use Rattle.plain.specs.declared.Written.{Written}
use Rattle.plain.specs.declared.Program.{Program}
use Rattle.plain.specs.declared.Erase.{Erase}
use Rattle.plain.specs.declared.Inside.{Inside}
use Rattle.plain.specs.declared.Inside.TheVariants.{Nothing, Runs}
use Rattle.plain.specs.declared.Operation.{Operation}
use Rattle.plain.specs.declared.Operation.TheVariants.{Idle, Programming, ProgramSuspended, Window, Erasing, Recovering, EraseSuspended, ChipErasing, InOneTime, OneTimeProgramming}
use Rattle.std.specs.Prelude.{if◌then◌else◌}
use Rattle.plain.specs.Figures.{program_time, erase_time, chip_time}
use Rattle.plain.specs.Lent.{Lent, words_of}
use Rattle.plain.specs.Programs.{writes, datum, raises}
use Rattle.plain.specs.Doings.{Doing, nothing, programs, waits, erases, recovers, wipes, rests, programs_in, entered, programs_entered, comes, erase_cuts, program_cuts, cuts}
use Rattle.plain.specs.Holds.{Fact, program_done, erase_done, program_cut, erase_cut, after_fact, holds}
use Rattle.plain.specs.Promises.{touches, LastEnded, ended, since}
use Rattle.plain.proofs.Modest.{raises_inside, raises_in, Modest}
use Rattle.plain.proofs.Programs.{modest-leaves}
use Rattle.plain.proofs.Tools.{by-test, clash}
use Rattle.history.proofs.Holds.{Holds}
use Rattle.history.proofs.Seen.{seen_inside, seen_op}

unfoldable pub Leaves : Part → (start : Lent) → List Fact → Type 0
Leaves p start fs = (y : Array) (x : ℕ) (d : Written) → x < words_of p y → LastEnded p y x d fs → holds p start fs y x ≡ datum d x

-- ---- no fact

some-ended : {p : Part} {y : Array} {x : ℕ} {d : Written} (fs : List Fact) → LastEnded p y x d fs → 0 < length fs
some-ended (f ∷ fs) last = omega arith
some-ended {p = p} {y = y} {d = d} [] last = elim last [ ]

pub none-leave : (p : Part) (start : Lent) → Leaves p start []
unfolding Leaves
none-leave p start y x d hx last = absurd (omega (arith, some-ended [] last))

-- ---- one fact more

is_end : Fact → Bool
is_end (program_done d) = true
is_end (erase_done b) = false
is_end (program_cut d debris) = false
is_end (erase_cut b debris) = false

-- what does not touch a word leaves it as it was
untouched : (p : Part) (f : Fact) (y : Array) (x old : ℕ) → touches p f y x ≡ false → after_fact p f y x old ≡ old
unfolding touches after_fact
untouched p (program_done d) y x old e = rw e
untouched p (erase_done b) y x old e = rw e
untouched p (program_cut d debris) y x old e = rw e
untouched p (erase_cut b debris) y x old e = rw e

module _ (p : Part) (start : Lent) (fs : List Fact) (k : Leaves p start fs) where
  -- what was left before, and is not touched now
  still : (f : Fact) (y : Array) (x : ℕ) (d : Written) → x < words_of p y → touches p f y x ≡ false → LastEnded p y x d fs → after_fact p f y x (holds p start fs y x) ≡ datum d x
  unfolding Leaves
  still f y x d hx t before = untouched p f y x _ t ∙ k y x d hx before

  -- what is no program's end adds none
  other-leaves : (f : Fact) → is_end f ≡ false → Leaves p start (f ∷ fs)
  unfolding Leaves holds is_end
  other-leaves f h y x d hx (ended t) = clash refl h
  other-leaves f h y x d hx (since t before) = still f y x d hx t before

  -- a program that asked for no 1 where the word had a 0 leaves its data
  program-leaves : (l : Lent) → Holds p start fs l → (n : Written) → raises n l ≡ false → Leaves p start (program_done n ∷ fs)
  unfolding Leaves Holds holds after_fact
  program-leaves l h n modest y x d hx (ended t) = rw (t, ← h y x hx) (modest-leaves p n l modest y x t)
  program-leaves l h n modest y x d hx (since t before) = still (program_done n) y x d hx t before

-- ---- a microsecond, and a cut

module _ (p : Part) (start : Lent) (fs : List Fact) (l : Lent) (h : Holds p start fs l) (k : Leaves p start fs) where
  program-goes : (q : Program) → raises q.writes l ≡ false
      → Leaves p start (if eqb (suc (program_time p - q.left)) (program_time p) then program_done q.writes ∷ fs else fs)
  program-goes q m =
      by-test (Leaves p start) (eqb (suc (program_time p - q.left)) (program_time p)) (λ _. program-leaves p start fs k l h q.writes m) (λ _. k)

  erase-goes : (e : Erase) (full : ℕ) → Leaves p start (if eqb (suc (full - e.left)) full then erase_done e.hand ∷ fs else fs)
  unfolding is_end
  erase-goes e full = by-test (Leaves p start) (eqb (suc (full - e.left)) full) (λ _. other-leaves p start fs k (erase_done e.hand) refl) (λ _. k)

  inside-leaves : (e : Erase) (i : Inside) → raises_inside l i ≡ false → Leaves p start (comes p (seen_inside p e i) fs)
  unfolding comes seen_inside raises_inside
  inside-leaves e Nothing m = k
  inside-leaves e (Runs q) m = program-goes q m

  pub op-leaves : (o : Operation) → Modest l o → Leaves p start (comes p (seen_op p o) fs)
  unfolding comes seen_op raises_in
  op-leaves Idle m = k
  op-leaves (Programming q) m = program-goes q m
  op-leaves (ProgramSuspended q) m = k
  op-leaves (Window e) m = k
  op-leaves (Erasing e) m = erase-goes e (erase_time p)
  op-leaves (Recovering r) m = k
  op-leaves (EraseSuspended s) m = inside-leaves s.erase s.inside m
  op-leaves (ChipErasing e) m = erase-goes e (chip_time p)
  op-leaves InOneTime m = k
  op-leaves (OneTimeProgramming q) m = program-goes q m

module _ (p : Part) (start : Lent) where
  block-leaves : (g b : ℕ) (debris : List ℕ) (fs : List Fact) → Leaves p start fs → Leaves p start (erase_cuts g b debris fs)
  unfolding is_end
  block-leaves g b debris fs k = by-test (Leaves p start) (ltb 0 g) (λ _. other-leaves p start fs k (erase_cut b debris) refl) (λ _. k)

  word-leaves : (g : ℕ) (d : Written) (debris : List ℕ) (fs : List Fact) → Leaves p start fs → Leaves p start (program_cuts g d debris fs)
  unfolding is_end
  word-leaves g d debris fs k = by-test (Leaves p start) (ltb 0 g) (λ _. other-leaves p start fs k (program_cut d debris) refl) (λ _. k)

  pub cut-leaves : (h : Doing) (debris : List ℕ) (fs : List Fact) → Leaves p start fs → Leaves p start (cuts p h debris fs)
  unfolding cuts
  cut-leaves nothing debris fs k = k
  cut-leaves (programs d g) debris fs k = word-leaves g d debris fs k
  cut-leaves (waits l b g) debris fs k = k
  cut-leaves (erases l b g) debris fs k = block-leaves g b debris fs k
  cut-leaves (recovers l b g n) debris fs k = block-leaves g b debris fs k
  cut-leaves (wipes l b g) debris fs k = block-leaves g b debris fs k
  cut-leaves (rests l b g) debris fs k = block-leaves g b debris fs k
  cut-leaves (programs_in d pg l b g) debris fs k = word-leaves pg d _ _ (block-leaves g b debris fs k)
  cut-leaves entered debris fs k = k
  cut-leaves (programs_entered d g) debris fs k = word-leaves g d debris fs k
