-- What is under way in a run, as its history tells it: what a microsecond, a command and a cut make of it.
use Rattle.std.specs.Prelude.{ℕ, suc, Bool, true, false, List, ◌∷◌, ltb, eqb, drop}
use Rattle.blocks.specs.declared.Blocks.{Blocks}
use Rattle.blocks.specs.Blocks.{first_from}
use Rattle.geometry.specs.declared.Part.{Part}
use Rattle.geometry.specs.Parts.{block_count, size_of}
use Rattle.plain.specs.declared.Written.{Written}
use Rattle.std.specs.Prelude.{if◌then◌else◌}
use Rattle.plain.specs.Figures.{program_time, window_time, erase_time, recovery_time, chip_time, running_current, standby_current}
use Rattle.plain.specs.Holds.{Fact, program_done, erase_done, program_cut, erase_cut}

-- what is under way: `gone` is the time in which it made progress. An erase that B0H has stopped past its window recovers first, and
-- `over` is the time of that which is over: the block makes no progress in it. While the one-time block is entered nothing is under way
-- there but a program
pub data Doing : Type 0 where
  nothing : Doing
  programs : Written → (gone : ℕ) → Doing
  waits : (list : Blocks) → (block gone : ℕ) → Doing
  erases : (list : Blocks) → (block gone : ℕ) → Doing
  recovers : (list : Blocks) → (block gone over : ℕ) → Doing
  wipes : (list : Blocks) → (block gone : ℕ) → Doing
  rests : (list : Blocks) → (block gone : ℕ) → Doing
  programs_in : Written → (program_gone : ℕ) → (list : Blocks) → (block gone : ℕ) → Doing
  entered : Doing
  programs_entered : Written → (gone : ℕ) → Doing

-- ---- a microsecond

-- "Running programs and erases draw 17,000 pC per µs .. Every other µs .. draws 15 pC"; in a recovery "running current is drawn": so
-- it is 17,000 pC for each microsecond in which something made progress or an erase recovered
unfoldable pub draws : Part → Doing → ℕ
draws p nothing = standby_current p
draws p (programs d g) = running_current p
draws p (waits l b g) = standby_current p
draws p (erases l b g) = running_current p
draws p (recovers l b g n) = running_current p
draws p (wipes l b g) = running_current p
draws p (rests l b g) = standby_current p
draws p (programs_in d pg l b g) = running_current p
draws p entered = standby_current p
draws p (programs_entered d g) = running_current p

-- the next listed block in its turn, or nothing more
abbrev pub turns_to : Part → (Blocks → ℕ → ℕ → Doing) → Blocks → (b : ℕ) → Doing
turns_to p goes l b = if ltb (first_from l (suc b)) (block_count p) then goes l (first_from l (suc b)) 0 else nothing

-- "A program is finished when the time in which it made progress .. makes its full time; an erase finishes block by block"; none
-- finishes in a recovery, which ends in suspension
unfoldable pub goes : Part → Doing → Doing
goes p nothing = nothing
goes p (programs d g) = if eqb (suc g) (program_time p) then nothing else programs d (suc g)
goes p (waits l b g) = if eqb (suc g) (window_time p) then erases l b 0 else waits l b (suc g)
goes p (erases l b g) = if eqb (suc g) (erase_time p) then turns_to p erases l b else erases l b (suc g)
goes p (recovers l b g n) = if eqb (suc n) (recovery_time p) then rests l b g else recovers l b g (suc n)
goes p (wipes l b g) = if eqb (suc g) (chip_time p) then turns_to p wipes l b else wipes l b (suc g)
goes p (rests l b g) = rests l b g
goes p (programs_in d pg l b g) = if eqb (suc pg) (program_time p) then rests l b g else programs_in d (suc pg) l b g
goes p entered = entered
goes p (programs_entered d g) = if eqb (suc g) (program_time p) then entered else programs_entered d (suc g)

unfoldable pub comes : Part → Doing → List Fact → List Fact
comes p nothing fs = fs
comes p (programs d g) fs = if eqb (suc g) (program_time p) then program_done d ∷ fs else fs
comes p (waits l b g) fs = fs
comes p (erases l b g) fs = if eqb (suc g) (erase_time p) then erase_done b ∷ fs else fs
comes p (recovers l b g n) fs = fs
comes p (wipes l b g) fs = if eqb (suc g) (chip_time p) then erase_done b ∷ fs else fs
comes p (rests l b g) fs = fs
comes p (programs_in d pg l b g) fs = if eqb (suc pg) (program_time p) then program_done d ∷ fs else fs
comes p entered fs = fs
comes p (programs_entered d g) fs = if eqb (suc g) (program_time p) then program_done d ∷ fs else fs

-- ---- an accepted write

unfoldable pub begins_program : Doing → Written → Doing
begins_program nothing n = programs n 0
begins_program (programs d g) n = programs n 0
begins_program (waits l b g) n = programs n 0
begins_program (erases l b g) n = programs n 0
begins_program (recovers l b g o) n = programs n 0
begins_program (wipes l b g) n = programs n 0
begins_program (rests l b g) n = programs_in n 0 l b g
begins_program (programs_in d pg l b g) n = programs_in n 0 l b g
begins_program entered n = programs_entered n 0
begins_program (programs_entered d g) n = programs_entered n 0

unfoldable pub goes_on : Doing → Doing
goes_on nothing = nothing
goes_on (programs d g) = programs d g
goes_on (waits l b g) = waits l b g
goes_on (erases l b g) = erases l b g
goes_on (recovers l b g n) = recovers l b g n
goes_on (wipes l b g) = wipes l b g
goes_on (rests l b g) = erases l b g
goes_on (programs_in d pg l b g) = erases l b g
goes_on entered = entered
goes_on (programs_entered d g) = programs_entered d g

-- is the one-time block entered?
unfoldable pub has_entered : Doing → Bool
has_entered nothing = false
has_entered (programs d g) = false
has_entered (waits l b g) = false
has_entered (erases l b g) = false
has_entered (recovers l b g n) = false
has_entered (wipes l b g) = false
has_entered (rests l b g) = false
has_entered (programs_in d pg l b g) = false
has_entered entered = true
has_entered (programs_entered d g) = true

-- ---- a cut

-- what made some progress is cut short: the erase first, the program after it, with the debris after the block's
abbrev pub erase_cuts : (gone b : ℕ) → (debris : List ℕ) → List Fact → List Fact
erase_cuts g b debris fs = if ltb 0 g then erase_cut b debris ∷ fs else fs

abbrev pub program_cuts : (gone : ℕ) → Written → (debris : List ℕ) → List Fact → List Fact
program_cuts g d debris fs = if ltb 0 g then program_cut d debris ∷ fs else fs

unfoldable pub cuts : Part → Doing → (debris : List ℕ) → List Fact → List Fact
cuts p nothing debris fs = fs
cuts p (programs d g) debris fs = program_cuts g d debris fs
cuts p (waits l b g) debris fs = fs
cuts p (erases l b g) debris fs = erase_cuts g b debris fs
cuts p (recovers l b g n) debris fs = erase_cuts g b debris fs
cuts p (wipes l b g) debris fs = erase_cuts g b debris fs
cuts p (rests l b g) debris fs = erase_cuts g b debris fs
cuts p (programs_in d pg l b g) debris fs = program_cuts pg d (drop (if ltb 0 g then size_of p b else 0) debris) (erase_cuts g b debris fs)
cuts p entered debris fs = fs
cuts p (programs_entered d g) debris fs = program_cuts g d debris fs
