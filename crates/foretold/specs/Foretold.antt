-- What is promised of the times left, over the plain machine's microseconds: just then, and not before.
use Rattle.std.specs.Prelude.{ℕ, ◌<◌, ◌≡◌, Bool, true, false, ◌&&◌, eqb, leb}
use Rattle.geometry.specs.declared.Part.{Part}
use Rattle.protection.specs.declared.Protection.{Protection}
use Rattle.plain.specs.declared.Array.{Array}
use Rattle.plain.specs.declared.Command.{Command}
use Rattle.plain.specs.declared.Running.{Running}
use Rattle.plain.specs.declared.Running.TheVariants.{Still, Programs, Waits, Erases, Recovers, ErasesChip}
use Rattle.plain.specs.Holds.{in_block}
use Rattle.plain.specs.Lent.{Lent, words_of, word_at, Whole}
use Rattle.plain.specs.Operations.{running_of, suspension_of, is_entered}
use Rattle.plain.specs.Programs.{same, finished}
use Rattle.plain.specs.Record.{program_left, erase_left, recovery}
use Rattle.plain.specs.Sound.{is_still}
use Rattle.plain.specs.Status.{look}
use Rattle.plain.specs.Time.{Moment, erase_finished, ticks}
use Rattle.remaining.specs.declared.Change.{Change}
use Rattle.remaining.specs.declared.Change.TheVariants.{Never, WindowEnds, RecoveryEnds, WordDone, BlockDone}
use Rattle.remaining.specs.Remaining.{Fits, change_of, until_end}

-- ---- the end: something runs before it, and nothing from then on

abbrev pub EndsThen : Part → Type 0
EndsThen p =
    (m : Moment) → Fits p m.operation → (k : ℕ) → is_still (running_of (ticks p k m).operation) ≡ leb (until_end p (running_of m.operation)) k

-- ---- the next change

-- has it come after k microseconds, and does it come just then?
unfoldable pub come_by : Change → (k : ℕ) → Bool
come_by Never k = false
come_by (WindowEnds n) k = leb n k
come_by (RecoveryEnds n) k = leb n k
come_by (WordDone f) k = leb f.after k
come_by (BlockDone f) k = leb f.after k

unfoldable pub comes_at : Change → (k : ℕ) → Bool
comes_at Never k = false
comes_at (WindowEnds n) k = eqb n k
comes_at (RecoveryEnds n) k = eqb n k
comes_at (WordDone f) k = eqb f.after k
comes_at (BlockDone f) k = eqb f.after k

-- the word at x of an array may change with it
unfoldable pub changes_at : Part → Change → Array → (x : ℕ) → Bool
changes_at p Never y x = false
changes_at p (WindowEnds n) y x = false
changes_at p (RecoveryEnds n) y x = false
changes_at p (WordDone f) y x = same y f.array && eqb x f.at
changes_at p (BlockDone f) y x = in_block p f.at y x

-- what runs, but for its time left
unfoldable pub timeless : Running → Running
timeless Still = Still
timeless (Programs q) = Programs (program_left q 0)
timeless (Waits e) = Waits (erase_left e 0)
timeless (Erases e) = Erases (erase_left e 0)
timeless (Recovers r) = Recovers (recovery r.erase 0)
timeless (ErasesChip e) = ErasesChip (erase_left e 0)

-- no word of either array has changed, the same runs and rests, and every read gives what it gave
pub record Unchanged (p : Part) (before after : Moment) : Type 0 where
  pub lent : after.lent ≡ before.lent
  pub runs : timeless (running_of after.operation) ≡ timeless (running_of before.operation)
  pub rests : suspension_of after.operation ≡ suspension_of before.operation
  pub reads : (bits : Protection) (c : Command) (a : ℕ) → (look p bits c after.operation after.lent a).word ≡ (look p bits c before.operation before.lent a).word

abbrev pub UnchangedTill : Part → Type 0
UnchangedTill p = (m : Moment) (k : ℕ) → come_by (change_of (running_of m.operation)) k ≡ false → Unchanged p m (ticks p k m)

-- what the last microsecond makes of the cells: "Cells change only when a word or block is finished."
unfoldable pub completed : Part → Running → Lent → Lent
completed p Still l = l
completed p (Programs q) l = finished q.writes l
completed p (Waits e) l = l
completed p (Erases e) l = erase_finished p e l
completed p (Recovers r) l = l
completed p (ErasesChip e) l = erase_finished p e l

-- something else runs, or nothing; the one-time block is entered if it was; what was in hand is finished, and no word of either array has
-- changed but where it was told
pub record Changed (p : Part) (before after : Moment) : Type 0 where
  pub lent : after.lent ≡ completed p (running_of before.operation) before.lent
  pub runs : timeless (running_of after.operation) ≡ timeless (running_of before.operation) → ⊥
  pub mode : is_entered (suspension_of after.operation) ≡ is_entered (suspension_of before.operation)
  pub elsewhere : (y : Array) (x : ℕ) → x < words_of p y → changes_at p (change_of (running_of before.operation)) y x ≡ false
      → word_at after.lent y x ≡ word_at before.lent y x

abbrev pub ChangedThen : Part → Type 0
ChangedThen p =
    (m : Moment) → Fits p m.operation → Whole p m.lent → (k : ℕ)
    → comes_at (change_of (running_of m.operation)) k ≡ true → Changed p m (ticks p k m)
