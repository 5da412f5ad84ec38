-- How long what runs has still to go if nobody writes: until the device next changes by itself, and until nothing runs any more.
use Rattle.std.specs.Prelude.{ℕ, zero, suc, ◌+◌, ◌-◌, ◌*◌, ◌≡◌, Bool, true, cond}
use Rattle.blocks.specs.declared.Blocks.{Blocks}
use Rattle.blocks.specs.Blocks.{has}
use Rattle.geometry.specs.declared.Part.{Part}
use Rattle.geometry.specs.Parts.{block_count}
use Rattle.protection.specs.declared.Protection.{Protection}
use Rattle.plain.specs.declared.Array.{Array}
use Rattle.plain.specs.declared.Operation.{Operation}
use Rattle.plain.specs.declared.Running.{Running}
use Rattle.plain.specs.declared.Running.TheVariants.{Still, Programs, Waits, Erases, Recovers, ErasesChip}
use Rattle.plain.specs.Figures.{erase_time, chip_time}
use Rattle.plain.specs.Programs.{first_word, array_written}
use Rattle.plain.specs.Sound.{operation_sound}
use Rattle.remaining.specs.declared.Change.{Change}
use Rattle.remaining.specs.declared.Change.TheVariants.{Never, WindowEnds, RecoveryEnds, WordDone, BlockDone}
use Rattle.remaining.specs.declared.Finish.{Finish}
use Rattle.remaining.specs.declared.WordFinish.{WordFinish}

-- the operation is sound under some protection
pub record Fits (p : Part) (o : Operation) : Type 0 where
  pub bits : Protection
  pub sound : operation_sound p bits o ≡ true

-- ---- the next change: the window or a recovery ends, a word of one of the arrays or a block is finished

abbrev pub finish : (after at : ℕ) → Finish
finish n x = record { after = n; at = x }

abbrev pub word_finish : (after : ℕ) → Array → (at : ℕ) → WordFinish
word_finish n y x = record { after = n; array = y; at = x }

unfoldable pub change_of : Running → Change
change_of Still = Never
change_of (Programs q) = WordDone (word_finish q.left (array_written q.writes) (first_word q.writes))
change_of (Waits e) = WindowEnds e.left
change_of (Erases e) = BlockDone (finish e.left e.hand)
change_of (Recovers r) = RecoveryEnds r.left
change_of (ErasesChip e) = BlockDone (finish e.left e.hand)

-- ---- the end of all that runs

-- how many of the k numbers from n on pass the test
unfoldable pub counted : (ℕ → Bool) → (k n : ℕ) → ℕ
counted test zero n = 0
counted test (suc k) n = cond (test n) 1 0 + counted test k (suc n)

-- how many listed blocks lie above the one in hand: "listed blocks are erased in rising number"
unfoldable pub to_come : Part → Blocks → (hand : ℕ) → ℕ
to_come p list hand = counted (has list) (block_count p - suc hand) (suc hand)

-- "700,000 µs each" in a block erase, "500,000 µs each" in a chip erase; in the window the block in hand has its time yet to run, too;
-- after a recovery the erase is suspended, and runs no more
unfoldable pub until_end : Part → Running → ℕ
until_end p Still = 0
until_end p (Programs q) = q.left
until_end p (Waits e) = e.left + erase_time p + to_come p e.list e.hand * erase_time p
until_end p (Erases e) = e.left + to_come p e.list e.hand * erase_time p
until_end p (Recovers r) = r.left
until_end p (ErasesChip e) = e.left + to_come p e.list e.hand * chip_time p
