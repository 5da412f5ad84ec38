-- What a C program is told of what is to come; `none` where there is nothing to tell.
use Rattle.std.specs.Prelude.{Option}
use Rattle.std.specs.Prelude.{ℕ, List}
use Rattle.std.specs.Prelude.{if◌then◌else◌}
use Rattle.layout.specs.Image.{device_of}
use Rattle.remaining.specs.declared.Change.{Change}
use Rattle.remaining.specs.declared.Change.TheVariants.{Never, WindowEnds, RecoveryEnds, WordDone, BlockDone}
use Rattle.judged.specs.Foreseen.{end_now, change_now, debris_now}
use Rattle.face.specs.Face.{part_named, stands, none, number_or_none, array_number}

-- ---- as numbers

abbrev pub figure_number : Option ℕ → ℕ
figure_number = number_or_none

-- when the device changes, and the block, or the word and its array, that is finished then
unfoldable pub change_time : Change → ℕ
change_time Never = none
change_time (WindowEnds n) = n
change_time (RecoveryEnds n) = n
change_time (WordDone f) = f.after
change_time (BlockDone f) = f.after

unfoldable pub change_block : Change → ℕ
change_block Never = none
change_block (WindowEnds n) = none
change_block (RecoveryEnds n) = none
change_block (WordDone f) = none
change_block (BlockDone f) = f.at

unfoldable pub change_word : Change → ℕ
change_word Never = none
change_word (WindowEnds n) = none
change_word (RecoveryEnds n) = none
change_word (WordDone f) = f.at
change_word (BlockDone f) = none

unfoldable pub change_array : Change → ℕ
change_array Never = none
change_array (WindowEnds n) = none
change_array (RecoveryEnds n) = none
change_array (WordDone f) = array_number f.array
change_array (BlockDone f) = none

-- ---- of the record that the words stand for

unfoldable pub face_until_end : (part : ℕ) → List ℕ → ℕ
face_until_end part i = if stands part i then figure_number (end_now (part_named part) (device_of i)) else none

unfoldable pub face_until_change : (part : ℕ) → List ℕ → ℕ
face_until_change part i = if stands part i then change_time (change_now (part_named part) (device_of i)) else none

unfoldable pub face_changing_block : (part : ℕ) → List ℕ → ℕ
face_changing_block part i = if stands part i then change_block (change_now (part_named part) (device_of i)) else none

unfoldable pub face_changing_word : (part : ℕ) → List ℕ → ℕ
face_changing_word part i = if stands part i then change_word (change_now (part_named part) (device_of i)) else none

unfoldable pub face_changing_array : (part : ℕ) → List ℕ → ℕ
face_changing_array part i = if stands part i then change_array (change_now (part_named part) (device_of i)) else none

unfoldable pub face_debris_needed : (part : ℕ) → List ℕ → ℕ
face_debris_needed part i = if stands part i then figure_number (debris_now (part_named part) (device_of i)) else none
