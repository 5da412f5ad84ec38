-- What a C program is told of a cut that might come, and of the cells that it may map.
use Rattle.std.specs.Prelude.{ℕ, Bool, ◌&&◌, List, ltb}
use Rattle.geometry.specs.Parts.{bank_count}
use Rattle.std.specs.Prelude.{if◌then◌else◌}
use Rattle.layout.specs.Image.{device_of}
use Rattle.judged.specs.Asked.{exposed_now, reads_cells}
use Rattle.face.specs.Face.{part_named, stands, none, place_number, spot_number, spot_array}

-- "The block and the word that a cut would change if it came now, and the array that the word is of, K5L_MAIN or K5L_ONE_TIME; K5L_NONE
-- for none, and for a record that is not sound."
unfoldable pub face_exposed_block : (part : ℕ) → List ℕ → ℕ
face_exposed_block part i = if stands part i then place_number (exposed_now (part_named part) (device_of i)).block else none

unfoldable pub face_exposed_word : (part : ℕ) → List ℕ → ℕ
face_exposed_word part i = if stands part i then spot_number (exposed_now (part_named part) (device_of i)).word else none

unfoldable pub face_exposed_array : (part : ℕ) → List ℕ → ℕ
face_exposed_array part i = if stands part i then spot_array (exposed_now (part_named part) (device_of i)).word else none

-- "Do reads in the bank give the cells and change nothing?" "Of a number that is no bank's: no."
unfoldable pub face_reads_cells : (part : ℕ) → List ℕ → (bank : ℕ) → Bool
face_reads_cells part i bank =
    stands part i && (ltb bank (bank_count (part_named part)) && reads_cells (part_named part) (device_of i) bank)
