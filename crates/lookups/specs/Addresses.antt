-- What a C program is told of an address, by the part's number: `none` where there is no such part, or no such word in it.
use Rattle.std.specs.Prelude.{ℕ, ltb}
use Rattle.geometry.specs.Parts.{word_count, block_of, bank_of}
use Rattle.std.specs.Prelude.{if◌then◌else◌}
use Rattle.face.specs.Face.{is_part, part_named, none}

unfoldable pub face_block_of : (part address : ℕ) → ℕ
face_block_of part a =
    if is_part part then (if ltb a (word_count (part_named part)) then block_of (part_named part) a else none) else none

unfoldable pub face_bank_of : (part address : ℕ) → ℕ
face_bank_of part a =
    if is_part part then (if ltb a (word_count (part_named part)) then bank_of (part_named part) a else none) else none
