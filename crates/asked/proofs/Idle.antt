-- What is told of an idle device: nothing that a cut would change, and the cells of every bank.
use Prim.Native.Nat.{ℕ}
use mathlib.Core.Path.{◌≡◌}
use mathlib.Core.Bool.{Bool, true, ◌&&◌}
use mathlib.Core.List.{List}
use lib.Dec.{ltb}
use Rattle.geometry.specs.Parts.{bank_count}
use Rattle.plain.specs.Cut.{begun_block, begun_program, word_of}
use Rattle.plain.specs.Operations.{running_of, suspension_of}
use Rattle.plain.specs.Sound.{sound}
use Rattle.plain.proofs.Tools.{by_cases}
use Rattle.layout.specs.Image.{device_of, idle_words}
use Rattle.layout.proofs.Idle.{idle-device}
use Rattle.face.specs.Face.{part_named, stands, stands_sound, none, place_number, spot_number, spot_array}
use Rattle.mapping.specs.Mapped.{reading_in, runs_in, rests_in, gives_cells}
use Rattle.judged.specs.Asked.{exposed_now, reads_cells}
use Rattle.asked.specs.Asked.{face_exposed_block, face_exposed_word, face_exposed_array, face_reads_cells}

and-true : (b : Bool) → (b && true) ≡ b
and-true b = by_cases b (λ e. rw e) (λ e. rw e)

module _ (part : ℕ) (i : List ℕ) (idle : idle_words i ≡ true) where
  pub no_block : face_exposed_block part i ≡ none
  unfolding face_exposed_block exposed_now begun_block place_number
  no_block =
      by_cases (stands part i)
      (λ s. by_cases (sound (part_named part) (device_of i)) (λ t. rw (s, t, idle-device i idle)) (λ t. rw (s, t)))
      (λ s. rw s)

  pub no_word : face_exposed_word part i ≡ none
  unfolding face_exposed_word exposed_now begun_program word_of spot_number
  no_word =
      by_cases (stands part i)
      (λ s. by_cases (sound (part_named part) (device_of i)) (λ t. rw (s, t, idle-device i idle)) (λ t. rw (s, t)))
      (λ s. rw s)

  pub no_array : face_exposed_array part i ≡ none
  unfolding face_exposed_array exposed_now begun_program word_of spot_array
  no_array =
      by_cases (stands part i)
      (λ s. by_cases (sound (part_named part) (device_of i)) (λ t. rw (s, t, idle-device i idle)) (λ t. rw (s, t)))
      (λ s. rw s)

  gives : (bank : ℕ) → gives_cells (part_named part) (device_of i).command (device_of i).operation bank ≡ true
  unfolding gives_cells reading_in runs_in rests_in running_of suspension_of
  gives bank = rw (idle-device i idle)

  sound-gives : (bank : ℕ) → reads_cells (part_named part) (device_of i) bank ≡ sound (part_named part) (device_of i)
  unfolding reads_cells
  sound-gives bank = rw (gives bank) (and-true (sound (part_named part) (device_of i)))

  pub every_bank : (bank : ℕ) → face_reads_cells part i bank ≡ (ltb bank (bank_count (part_named part)) && stands_sound part i)
  unfolding face_reads_cells stands_sound
  every_bank bank =
      by_cases (stands part i)
      (λ s. rw (s, sound-gives bank))
      (λ s. by_cases (ltb bank (bank_count (part_named part))) (λ t. rw (s, t)) (λ t. rw (s, t)))
