-- What is foreseen of an idle device: no change, the end at once, and a cut that needs nothing.
use Prim.Native.Nat.{ℕ}
use mathlib.Core.Path.{◌≡◌}
use mathlib.Core.Bool.{true}
use mathlib.Core.List.{List}
use Rattle.std.specs.Prelude.{if◌then◌else◌}
use Rattle.plain.specs.Cut.{begun_block, begun_program, block_debris, program_debris, debris_needed}
use Rattle.plain.specs.Operations.{running_of}
use Rattle.plain.specs.Sound.{sound}
use Rattle.plain.proofs.Tools.{by_cases}
use Rattle.layout.specs.Image.{device_of, idle_words}
use Rattle.layout.proofs.Idle.{idle-device}
use Rattle.face.specs.Face.{part_named, stands, stands_sound, none}
use Rattle.remaining.specs.Remaining.{change_of, until_end}
use Rattle.judged.specs.Foreseen.{end_now, change_now, debris_now}
use Rattle.outlook.specs.Foreseen.{change_time, change_block, change_word, change_array, face_until_end, face_until_change, face_changing_block, face_changing_word, face_changing_array, face_debris_needed}

module _ (part : ℕ) (i : List ℕ) (idle : idle_words i ≡ true) where
  pub no_change : face_until_change part i ≡ none
  unfolding face_until_change change_now change_of running_of change_time
  no_change =
      by_cases (stands part i)
      (λ s. by_cases (sound (part_named part) (device_of i)) (λ t. rw (s, t, idle-device i idle)) (λ t. rw (s, t)))
      (λ s. rw s)

  pub no_changing_block : face_changing_block part i ≡ none
  unfolding face_changing_block change_now change_of running_of change_block
  no_changing_block =
      by_cases (stands part i)
      (λ s. by_cases (sound (part_named part) (device_of i)) (λ t. rw (s, t, idle-device i idle)) (λ t. rw (s, t)))
      (λ s. rw s)

  pub no_changing_word : face_changing_word part i ≡ none
  unfolding face_changing_word change_now change_of running_of change_word
  no_changing_word =
      by_cases (stands part i)
      (λ s. by_cases (sound (part_named part) (device_of i)) (λ t. rw (s, t, idle-device i idle)) (λ t. rw (s, t)))
      (λ s. rw s)

  pub no_changing_array : face_changing_array part i ≡ none
  unfolding face_changing_array change_now change_of running_of change_array
  no_changing_array =
      by_cases (stands part i)
      (λ s. by_cases (sound (part_named part) (device_of i)) (λ t. rw (s, t, idle-device i idle)) (λ t. rw (s, t)))
      (λ s. rw s)

  pub ended : face_until_end part i ≡ (if stands_sound part i then 0 else none)
  unfolding face_until_end stands_sound end_now until_end running_of
  ended =
      by_cases (stands part i)
      (λ s. by_cases (sound (part_named part) (device_of i)) (λ t. rw (s, t, idle-device i idle)) (λ t. rw (s, t)))
      (λ s. rw s)

  pub no_debris : face_debris_needed part i ≡ (if stands_sound part i then 0 else none)
  unfolding face_debris_needed stands_sound debris_now debris_needed block_debris begun_block program_debris begun_program
  no_debris =
      by_cases (stands part i)
      (λ s. by_cases (sound (part_named part) (device_of i)) (λ t. rw (s, t, idle-device i idle)) (λ t. rw (s, t)))
      (λ s. rw s)
