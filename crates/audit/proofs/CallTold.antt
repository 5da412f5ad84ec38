-- What the header's functions tell of words that stand for a sound record, and that none of it is K5L_NONE, but for a next change where
-- nothing runs.
use Prim.Native.Nat.{ℕ, suc, ◌+◌, ◌-◌, ◌*◌, ◌<◌}
use mathlib.Core.Path.{◌≡◌, refl, sym}
use mathlib.Core.Bool.{true}
use mathlib.Core.List.{List}
use native.Mathlib.Omega.{arith}
use lib.Dec.{eqb, lit<, lit≤}
use borrow.Author.Tests.{eq-eqb, ne_eqb}
use Rattle.blocks.specs.declared.Blocks.{Blocks}
use Rattle.geometry.specs.declared.Part.{Part}
use Rattle.protection.specs.declared.Protection.{Protection}
use Rattle.plain.specs.declared.Erase.{Erase}
use Rattle.plain.specs.declared.Inside.{Inside}
use Rattle.plain.specs.declared.Inside.TheVariants.{Nothing, Runs}
use Rattle.plain.specs.declared.Operation.{Operation}
use Rattle.plain.specs.declared.Operation.TheVariants.{Idle, Programming, ProgramSuspended, Window, Erasing, Recovering, EraseSuspended, ChipErasing, InOneTime, OneTimeProgramming}
use Rattle.plain.specs.declared.Running.{Running}
use Rattle.plain.specs.declared.Running.TheVariants.{Still, Programs, Waits, Erases, Recovers, ErasesChip}
use Rattle.plain.specs.Cut.{debris_needed}
use Rattle.plain.specs.Figures.{program_time, window_time, erase_time, recovery_time, chip_time}
use Rattle.plain.specs.Operations.{running_of, running_inside}
use Rattle.plain.specs.Record.{suspended}
use Rattle.plain.specs.Sound.{operation_sound, sound, is_still}
use Rattle.plain.proofs.Facts.{sound-operation, programming, window, erasing, recovering, inside-runs, chip-erasing, one-time-programming}
use Rattle.plain.proofs.Tools.{both_left, both_right}
use Rattle.remaining.specs.declared.Change.{Change}
use Rattle.remaining.specs.Remaining.{to_come, until_end, change_of}
use Rattle.remaining.proofs.Counting.{rest-sums}
use Rattle.layout.specs.Image.{device_of}
use Rattle.judged.specs.Foreseen.{end_now, change_now, debris_now}
use Rattle.face.specs.Face.{part_named, stands, stands_sound, none}
use Rattle.outlook.specs.Foreseen.{change_time, change_block, change_word, change_array, face_until_end, face_until_change, face_changing_block, face_changing_word, face_changing_array, face_debris_needed}
use Rattle.audit.specs.CallForeseen.{runs_in, ToldCalls}

-- ---- what is told of words that stand for a sound record

module _ (part : ℕ) (i : List ℕ) (s : stands_sound part i ≡ true) where
  pub stood : stands part i ≡ true
  unfolding stands_sound
  stood = both_left (stands part i) _ s

  pub judged : sound (part_named part) (device_of i) ≡ true
  unfolding stands_sound
  judged = both_right (stands part i) _ s

  abbrev pub change : Change
  change = change_of (runs_in i)

  pub end-told : face_until_end part i ≡ until_end (part_named part) (runs_in i)
  unfolding face_until_end end_now
  end-told = rw (stood, judged)

  pub time-told : face_until_change part i ≡ change_time change
  unfolding face_until_change change_now
  time-told = rw (stood, judged)

  pub block-told : face_changing_block part i ≡ change_block change
  unfolding face_changing_block change_now
  block-told = rw (stood, judged)

  pub word-told : face_changing_word part i ≡ change_word change
  unfolding face_changing_word change_now
  word-told = rw (stood, judged)

  pub array_told : face_changing_array part i ≡ change_array change
  unfolding face_changing_array change_now
  array_told = rw (stood, judged)

  pub debris-told : face_debris_needed part i ≡ debris_needed (part_named part) (device_of i).operation
  unfolding face_debris_needed debris_now
  debris-told = rw (stood, judged)

-- ---- no time is K5L_NONE

module _ (p : Part) where
  times-short : (program_time p < 1000000) × ((window_time p < 1000000) × ((erase_time p < 1000000) × ((chip_time p < 1000000) × (recovery_time p < 1000000))))
  unfolding program_time window_time erase_time chip_time recovery_time
  times-short = (lit≤ tt, (lit≤ tt, (lit≤ tt, (lit≤ tt, lit≤ tt))))

  rest-short : (list : Blocks) (hand left full : ℕ) → left < 1000000 → full < 1000000 → left + to_come p list hand * full + full < none
  rest-short list hand left full g h = omega (arith, (rest-sums p list hand full (suc left) (omega arith) (omega arith)).1)

  module _ (bits : Protection) where
    inside-short : (e : Erase) (i : Inside) → operation_sound p bits (EraseSuspended (suspended e i)) ≡ true → until_end p (running_inside i) < none
    unfolding running_inside until_end
    inside-short e Nothing s = lit< tt
    inside-short e (Runs q) s = omega (arith, (inside-runs p bits (suspended e (Runs q)) q s refl).program.most-left, times-short.0)

    end_short : (o : Operation) → operation_sound p bits o ≡ true → until_end p (running_of o) < none
    unfolding running_of until_end
    end_short Idle s = lit< tt
    end_short (Programming q) s = omega (arith, (programming p bits q s).most-left, times-short.0)
    end_short (ProgramSuspended q) s = lit< tt
    end_short (Window e) s =
        let few : e.left < 1000000 = omega (arith, (window p bits e s).erase.most-left, times-short.1.0) in
        omega (arith, rest-short e.list e.hand e.left (erase_time p) few times-short.1.1.0)
    end_short (Erasing e) s =
        let few : e.left < 1000000 = omega (arith, (erasing p bits e s).erase.most-left, times-short.1.1.0) in
        omega (arith, rest-short e.list e.hand e.left (erase_time p) few times-short.1.1.0)
    end_short (Recovering r) s = omega (arith, (recovering p bits r s).most-left, times-short.1.1.1.1)
    end_short (EraseSuspended s) h = inside-short s.erase s.inside h
    end_short (ChipErasing e) s =
        let few : e.left < 1000000 = omega (arith, (chip-erasing p bits e s).most-left, times-short.1.1.1.0) in
        omega (arith, rest-short e.list e.hand e.left (chip_time p) few times-short.1.1.1.0)
    end_short InOneTime s = lit< tt
    end_short (OneTimeProgramming q) s = omega (arith, (one-time-programming p bits q s).most-left, times-short.0)

  -- where anything runs the next change has a time
  time-short : (x : Running) → until_end p x < none → is_still x ≡ eqb (change_time (change_of x)) none
  unfolding is_still until_end change_time change_of
  time-short Still h = sym (eq-eqb none none refl)
  time-short (Programs q) h = sym (ne_eqb q.left none (λ d. omega (arith, h, d)))
  time-short (Waits e) h = sym (ne_eqb e.left none (λ d. omega (arith, h, d)))
  time-short (Erases e) h = sym (ne_eqb e.left none (λ d. omega (arith, h, d)))
  time-short (Recovers r) h = sym (ne_eqb r.left none (λ d. omega (arith, h, d)))
  time-short (ErasesChip e) h = sym (ne_eqb e.left none (λ d. omega (arith, h, d)))

pub told-calls : ToldCalls
told-calls part words t at n time s end change =
    let p = part_named part in
    let r = device_of words in
    let short = end_short p r.bits r.operation (sound-operation p r (judged part words s) r.operation refl) in
    rw (end, change, end-told part words s, time-told part words s) (short, time-short p (runs_in words) short)
