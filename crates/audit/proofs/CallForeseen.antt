-- What `k5l_until_end`, `k5l_until_change` with its block, word and array, and `k5l_debris_needed` tell of a record comes so.
use Prim.Native.Nat.{ℕ, ◌-◌, ◌<◌}
use mathlib.Core.Path.{◌≡◌, refl, sym, ap, ◌∙◌}
use mathlib.Core.Bool.{true, false, ◌&&◌}
use mathlib.Core.List.{List}
use native.Mathlib.Omega.{arith}
use lib.Dec.{eqb, leb}
use borrow.Author.Tests.{lt-leb, eq-eqb, ne_eqb}
use Rattle.geometry.specs.declared.Part.{Part}
use Rattle.plain.specs.declared.Array.{Array}
use Rattle.plain.specs.declared.Array.TheVariants.{Main, OneTime}
use Rattle.plain.specs.declared.Refusal.TheVariants.{Done}
use Rattle.plain.specs.declared.Device.{Device}
use Rattle.plain.specs.Events.{read, wait, cut}
use Rattle.plain.specs.Figures.{clock_limit}
use Rattle.plain.specs.Holds.{in_block}
use Rattle.plain.specs.Lent.{Lent}
use Rattle.plain.specs.Machine.{Outcome, Fit, read_event, wait_event, cut_event, step}
use Rattle.plain.specs.Programs.{same}
use Rattle.plain.specs.Refusals.{number}
use Rattle.plain.specs.Sound.{is_still}
use Rattle.plain.proofs.EventLaws.{cut-debris, cut-passes}
use Rattle.plain.proofs.Tools.{both, both_left, by_cases}
use Rattle.remaining.specs.declared.Change.{Change}
use Rattle.remaining.specs.declared.Change.TheVariants.{Never, WindowEnds, RecoveryEnds, WordDone, BlockDone}
use Rattle.remaining.specs.Remaining.{change_of}
use Rattle.foretold.specs.Foretold.{come_by, comes_at, changes_at}
use Rattle.layout.specs.Image.{image_of, device_of}
use Rattle.layout.specs.Promises.{Fits}
use Rattle.layout.proofs.Round.{round}
use Rattle.face.specs.Face.{Faced, is_part, part_named, stands, stands_sound, shown, none, array_number}
use Rattle.outlook.specs.Foreseen.{change_time, change_block, change_word, change_array, face_until_end}
use Rattle.audit.specs.Called.{Called, lent_after}
use Rattle.audit.specs.CallForeseen.{runs_in, EndForeseenCalls, EndNearsCalls, AsBeforeCalls, JustChangedCalls, ChangeForeseenCalls, DebrisForeseenCalls}
use Rattle.audit.proofs.Data.{Brief, image-fits, step_fits}
use Rattle.audit.proofs.Called.{called_is, called-none, called-some, calls-stay-sound}
use Rattle.audit.proofs.Calls.{same-refusal, on-words}
use Rattle.audit.proofs.CallTold.{stood, judged, end-told, time-told, block-told, word-told, array_told, debris-told}
use Rattle.audit.proofs.Foreseen.{Alike, Taken, taken, later, left, end-then, nears, still-so, same_read, changed, needed-most}

-- ---- a wait that is answered K5L_DONE

wait-brief : (k : ℕ) → Brief (wait k)
unfolding Brief
wait-brief k = tt

module _ (part : ℕ) (words : List ℕ) (l : Lent) (f : Faced) (k : ℕ) (c : Called part words l (wait k) f) (e : f.refusal ≡ number Done) where
  abbrev p : Part
  p = part_named part

  abbrev r : Device
  r = device_of words

  -- the words stand for a record: else it is answered K5L_STATE
  standing : stands part words ≡ true
  unfolding number
  standing =
      by_cases (stands part words) (λ s. s)
      (λ s.
      let wrong : 1 ≡ 0 = ap (λ (x : Faced). x.refusal) (sym (called_is part words l c ∙ called-none part words l (wait k) s)) ∙ e in
      absurd (omega (arith, wrong)))

  known : is_part part ≡ true
  unfolding stands
  known = both_left (is_part part) _ standing

  wait-is : f ≡ shown (wait_event p r l k)
  unfolding step
  wait-is = called_is part words l c ∙ called-some part words l (wait k) standing

  t : Taken p r l k
  t = taken p r l k (same-refusal (wait_event p r l k).answer.refusal Done (ap (λ (x : Faced). x.refusal) (sym wait-is) ∙ e))

  sound-words : stands_sound part words ≡ true
  unfolding stands_sound
  sound-words = both _ _ standing t.fit.sound

  sound-after : stands_sound part f.image ≡ true
  sound-after = calls-stay-sound part words l (wait k) f c sound-words

  left-fits : Fits (left p r l k t)
  unfolding step
  left-fits = rw t.is at (step_fits p r l (image-fits words) (wait k) (wait-brief k))

  image-is : f.image ≡ image_of (left p r l k t)
  image-is = ap (λ (x : Faced). x.image) wait-is ∙ ap (λ (o : Outcome). image_of o.answer.device) t.is

  device-is : device_of f.image ≡ left p r l k t
  device-is = ap device_of image-is ∙ round (left p r l k t) left-fits

  lent_is : lent_after f ≡ (later p r l k t).lent
  lent_is = ap lent_after wait-is ∙ ap (λ (o : Outcome). o.lent) t.is

  -- ---- the end

  end-call : is_still (runs_in f.image) ≡ leb (face_until_end part words) k
  end-call = rw (device-is, end-told part words sound-words) (end-then p r l k t)

  nears-call : face_until_end part f.image ≡ face_until_end part words - k
  nears-call = rw (end-told part f.image sound-after, device-is, end-told part words sound-words) (nears p r l k t)

  -- ---- before the next change

  before-call : come_by (change_of (runs_in words)) k ≡ false → AsBeforeCalls part words l f
  unfolding step Alike
  before-call h =
      let u = still-so p r l k t h in
      record {
        kept = lent_is ∙ u.lent;
        runs = rw device-is u.runs;
        reads = λ a g q was now.
            let one : g ≡ shown (read_event p r l a) = called_is part words l was ∙ called-some part words l (read a) standing in
            let two : q ≡ shown (read_event p (left p r l k t) (later p r l k t).lent a) =
            on-words part known (left p r l k t) f.image (lent_after f) (later p r l k t).lent (read a) q image-is lent_is left-fits now in
            let same = same_read p r l k t h a in
            rw (one, two) (ap number same.0, same.1);
      }

  -- ---- just then

  just-call : comes_at (change_of (runs_in words)) k ≡ true
      → JustChangedCalls part (change_block (change_of (runs_in words))) (change_word (change_of (runs_in words))) (change_array (change_of (runs_in words))) words l f
  unfolding changes_at change_word change_array change_block
  just-call h =
      let u = changed p r l k t h in
      record {
        runs = rw device-is u.runs;
        mode = rw device-is u.mode;
        elsewhere = λ y x g no_word no_block. rw lent_is (u.elsewhere y x g (elsewhere (change_of (runs_in words)) y x no_word no_block));
      }
    where
      other_word : (y z : Array) (x at : ℕ) → (array_number z ≡ array_number y → at ≡ x → ⊥) → (same y z && eqb x at) ≡ false
      other_word Main Main x at no_word = ne_eqb x at (λ s. no_word refl (sym s))
      other_word Main OneTime x at no_word = refl
      other_word OneTime Main x at no_word = refl
      other_word OneTime OneTime x at no_word = ne_eqb x at (λ s. no_word refl (sym s))

      elsewhere : (z : Change) (y : Array) (x : ℕ) → (change_array z ≡ array_number y → change_word z ≡ x → ⊥) → in_block p (change_block z) y x ≡ false → changes_at p z y x ≡ false
      elsewhere Never y x no_word no_block = refl
      elsewhere (WindowEnds n) y x no_word no_block = refl
      elsewhere (RecoveryEnds n) y x no_word no_block = refl
      elsewhere (WordDone d) y x no_word no_block = other_word y d.array x d.at no_word
      elsewhere (BlockDone d) y x no_word no_block = no_block

  -- a wait that is taken is shorter than K5L_NONE
  wait-short : k < none
  unfolding clock_limit
  wait-short = omega (arith, t.in-time)

pub end-foreseen-calls : EndForeseenCalls
end-foreseen-calls part words l f t at n k told c e = rw told (end-call part words l f k c e)

pub end-nears-calls : EndNearsCalls
end-nears-calls part words l f t u at by n m k told c e again = rw (told, again) (nears-call part words l f k c e)

-- the time tells whether it has come
not_yet : (c : Change) (k : ℕ) → k < change_time c → come_by c k ≡ false
unfolding change_time come_by
not_yet Never k h = refl
not_yet (WindowEnds n) k h = lt-leb n k h
not_yet (RecoveryEnds n) k h = lt-leb n k h
not_yet (WordDone d) k h = lt-leb d.after k h
not_yet (BlockDone d) k h = lt-leb d.after k h

comes : (c : Change) (k : ℕ) → k < none → change_time c ≡ k → comes_at c k ≡ true
unfolding change_time comes_at
comes Never k g h = absurd (omega (arith, g, h))
comes (WindowEnds n) k g h = eq-eqb n k h
comes (RecoveryEnds n) k g h = eq-eqb n k h
comes (WordDone d) k g h = eq-eqb d.after k h
comes (BlockDone d) k g h = eq-eqb d.after k h

pub change-foreseen-calls : ChangeForeseenCalls
change-foreseen-calls part words l f t at time block word array k told block-is word-is array-is c e =
    let s = sound-words part words l f k c e in
    rw (told, block-is, word-is, array-is, time-told part words s, block-told part words s, word-told part words s, array_told part words s) (
      (λ h. before-call part words l f k c e (not_yet (change_of (runs_in words)) k h)),
      (λ h. just-call part words l f k c e (comes (change_of (runs_in words)) k (wait-short part words l f k c e) h)),
    )

-- ---- the debris

pub debris-foreseen-calls : DebrisForeseenCalls
unfolding step
debris-foreseen-calls part words l debris f t at n s told whole c =
    let p = part_named part in
    let r = device_of words in
    let is : f ≡ shown (cut_event p r l debris) = called_is part words l c ∙ called-some part words l (cut debris) (stood part words s) in
    let fit : Fit p r l = record { sound = judged part words s; whole = whole } in
    rw (told, debris-told part words s, is) (
      (λ h. ap (λ (o : Outcome). number o.answer.refusal) (cut-passes p r l debris fit h)),
      ((λ h. ap (λ (o : Outcome). number o.answer.refusal) (cut-debris p r l debris fit h)), needed-most p r.operation),
    )
