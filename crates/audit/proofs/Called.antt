-- What a call's contract allows is what the plain machine gives, over the words of its record: so any two results are equal, a sound
-- record stays sound, and number 12 is no answer.
use Prim.Native.Nat.{ℕ, ◌+◌, ◌*◌, ◌<◌}
use mathlib.Core.Path.{◌≡◌, refl, ap, sym, ◌∙◌}
use mathlib.Core.Bool.{true, false}
use mathlib.Core.List.{List}
use native.Mathlib.Omega.{arith}
use lib.Dec.{eqb, lit<}
use borrow.Author.Tests.{eqb-true}
use Rattle.plain.specs.declared.Array.{Array}
use Rattle.plain.specs.declared.Refusal.TheVariants.{State}
use Rattle.plain.specs.declared.Device.{Device}
use Rattle.plain.specs.Events.{Event, read, write, wait, cut, range}
use Rattle.plain.specs.Lent.{Lent, lent, word_at}
use Rattle.plain.specs.Machine.{range_array, range_event, step}
use Rattle.plain.specs.Refusals.{number}
use Rattle.plain.specs.Sound.{sound}
use Rattle.plain.proofs.Refusals.{twelve-unused}
use Rattle.plain.proofs.Tools.{both, both_left, both_right, by_cases}
use Rattle.history.proofs.Kept.{step-sound}
use Rattle.layout.specs.Image.{image_of, device_of}
use Rattle.layout.specs.Promises.{Fits}
use Rattle.layout.proofs.Canonical.{canonical}
use Rattle.layout.proofs.Round.{round, well-formed}
use Rattle.face.specs.Face.{Faced, answered, is_part, part_named, stands, stands_sound, shown, state, faced, packed, face_read, face_write, face_wait, face_cut}
use Rattle.face.specs.Range.{packed_range, face_range}
use Rattle.face.proofs.Faces.{well, read_none, read_some, write-none, write-some, wait-none, wait-some, cut-none, cut-some}
use Rattle.face.proofs.Ranges.{two-arrays, range-first}
use Rattle.audit.specs.Called.{SixteenBits, ThirtyThreeBits, answered_over, lent_after, Called, reads, writes, waits, cuts, ranges}
use Rattle.audit.specs.CallPromises.{SameCall, CallsStaySound, CallsNever12}
use Rattle.audit.proofs.Data.{Brief, image-fits, step_fits}
use Rattle.audit.proofs.Same.{read_keeps, write_keeps, range-tells}
use Rattle.audit.proofs.Words.{read_word, write_word, wait-word, cut_word}

-- the words of a sound record that was left stand for it
pub left-stands : (part : ℕ) (r : Device) → is_part part ≡ true → Fits r → sound (part_named part) r ≡ true → stands_sound part (image_of r) ≡ true
unfolding stands_sound stands
left-stands part r k fits s = rw (round r fits) (both _ _ (both _ _ k (well-formed r fits)) s)

-- ---- what a call gives

module _ (part : ℕ) (i : List ℕ) (l : Lent) where
  unfoldable pub called : Event → Faced
  called (read a) = face_read part i l.cells l.otp a
  called (write a w) = face_write part i l.cells l.otp a w
  called (wait n) = face_wait part i l.cells l.otp n
  called (cut debris) = face_cut part i l.cells l.otp debris
  called (range first count) = faced (λ p r m. range_event p r m first count) part i l.cells l.otp

  pub called-none : (e : Event) → stands part i ≡ false → called e ≡ state i l.cells l.otp
  unfolding called
  called-none (read a) = read_none part i l.cells l.otp a
  called-none (write a w) = write-none part i l.cells l.otp a w
  called-none (wait n) = wait-none part i l.cells l.otp n
  called-none (cut debris) = cut-none part i l.cells l.otp debris
  called-none (range first count) = λ s. rw s

  pub called-some : (e : Event) → stands part i ≡ true → called e ≡ shown (step (part_named part) (device_of i) l e)
  unfolding called step
  called-some (read a) = read_some part i l.cells l.otp a
  called-some (write a w) = write-some part i l.cells l.otp a w
  called-some (wait n) = wait-some part i l.cells l.otp n
  called-some (cut debris) = cut-some part i l.cells l.otp debris
  called-some (range first count) = λ s. rw s

  -- what holds of STATE and of the plain machine's outcome holds of the call
  pub by-standing : (P : Faced → Type 0) (e : Event) → P (state i l.cells l.otp) → P (shown (step (part_named part) (device_of i) l e)) → P (called e)
  by-standing P e f g = by_cases (stands part i) (λ s. rw (called-some e s) g) (λ s. rw (called-none e s) f)

  -- ---- its word, and what is lent after it

  Read : Faced → Type 0
  Read f = SixteenBits f.word × (lent_after f ≡ l)

  read_is : (a : ℕ) → ((y : Array) (x : ℕ) → SixteenBits (word_at l y x)) → Read (called (read a))
  unfolding Read step
  read_is a h =
      by-standing Read (read a) (lit< tt, refl)
      (read_word (part_named part) (device_of i) l a (λ y. h y a), read_keeps (part_named part) (device_of i) l a)

  Wrote : Faced → Type 0
  Wrote f = (f.word ≡ 0) × (lent_after f ≡ l)

  write-is : (a w : ℕ) → Wrote (called (write a w))
  unfolding Wrote step
  write-is a w =
      by-standing Wrote (write a w) (refl, refl)
      (write_word (part_named part) (device_of i) l a w, write_keeps (part_named part) (device_of i) l a w)

  Wordless : Faced → Type 0
  Wordless f = f.word ≡ 0

  wait-is : (n : ℕ) → Wordless (called (wait n))
  unfolding Wordless step
  wait-is n = by-standing Wordless (wait n) refl (wait-word (part_named part) (device_of i) l n)

  cut-is : (debris : List ℕ) → Wordless (called (cut debris))
  unfolding Wordless step
  cut-is debris = by-standing Wordless (cut debris) refl (cut_word (part_named part) (device_of i) l debris)

  -- a range leaves words and record as they were
  range-is : (first count : ℕ) → called (range first count) ≡ answered_over (called (range first count)).refusal 0 i l
  unfolding step
  range-is first count =
      by_cases (stands part i)
      (λ s.
      let n = number (range_event (part_named part) (device_of i) l first count).answer.refusal in
      let kept : called (range first count) ≡ answered_over n 0 i l =
      called-some (range first count) s ∙ ap shown (range-tells (part_named part) (device_of i) l first count)
      ∙ ap (λ (j : List ℕ). answered_over n 0 j l) (canonical i (well part i s)) in
      kept ∙ ap (λ (m : ℕ). answered_over m 0 i l) (sym (ap (λ (f : Faced). f.refusal) kept)))
      (λ s. rw (called-none (range first count) s))

  -- ---- what the contracts allow

  same : {n w : ℕ} {j : List ℕ} {m : Lent} {f : Faced} → n ≡ f.refusal → w ≡ f.word → j ≡ f.image → m ≡ lent_after f → answered_over n w j m ≡ f
  same a b c d = λ k. answered (a k) (b k) (c k) (d k).cells (d k).otp

  -- the refusal above the low 16 bits, the word in them
  unpacked : (n w : ℕ) (f : Faced) → SixteenBits w → SixteenBits f.word → 65536 * n + w ≡ packed f → (n ≡ f.refusal) × (w ≡ f.word)
  unpacked n w f h g e = (omega arith, omega arith)

  -- of a range, above the low 33 bits: a first word that is told has 32 bits
  Near : (first : ℕ) → Faced → Type 0
  Near first f = f.refusal ≡ 0 → first < 4294967296

  near : (first count : ℕ) → Near first (called (range first count))
  unfolding Near step number
  near first count =
      by-standing (Near first) (range first count) (λ e. absurd (omega (arith, e))) (range-first (part_named part) (device_of i) l first count)

  unranged : (n m x : ℕ) (y : Array) (first : ℕ) → ThirtyThreeBits m → (x ≡ 0 → first < 4294967296) → 8589934592 * n + m ≡ packed_range x y first → n ≡ x
  unranged n m x y first low h e =
      by_cases (eqb x 0)
      (λ t. let z = eqb-true x 0 t in omega (arith, two-arrays y, h z, z, low, rw t at e))
      (λ t. omega (arith, low, rw t at e))

  pub called_is : {e : Event} {f : Faced} → Called part i l e f → f ≡ called e
  unfolding called Read Wrote Wordless Near face_range
  called_is (reads t at by of {a} {n} {w} whole brief d) =
      let r = read_is a whole in
      let u = unpacked n w (face_read part i l.cells l.otp a) brief r.0 d.0 in
      same u.0 u.1 d.1 (sym r.1)
  called_is (writes t at by of {a} {w} brief d) = same d.0 (sym (write-is a w).0) d.1 (sym (write-is a w).1)
  called_is (waits t at by of {d = n} d) = same d.0 (sym (wait-is n)) d.1.0 (λ k. lent (d.1.1.0 k) (d.1.1.1 k))
  called_is (cuts t at by of with' {debris = debris} d) = same d.0 (sym (cut-is debris)) d.1.0 (λ k. lent (d.1.1.0 k) (d.1.1.1 k))
  called_is (ranges t at by of {first} {count} {n} {m} low d) =
      let told : n ≡ (called (range first count)).refusal = unranged n m (called (range first count)).refusal (range_array (device_of i).operation first) first low (near first count) d in
      ap (λ (x : ℕ). answered_over x 0 i l) told ∙ sym (range-is first count)

  -- of a write the word has 16 bits
  pub called-brief : {e : Event} {f : Faced} → Called part i l e f → Brief e
  unfolding Brief
  called-brief (reads t at by of whole brief d) = tt
  called-brief (writes t at by of brief d) = brief
  called-brief (waits t at by of d) = tt
  called-brief (cuts t at by of with' d) = tt
  called-brief (ranges t at by of low d) = tt

  -- ---- a sound record stays sound

  found : stands_sound part i ≡ true → (stands part i ≡ true) × (sound (part_named part) (device_of i) ≡ true)
  unfolding stands_sound
  found h = (both_left (stands part i) _ h, both_right (stands part i) _ h)

  known : stands part i ≡ true → is_part part ≡ true
  unfolding stands
  known s = both_left (is_part part) _ s

  calls-sound : (e : Event) → Brief e → stands_sound part i ≡ true → stands_sound part (called e).image ≡ true
  calls-sound e c h =
      let f = found h in
      let p = part_named part in
      rw (called-some e f.0)
      (left-stands part (step p (device_of i) l e).answer.device (known f.0) (step_fits p (device_of i) l (image-fits i) e c) (step-sound p (device_of i) l e f.1))

pub same-call : SameCall
same-call part words l e f g c d = called_is part words l c ∙ sym (called_is part words l d)

pub calls-stay-sound : CallsStaySound
calls-stay-sound part words l e f c h = rw (called_is part words l c) (calls-sound part words l e (called-brief part words l c) h)

Not12 : Faced → Type 0
Not12 f = f.refusal ≡ 12 → ⊥

pub calls-never-12 : CallsNever12
unfolding Not12
calls-never-12 part words l e f c h =
    by-standing part words l Not12 e (twelve-unused State) (twelve-unused _) (ap (λ (x : Faced). x.refusal) (sym (called_is part words l c)) ∙ h)
