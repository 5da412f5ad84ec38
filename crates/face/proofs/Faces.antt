-- What the face answers, once it is known whether the words stand for a record, and whether the event is admitted.
use Rattle.std.specs.Prelude.{Ok, Err}
use Prim.Native.Nat.{ℕ}
use mathlib.Core.Path.{◌≡◌, sym, ap, ◌∙◌}
use mathlib.Core.Bool.{true, false}
use mathlib.Core.List.{List}
use native.Mathlib.Omega.{arith}
use lib.ListN.{length}
use Rattle.plain.specs.declared.Refusal.{Refusal}
use Rattle.plain.specs.declared.Refusal.TheVariants.{State}
use Rattle.plain.specs.declared.Answer.{Answer}
use Rattle.plain.specs.Lent.{lent}
use Rattle.plain.specs.Refusals.{number}
use Rattle.plain.specs.Machine.{Outcome, Fit, refused, entry, read_event, write_event, wait_event, cut_event}
use Rattle.plain.proofs.Tools.{by_cases, both_right, clash}
use Rattle.plain.proofs.Ladder.{admitted}
use Rattle.plain.proofs.EventLaws as events
use Rattle.layout.specs.Places.{record_words}
use Rattle.layout.specs.Image.{image_of, well_formed, device_of}
use Rattle.layout.proofs.Canonical.{canonical, long}
use Rattle.face.specs.Entry.{face_entry}
use Rattle.face.specs.Face.{Faced, is_part, part_named, stands, stands_sound, answered, shown, state, face_read, face_write, face_wait, face_cut}

-- the face's answer, from that of the plain machine
pub told : (f : Faced) (o : Outcome) (y : Answer) → f ≡ shown o → y ≡ o.answer → f ≡ answered (number y.refusal) y.word (image_of y.device) o.lent.cells o.lent.otp
told f o y s e =
    s ∙ ap (λ (x : Answer). answered (number x.refusal) x.word (image_of x.device) o.lent.cells o.lent.otp) (sym e)

-- an event that is admitted: the words stand for a record, it is sound, and both arrays are whole
pub record Enters (part : ℕ) (i cells otp : List ℕ) : Type 0 where
  pub stands : stands part i ≡ true
  pub fit : Fit (part_named part) (device_of i) (lent cells otp)

module _ (part : ℕ) (i : List ℕ) where
  pub well : stands part i ≡ true → well_formed i ≡ true
  unfolding stands
  well s = both_right (is_part part) (well_formed i) s

  pub whole : stands part i ≡ true → length i ≡ record_words
  whole s = long i (well s)

  unsound-none : stands part i ≡ false → stands_sound part i ≡ false
  unfolding stands_sound
  unsound-none s = rw s

  pub sound_whole : stands_sound part i ≡ true → length i ≡ record_words
  sound_whole h = by_cases (stands part i) whole (λ s. clash h (unsound-none s))

  -- words that stand for a record are left as they were by an answer that leaves the record
  pub kept : (n w : ℕ) (cells otp : List ℕ) → stands part i ≡ true → answered n w (image_of (device_of i)) cells otp ≡ answered n w i cells otp
  kept n w cells otp s = ap (λ (z : List ℕ). answered n w z cells otp) (canonical i (well s))

  module _ (cells otp : List ℕ) where
    pub entry-none : stands part i ≡ false → face_entry part i cells otp ≡ Err State
    unfolding face_entry
    entry-none s = rw s

    pub entry-some : stands part i ≡ true → face_entry part i cells otp ≡ entry (part_named part) (device_of i) (lent cells otp)
    unfolding face_entry
    entry-some s = rw s

    pub enters : face_entry part i cells otp ≡ (Ok tt) → Enters part i cells otp
    enters e =
        by_cases (stands part i)
        (λ s. record { stands = s; fit = admitted (part_named part) (device_of i) (lent cells otp) (sym (entry-some s) ∙ e) })
        (λ s. let t : Err State ≡ (Ok tt) = sym (entry-none s) ∙ e in let z : ◌≡◌ {A = ℕ} 0 1 = cc in absurd (omega arith))

    -- what is barred is answered by the refusal, and nothing changes
    barred : (n : Refusal) → (f : Faced) (o : Outcome) → face_entry part i cells otp ≡ Err n → (stands part i ≡ false → f ≡ state i cells otp) → (stands part i ≡ true → f ≡ shown o)
        → (entry (part_named part) (device_of i) (lent cells otp) ≡ Err n → o ≡ refused n (device_of i) (lent cells otp)) → f ≡ answered (number n) 0 i cells otp
    barred n f o e none some law =
        by_cases (stands part i) (λ s. some s ∙ (ap shown (law (sym (entry-some s) ∙ e)) ∙ kept (number n) 0 cells otp s))
        (λ s. let t : Err State ≡ Err n = sym (entry-none s) ∙ e in let same : State ≡ n = cc in none s ∙ ap (λ (x : Refusal). answered (number x) 0 i cells otp) same)

    module _ (a : ℕ) where
      pub read_none : stands part i ≡ false → face_read part i cells otp a ≡ state i cells otp
      unfolding face_read
      read_none s = rw s

      pub read_some : stands part i ≡ true → face_read part i cells otp a ≡ shown (read_event (part_named part) (device_of i) (lent cells otp) a)
      unfolding face_read
      read_some s = rw s

      pub read-barred : (n : Refusal) → face_entry part i cells otp ≡ Err n → face_read part i cells otp a ≡ answered (number n) 0 i cells otp
      read-barred n e = barred n _ _ e read_none read_some (events.read-barred (part_named part) (device_of i) (lent cells otp) a n)

      module _ (w : ℕ) where
        pub write-none : stands part i ≡ false → face_write part i cells otp a w ≡ state i cells otp
        unfolding face_write
        write-none s = rw s

        pub write-some : stands part i ≡ true → face_write part i cells otp a w ≡ shown (write_event (part_named part) (device_of i) (lent cells otp) a w)
        unfolding face_write
        write-some s = rw s

        pub write-barred : (n : Refusal) → face_entry part i cells otp ≡ Err n → face_write part i cells otp a w ≡ answered (number n) 0 i cells otp
        write-barred n e = barred n _ _ e write-none write-some (events.write-barred (part_named part) (device_of i) (lent cells otp) a w n)

    module _ (n : ℕ) where
      pub wait-none : stands part i ≡ false → face_wait part i cells otp n ≡ state i cells otp
      unfolding face_wait
      wait-none s = rw s

      pub wait-some : stands part i ≡ true → face_wait part i cells otp n ≡ shown (wait_event (part_named part) (device_of i) (lent cells otp) n)
      unfolding face_wait
      wait-some s = rw s

      pub wait-barred : (x : Refusal) → face_entry part i cells otp ≡ Err x → face_wait part i cells otp n ≡ answered (number x) 0 i cells otp
      wait-barred x e = barred x _ _ e wait-none wait-some (events.wait-barred (part_named part) (device_of i) (lent cells otp) n x)

    module _ (debris : List ℕ) where
      pub cut-none : stands part i ≡ false → face_cut part i cells otp debris ≡ state i cells otp
      unfolding face_cut
      cut-none s = rw s

      pub cut-some : stands part i ≡ true → face_cut part i cells otp debris ≡ shown (cut_event (part_named part) (device_of i) (lent cells otp) debris)
      unfolding face_cut
      cut-some s = rw s
