-- What the face answers of an idle device: the words as they are, but for the command's or the meter's.
use Rattle.std.specs.Prelude.{Ok, Err}
use Prim.Native.Nat.{ℕ, ◌+◌, ◌*◌, ◌<◌, ◌≤◌}
use mathlib.Core.Path.{◌≡◌, sym, ap, ◌∙◌}
use mathlib.Core.Bool.{true, false}
use mathlib.Core.List.{List}
use lib.ListN.{length, get_or}
use borrow.Author.Tests.{eq-eqb, ne_eqb}
use Rattle.geometry.specs.Parts.{word_count}
use Rattle.meter.specs.declared.Meter.{Meter}
use Rattle.meter.specs.Meter.{metered}
use Rattle.plain.specs.declared.Array.TheVariants.{Main}
use Rattle.plain.specs.declared.Refusal.TheVariants.{Done, State, Cells, Address, Clock, Sequence}
use Rattle.plain.specs.declared.Operation.TheVariants.{Idle}
use Rattle.plain.specs.declared.Command.TheVariants.{Ground, Entering}
use Rattle.plain.specs.declared.Cycle.TheVariants.{Unlock}
use Rattle.plain.specs.declared.Suspension.TheVariants.{Unsuspended}
use Rattle.plain.specs.declared.Device.{Device}
use Rattle.plain.specs.Commands.{written, entered, effected, at_ground, resumes, resets}
use Rattle.plain.specs.Cycles.{is, first_unlock}
use Rattle.plain.specs.Figures.{clock_limit, standby_current, running_current}
use Rattle.plain.specs.Lent.{lent, otp_words, is_whole}
use Rattle.plain.specs.Operations.{running_of, suspension_of}
use Rattle.plain.specs.Record.{device}
use Rattle.plain.specs.Refusals.{number}
use Rattle.plain.specs.Sound.{sound}
use Rattle.plain.specs.Status.{look, polls, reading_on, rests}
use Rattle.plain.specs.Machine.{Fit, outcome, waited, read_event, write_event, wait_event}
use Rattle.plain.proofs.Tools.{by_cases, both, both_left, both_right}
use Rattle.plain.proofs.Facts.{sound-clock, sound-charge}
use Rattle.plain.proofs.Lents.{whole-both}
use Rattle.plain.proofs.Ladder.{entry-state, entry-cells, entry-admitted}
use Rattle.plain.proofs.EventLaws as events
use Rattle.plain.proofs.InTime.{idle-still}
use Rattle.plain.proofs.Ticks.{still}
use Rattle.layout.specs.Image.{image_of, meter_of, bits_of, device_of, idle_words}
use Rattle.layout.specs.Stored.{with_meter, with_command}
use Rattle.layout.proofs.Idle.{idle-well, idle-device}
use Rattle.layout.proofs.Stored.{stored_meter, stored_command}
use Rattle.face.specs.Entry.{face_entry}
use Rattle.face.specs.Face.{is_part, part_named, stands, stands_sound, answered, shown, face_read, face_write, face_wait}
use Rattle.face.proofs.Faces.{enters, kept, entry-none, entry-some, read_some, write-some, wait-some}

module _ (part : ℕ) (i : List ℕ) (idle : idle_words i ≡ true) where
  -- the record, by all there is to it
  abbrev pub found : Device
  found = device (meter_of i) Ground Idle (bits_of i)

  -- ---- the entry

  stands-idle : is_part part ≡ true → stands part i ≡ true
  unfolding stands
  stands-idle h = both _ _ h (idle-well i idle)

  stands-not : is_part part ≡ false → stands part i ≡ false
  unfolding stands
  stands-not h = rw h

  -- ---- its soundness

  pub no_part : is_part part ≡ false → stands_sound part i ≡ false
  unfolding stands_sound
  no_part h = rw (stands-not h)

  pub a-part : is_part part ≡ true → stands_sound part i ≡ sound (part_named part) found
  unfolding stands_sound
  a-part h = rw (stands-idle h, idle-device i idle)

  module _ (cells otp : List ℕ) where
    pub not_sound : stands_sound part i ≡ false → face_entry part i cells otp ≡ Err State
    unfolding stands_sound
    not_sound u =
        by_cases (stands part i) (λ s. entry-some part i cells otp s ∙ entry-state (part_named part) (device_of i) (lent cells otp) (rw s at u))
        (entry-none part i cells otp)

    module _ (s : stands_sound part i ≡ true) where
      its : stands part i ≡ true
      unfolding stands_sound
      its = both_left (stands part i) _ s

      so : sound (part_named part) (device_of i) ≡ true
      unfolding stands_sound
      so = both_right (stands part i) _ s

      not-both : is_whole (part_named part) (lent cells otp) ≡ false → face_entry part i cells otp ≡ Err Cells
      not-both n = entry-some part i cells otp its ∙ entry-cells (part_named part) (device_of i) (lent cells otp) so n

      pub not-whole : (length cells ≡ word_count (part_named part) → ⊥) → face_entry part i cells otp ≡ Err Cells
      not-whole n = not-both (rw (ne_eqb (length cells) (word_count (part_named part)) n))

      module _ (n : length cells ≡ word_count (part_named part)) where
        pub not-whole-otp : (length otp ≡ otp_words → ⊥) → face_entry part i cells otp ≡ Err Cells
        not-whole-otp m = not-both (rw (eq-eqb (length cells) (word_count (part_named part)) n, ne_eqb (length otp) otp_words m))

        pub goes_in : length otp ≡ otp_words → face_entry part i cells otp ≡ (Ok tt)
        goes_in m =
            entry-some part i cells otp its
            ∙ entry-admitted (part_named part) (device_of i) (lent cells otp) (record { sound = so; whole = whole-both (part_named part) (lent cells otp) n m })

    module _ (e : face_entry part i cells otp ≡ (Ok tt)) where
      stood : stands part i ≡ true
      stood = (enters part i cells otp e).stands

      fit : Fit (part_named part) found (lent cells otp)
      fit = rw (idle-device i idle) at (enters part i cells otp e).fit

      -- an answer that leaves the record leaves the words
      same : (n w : ℕ) → answered n w (image_of found) cells otp ≡ answered n w i cells otp
      same n w = ap (λ (d : Device). answered n w (image_of d) cells otp) (sym (idle-device i idle)) ∙ kept part i n w cells otp stood

      -- ---- reads

      module _ (a : ℕ) where
        read_found : face_read part i cells otp a ≡ shown (read_event (part_named part) found (lent cells otp) a)
        read_found = rw (idle-device i idle) at (read_some part i cells otp a stood)

        pub read-address : length cells ≤ a → face_read part i cells otp a ≡ answered (number Address) 0 i cells otp
        read-address h =
            read_found ∙ (ap shown (events.read-address (part_named part) found (lent cells otp) a fit (rw (fit.whole Main) at h)) ∙ same (number Address) 0)

        -- "Any other read gives the cell."
        pub read_cell : a < length cells → face_read part i cells otp a ≡ answered (number Done) (get_or cells a 0) i cells otp
        unfolding look polls reading_on rests running_of suspension_of
        read_cell h =
            read_found ∙ (ap shown (events.read-passes (part_named part) found (lent cells otp) a fit (rw (fit.whole Main) at h)) ∙ same (number Done) (get_or cells a 0))

        -- ---- writes

        module _ (w : ℕ) where
          write-found : face_write part i cells otp a w ≡ shown (write_event (part_named part) found (lent cells otp) a w)
          write-found = rw (idle-device i idle) at (write-some part i cells otp a w stood)

          pub write-address : length cells ≤ a → face_write part i cells otp a w ≡ answered (number Address) 0 i cells otp
          write-address h =
              write-found ∙ (ap shown (events.write-address (part_named part) found (lent cells otp) a w fit (rw (fit.whole Main) at h)) ∙ same (number Address) 0)

          module _ (h : a < length cells) where
            at-ground : face_write part i cells otp a w ≡ shown (outcome (effected found (at_ground Unsuspended a w)) (lent cells otp))
            unfolding written entered
            at-ground = write-found ∙ ap shown (events.write-passes (part_named part) found (lent cells otp) a w fit (rw (fit.whole Main) at h))

            pub write-unlock : first_unlock a w ≡ true → face_write part i cells otp a w ≡ answered (number Done) 0 (with_command i (Entering Unlock)) cells otp
            unfolding effected at_ground
            write-unlock f =
                at-ground ∙ rw f (ap (λ (z : List ℕ). answered (number Done) 0 z cells otp) (sym (rw (idle-device i idle) at (stored_command i (idle-well i idle) (Entering Unlock)))))

            pub write-reset : first_unlock a w ≡ false → is w 0xF0 ≡ true → face_write part i cells otp a w ≡ answered (number Done) 0 i cells otp
            unfolding effected at_ground resets
            write-reset f r = at-ground ∙ rw (f, r) (same (number Done) 0)

            pub write-sequence : first_unlock a w ≡ false → is w 0xF0 ≡ false → face_write part i cells otp a w ≡ answered (number Sequence) 0 i cells otp
            unfolding effected at_ground resumes
            write-sequence f r =
                at-ground ∙ by_cases (is w 0x30) (λ t. rw (f, r, t) (same (number Sequence) 0)) (λ t. rw (f, r, t) (same (number Sequence) 0))

      -- ---- waits

      pub clock-sound : (meter_of i).clock ≤ clock_limit (part_named part)
      clock-sound = sound-clock (part_named part) found fit.sound

      pub charge-sound : (meter_of i).charge ≤ running_current (part_named part) * (meter_of i).clock
      charge-sound = sound-charge (part_named part) found fit.sound

      module _ (n : ℕ) where
        wait-found : face_wait part i cells otp n ≡ shown (wait_event (part_named part) found (lent cells otp) n)
        wait-found = rw (idle-device i idle) at (wait-some part i cells otp n stood)

        pub wait-clock : clock_limit (part_named part) < (meter_of i).clock + n → face_wait part i cells otp n ≡ answered (number Clock) 0 i cells otp
        wait-clock h =
            wait-found ∙ (ap shown (events.wait-clock (part_named part) found (lent cells otp) n fit h) ∙ same (number Clock) 0)

        -- "Every other µs .. draws 15 pC"
        abbrev spent : Meter
        spent = metered (meter_of i) n (n * standby_current (part_named part))

        pub wait-stands : (meter_of i).clock + n ≤ clock_limit (part_named part) → face_wait part i cells otp n ≡ answered (number Done) 0 (with_meter i spent) cells otp
        wait-stands h =
            wait-found
            ∙ (ap shown (events.wait-passes (part_named part) found (lent cells otp) n fit h ∙ ap (waited found) (still (part_named part) Idle (standby_current (part_named part)) (idle-still (part_named part)) n (meter_of i) (lent cells otp)))
            ∙ ap (λ (z : List ℕ). answered (number Done) 0 z cells otp) (sym (rw (idle-device i idle) at (stored_meter i (idle-well i idle) spent))))
