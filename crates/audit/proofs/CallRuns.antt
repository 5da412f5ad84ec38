-- A run of calls from any words on: where they stand for a record it is the plain machine's run from that record, and elsewhere every call is
-- K5L_STATE and leaves all as it is.
use Prim.Native.Nat.{ℕ}
use mathlib.Core.Path.{◌≡◌, refl, ap, sym, ◌∙◌}
use mathlib.Core.Bool.{true, false}
use mathlib.Core.List.{List, [], ◌∷◌, map}
use Rattle.plain.specs.declared.Refusal.TheVariants.{State}
use Rattle.plain.specs.Events.{Event, Turn}
use Rattle.plain.specs.Lent.{Lent}
use Rattle.plain.specs.Machine.{step, run}
use Rattle.plain.proofs.Tools.{both_left}
use Rattle.layout.specs.Image.{image_of, device_of}
use Rattle.layout.proofs.Canonical.{canonical}
use Rattle.layout.proofs.Round.{round}
use Rattle.face.specs.Face.{Faced, is_part, part_named, stands, shown, state}
use Rattle.face.proofs.Faces.{well}
use Rattle.audit.specs.Called.{Called, lent_after, Held, held, Calls, none, more}
use Rattle.audit.proofs.Called.{called_is, called-none, called-some}
use Rattle.audit.proofs.Calls.{same-refusal, RanAs, calls_are, on-words}
use Rattle.audit.proofs.Data.{image-fits}

-- ---- on the words of a record

module _ (part : ℕ) (words : List ℕ) (s : stands part words ≡ true) where
  pub known : is_part part ≡ true
  unfolding stands
  known = both_left (is_part part) _ s

  record-words : words ≡ image_of (device_of words)
  record-words = sym (canonical words (well part words s))

  pub ran-as : (l : Lent) (es : List Event) (ran : Held) → Calls part words l es ran → RanAs part known (device_of words) l es ran
  ran-as l es ran = calls_are part known (device_of words) words l l es ran record-words refl (image-fits words)

  -- after it the words stand for the record that the plain machine has come to
  module _ (l : Lent) (es : List Event) (ran : Held) (c : Calls part words l es ran) where
    pub ran-words : ran.words ≡ image_of (run (part_named part) (device_of words) l es).device
    ran-words = ap (λ (h : Held). h.words) (ran-as l es ran c).same

    pub ran-device : device_of ran.words ≡ (run (part_named part) (device_of words) l es).device
    ran-device = ap device_of ran-words ∙ round _ (ran-as l es ran c).fits

    -- and the next call does what its next event does
    pub then-called : (e : Event) (f : Faced) → Called part ran.words ran.lent e f
        → f ≡ shown (step (part_named part) (run (part_named part) (device_of words) l es).device (run (part_named part) (device_of words) l es).lent e)
    then-called e f =
        on-words part known (run (part_named part) (device_of words) l es).device ran.words ran.lent (run (part_named part) (device_of words) l es).lent e f ran-words
        (ap (λ (h : Held). h.lent) (ran-as l es ran c).same) (ran-as l es ran c).fits

  -- two calls, one after the other
  module _ (l : Lent) (e d : Event) (f g : Faced) (c : Called part words l e f) (k : Called part f.image (lent_after f) d g) where
    called-first : f ≡ shown (step (part_named part) (device_of words) l e)
    called-first = called_is part words l c ∙ called-some part words l e s

    pub called-second : g ≡ shown (step (part_named part) (step (part_named part) (device_of words) l e).answer.device (step (part_named part) (device_of words) l e).lent d)
    unfolding run
    called-second = then-called l (e ∷ []) _ (more c (sym (ap (λ (x : Faced). x.refusal) called-first)) none) d g k

-- ---- on words that stand for none

abbrev pub state_turn : Event → Turn
state_turn e = record { event = e; refusal = State; word = 0 }

module _ (part : ℕ) (words : List ℕ) (s : stands part words ≡ false) where
  pub call_none : (l : Lent) (e : Event) (f : Faced) → Called part words l e f → f ≡ state words l.cells l.otp
  call_none l e f c = called_is part words l c ∙ called-none part words l e s

  pub ran-none : (now : List ℕ) (l m : Lent) (es : List Event) (ran : Held) → now ≡ words → l ≡ m → Calls part now l es ran → ran ≡ held words m (map state_turn es)
  ran-none now l m [] ran w h none = rw (w, h)
  ran-none now l m (e ∷ es) ran w h (more {f = f} {n = n} {rest = rest} c named k) =
      let is : f ≡ state words m.cells m.otp = call_none m e f (rw (← w, ← h) c) in
      let refused : n ≡ State = same-refusal n State (named ∙ ap (λ (x : Faced). x.refusal) is) in
      let after = ran-none f.image (lent_after f) m es rest (ap (λ (x : Faced). x.image) is) (ap lent_after is) k in
      rw (after, refused, is)
