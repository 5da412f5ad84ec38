-- A run of calls on what `k5l_fresh` made is the plain machine's run, its record held as words: so the promises hold of it.
use Prim.Native.Nat.{ℕ}
use mathlib.Core.Path.{◌≡◌, refl, ap, sym, ◌∙◌}
use mathlib.Core.Bool.{true}
use mathlib.Core.List.{List, [], ◌∷◌}
use lib.Dec.{eqb}
use Rattle.plain.specs.declared.Refusal.{Refusal}
use Rattle.plain.specs.declared.Refusal.TheVariants.{Done, State, Cells, Address, Clock, Debris, Busy, Sequence, Bank, Protected, Suspended, Locked, OtpLocked, Raise}
use Rattle.plain.specs.declared.Device.{Device}
use Rattle.std.specs.Prelude.{if◌then◌else◌}
use Rattle.plain.specs.Events.{Event}
use Rattle.plain.specs.Lent.{Lent}
use Rattle.plain.specs.Machine.{Ran, step, run}
use Rattle.plain.specs.Refusals.{number}
use Rattle.plain.proofs.Tools.{both}
use Rattle.layout.specs.Image.{image_of, device_of}
use Rattle.layout.specs.Promises.{Fits}
use Rattle.layout.proofs.Round.{round, well-formed}
use Rattle.face.specs.Face.{Faced, is_part, part_named, stands, shown}
use Rattle.audit.specs.Called.{Called, lent_after, Held, held, call_turn, Calls, none, more}
use Rattle.audit.proofs.Called.{called_is, called-brief, called-some}
use Rattle.audit.proofs.Data.{step_fits}

-- ---- a number names one refusal

named : ℕ → Refusal
named n =
    if eqb n 0 then Done
    else if eqb n 1 then State
    else if eqb n 2 then Cells
    else if eqb n 3 then Address
    else if eqb n 4 then Clock
    else if eqb n 5 then Debris
    else if eqb n 6 then Busy
    else if eqb n 7 then Sequence
    else if eqb n 8 then Bank
    else if eqb n 9 then Protected
    else if eqb n 10 then Suspended
    else if eqb n 11 then Locked
    else if eqb n 13 then OtpLocked
    else Raise

named-number : (n : Refusal) → named (number n) ≡ n
unfolding named number
named-number Done = refl
named-number State = refl
named-number Cells = refl
named-number Address = refl
named-number Clock = refl
named-number Debris = refl
named-number Busy = refl
named-number Sequence = refl
named-number Bank = refl
named-number Protected = refl
named-number Suspended = refl
named-number Locked = refl
named-number OtpLocked = refl
named-number Raise = refl

pub same-refusal : (m n : Refusal) → number m ≡ number n → m ≡ n
same-refusal m n e = sym (named-number m) ∙ ap named e ∙ named-number n

-- ---- a call, and a run of them

module _ (part : ℕ) (known : is_part part ≡ true) where
  image-stands : (r : Device) → Fits r → stands part (image_of r) ≡ true
  unfolding stands
  image-stands r h = both _ _ known (well-formed r h)

  -- a call on the words of a record
  pub on-words : (r : Device) (words : List ℕ) (l now : Lent) (e : Event) (f : Faced) → words ≡ image_of r → l ≡ now → Fits r → Called part words l e f
      → f ≡ shown (step (part_named part) r now e)
  on-words r words l now e f w c h g =
      let s : stands part words ≡ true = rw w (image-stands r h) in
      let same : f ≡ shown (step (part_named part) (device_of words) l e) = called_is part words l g ∙ called-some part words l e s in
      let back : device_of words ≡ r = ap device_of w ∙ round r h in
      same ∙ (λ k. shown (step (part_named part) (back k) (c k) e))

  abbrev as-held : Ran → Held
  as-held ran = held (image_of ran.device) ran.lent ran.turns

  pub record RanAs (r : Device) (l : Lent) (es : List Event) (ran : Held) : Type 0 where
    pub same : ran ≡ as-held (run (part_named part) r l es)
    pub fits : Fits (run (part_named part) r l es).device

  one_more : (r : Device) (l : Lent) (e : Event) (es : List Event) (f : Faced) (n : Refusal) (rest : Held)
      → f ≡ shown (step (part_named part) r l e) → number n ≡ f.refusal
      → RanAs (step (part_named part) r l e).answer.device (step (part_named part) r l e).lent es rest
      → RanAs r l (e ∷ es) (held rest.words rest.lent (call_turn e n f ∷ rest.turns))
  unfolding run
  one_more r l e es f n rest s m t =
      let o = step (part_named part) r l e in
      let is : n ≡ o.answer.refusal = same-refusal n o.answer.refusal (m ∙ ap (λ (x : Faced). x.refusal) s) in
      record { same = rw (t.same, is, s); fits = t.fits }

  pub calls_are : (r : Device) (words : List ℕ) (l now : Lent) (es : List Event) (ran : Held) → words ≡ image_of r → l ≡ now → Fits r → Calls part words l es ran
      → RanAs r now es ran
  unfolding run
  calls_are r words l now [] ran w c h none = record { same = rw (w, c); fits = h }
  calls_are r words l now (e ∷ es) ran w c h (more {f = f} {n = n} {rest = rest} g m k) =
      let o = step (part_named part) r now e in
      let s = on-words r words l now e f w c h g in
      one_more r now e es f n rest s m
      (calls_are o.answer.device f.image (lent_after f) o.lent es rest (ap (λ (x : Faced). x.image) s) (ap lent_after s)
      (step_fits (part_named part) r now h e (called-brief part words l g)) k)
