-- A step and a run: the history says what the record says, each word holds what its facts give it, and finished programs left their data.
use Prim.Native.Nat.{ℕ, ◌≤◌}
use mathlib.Core.Path.{◌≡◌, refl, ap, ◌∙◌}
use mathlib.Core.Bool.{Bool, false}
use mathlib.Core.List.{List, [], ◌∷◌}
use lib.ListN.{length}
use borrow.Author.Tests.{ltb-false}
use Rattle.geometry.specs.declared.Part.{Part}
use Rattle.protection.specs.declared.Protection.{Protection}
use Rattle.plain.specs.declared.Refusal.{Refusal}
use Rattle.plain.specs.declared.Refusal.TheVariants.{Done, State, Cells, Address, Clock, Debris, Busy}
use Rattle.plain.specs.declared.Operation.{Operation}
use Rattle.plain.specs.declared.Command.{Command}
use Rattle.plain.specs.declared.Device.{Device}
use Rattle.plain.specs.declared.Seen.{Seen}
use Rattle.plain.specs.Events.{Event, read, write, wait, cut, range}
use Rattle.plain.specs.Lent.{Lent}
use Rattle.plain.specs.Operations.{running_of, suspension_of}
use Rattle.plain.specs.Record.{device, answer}
use Rattle.plain.specs.Commands.{written, effected}
use Rattle.plain.specs.Time.{ticks}
use Rattle.plain.specs.Status.{polls, reading_on, rests, look}
use Rattle.plain.specs.Cut.{debris_needed}
use Rattle.plain.specs.Machine.{Outcome, outcome, refused, ladder, now, waited, cut_taken, hands_back, read_event, write_event, wait_event, cut_event, range_event, step, run, Fit}
use Rattle.plain.specs.Doings.{cuts}
use Rattle.plain.specs.History.{Told, kind, unheard, wrote_as, waited_as, cut_as, tell, told}
use Rattle.plain.specs.Holds.{Fact}
use Rattle.plain.proofs.Tools.{by-test}
use Rattle.plain.proofs.Facts.{sound-operation}
use Rattle.plain.proofs.Ladder.{by-ladder}
use Rattle.plain.proofs.Modest.{Modest}
use Rattle.plain.proofs.SuspendedProgram.{Awake}
use Rattle.history.proofs.Awake.{no-event-suspends-program}
use Rattle.history.proofs.Seen.{seen_op, seen, polled-seen, rested-seen}
use Rattle.history.proofs.Holds.{Holds}
use Rattle.history.proofs.Leaves.{Leaves, cut-leaves}
use Rattle.history.proofs.Modest.{step-modest}
use Rattle.history.proofs.Writes.{write-told}
use Rattle.history.proofs.Times.{waited-told}
use Rattle.history.proofs.Cuts.{cut_holds}

-- a read changes toggles at most
look-seen : (p : Part) (bits : Protection) (c : Command) (o : Operation) (l : Lent) (a : ℕ) → seen_op p (look p bits c o l a).operation ≡ seen_op p o
unfolding look
look-seen p bits c o l a =
    by-test Same (polls p (running_of o) a) (λ e. polled-seen p o a)
    (λ e. by-test Same (reading_on p c a) (λ f. refl) (λ f. by-test Same (rests p (suspension_of o) a) (λ g. rested-seen p o) (λ g. refl)))
  where
    Same : Seen → Type 0
    Same s = seen_op p s.operation ≡ seen_op p o

module _ (p : Part) (start : Lent) where
  pub record Stepped (r : Device) (l : Lent) (fs : List Fact) (e : Event) (o : Outcome) : Type 0 where
    pub facts : List Fact
    pub tells : tell p (seen p r fs) e o.answer.refusal ≡ seen p o.answer.device facts
    pub hold : Holds p start fs l → Holds p start facts o.lent
    pub leave : Holds p start fs l → Modest l r.operation → Leaves p start fs → Leaves p start facts

  -- an answer that says that the event was as if it had not been
  unheard-step : (r : Device) (l : Lent) (fs : List Fact) (e : Event) (n : Refusal) → kind n ≡ unheard → Stepped r l fs e (refused n r l)
  unfolding tell wrote_as waited_as cut_as
  unheard-step r l fs (read a) n k = record { facts = fs; tells = refl; hold = λ h. h; leave = λ h g k. k }
  unheard-step r l fs (write a w) n k = record { facts = fs; tells = rw k; hold = λ h. h; leave = λ h g k. k }
  unheard-step r l fs (wait m) n k = record { facts = fs; tells = rw k; hold = λ h. h; leave = λ h g k. k }
  unheard-step r l fs (cut debris) n k = record { facts = fs; tells = rw k; hold = λ h. h; leave = λ h g k. k }
  unheard-step r l fs (range first count) n k = record { facts = fs; tells = refl; hold = λ h. h; leave = λ h g k. k }

  module _ (r : Device) (l : Lent) (fs : List Fact) where
    read_step : (a : ℕ) (w : ℕ) (o : Operation) → seen_op p o ≡ seen_op p r.operation
        → Stepped r l fs (read a) (outcome (answer Done w (device r.meter r.command o r.bits)) l)
    unfolding tell
    read_step a w o e = record { facts = fs; tells = rw e; hold = λ h. h; leave = λ h g k. k }

    write_step : (a w : ℕ) → Awake r.operation → Stepped r l fs (write a w) (outcome (effected r (written p r.bits r.operation r.command l a w)) l)
    unfolding tell
    write_step a w n = record { facts = fs; tells = write-told p fs l a w r n; hold = λ h. h; leave = λ h g k. k }

    wait-step : (n : ℕ) → Fit p r l → Stepped r l fs (wait n) (waited r (ticks p n (now r l)))
    unfolding tell waited_as kind
    wait-step n f =
        let w = waited-told p start r.command r.bits n (now r l) fs (sound-operation p r f.sound r.operation refl) f.whole in
        record { facts = w.facts; tells = w.tells; hold = w.hold; leave = w.leave }

    cut_step : (debris : List ℕ) → Awake r.operation → Fit p r l → debris_needed p r.operation ≤ length debris → Stepped r l fs (cut debris) (cut_taken p r l debris)
    unfolding tell cut_as kind seen_op
    cut_step debris n f enough =
        record {
          facts = cuts p (seen_op p r.operation) debris fs;
          tells = refl;
          hold = cut_holds p r.bits start debris r.operation n (sound-operation p r f.sound r.operation refl) fs l f.whole enough;
          leave = λ h g k. cut-leaves p start (seen_op p r.operation) debris fs k;
        }

    -- a range changes nothing and tells nothing
    range-step : (first count : ℕ) (n : Refusal) → Stepped r l fs (range first count) (refused n r l)
    unfolding tell
    range-step first count n = record { facts = fs; tells = refl; hold = λ h. h; leave = λ h g k. k }

    climbs : (e : Event) (fails : Bool) (own : Refusal) (taken : Outcome) → kind own ≡ unheard → (Fit p r l → fails ≡ false → Stepped r l fs e taken)
        → Stepped r l fs e (ladder p r l fails own taken)
    unfolding kind
    climbs e fails own taken k f =
        by-ladder p r l fails own taken (Stepped r l fs e) (λ _. unheard-step r l fs e State refl) (unheard-step r l fs e Cells refl)
        (λ _. unheard-step r l fs e own k) f

    pub stepped : (e : Event) → Awake r.operation → Stepped r l fs e (step p r l e)
    unfolding step read_event write_event wait_event cut_event range_event kind
    stepped (read a) n = climbs (read a) _ Address _ refl (λ f t. read_step a _ _ (look-seen p r.bits r.command r.operation l a))
    stepped (write a w) n = climbs (write a w) _ Address _ refl (λ f t. write_step a w n)
    stepped (wait m) n = climbs (wait m) _ Clock _ refl (λ f t. wait-step m f)
    stepped (cut debris) n =
        climbs (cut debris) _ Debris _ refl (λ f t. cut_step debris n f (ltb-false (length debris) (debris_needed p r.operation) t))
    stepped (range first count) n =
        climbs (range first count) _ Address _ refl
        (λ f t. by-test (Stepped r l fs (range first count)) (hands_back r.operation) (λ _. range-step first count Done) (λ _. range-step first count Busy))

  -- ---- a run

  pub record ToldRight (r : Device) (l : Lent) (fs : List Fact) (es : List Event) : Type 0 where
    pub facts : List Fact
    pub tells : told p (seen p r fs) (run p r l es).turns ≡ seen p (run p r l es).device facts
    pub hold : Holds p start fs l → Holds p start facts (run p r l es).lent
    pub leave : Holds p start fs l → Modest l r.operation → Leaves p start fs → Leaves p start facts

  -- a run that begins without a suspended program never holds one
  pub run-told : (r : Device) (l : Lent) (fs : List Fact) (es : List Event) → Awake r.operation → ToldRight r l fs es
  unfolding run told
  run-told r l fs [] n = record { facts = fs; tells = refl; hold = λ h. h; leave = λ h g k. k }
  run-told r l fs (e ∷ es) n =
      let s = stepped r l fs e n in
      let o = step p r l e in
      let t = run-told o.answer.device o.lent s.facts es (no-event-suspends-program p r l e n) in
      record {
        facts = t.facts;
        tells = ap (λ (h : Told). told p h (run p o.answer.device o.lent es).turns) s.tells ∙ t.tells;
        hold = λ h. t.hold (s.hold h);
        leave = λ h g k. t.leave (s.hold h) (step-modest p r l g e) (s.leave h g k);
      }
