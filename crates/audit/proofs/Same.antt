-- The contracts fix every answer: any two results that one of them allows are equal.
use Prim.Native.Nat.{ℕ}
use mathlib.Core.Path.{◌≡◌, refl, sym, ap, ◌∙◌}
use mathlib.Core.List.{List, ◌∷◌}
use Rattle.geometry.specs.declared.Part.{Part}
use Rattle.plain.specs.declared.Refusal.{Refusal}
use Rattle.plain.specs.declared.Refusal.TheVariants.{Address}
use Rattle.plain.specs.declared.Device.{Device}
use Rattle.plain.specs.declared.Answer.{Answer}
use Rattle.plain.specs.Events.{Event}
use Rattle.plain.specs.Lent.{Lent, lent}
use Rattle.plain.specs.Machine.{Outcome, outcome, Ran, hands_back, read_event, write_event, range_event, step, run}
use Rattle.plain.specs.Record.{answer, fresh}
use Rattle.plain.proofs.Ladder.{by-ladder}
use Rattle.plain.proofs.Tools.{by-test}
use Rattle.audit.specs.Performed.{Allowed, reads, writes, waits, cuts, ranges, turn, Performed, none, more, Runs}
use Rattle.audit.specs.Promises.{SameAnswer}

-- a read and a write leave what is lent
module _ (p : Part) (r : Device) (l : Lent) where
  Keeps : Outcome → Type 0
  Keeps o = o.lent ≡ l

  pub read_keeps : (a : ℕ) → (read_event p r l a).lent ≡ l
  unfolding Keeps read_event
  read_keeps a = by-ladder p r l _ Address _ Keeps (λ _. refl) refl (λ _. refl) (λ _ _. refl)

  pub write_keeps : (a w : ℕ) → (write_event p r l a w).lent ≡ l
  unfolding Keeps write_event
  write_keeps a w = by-ladder p r l _ Address _ Keeps (λ _. refl) refl (λ _. refl) (λ _ _. refl)

  -- and a range leaves the record, too
  Tells : Outcome → Type 0
  Tells o = o ≡ outcome (answer o.answer.refusal 0 r) l

  pub range-tells : (first count : ℕ) → range_event p r l first count ≡ outcome (answer (range_event p r l first count).answer.refusal 0 r) l
  unfolding Tells range_event
  range-tells first count =
      by-ladder p r l _ Address _ Tells (λ _. refl) refl (λ _. refl) (λ _ _. by-test Tells (hands_back r.operation) (λ _. refl) (λ _. refl))

pub record Is (o : Outcome) (y : Answer) (after : Lent) : Type 0 where
  pub answer : y ≡ o.answer
  pub lent : after ≡ o.lent

-- what a contract allows is what the plain machine gives
pub allowed-is : {p : Part} {r : Device} {l after : Lent} {e : Event} {y : Answer} → Allowed p r l e y after → Is (step p r l e) y after
unfolding step
allowed-is {p} {r} {l} (reads t at by {a} d) = record { answer = d; lent = sym (read_keeps p r l a) }
allowed-is {p} {r} {l} (writes t at by {a} {w} d) = record { answer = d; lent = sym (write_keeps p r l a w) }
allowed-is (waits t at by d) = record { answer = d.0; lent = λ k. lent (d.1.0 k) (d.1.1 k) }
allowed-is (cuts t at by with' d) = record { answer = d.0; lent = λ k. lent (d.1.0 k) (d.1.1 k) }
allowed-is {p} {r} {l} (ranges t at by {first} {count} d) =
    let told = range-tells p r l first count in
    record { answer = ap (λ (n : Refusal). answer n 0 r) d ∙ sym (ap (λ (o : Outcome). o.answer) told); lent = sym (ap (λ (o : Outcome). o.lent) told) }

pub same_answer : (p : Part) → SameAnswer p
same_answer p r l one two e y z f g = ((allowed-is f).answer ∙ sym (allowed-is g).answer, (allowed-is f).lent ∙ sym (allowed-is g).lent)

abbrev after : Event → Ran → Answer → Ran
after e x z = record { device = x.device; lent = x.lent; turns = turn e z ∷ x.turns }

one_more : (p : Part) (r : Device) (l now : Lent) (e : Event) (es : List Event) (y : Answer) (rest : Ran) → Is (step p r l e) y now → rest ≡ run p y.device now es
    → after e rest y ≡ after e (run p (step p r l e).answer.device (step p r l e).lent es) (step p r l e).answer
one_more p r l now e es y rest is h = rw (h, is.answer, is.lent)

pub performed-run : {p : Part} {r : Device} {l : Lent} {es : List Event} {ran : Ran} → Performed p r l es ran → ran ≡ run p r l es
unfolding run
performed-run none = refl
performed-run {p} {r} {l} (more {after = now} {e = e} {es = es} {y = y} {rest = rest} f g) = one_more p r l now e es y rest (allowed-is f) (performed-run g)

-- and so a run of the public functions is the plain machine's run
pub runs-are : {p : Part} {start : Lent} {es : List Event} {ran : Ran} → Runs p start es ran → ran ≡ run p fresh start es
runs-are {p} {start} {es} f = performed-run f.performed ∙ ap (λ (r : Device). run p r start es) f.begun
