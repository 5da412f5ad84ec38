-- What `machine::until_end`, `until_change` and `debris_needed` tell of a record comes so.
use Rattle.std.specs.Prelude.{Option, None, Some}
use Prim.Native.Nat.{ℕ, ◌+◌, ◌-◌, ◌≤◌}
use mathlib.Core.Path.{◌≡◌, refl, sym, ap, ◌∙◌}
use mathlib.Core.Bool.{Bool, true, false, cond}
use native.Mathlib.Nat.{mul-le-mul_left}
use native.Mathlib.Omega.{arith}
use lib.Dec.{ltb, leb, lit≤}
use lib.ListN.{length}
use borrow.Author.Tests.{leb-true, le-leb}
use Rattle.geometry.specs.declared.Part.{Part}
use Rattle.geometry.specs.declared.Part.TheVariants.{Small, Full}
use Rattle.geometry.specs.Parts.{unit_of, size_in, size_of, word_count}
use Rattle.plain.specs.declared.Refusal.{Refusal}
use Rattle.plain.specs.declared.Refusal.TheVariants.{Done, State, Cells, Clock}
use Rattle.plain.specs.declared.Operation.{Operation}
use Rattle.plain.specs.declared.Device.{Device}
use Rattle.plain.specs.declared.Answer.{Answer}
use Rattle.plain.specs.Cut.{begun_block, begun_program, block_debris, program_debris, debris_needed}
use Rattle.plain.specs.Events.{read, wait}
use Rattle.plain.specs.Figures.{clock_limit}
use Rattle.plain.specs.Lent.{Lent, array_of}
use Rattle.plain.specs.Machine.{Outcome, refused, Fit, now, waited, read_event, wait_event, step}
use Rattle.plain.specs.Operations.{running_of}
use Rattle.plain.specs.Programs.{debris_words}
use Rattle.plain.specs.Record.{device}
use Rattle.plain.specs.Refusals.{number}
use Rattle.plain.specs.Sound.{sound, is_still}
use Rattle.plain.specs.Time.{Moment, ticks}
use Rattle.plain.proofs.EventLaws.{read-address, read-passes, wait-barred, wait-clock, wait-passes, cut-debris, cut-passes}
use Rattle.plain.proofs.Facts.{sound-operation}
use Rattle.plain.proofs.Ladder.{entry-state, entry-cells, by-entry}
use Rattle.plain.proofs.Ticks.{ticks-add}
use Rattle.plain.proofs.Tools.{by_cases, by_order}
use Rattle.history.proofs.Kept.{step-sound}
use Rattle.remaining.specs.declared.Change.{Change}
use Rattle.remaining.specs.Remaining.{Fits, until_end, change_of}
use Rattle.foretold.specs.Foretold.{come_by, comes_at, Unchanged, Changed}
use Rattle.foretold.proofs.Ends.{ends-then}
use Rattle.foretold.proofs.Drifts.{unchanged-till}
use Rattle.foretold.proofs.Lands.{changed_then}
use Rattle.judged.specs.Foreseen.{end_now, change_now, debris_now}
use Rattle.outlook.specs.Foreseen.{figure_number}
use Rattle.audit.specs.Performed.{Allowed}
use Rattle.audit.specs.Foreseen.{EndForeseen, EndNears, AsBefore, JustChanged, ChangeForeseen, most_debris, DebrisForeseen}
use Rattle.audit.proofs.Same.{Is, allowed-is}
use Rattle.plain.specs.declared.Written.{Written}

-- two answers with one refusal and one word
unfoldable pub Alike : Outcome → Outcome → Type 0
Alike o q = (o.answer.refusal ≡ q.answer.refusal) × (o.answer.word ≡ q.answer.word)

-- ---- a wait that is taken

pub record Taken (p : Part) (r : Device) (l : Lent) (k : ℕ) : Type 0 where
  pub fit : Fit p r l
  pub in-time : r.meter.clock + k ≤ clock_limit p
  pub is : wait_event p r l k ≡ waited r (ticks p k (now r l))

module _ (p : Part) (r : Device) (l : Lent) (k : ℕ) where
  pub taken : (wait_event p r l k).answer.refusal ≡ Done → Taken p r l k
  unfolding number
  taken e =
      by-entry p r l (λ s. not State (wait-barred p r l k State (entry-state p r l s)) (λ z. omega (arith, z)))
      (λ s n. not Cells (wait-barred p r l k Cells (entry-cells p r l s n)) (λ z. omega (arith, z)))
      (λ f. by_order (clock_limit p) (r.meter.clock + k)
      (λ h. not Clock (wait-clock p r l k f h) (λ z. omega (arith, z)))
      (λ h. record { fit = f; in-time = h; is = wait-passes p r l k f h }))
    where
      not : {P : Type 0} (n : Refusal) → wait_event p r l k ≡ refused n r l → (number n ≡ 0 → ⊥) → P
      not n is wrong = absurd (wrong (ap number (sym (ap (λ (o : Outcome). o.answer.refusal) is) ∙ e)))

  module _ (t : Taken p r l k) where
    abbrev pub later : Moment
    later = ticks p k (now r l)

    -- the record afterwards
    abbrev pub left : Device
    left = device later.meter r.command later.operation r.bits

    pub fits : Fits p r.operation
    fits = record { bits = r.bits; sound = sound-operation p r t.fit.sound r.operation refl }

    pub sound-later : sound p left ≡ true
    unfolding step
    sound-later = rw t.is at (step-sound p r l (wait k) t.fit.sound)

    fits-later : Fits p later.operation
    fits-later = record { bits = r.bits; sound = sound-operation p left sound-later later.operation refl }

    abbrev end : ℕ
    end = until_end p (running_of r.operation)

    pub end-then : is_still (running_of later.operation) ≡ leb end k
    end-then = ends-then p (now r l) fits k

    -- it is known from both moments whether anything runs j microseconds later still
    both-know : (j : ℕ) → leb (until_end p (running_of later.operation)) j ≡ leb end (k + j)
    both-know j =
        sym (ends-then p later fits-later j)
        ∙ ap (λ (m : Moment). is_still (running_of m.operation)) (sym (ticks-add p k j (now r l)))
        ∙ ends-then p (now r l) fits (k + j)

    pub nears : until_end p (running_of later.operation) ≡ end - k
    nears =
        let m = until_end p (running_of later.operation) in
        let enough : end ≤ k + m = leb-true end (k + m) (sym (both-know m) ∙ le-leb m m (omega arith)) in
        let least : m ≤ end - k = leb-true m (end - k) (both-know (end - k) ∙ le-leb end (k + (end - k)) (omega arith)) in
        omega (arith, enough, least)

    -- ---- before the next change, and just then

    module _ (h : come_by (change_of (running_of r.operation)) k ≡ false) where
      pub still-so : Unchanged p (now r l) later
      still-so = unchanged-till p (now r l) k h

      fit-later : Fit p left later.lent
      fit-later = record { sound = sound-later; whole = λ y. ap (λ (x : Lent). length (array_of y x)) still-so.lent ∙ t.fit.whole y }

      -- a read is answered as before
      pub same_read : (a : ℕ) → Alike (read_event p left later.lent a) (read_event p r l a)
      unfolding Alike
      same_read a =
          by_order a (word_count p)
          (λ g. rw (read-passes p left later.lent a fit-later g, read-passes p r l a t.fit g) (refl, still-so.reads r.bits r.command a))
          (λ g. rw (read-address p left later.lent a fit-later g, read-address p r l a t.fit g) (refl, refl))

    pub changed : comes_at (change_of (running_of r.operation)) k ≡ true → Changed p (now r l) later
    changed = changed_then p (now r l) fits t.fit.whole k

-- ---- of the public functions

module _ {p : Part} {r : Device} {l after : Lent} {k : ℕ} {y : Answer} (c : Allowed p r l (wait k) y after) (e : y.refusal ≡ Done) where
  wait-is : Is (wait_event p r l k) y after
  unfolding step
  wait-is = allowed-is c

  pub allowed-taken : Taken p r l k
  allowed-taken = taken p r l k (ap (λ (x : Answer). x.refusal) (sym wait-is.answer) ∙ e)

  -- the record and what is lent afterwards
  device-is : y.device ≡ left p r l k allowed-taken
  device-is = ap (λ (x : Answer). x.device) wait-is.answer ∙ ap (λ (o : Outcome). o.answer.device) allowed-taken.is

  lent_is : after ≡ (later p r l k allowed-taken).lent
  lent_is = wait-is.lent ∙ ap (λ (o : Outcome). o.lent) allowed-taken.is

-- a figure that is told of a sound record
end-told : (p : Part) (r : Device) (n : ℕ) → sound p r ≡ true → Some n ≡ end_now p r → n ≡ until_end p (running_of r.operation)
unfolding end_now
end-told p r n s e = rw s at (ap figure_number e)

pub end-foreseen : (p : Part) → EndForeseen p
end-foreseen p r l after n k y told c e =
    let t = allowed-taken c e in
    rw (device-is c e, end-told p r n t.fit.sound told) (end-then p r l k t)

pub end-nears : (p : Part) → EndNears p
end-nears p r l after n m k y told c e again =
    let t = allowed-taken c e in
    let s : sound p y.device ≡ true = rw (device-is c e) (sound-later p r l k t) in
    end-told p y.device m s again ∙ rw (device-is c e, end-told p r n t.fit.sound told) (nears p r l k t)

-- what is told of a sound record's next change
change-told : (p : Part) (r : Device) (c : Change) → sound p r ≡ true → c ≡ change_now p r → c ≡ change_of (running_of r.operation)
unfolding change_now
change-told p r c s e = rw s at e

read_is : {p : Part} {r : Device} {l after : Lent} {a : ℕ} {y : Answer} → Allowed p r l (read a) y after → y ≡ (read_event p r l a).answer
unfolding step
read_is c = (allowed-is c).answer

module _ (p : Part) (r : Device) (l : Lent) (k : ℕ) (t : Taken p r l k) where
  as_before : come_by (change_of (running_of r.operation)) k ≡ false → AsBefore p r l (left p r l k t) (later p r l k t).lent
  unfolding Alike
  as_before h =
      let u = still-so p r l k t h in
      record {
        lent = u.lent;
        runs = u.runs;
        rests = u.rests;
        reads = λ a y z one two f g. rw (read_is f, read_is g) (same_read p r l k t h a);
      }

  just-changed : comes_at (change_of (running_of r.operation)) k ≡ true → JustChanged p (change_of (running_of r.operation)) r l (left p r l k t) (later p r l k t).lent
  just-changed h =
      let u = changed p r l k t h in
      record { lent = u.lent; runs = u.runs; mode = u.mode; elsewhere = u.elsewhere }

pub change-foreseen : (p : Part) → ChangeForeseen p
change-foreseen p r l after c k y told w e =
    let t = allowed-taken w e in
    rw (device-is w e, lent_is w e, change-told p r c t.fit.sound told) (as_before p r l k t, just-changed p r l k t)

-- ---- the debris

eight : (s t u : Bool) → cond s 1 (cond t 8 (cond u 1 0)) ≤ 8
eight true t u = lit≤ tt
eight false true u = lit≤ tt
eight false false true = lit≤ tt
eight false false false = lit≤ tt

-- block 8 is as large as any
size-most : (p : Part) (b : ℕ) → size_of p b ≤ size_of p 8
unfolding size_in
size-most p b = mul-le-mul_left (unit_of p) (eight (ltb b 8) (ltb b 262) (ltb b 270))

block-most : (p : Part) (b : Option ℕ) → block_debris p b ≤ size_of p 8
unfolding block_debris
block-most p None = omega arith
block-most p (Some b) = size-most p b

program-most : (q : Option Written) → program_debris q ≤ 1
unfolding program_debris debris_words
program-most None = lit≤ tt
program-most (Some d) = lit≤ tt

pub needed-most : (p : Part) (o : Operation) → debris_needed p o ≤ most_debris p
unfolding debris_needed
needed-most p o = omega (arith, block-most p (begun_block p o), program-most (begun_program p o))

-- "65 words" on the small part; 32,768 of a main block and one on the die
pub most-debris : (most_debris Small ≡ 65) × (most_debris Full ≡ 32769)
unfolding unit_of size_in
most-debris = (refl, refl)

pub debris-foreseen : (p : Part) → DebrisForeseen p
unfolding step debris_now
debris-foreseen p r l after debris n y told whole c =
    by_cases (sound p r)
    (λ s.
    let is : n ≡ debris_needed p r.operation = rw s at (ap figure_number told) in
    let fit : Fit p r l = record { sound = s; whole = whole } in
    rw ((allowed-is c).answer, is) (
      (λ h. ap (λ (o : Outcome). o.answer.refusal) (cut-passes p r l debris fit h)),
      ((λ h. ap (λ (o : Outcome). o.answer.refusal) (cut-debris p r l debris fit h)), needed-most p r.operation),
    ))
    (λ s.
    let none : Some n ≡ None = rw s at told in
    let z : ◌≡◌ {A = ℕ} 0 1 = cc in absurd (omega arith))
