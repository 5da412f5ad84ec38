-- Banks do not tell of each other: of runs of the public functions, and of calls through C.
use Prim.Native.Nat.{ℕ}
use mathlib.Core.Path.{◌≡◌, refl, ap, sym, ◌∙◌}
use mathlib.Core.Bool.{true, false}
use mathlib.Core.List.{List, [], ◌∷◌, ◌++◌}
use Rattle.geometry.specs.declared.Part.{Part}
use Rattle.plain.specs.declared.Refusal.{Refusal}
use Rattle.plain.specs.declared.Device.{Device}
use Rattle.plain.specs.Banks.{AlikeBut, handed_back, ProgramWrite, Spares}
use Rattle.plain.specs.Events.{Event, range}
use Rattle.plain.specs.Lent.{Lent}
use Rattle.plain.specs.Machine.{range_array, step}
use Rattle.plain.specs.Refusals.{number}
use Rattle.plain.proofs.Banks.{banks-apart}
use Rattle.plain.proofs.Tools.{by_cases}
use Rattle.history.proofs.Banks.{banks-apart-in-runs}
use Rattle.layout.specs.Image.{image_of, device_of}
use Rattle.face.specs.Face.{Faced, part_named, stands}
use Rattle.face.specs.Range.{packed_range, face_range}
use Rattle.face.proofs.Ranges.{range_none, range-some}
use Rattle.audit.specs.Called.{Called, Held, Calls}
use Rattle.audit.specs.Banks.{BanksApartCode, RangesApartCode, AnsweredAlikeCalls, BanksApartCalls, RangesApartCalls}
use Rattle.audit.proofs.CallRuns.{ran-words, ran-device, then-called, call_none, ran-none}
use Rattle.audit.proofs.Ranges.{ranges-lie-calls}
use Rattle.audit.proofs.Same.{allowed-is, performed-run}

no-program-write : {p : Part} {bank : ℕ} {r : Device} {first count : ℕ} → ProgramWrite p bank r (range first count) → ⊥
no-program-write = elim [ ]

-- ---- of the public functions

pub banks-apart-code : (p : Part) → BanksApartCode p
banks-apart-code p bank r l m after other es e one two y z a s f g c d =
    let alike = banks-apart-in-runs p bank r l m es e a s in
    record {
      before = rw (performed-run f, performed-run g) alike.0;
      refusal = rw ((allowed-is c).answer, (allowed-is d).answer, performed-run f, performed-run g, ← alike.0) alike.1.refusal;
      device = rw ((allowed-is c).answer, (allowed-is d).answer, performed-run f, performed-run g, ← alike.0) alike.1.device;
      lent = rw ((allowed-is c).lent, (allowed-is d).lent, performed-run f, performed-run g, ← alike.0) alike.1.lent;
      word = rw ((allowed-is c).answer, (allowed-is d).answer, performed-run f, performed-run g, ← alike.0) alike.1.word;
    }

pub ranges-apart-code : (p : Part) → RangesApartCode p
unfolding handed_back
ranges-apart-code p bank r l m first count t u at by of to words others a spared f g =
    rw (f, g) ((banks-apart p bank r l m (range first count) a no-program-write).handed spared)

-- ---- through C

module _ (part bank : ℕ) (words : List ℕ) (l m : Lent) (a : AlikeBut (part_named part) bank l m) where
  abbrev p : Part
  p = part_named part

  abbrev r : Device
  r = device_of words

  module _ (es : List Event) (e : Event) (one two : Held) (f g : Faced) (c : Calls part words l es one) (d : Calls part words m es two)
      (x : Called part one.words one.lent e f) (y : Called part two.words two.lent e g) where
    on-record : Spares p bank r l (es ++ (e ∷ [])) → stands part words ≡ true → AnsweredAlikeCalls part bank e one two f g
    on-record spared s =
        let alike = banks-apart-in-runs p bank r l m es e a spared in
        let f-is = then-called part words s l es one c e f x in
        let g-is = then-called part words s m es two d e g y in
        record {
          before = ran-words part words s l es one c ∙ ap image_of alike.0 ∙ sym (ran-words part words s m es two d);
          refusal = rw (f-is, g-is, ← alike.0) (ap number alike.1.refusal);
          image = rw (f-is, g-is, ← alike.0) (ap image_of alike.1.device);
          lent = rw (f-is, g-is, ← alike.0) alike.1.lent;
          word = rw (f-is, g-is, ← alike.0, ran-device part words s l es one c) alike.1.word;
        }

    on_none : stands part words ≡ false → AnsweredAlikeCalls part bank e one two f g
    on_none s =
        let one-is = ran-none part words s words l l es one refl refl c in
        let two_is = ran-none part words s words m m es two refl refl d in
        let f-is = call_none part words s l e f (rw one-is at x) in
        let g-is = call_none part words s m e g (rw two_is at y) in
        record {
          before = rw (one-is, two_is);
          refusal = rw (f-is, g-is);
          image = rw (f-is, g-is);
          lent = rw (f-is, g-is) a;
          word = λ _. rw (f-is, g-is);
        }

  module _ (first count : ℕ) where
    range-alike : face_range part words l.cells l.otp first count ≡ face_range part words m.cells m.otp first count
    unfolding step
    range-alike =
        by_cases (stands part words)
        (λ s.
        range-some part words l.cells l.otp first count s
        ∙ ap (λ (n : Refusal). packed_range (number n) (range_array r.operation first) first) (banks-apart p bank r l m (range first count) a no-program-write).refusal
        ∙ sym (range-some part words m.cells m.otp first count s))
        (λ s. range_none part words l.cells l.otp first count s ∙ sym (range_none part words m.cells m.otp first count s))

pub banks-apart-calls : BanksApartCalls
banks-apart-calls part bank words l m es e one two f g a spared c d x y =
    by_cases (stands part words) (on-record part bank words l m a es e one two f g c d x y spared) (on_none part bank words l m a es e one two f g c d x y)

pub ranges-apart-calls : RangesApartCalls
unfolding handed_back
ranges-apart-calls part bank words l m first count t u at by of to in' on n k a f g =
    let same : n ≡ k = f ∙ range-alike part bank words l m a first count ∙ sym g in (
      same,
      (λ done spared.
          (ranges-lie-calls part words l first count t at by of n f done).1
          ∙ (banks-apart (part_named part) bank (device_of words) l m (range first count) a no-program-write).handed spared
          ∙ sym (ranges-lie-calls part words m first count u to in' on k g (rw same at done)).1),
    )
