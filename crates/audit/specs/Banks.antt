-- Document 02, request 8, its second part (plain/specs/Banks): banks do not tell of each other. Of the public functions, for every answer that
-- their contracts allow, and of every run of calls through C; from a fresh device on, and from any record, whatever is lent.
use Rattle.std.specs.Prelude.{ℕ, ◌<◌, ◌≡◌, List, [], ◌∷◌, ◌++◌}
use contract.Lifetimes.{Lfts}
use Rattle.std.specs.Borrow.{Bor}
use Rattle.geometry.specs.declared.Part.{Part}
use Rattle.plain.specs.declared.Device.{Device}
use Rattle.plain.specs.declared.Answer.{Answer}
use Rattle.plain.specs.Banks.{AlikeBut, ReadsBank, Spares}
use Rattle.plain.specs.Events.{Event, range}
use Rattle.plain.specs.Lent.{Lent}
use Rattle.plain.specs.Machine.{Ran}
use Rattle.layout.specs.Image.{device_of}
use Rattle.face.specs.Face.{Faced, part_named}
use Rattle.machine.proofs.range.Reads as Hands
use Rattle.emulator.proofs.k5l_range.Reads as CRange
use Rattle.audit.specs.Slices.{Location, slice, slices}
use Rattle.audit.specs.Performed.{Allowed, Performed}
use Rattle.audit.specs.Called.{Called, lent_after, Held, Calls}
use Rattle.audit.specs.Ranges.{handed_at}

-- ---- of the public functions: two runs of the same events, of which none is a program write into the bank, and then the event e in both

pub record AnsweredAlikeCode (p : Part) (bank : ℕ) (e : Event) (one two : Ran) (y z : Answer) (after other : Lent) : Type 0 where
  pub before : one.device ≡ two.device
  pub refusal : y.refusal ≡ z.refusal
  pub device : y.device ≡ z.device
  pub lent : AlikeBut p bank after other
  pub word : (ReadsBank p bank one.device e → ⊥) → y.word ≡ z.word

abbrev pub BanksApartCode : Part → Type 0
BanksApartCode p =
    (bank : ℕ) (r : Device) (l m after other : Lent) (es : List Event) (e : Event) (one two : Ran) (y z : Answer)
    → AlikeBut p bank l m → Spares p bank r l (es ++ (e ∷ [])) → Performed p r l es one → Performed p r m es two
    → Allowed p one.device one.lent e y after → Allowed p two.device two.lent e z other
    → AnsweredAlikeCode p bank e one two y z after other

-- what `machine::range` hands back
abbrev pub RangesApartCode : Part → Type 0
RangesApartCode p =
    (bank : ℕ) (r : Device) (l m : Lent) (first count : ℕ) (t u : Lfts 1) (at by of to : Location) (words others : Bor (List ℕ))
    → AlikeBut p bank l m → (ReadsBank p bank r (range first count) → ⊥)
    → Hands.Learnt t (p, (r, slices at by l (first, (count, tt)))) words (p, (r, slices at by l (first, (count, tt))))
    → Hands.Learnt u (p, (r, slices of to m (first, (count, tt)))) others (p, (r, slices of to m (first, (count, tt))))
    → words.now ≡ others.now

-- ---- through C

pub record AnsweredAlikeCalls (part bank : ℕ) (e : Event) (one two : Held) (f g : Faced) : Type 0 where
  pub before : one.words ≡ two.words
  pub refusal : f.refusal ≡ g.refusal
  pub image : f.image ≡ g.image
  pub lent : AlikeBut (part_named part) bank (lent_after f) (lent_after g)
  pub word : (ReadsBank (part_named part) bank (device_of one.words) e → ⊥) → f.word ≡ g.word

abbrev pub BanksApartCalls : Type 0
BanksApartCalls =
    (part bank : ℕ) (words : List ℕ) (l m : Lent) (es : List Event) (e : Event) (one two : Held) (f g : Faced)
    → AlikeBut (part_named part) bank l m → Spares (part_named part) bank (device_of words) l (es ++ (e ∷ []))
    → Calls part words l es one → Calls part words m es two
    → Called part one.words one.lent e f → Called part two.words two.lent e g
    → AnsweredAlikeCalls part bank e one two f g

-- `k5l_range` answers both alike, and the words lie in either array alike
abbrev pub RangesApartCalls : Type 0
RangesApartCalls =
    (part bank : ℕ) (words : List ℕ) (l m : Lent) (first count : ℕ) (t u : Lfts 3) (at by of to in' on : Location) (n k : ℕ)
    → AlikeBut (part_named part) bank l m
    → CRange.Learnt t (part, (slice at words, slices by of l (first, (count, tt)))) n (part, (slice at words, slices by of l (first, (count, tt))))
    → CRange.Learnt u (part, (slice to words, slices in' on m (first, (count, tt)))) k (part, (slice to words, slices in' on m (first, (count, tt))))
    → (n ≡ k)
    × (n < 8589934592 → (ReadsBank (part_named part) bank (device_of words) (range first count) → ⊥) → handed_at n count l ≡ handed_at k count m)
