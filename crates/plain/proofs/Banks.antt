-- Banks do not tell of each other: an event on two devices that are alike except for the cells of one bank.
use Prim.Native.Nat.{ℕ, ◌+◌, ◌<◌, ◌≤◌}
use mathlib.Core.Path.{◌≡◌, refl, sym, ap, ◌∙◌}
use mathlib.Core.Bool.{Bool, true, false}
use mathlib.Core.List.{List, []}
use native.Mathlib.Nat.{min-le_left}
use native.Mathlib.Omega.{arith}
use lib.Dec.{eqb}
use lib.ListN.{length, drop, length-take, length-drop}
use lib.Seq.{ext_get_or, get_or-take, get_or-drop}
use borrow.Author.Tests.{ltb-true, ltb-false, not-false}
use Rattle.geometry.specs.declared.Part.{Part}
use Rattle.geometry.specs.Parts.{word_count}
use Rattle.plain.specs.declared.Array.{Array}
use Rattle.plain.specs.declared.Array.TheVariants.{Main, OneTime}
use Rattle.plain.specs.declared.Refusal.{Refusal}
use Rattle.plain.specs.declared.Refusal.TheVariants.{Address, Clock, Debris, Busy}
use Rattle.plain.specs.declared.Operation.{Operation}
use Rattle.plain.specs.declared.Command.TheVariants.{Entering}
use Rattle.plain.specs.declared.Cycle.TheVariants.{ProgramData}
use Rattle.plain.specs.declared.Device.{Device}
use Rattle.plain.specs.Banks.{in_bank, AlikeBut, ProgramWrite, writes, ReadsBank, reads, ranges, handed_back, AnsweredAlike, BanksApart}
use Rattle.plain.specs.Events.{Event, read, write, wait, cut, range}
use Rattle.plain.specs.Lent.{Lent, array_of, word_at, is_whole, Whole}
use Rattle.plain.specs.Machine.{Outcome, refused, Fit, ladder, read_taken, write_taken, wait_taken, cut_taken, range_array, hands_back, part, range_words, read_event, write_event, wait_event, cut_event, range_event, step}
use Rattle.plain.specs.Operations.{running_of, suspension_of, selected}
use Rattle.plain.specs.Programs.{writing, raises}
use Rattle.plain.specs.Refusals.{number}
use Rattle.plain.specs.Status.{polls, reading_on, rests, look}
use Rattle.plain.proofs.Alike.{cut-alike, ticks-alike, written-alike}
use Rattle.plain.proofs.EventLaws.{read-passes}
use Rattle.plain.proofs.Ladder.{by-ladder, by_both}
use Rattle.plain.proofs.Lents.{true-whole}
use Rattle.plain.proofs.Tools.{by_cases, clash}

-- ---- a range is answered by the record, and by the lengths of what is lent

range-agrees : (p : Part) (r : Device) (l m : Lent) → is_whole p l ≡ is_whole p m → (first count : ℕ)
    → (range_event p r l first count).answer.refusal ≡ (range_event p r m first count).answer.refusal
unfolding range_event
range-agrees p r l m many first count =
    by_both p r l m many (λ one two. one.answer.refusal ≡ two.answer.refusal) _ Address _ _ (λ n. refl)
    (λ _ _. by_cases (hands_back r.operation) (λ h. rw h) (λ h. rw h))

-- ---- a word that lies in a bank is a cell

in-main : (p : Part) (bank x : ℕ) (y : Array) → in_bank p bank y x ≡ true → y ≡ Main
in-main p bank x Main e = refl
in-main p bank x OneTime e = clash e refl

-- ---- two devices

module _ (p : Part) (bank : ℕ) (r : Device) (l m : Lent) (a : AlikeBut p bank l m) where
  abbrev o : Operation
  o = r.operation

  many : is_whole p l ≡ is_whole p m
  many = rw (a.sizes Main, a.sizes OneTime)

  -- what comes of an event, on the one and on the other, with the word of its answer unless it reads the bank
  record Same (e : Event) (one two : Outcome) : Type 0 where
    refusal : one.answer.refusal ≡ two.answer.refusal
    device : one.answer.device ≡ two.answer.device
    lent : AlikeBut p bank one.lent two.lent
    word : (ReadsBank p bank r e → ⊥) → one.answer.word ≡ two.answer.word

  unchanged : (e : Event) (n : Refusal) → Same e (refused n r l) (refused n r m)
  unchanged e n = record { refusal = refl; device = refl; lent = a; word = λ _. refl }

  climbs : (e : Event) (fails : Bool) (own : Refusal) (one two : Outcome) → (Fit p r l → fails ≡ false → Same e one two)
      → Same e (ladder p r l fails own one) (ladder p r m fails own two)
  climbs e fails own one two = by_both p r l m many (Same e) fails own one two (unchanged e)

  -- ---- a read

  module _ (x : ℕ) where
    toggles-alike : (look p r.bits r.command o l x).operation ≡ (look p r.bits r.command o m x).operation
    unfolding look
    toggles-alike =
        by_cases (polls p (running_of o) x) (λ e. rw e)
        (λ e. by_cases (reading_on p r.command x) (λ f. rw (e, f)) (λ f. by_cases (rests p (suspension_of o) x) (λ g. rw (e, f, g)) (λ g. rw (e, f, g))))

    -- no status, no reading and no suspension is shown: the read gives the word
    module _ (e : polls p (running_of o) x ≡ false) (f : reading_on p r.command x ≡ false) (g : rests p (suspension_of o) x ≡ false) where
      given : (n : Lent) → (look p r.bits r.command o n x).word ≡ word_at n (selected (suspension_of o) x) x
      unfolding look
      given n = rw (e, f, g)

      read-main : Fit p r l → x < word_count p → selected (suspension_of o) x ≡ Main → (n : Lent) → Whole p n → (step p r n (read x)).answer.word ≡ word_at n Main x
      unfolding step
      read-main fit h main n whole = rw (read-passes p r n x (record { sound = fit.sound; whole = whole }) h, given n, main)

      word-alike : Fit p r l → x < word_count p → (ReadsBank p bank r (read x) → ⊥)
          → (look p r.bits r.command o l x).word ≡ (look p r.bits r.command o m x).word
      word-alike fit h spared =
          let y = selected (suspension_of o) x in
          given l
          ∙ by_cases (in_bank p bank y x)
          (λ t. let main = in-main p bank x y t in absurd (spared (reads h (rw main at t) (read-main fit h main))))
          (λ t. a.words y x t)
          ∙ sym (given m)

    read_word : Fit p r l → x < word_count p → (ReadsBank p bank r (read x) → ⊥)
        → (look p r.bits r.command o l x).word ≡ (look p r.bits r.command o m x).word
    unfolding look
    read_word fit h spared =
        by_cases (polls p (running_of o) x) (λ e. rw e)
        (λ e. by_cases (reading_on p r.command x) (λ f. rw (e, f))
        (λ f. by_cases (rests p (suspension_of o) x) (λ g. rw (e, f, g)) (λ g. word-alike e f g fit h spared)))

    read_alike : Same (read x) (read_event p r l x) (read_event p r m x)
    unfolding read_event
    read_alike =
        climbs (read x) _ Address (read_taken p r l x) (read_taken p r m x)
        (λ fit t. record { refusal = refl; device = rw toggles-alike; lent = a; word = read_word fit (ltb-true _ _ (not-false _ t)) })

  -- ---- a write

  -- what a program asks of the words is asked of no cell of the bank
  raises-alike : (x w : ℕ) → x < word_count p → (ProgramWrite p bank r (write x w) → ⊥) → r.command ≡ Entering ProgramData
      → raises (writing (selected (suspension_of o) x) x w) l ≡ raises (writing (selected (suspension_of o) x) x w) m
  unfolding raises
  raises-alike x w h spared cycle =
      let y = selected (suspension_of o) x in
      by_cases (in_bank p bank y x) (λ t. absurd (spared (writes cycle h t))) (λ t. rw (a.words y x t))

  write-alike : (x w : ℕ) → (ProgramWrite p bank r (write x w) → ⊥) → Same (write x w) (write_event p r l x w) (write_event p r m x w)
  unfolding write_event
  write-alike x w spared =
      climbs (write x w) _ Address (write_taken p r l x w) (write_taken p r m x w)
      (λ fit t.
      let same = written-alike p r.bits l m x w o r.command (raises-alike x w (ltb-true _ _ (not-false _ t)) spared) in
      record { refusal = rw same; device = rw same; lent = a; word = λ _. rw same })

  -- ---- a wait, a cut

  wait-alike : (n : ℕ) → Same (wait n) (wait_event p r l n) (wait_event p r m n)
  unfolding wait_event
  wait-alike n =
      climbs (wait n) _ Clock (wait_taken p r l n) (wait_taken p r m n)
      (λ fit t.
      let along = ticks-alike p bank n r.meter o l m fit.whole a in
      record { refusal = refl; device = rw (along.meter, along.operation); lent = along.lent; word = λ _. refl })

  cut-put-alike : (debris : List ℕ) → Same (cut debris) (cut_event p r l debris) (cut_event p r m debris)
  unfolding cut_event
  cut-put-alike debris =
      climbs (cut debris) _ Debris (cut_taken p r l debris) (cut_taken p r m debris)
      (λ fit t.
      record { refusal = refl; device = refl; lent = cut-alike p bank o debris l m fit.whole (ltb-false _ _ t) a; word = λ _. refl })

  -- ---- a range

  module _ (first count : ℕ) where
    range-alike : Same (range first count) (range_event p r l first count) (range_event p r m first count)
    unfolding range_event
    range-alike =
        climbs (range first count) _ Address _ _
        (λ _ _. by_cases (hands_back o) (λ h. rw h (record { refusal = refl; device = refl; lent = a; word = λ _. refl })) (λ h. rw h (unchanged _ Busy)))

    abbrev y : Array
    y = range_array o first

    abbrev is_done : Lent → Bool
    is_done n = eqb (number (range_event p r n first count).answer.refusal) 0

    done-fit : is_done l ≡ true → Fit p r l
    unfolding range_event number
    done-fit =
        by-ladder p r l _ Address _ (λ (z : Outcome). eqb (number z.answer.refusal) 0 ≡ true → Fit p r l) (λ _ e. clash e refl) (λ e. clash e refl) (λ fit _. fit) (λ fit _ _. fit)

    -- it hands back that part of its array
    handed-done : (n : Lent) → is_done n ≡ true → range_words p r n first count ≡ part (array_of y n) first count
    unfolding range_words
    handed-done n e = rw e

    none-handed : (n : Lent) → is_done n ≡ false → range_words p r n first count ≡ []
    unfolding range_words
    none-handed n e = rw e

    hands-main : is_done l ≡ true → y ≡ Main → (n : Lent) → Whole p n → range_words p r n first count ≡ part n.cells first count
    hands-main e main n whole =
        let size : is_whole p l ≡ is_whole p n = true-whole p l (done-fit e).whole ∙ sym (true-whole p n whole) in
        handed-done n (rw (← range-agrees p r l n size first count) e) ∙ ap (λ (z : Array). part (array_of z n) first count) main

    word-there : is_done l ≡ true → (ReadsBank p bank r (range first count) → ⊥) → (x : ℕ) → first ≤ x → x < first + count → word_at l y x ≡ word_at m y x
    word-there e spared x from to =
        by_cases (in_bank p bank y x)
        (λ t. let main = in-main p bank x y t in absurd (spared (ranges from to (rw main at t) (hands-main e main))))
        (λ t. a.words y x t)

    part-alike : ((x : ℕ) → first ≤ x → x < first + count → word_at l y x ≡ word_at m y x) → part (array_of y l) first count ≡ part (array_of y m) first count
    part-alike each =
        ext_get_or 0 _ _ (simp (length-take, length-drop) (rw (a.sizes y)))
        (λ i h.
        let near : i < count = omega (arith, h, length-take count (drop first (array_of y l)), min-le_left count (length (drop first (array_of y l)))) in
        get_or-take count _ i 0 near ∙ get_or-drop first (array_of y l) i 0
        ∙ each (first + i) (omega arith) (omega (arith, near))
        ∙ sym (get_or-take count _ i 0 near ∙ get_or-drop first (array_of y m) i 0))

    handed-alike : (ReadsBank p bank r (range first count) → ⊥) → range_words p r l first count ≡ range_words p r m first count
    handed-alike spared =
        by_cases (is_done l)
        (λ e. handed-done l e ∙ part-alike (word-there e spared) ∙ sym (handed-done m (rw (← range-agrees p r l m many first count) e)))
        (λ e. none-handed l e ∙ sym (none-handed m (rw (← range-agrees p r l m many first count) e)))

  -- ---- any event

  answered : (e : Event) → Same e (step p r l e) (step p r m e) → ((ReadsBank p bank r e → ⊥) → handed_back p r l e ≡ handed_back p r m e) → AnsweredAlike p bank r l m e
  answered e s h = record { refusal = s.refusal; device = s.device; lent = s.lent; word = s.word; handed = h }

pub banks-apart : (p : Part) → BanksApart p
unfolding step handed_back
banks-apart p bank r l m (read x) a spared = answered p bank r l m a (read x) (read_alike p bank r l m a x) (λ _. refl)
banks-apart p bank r l m (write x w) a spared = answered p bank r l m a (write x w) (write-alike p bank r l m a x w spared) (λ _. refl)
banks-apart p bank r l m (wait n) a spared = answered p bank r l m a (wait n) (wait-alike p bank r l m a n) (λ _. refl)
banks-apart p bank r l m (cut debris) a spared = answered p bank r l m a (cut debris) (cut-put-alike p bank r l m a debris) (λ _. refl)
banks-apart p bank r l m (range first count) a spared =
    answered p bank r l m a (range first count) (range-alike p bank r l m a first count) (handed-alike p bank r l m a first count)
