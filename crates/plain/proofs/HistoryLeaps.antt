-- The history's time in leaps: the same as microsecond by microsecond, and quick to compute worked histories by.
use Prim.Native.Nat.{ℕ, zero, suc, ◌+◌, ◌-◌, ◌*◌, ◌<◌, ◌≤◌}
use mathlib.Core.Path.{◌≡◌, refl, sym, ap, ◌∙◌}
use mathlib.Core.Bool.{Bool, true, false}
use mathlib.Core.List.{List, [], ◌∷◌}
use native.Mathlib.Nat.{zero-add, suc-add, suc-mul}
use native.Mathlib.Omega.{arith}
use lib.Dec.{ltb, eqb}
use borrow.Author.Tests.{ltb-true, ltb-false, ne_eqb}
use Rattle.blocks.specs.declared.Blocks.{Blocks}
use Rattle.geometry.specs.declared.Part.{Part}
use Rattle.plain.specs.declared.Refusal.{Refusal}
use Rattle.plain.specs.declared.Command.{Command}
use Rattle.plain.specs.Events.{Event, read, write, wait, cut, range, Turn}
use Rattle.plain.specs.Figures.{program_time, window_time, erase_time, recovery_time, chip_time}
use Rattle.plain.specs.Doings.{Doing, nothing, programs, waits, erases, recovers, wipes, rests, programs_in, entered, programs_entered, draws, goes, comes}
use Rattle.plain.specs.History.{Told, telling, Kind, taken, lost, dropped, unheard, kind, microsecond, time, wrote_as, waited_as, cut_as, tell, told}
use Rattle.plain.specs.Holds.{Fact}
use Rattle.plain.proofs.Leaps.{Due, never, due}

-- the time to go until something comes to pass
unfoldable pub to_go : Part → Doing → Due
to_go p nothing = never
to_go p (programs d g) = due (program_time p - g)
to_go p (waits l b g) = due (window_time p - g)
to_go p (erases l b g) = due (erase_time p - g)
to_go p (recovers l b g n) = due (recovery_time p - n)
to_go p (wipes l b g) = due (chip_time p - g)
to_go p (rests l b g) = never
to_go p (programs_in d pg l b g) = due (program_time p - pg)
to_go p entered = never
to_go p (programs_entered d g) = due (program_time p - g)

-- the same with k microseconds more gone
unfoldable pub further : Doing → ℕ → Doing
further nothing k = nothing
further (programs d g) k = programs d (g + k)
further (waits l b g) k = waits l b (g + k)
further (erases l b g) k = erases l b (g + k)
further (recovers l b g n) k = recovers l b g (n + k)
further (wipes l b g) k = wipes l b (g + k)
further (rests l b g) k = rests l b g
further (programs_in d pg l b g) k = programs_in d (pg + k) l b g
further entered k = entered
further (programs_entered d g) k = programs_entered d (g + k)

unfoldable pub later : Part → ℕ → Told → Told
later p k h = telling h.command (further h.doing k) h.dyb h.ppb h.sealed h.facts (h.clock + k) (h.charge + k * draws p h.doing)

-- ---- nothing comes to pass

-- what is under way, told by the time gone
record Counting (p : Part) (at : ℕ → Doing) (full rate : ℕ) : Type 0 where
  on : (g : ℕ) → suc g < full → goes p (at g) ≡ at (suc g)
  quiet : (g : ℕ) → suc g < full → (fs : List Fact) → comes p (at g) fs ≡ fs
  rates : (g : ℕ) → draws p (at g) ≡ rate

not_yet : (g full : ℕ) → suc g < full → eqb (suc g) full ≡ false
not_yet g full h = ne_eqb (suc g) full (λ e. omega (arith, e, h))

module _ (p : Part) (c : Command) (y q : Blocks) (s : Bool) where
  abbrev at-time : Doing → List Fact → ℕ → ℕ → Told
  at-time d fs t e = telling c d y q s fs t e

  counted : (at : ℕ → Doing) (full rate : ℕ) → Counting p at full rate → (k g : ℕ) → g + k < full → (fs : List Fact) (t e : ℕ)
      → time p k (at-time (at g) fs t e) ≡ at-time (at (g + k)) fs (t + k) (e + k * rate)
  unfolding time microsecond
  counted at full rate n zero g h fs t e = λ i. at-time (at (a i)) fs (b i) (d i)
    where
      a : g ≡ g + 0
      a = omega arith

      b : t ≡ t + 0
      b = omega arith

      d : e ≡ e + 0 * rate
      d = omega arith
  counted at full rate n (suc k) g h fs t e =
      rw (n.on g (omega (arith, h)), n.quiet g (omega (arith, h)) fs, n.rates g)
      (counted at full rate n k (suc g) (omega (arith, h)) fs (t + 1) (e + rate) ∙ (λ i. at-time (at (a i)) fs (b i) (d i)))
    where
      a : suc g + k ≡ g + suc k
      a = omega arith

      b : t + 1 + k ≡ t + suc k
      b = omega arith

      d : e + rate + k * rate ≡ e + suc k * rate
      d = omega (arith, suc-mul k rate)

  -- what time leaves as it is
  stayed : (d : Doing) → goes p d ≡ d → ((fs : List Fact) → comes p d fs ≡ fs) → (k : ℕ) (fs : List Fact) (t e : ℕ)
      → time p k (at-time d fs t e) ≡ at-time d fs (t + k) (e + k * draws p d)
  unfolding time microsecond
  stayed d g f zero fs t e = λ i. at-time d fs (b i) (x i)
    where
      b : t ≡ t + 0
      b = omega arith

      x : e ≡ e + 0 * draws p d
      x = omega arith
  stayed d g f (suc k) fs t e = rw (g, f fs) (stayed d g f k fs (t + 1) (e + draws p d) ∙ (λ i. at-time d fs (b i) (x i)))
    where
      b : t + 1 + k ≡ t + suc k
      b = omega arith

      x : e + draws p d + k * draws p d ≡ e + suc k * draws p d
      x = omega (arith, suc-mul k (draws p d))

  quiet-time : (d : Doing) (l : ℕ) → to_go p d ≡ due l → (k : ℕ) → k < l → (fs : List Fact) (t e : ℕ) → time p k (at-time d fs t e) ≡ later p k (at-time d fs t e)
  unfolding to_go later further draws goes comes
  quiet-time nothing l x k h fs t e = let z : ◌≡◌ {A = ℕ} 0 1 = cc in absurd (omega arith)
  quiet-time (programs d g) l x k h fs t e =
      let i : program_time p - g ≡ l = cc in
      counted (programs d) (program_time p) _ (record { on = λ n m. rw (not_yet n (program_time p) m); quiet = λ n m f. rw (not_yet n (program_time p) m); rates = λ n. refl }) k g (omega arith) fs t e
  quiet-time (waits s b g) l x k h fs t e =
      let i : window_time p - g ≡ l = cc in
      counted (waits s b) (window_time p) _ (record { on = λ n m. rw (not_yet n (window_time p) m); quiet = λ n m f. refl; rates = λ n. refl }) k g (omega arith) fs t e
  quiet-time (erases s b g) l x k h fs t e =
      let i : erase_time p - g ≡ l = cc in
      counted (erases s b) (erase_time p) _ (record { on = λ n m. rw (not_yet n (erase_time p) m); quiet = λ n m f. rw (not_yet n (erase_time p) m); rates = λ n. refl }) k g (omega arith) fs t e
  quiet-time (recovers s b g o) l x k h fs t e =
      let i : recovery_time p - o ≡ l = cc in
      counted (recovers s b g) (recovery_time p) _ (record { on = λ n m. rw (not_yet n (recovery_time p) m); quiet = λ n m f. refl; rates = λ n. refl }) k o (omega arith) fs t e
  quiet-time (wipes s b g) l x k h fs t e =
      let i : chip_time p - g ≡ l = cc in
      counted (wipes s b) (chip_time p) _ (record { on = λ n m. rw (not_yet n (chip_time p) m); quiet = λ n m f. rw (not_yet n (chip_time p) m); rates = λ n. refl }) k g (omega arith) fs t e
  quiet-time (rests s b g) l x k h fs t e = let z : ◌≡◌ {A = ℕ} 0 1 = cc in absurd (omega arith)
  quiet-time (programs_in d pg s b g) l x k h fs t e =
      let i : program_time p - pg ≡ l = cc in
      counted (λ n. programs_in d n s b g) (program_time p) _ (record { on = λ n m. rw (not_yet n (program_time p) m); quiet = λ n m f. rw (not_yet n (program_time p) m); rates = λ n. refl }) k pg (omega arith) fs t e
  quiet-time entered l x k h fs t e = let z : ◌≡◌ {A = ℕ} 0 1 = cc in absurd (omega arith)
  quiet-time (programs_entered d g) l x k h fs t e =
      let i : program_time p - g ≡ l = cc in
      counted (programs_entered d) (program_time p) _ (record { on = λ n m. rw (not_yet n (program_time p) m); quiet = λ n m f. rw (not_yet n (program_time p) m); rates = λ n. refl }) k g (omega arith) fs t e

  still-time : (d : Doing) → to_go p d ≡ never → (k : ℕ) (fs : List Fact) (t e : ℕ) → time p k (at-time d fs t e) ≡ later p k (at-time d fs t e)
  unfolding to_go later further goes comes
  still-time nothing x k fs t e = stayed nothing refl (λ f. refl) k fs t e
  still-time (programs d g) x k fs t e = let z : ◌≡◌ {A = ℕ} 0 1 = cc in absurd (omega arith)
  still-time (waits s b g) x k fs t e = let z : ◌≡◌ {A = ℕ} 0 1 = cc in absurd (omega arith)
  still-time (erases s b g) x k fs t e = let z : ◌≡◌ {A = ℕ} 0 1 = cc in absurd (omega arith)
  still-time (recovers s b g o) x k fs t e = let z : ◌≡◌ {A = ℕ} 0 1 = cc in absurd (omega arith)
  still-time (wipes s b g) x k fs t e = let z : ◌≡◌ {A = ℕ} 0 1 = cc in absurd (omega arith)
  still-time (rests s b g) x k fs t e = stayed (rests s b g) refl (λ f. refl) k fs t e
  still-time (programs_in d pg s b g) x k fs t e = let z : ◌≡◌ {A = ℕ} 0 1 = cc in absurd (omega arith)
  still-time entered x k fs t e = stayed entered refl (λ f. refl) k fs t e
  still-time (programs_entered d g) x k fs t e = let z : ◌≡◌ {A = ℕ} 0 1 = cc in absurd (omega arith)

-- ---- leaps

time-add : (p : Part) (a b : ℕ) (h : Told) → time p (a + b) h ≡ time p b (time p a h)
unfolding time
time-add p zero b h = rw zero-add
time-add p (suc a) b h = rw suc-add (time-add p a b (microsecond p h))

unfoldable pub quick_time : Part → (fuel n : ℕ) → Told → Told
quick_time p zero n h = time p n h
quick_time p (suc fuel) n h =
    elim (to_go p h.doing) [
      | never ↦ later p n h
      | due l ↦ elim (ltb n l) [
        | true ↦ later p n h
        | false ↦ elim (ltb 0 l) [ true ↦ quick_time p fuel (n - l) (microsecond p (later p (l - 1) h)) | false ↦ time p n h ]
      ]
    ]

pub quick-time : (p : Part) (fuel n : ℕ) (h : Told) → quick_time p fuel n h ≡ time p n h
unfolding quick_time time
quick-time p zero n h = refl
quick-time p (suc fuel) n h = go (to_go p h.doing) refl (quick-time p fuel)
  where
    quiet : (l k : ℕ) → to_go p h.doing ≡ due l → k < l → time p k h ≡ later p k h
    quiet l k e m = quiet-time p h.command h.dyb h.ppb h.sealed h.doing l e k m h.facts h.clock h.charge

    next : (l : ℕ) → to_go p h.doing ≡ due l → l ≤ n → 0 < l → time p (n - l) (microsecond p (later p (l - 1) h)) ≡ time p n h
    next l e m k =
        let one : n ≡ (l - 1) + suc (n - l) = omega arith in
        ap (λ (x : Told). time p (n - l) (microsecond p x)) (sym (quiet l (l - 1) e (omega arith)))
        ∙ sym (time-add p (l - 1) (suc (n - l)) h)
        ∙ ap (λ (k : ℕ). time p k h) (sym one)

    go : (d : Due) → to_go p h.doing ≡ d → ((k : ℕ) (x : Told) → quick_time p fuel k x ≡ time p k x)
        → (elim d [
          | never ↦ later p n h
          | due l ↦ elim (ltb n l) [
            | true ↦ later p n h
            | false ↦ elim (ltb 0 l) [ true ↦ quick_time p fuel (n - l) (microsecond p (later p (l - 1) h)) | false ↦ time p n h ]
          ]
        ]) ≡ time p n h
    go never e rest = sym (still-time p h.command h.dyb h.ppb h.sealed h.doing e n h.facts h.clock h.charge)
    go (due l) e rest = at (ltb n l) refl (ltb 0 l) refl
      where
        at : (b : Bool) → ltb n l ≡ b → (c : Bool) → ltb 0 l ≡ c
            → (elim b [ true ↦ later p n h | false ↦ elim c [ true ↦ quick_time p fuel (n - l) (microsecond p (later p (l - 1) h)) | false ↦ time p n h ] ]) ≡ time p n h
        at true f c g = sym (quiet l n e (ltb-true n l f))
        at false f true g = rest (n - l) (microsecond p (later p (l - 1) h)) ∙ next l e (ltb-false n l f) (ltb-true 0 l g)
        at false f false g = refl

-- ---- the history with its time in leaps

unfoldable pub quick_waited : Part → Told → Kind → (n : ℕ) → Told
quick_waited p h taken n = quick_time p 272 n h
quick_waited p h lost n = h
quick_waited p h dropped n = h
quick_waited p h unheard n = h

unfoldable pub quick_tell : Part → Told → Event → Refusal → Told
quick_tell p h (read a) n = h
quick_tell p h (write a w) n = wrote_as p h (kind n) a w
quick_tell p h (wait m) n = quick_waited p h (kind n) m
quick_tell p h (cut debris) n = cut_as p h (kind n) debris
quick_tell p h (range first count) n = h

unfoldable pub quick_told : Part → Told → List Turn → Told
quick_told p h [] = h
quick_told p h (t ∷ ts) = quick_told p (quick_tell p h t.event t.refusal) ts

quick-waited : (p : Part) (h : Told) (k : Kind) (n : ℕ) → waited_as p h k n ≡ quick_waited p h k n
unfolding waited_as quick_waited
quick-waited p h taken n = sym (quick-time p 272 n h)
quick-waited p h lost n = refl
quick-waited p h dropped n = refl
quick-waited p h unheard n = refl

quick-tell : (p : Part) (h : Told) (e : Event) (n : Refusal) → tell p h e n ≡ quick_tell p h e n
unfolding tell quick_tell
quick-tell p h (read a) n = refl
quick-tell p h (write a w) n = refl
quick-tell p h (wait m) n = quick-waited p h (kind n) m
quick-tell p h (cut debris) n = refl
quick-tell p h (range first count) n = refl

pub quick-told : (p : Part) (h : Told) (ts : List Turn) → told p h ts ≡ quick_told p h ts
unfolding told quick_told
quick-told p h [] = refl
quick-told p h (t ∷ ts) = rw (quick-tell p h t.event t.refusal) (quick-told p (quick_tell p h t.event t.refusal) ts)
