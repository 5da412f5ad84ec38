-- The four events, answer by answer: what each comes to once the tests on the way are known.
use Rattle.std.specs.Prelude.{Err}
use Prim.Native.Nat.{ℕ, ◌+◌, ◌<◌, ◌≤◌}
use mathlib.Core.Path.{◌≡◌}
use mathlib.Core.List.{List}
use lib.ListN.{length}
use borrow.Author.Tests.{lt-ltb, le-ltb, le-leb, lt-leb}
use Rattle.geometry.specs.declared.Part.{Part}
use Rattle.geometry.specs.Parts.{word_count}
use Rattle.plain.specs.declared.Refusal.{Refusal}
use Rattle.plain.specs.declared.Refusal.TheVariants.{Address, Clock, Debris}
use Rattle.plain.specs.declared.Device.{Device}
use Rattle.plain.specs.Figures.{clock_limit}
use Rattle.plain.specs.Lent.{Lent}
use Rattle.plain.specs.Cut.{debris_needed}
use Rattle.plain.specs.Machine.{refused, entry, Fit, read_taken, write_taken, wait_taken, cut_taken, read_event, write_event, wait_event, cut_event}
use Rattle.plain.proofs.Ladder.{entry-admitted, ladder-barred, ladder-own, ladder-taken}

module _ (p : Part) (r : Device) (l : Lent) where
  module _ (a : ℕ) where
    pub read-barred : (n : Refusal) → entry p r l ≡ Err n → read_event p r l a ≡ refused n r l
    unfolding read_event
    read-barred n e = ladder-barred p r l _ Address _ n e

    pub read-address : Fit p r l → word_count p ≤ a → read_event p r l a ≡ refused Address r l
    unfolding read_event
    read-address f h = ladder-own p r l _ Address _ (entry-admitted p r l f) (rw (le-ltb a (word_count p) h))

    pub read-passes : Fit p r l → a < word_count p → read_event p r l a ≡ read_taken p r l a
    unfolding read_event
    read-passes f h = ladder-taken p r l _ Address _ (entry-admitted p r l f) (rw (lt-ltb a (word_count p) h))

    module _ (w : ℕ) where
      pub write-barred : (n : Refusal) → entry p r l ≡ Err n → write_event p r l a w ≡ refused n r l
      unfolding write_event
      write-barred n e = ladder-barred p r l _ Address _ n e

      pub write-address : Fit p r l → word_count p ≤ a → write_event p r l a w ≡ refused Address r l
      unfolding write_event
      write-address f h = ladder-own p r l _ Address _ (entry-admitted p r l f) (rw (le-ltb a (word_count p) h))

      pub write-passes : Fit p r l → a < word_count p → write_event p r l a w ≡ write_taken p r l a w
      unfolding write_event
      write-passes f h = ladder-taken p r l _ Address _ (entry-admitted p r l f) (rw (lt-ltb a (word_count p) h))

  module _ (n : ℕ) where
    pub wait-barred : (x : Refusal) → entry p r l ≡ Err x → wait_event p r l n ≡ refused x r l
    unfolding wait_event
    wait-barred x e = ladder-barred p r l _ Clock _ x e

    pub wait-clock : Fit p r l → clock_limit p < r.meter.clock + n → wait_event p r l n ≡ refused Clock r l
    unfolding wait_event
    wait-clock f h = ladder-own p r l _ Clock _ (entry-admitted p r l f) (rw (lt-leb (r.meter.clock + n) (clock_limit p) h))

    pub wait-passes : Fit p r l → r.meter.clock + n ≤ clock_limit p → wait_event p r l n ≡ wait_taken p r l n
    unfolding wait_event
    wait-passes f h =
        ladder-taken p r l _ Clock _ (entry-admitted p r l f) (rw (le-leb (r.meter.clock + n) (clock_limit p) h))

  module _ (debris : List ℕ) where
    pub cut-barred : (n : Refusal) → entry p r l ≡ Err n → cut_event p r l debris ≡ refused n r l
    unfolding cut_event
    cut-barred n e = ladder-barred p r l _ Debris _ n e

    pub cut-debris : Fit p r l → length debris < debris_needed p r.operation → cut_event p r l debris ≡ refused Debris r l
    unfolding cut_event
    cut-debris f h = ladder-own p r l _ Debris _ (entry-admitted p r l f) (lt-ltb (length debris) (debris_needed p r.operation) h)

    pub cut-passes : Fit p r l → debris_needed p r.operation ≤ length debris → cut_event p r l debris ≡ cut_taken p r l debris
    unfolding cut_event
    cut-passes f h = ladder-taken p r l _ Debris _ (entry-admitted p r l f) (le-ltb (length debris) (debris_needed p r.operation) h)
