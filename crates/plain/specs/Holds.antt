-- What has come to pass in a run, and what a word holds by it.
use Rattle.std.specs.Prelude.{ℕ, ◌-◌, Bool, false, List, [], ◌∷◌, eqb, get_or}
use Rattle.std.specs.Int.Bits.{bit_and, bit_or}
use Rattle.geometry.specs.declared.Part.{Part}
use Rattle.geometry.specs.Parts.{block_of, first_of}
use Rattle.plain.specs.declared.Array.{Array}
use Rattle.plain.specs.declared.Array.TheVariants.{Main, OneTime}
use Rattle.plain.specs.declared.Written.{Written}
use Rattle.std.specs.Prelude.{if◌then◌else◌}
use Rattle.plain.specs.Lent.{Lent, word_at}
use Rattle.plain.specs.Programs.{writes, datum, debris_for}

-- a program or a block's erase was finished, or was cut short
pub data Fact : Type 0 where
  program_done : Written → Fact
  erase_done : (block : ℕ) → Fact
  program_cut : Written → (debris : List ℕ) → Fact
  erase_cut : (block : ℕ) → (debris : List ℕ) → Fact

-- what a word holds: "worked out from the starting cells and the finished programs, finished erases and earlier cuts in
-- their order"

-- does a word lie in a block? A one-time word lies in none
abbrev pub in_block : Part → (b : ℕ) → Array → (x : ℕ) → Bool
in_block p b Main x = eqb (block_of p x) b
in_block p b OneTime x = false

unfoldable pub after_fact : Part → Fact → Array → (x old : ℕ) → ℕ
after_fact p (program_done d) y x old = if writes d y x then bit_and old (datum d x) else old
after_fact p (erase_done b) y x old = if in_block p b y x then 0xFFFF else old
after_fact p (program_cut d debris) y x old = if writes d y x then bit_and old (bit_or (datum d x) (debris_for d debris x)) else old
after_fact p (erase_cut b debris) y x old = if in_block p b y x then get_or debris (x - first_of p b) 0 else old

unfoldable pub holds : Part → (start : Lent) → List Fact → Array → (x : ℕ) → ℕ
holds p start [] y x = word_at start y x
holds p start (f ∷ fs) y x = after_fact p f y x (holds p start fs y x)
