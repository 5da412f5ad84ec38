-- Protection of blocks (document 01, "Command cycles", "Refusals by number" and "The cut").
use Rattle.std.specs.Prelude.{ℕ, Bool, true, false, ◌&&◌, ◌||◌, not, ltb}
use Rattle.blocks.specs.declared.Blocks.{Blocks}
use Rattle.blocks.specs.Blocks.{has, set_of, empty_of, with_of, without_of, is_empty_of}
use Rattle.geometry.specs.declared.Part.{Part}
use Rattle.geometry.specs.Parts.{block_count}
use Rattle.regions.specs.Stray.{stray_in}
use Rattle.protection.specs.declared.Protection.{Protection}

abbrev pub bits : (dyb ppb : Blocks) → (lock sealed : Bool) → Protection
bits dyb ppb lock sealed = record { dyb = dyb; ppb = ppb; lock = lock; sealed = sealed }

-- "A fresh device has .. no protection"
abbrev pub fresh_bits : Protection
fresh_bits = bits empty_of empty_of false false

-- "Here 1 means protected. A block is protected if its DYB or PPB is 1."
unfoldable pub protected_by : (dyb ppb : Blocks) → ℕ → Bool
protected_by dyb ppb b = has dyb b || has ppb b

abbrev pub protected : Protection → ℕ → Bool
protected p b = protected_by p.dyb p.ppb b

-- the set of them
abbrev pub protected_blocks : Protection → Blocks
protected_blocks p = set_of (λ b. protected p b)

-- "48H: the next write's low four data bits, 1 or 0, set or clear the DYB of its block"
abbrev pub dyb_set : Protection → ℕ → Protection
dyb_set p b = bits (with_of p.dyb b) p.ppb p.lock p.sealed

abbrev pub dyb_cleared : Protection → ℕ → Protection
dyb_cleared p b = bits (without_of p.dyb b) p.ppb p.lock p.sealed

-- "60H: then 68H and 48H in the same block set its PPB, or 60H and 40H at any address clear all PPBs"
abbrev pub ppb_set : Protection → ℕ → Protection
ppb_set p b = bits p.dyb (with_of p.ppb b) p.lock p.sealed

abbrev pub ppbs_cleared : Protection → Protection
ppbs_cleared p = bits p.dyb empty_of p.lock p.sealed

-- "78H: the PPB lock bit is set"
abbrev pub locked : Protection → Protection
locked p = bits p.dyb p.ppb true p.sealed

-- ---- the one-time words (document 02, request 4)

-- "the lower 128 the factory's"
abbrev pub factory_words : ℕ
factory_words = 128

-- "The factory's words are always locked": so are the customer's once their one lock is set
unfoldable pub word_locked_by : (sealed : Bool) → (at : ℕ) → Bool
word_locked_by sealed at = ltb at factory_words || sealed

abbrev pub word_locked : Protection → (at : ℕ) → Bool
word_locked p at = word_locked_by p.sealed at

-- the customer's lock is set
abbrev pub sealed_for : Protection → Protection
sealed_for p = bits p.dyb p.ppb p.lock true

-- ---- the cut: "all DYBs and the PPB lock bit are 0, PPBs .. stand"; request 4: it "leaves the locks as they are"
abbrev pub after_cut : Protection → Protection
after_cut p = bits empty_of p.ppb false p.sealed

-- "Chip erase ..; its list is every unprotected block"
unfoldable pub unprotected : Part → Protection → Blocks
unprotected part p = set_of (λ b. ltb b (block_count part) && not (protected p b))

-- "or for a chip erase every block is" protected
abbrev pub all_protected : Part → Protection → Bool
all_protected part p = is_empty_of (unprotected part p)

-- a bit for a number that is no block's
abbrev pub stray_bits : Part → Protection → Bool
stray_bits part p = stray_in part p.dyb || stray_in part p.ppb
