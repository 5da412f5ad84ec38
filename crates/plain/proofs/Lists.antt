-- What an erase list that passes its test says of each listed block, and back.
use Prim.Native.Nat.{ℕ, ◌<◌}
use mathlib.Core.Path.{◌≡◌, refl, sym, ap, ◌∙◌}
use mathlib.Core.Bool.{Bool, true, false, ◌&&◌, not}
use native.Mathlib.Decide.{dec_lt}
use native.Mathlib.Omega.{arith}
use borrow.Author.Tests.{not-true, not-false}
use Rattle.blocks.specs.declared.Blocks.{Blocks}
use Rattle.blocks.specs.Blocks.{has, some}
use Rattle.blocks.proofs.Laws.{some-not, some-none}
use Rattle.blocks.proofs.View.{has-past}
use Rattle.plain.specs.Sound.{only_those}
use Rattle.plain.proofs.Tools.{clash}

pub only_at : (test : ℕ → Bool) (list : Blocks) (b : ℕ) → only_those test list ≡ true → has list b ≡ true → test b ≡ true
only_at test list b e h = go (dec_lt b 320)
  where
    go : Dec (b < 320) → test b ≡ true
    go (yes l) =
        not-false (test b)
        (ap (λ (t : Bool). t && not (test b)) (sym h) ∙ some-not (λ k. has list k && not (test k)) 320 b (not-true (some (λ k. has list k && not (test k)) 320) e) l)
    go (no l) = clash h (has-past list b (omega arith))

pub only-make : (test : ℕ → Bool) (list : Blocks) → ((b : ℕ) → b < 320 → has list b ≡ true → test b ≡ true) → only_those test list ≡ true
only-make test list h = rw (some-none (λ k. has list k && not (test k)) 320 (λ b l. go b l (has list b) refl))
  where
    go : (b : ℕ) → b < 320 → (t : Bool) → has list b ≡ t → (has list b && not (test b)) ≡ false
    go b l true e = rw (e, h b l e)
    go b l false e = rw e
