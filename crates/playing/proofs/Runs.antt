-- A run over the bytes up to one and that byte: an LF ends the line under way, another byte is fed to it.
use Rattle.std.proofs.Common.{◌≡◌, ℕ, ◌+◌, ◌<◌, eqb, List, [], ◌∷◌, ◌++◌, length, get_or, take, refl, add-one, ne_eqb}
use Rattle.std.specs.Prelude.{if◌then◌else◌}
use lib.Seq.{take-suc}
use Rattle.playing.specs.Runs.{Run, run_over, ended, fed}

-- input in parts is run like the whole
pub over-parts : (s : Run) (bytes more : List ℕ) → run_over s (bytes ++ more) ≡ run_over (run_over s bytes) more
unfolding run_over
over-parts s [] more = refl
over-parts s (b ∷ bytes) more = over-parts (if eqb b 10 then ended s else fed s b) bytes more

module _ (s : Run) (bytes : List ℕ) (at : ℕ) (inside : at < length bytes) where
  pub next : take (at + 1) bytes ≡ take at bytes ++ (get_or bytes at 0 ∷ [])
  next = rw add-one (take-suc bytes at 0 inside)

  pub over-end : get_or bytes at 0 ≡ 10 → run_over s (take (at + 1) bytes) ≡ ended (run_over s (take at bytes))
  unfolding run_over
  over-end lf = rw (next, over-parts, lf)

  pub over-on : (get_or bytes at 0 ≡ 10 → ⊥) → run_over s (take (at + 1) bytes) ≡ fed (run_over s (take at bytes)) (get_or bytes at 0)
  unfolding run_over
  over-on other = rw (next, over-parts, ne_eqb (get_or bytes at 0) 10 other)
