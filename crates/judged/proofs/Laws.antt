-- What a test of soundness says, as the code asks it.
use mathlib.Core.Path.{◌≡◌, sym, ◌∙◌}
use mathlib.Core.Bool.{Bool, true, false}

pub unsound : (b s : Bool) → b ≡ s → b ≡ false → s ≡ false
unsound b s e t = sym e ∙ t

pub is-so : (b s : Bool) → b ≡ s → b ≡ true → s ≡ true
is-so b s e t = sym e ∙ t
