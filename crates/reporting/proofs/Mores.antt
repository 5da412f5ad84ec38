-- An answer that is not DONE is told by its line alone, DONE by what follows it too.
use Prim.Native.Nat.{ℕ, ◌+◌, ◌≤◌}
use mathlib.Core.Bool.{true, false, not}
use mathlib.Core.Path.{◌≡◌, ◌∙◌}
use mathlib.Core.List.{List, [], ◌++◌, append-nil}
use denote.Enum.Bare.{sameb}
use lib.Dec.{eqb}
use Rattle.std.specs.Prelude.{if◌then◌else◌}
use Rattle.std.proofs.lemmas.Bool.{not-true, not-false}
use Rattle.plain.specs.contracts.Refusal.{the_type}
use Rattle.plain.specs.declared.Refusal.{Refusal}
use Rattle.plain.specs.declared.Refusal.TheVariants.{Done}
use Rattle.plain.specs.Refusals.{number}
use Rattle.plain.proofs.Refusals.{is_done}
use Rattle.printing.specs.declared.Page.{Page}
use Rattle.printing.specs.Page.{Adds}
use Rattle.printing.proofs.Puts.{adds_then, adds_within}

-- what is told, and the rest of it by that number
abbrev told : (n : Refusal) (text more : List ℕ) → List ℕ
told n text more = text ++ (if eqb (number n) 0 then more else [])

pub alone : {before after : Page} {text : List ℕ} {most all : ℕ} (n : Refusal) (more : List ℕ) → Adds before after text most → not (sameb the_type n Done) ≡ true → most ≤ all
    → Adds before after (told n text more) all
alone n more line refused within =
    let other : eqb (number n) 0 ≡ false = is_done n ∙ not-true _ refused in
    rw (other, append-nil) (adds_within line within)

pub followed : {before between after : Page} {text more : List ℕ} {most rest all : ℕ} (n : Refusal) → Adds before between text most → Adds between after more rest
    → not (sameb the_type n Done) ≡ false → most + rest ≤ all → Adds before after (told n text more) all
followed n line behind done within =
    let this : eqb (number n) 0 ≡ true = is_done n ∙ not-false _ done in
    rw this (adds_then line behind within)
