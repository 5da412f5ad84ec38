-- Demand 3 and its companions, for every run of the public functions.
use Prim.Native.Nat.{ℕ}
use mathlib.Core.Path.{◌≡◌, sym, ap, ◌∙◌}
use mathlib.Core.List.{List}
use Rattle.geometry.specs.declared.Part.{Part}
use Rattle.plain.specs.declared.Refusal.TheVariants.{Done}
use Rattle.plain.specs.declared.Answer.{Answer}
use Rattle.plain.specs.Events.{Event, cut}
use Rattle.plain.specs.History.{history}
use Rattle.plain.specs.Lent.{Lent}
use Rattle.plain.specs.Machine.{Ran, step, run}
use Rattle.plain.specs.Promises.{Left}
use Rattle.plain.specs.Record.{fresh}
use Rattle.history.proofs.Demand.{demand-3, holding, programs-leave-data, charge-by-history}
use Rattle.audit.specs.Promises.{Demand3Code, HoldingCode, ProgramsLeaveDataCode, ChargeCode}
use Rattle.audit.proofs.Same.{Is, allowed-is, runs-are}

-- what an answer that is the plain machine's leaves
as-left : (p : Part) (start after : Lent) (es : List Event) (debris : List ℕ) (ran : Ran) (y : Answer) → ran ≡ run p fresh start es
    → Is (step p ran.device ran.lent (cut debris)) y after → y.refusal ≡ Done → Left p start (history p ran.turns) debris y.device after
as-left p start after es debris ran y same is e = rw (is.answer, is.lent, same) (demand-3 p start es debris (rw (← same) (ap (λ (a : Answer). a.refusal) (sym is.answer) ∙ e)))

pub demand-3-code : (p : Part) → Demand3Code p
demand-3-code p start after es debris ran y f g e = as-left p start after es debris ran y (runs-are f) (allowed-is g) e

pub holding-code : (p : Part) → HoldingCode p
holding-code p start es ran f y x hx = rw (runs-are f) (holding p start es y x hx)

pub programs-leave-data-code : (p : Part) → ProgramsLeaveDataCode p
programs-leave-data-code p start es ran f y x d hx last = rw (runs-are f) (programs-leave-data p start es y x d hx (rw (runs-are f) at last))

pub charge-code : (p : Part) → ChargeCode p
charge-code p start es ran f = rw (runs-are f) (charge-by-history p start es)
