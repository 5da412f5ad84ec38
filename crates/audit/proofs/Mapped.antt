-- Where `reads_cells` said yes of a bank it says yes until the next write, and the bank's cells stay as they are.
use mathlib.Core.Path.{◌≡◌, sym, ◌∙◌}
use mathlib.Core.Bool.{true}
use Rattle.geometry.specs.declared.Part.{Part}
use Rattle.asked.specs.Asked.{face_reads_cells}
use Rattle.audit.specs.Mapped.{StaysMapped, StaysMappedCode, StaysMappedCalls}
use Rattle.audit.proofs.MappedBanks.{run-mapped, calls-mapped}
use Rattle.audit.proofs.MappedCells.{run-same, calls_same}
use Rattle.audit.proofs.Same.{performed-run}

pub stays-mapped : (p : Part) → StaysMapped p
stays-mapped p r l es bank h m = (run-mapped p r l es bank h m, (λ x here. run-same p r l es x h (rw here m)))

pub stays-mapped-code : (p : Part) → StaysMappedCode p
stays-mapped-code p r l es ran bank is f h =
    let stays = stays-mapped p r l es bank h (sym is) in
    rw (performed-run f) ((λ said says. says ∙ stays.0), stays.1)

pub stays-mapped-calls : StaysMappedCalls
stays-mapped-calls part words l es ran bank t u at by is k h =
    let yes : face_reads_cells part words bank ≡ true = sym is in
    ((λ said says. says ∙ calls-mapped part bank k h yes), (λ x here. calls_same x k h (rw here yes)))
