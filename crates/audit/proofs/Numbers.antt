-- What holds of each operation that a number stands for holds of the one that an image's words stand for.
use Prim.Native.Nat.{ℕ, zero, suc, ◌<◌}
use mathlib.Core.Path.{◌≡◌, refl}
use mathlib.Core.Bool.{Bool, true, false}
use native.Mathlib.Omega.{arith}
use lib.Dec.{eqb}
use borrow.Author.Tests.{eqb-false}
use Rattle.plain.specs.declared.Inside.{Inside}
use Rattle.plain.specs.declared.Inside.TheVariants.{Runs}
use Rattle.plain.specs.declared.Operation.{Operation}
use Rattle.plain.specs.declared.Operation.TheVariants.{Programming, ProgramSuspended, EraseSuspended, InOneTime, OneTimeProgramming}
use Rattle.plain.specs.Record.{suspended}
use Rattle.plain.proofs.Lasting.{Lasting}
use Rattle.plain.proofs.Tools.{by-test}
use Rattle.layout.specs.declared.OperationParts.{OperationParts}
use Rattle.layout.specs.Operations.{operation_numbered, operation_outside, operation_inside, operation_of}

some_of : (n : ℕ) → eqb n 0 ≡ false → 0 < n
some_of zero h = absurd (eqb-false 0 0 h refl)
some_of (suc n) h = omega arith

-- those of a program, and else erases, no operation, and the one-time block with nothing in it
pub by_number : (P : Operation → Type 0) → Lasting P → (o : OperationParts) → P (Programming o.program) → (eqb o.number 2 ≡ true → P (ProgramSuspended o.program))
    → P (EraseSuspended (suspended o.erase (Runs o.program))) → P (OneTimeProgramming o.program) → P (operation_of o)
unfolding operation_numbered operation_outside operation_inside operation_of
by_number P k o runs rests inside entered =
    let is : ℕ → Bool = eqb o.number in
    by-test P o.entered (λ _. by-test P (is 1) (λ _. entered) (λ _. k.entered))
    (λ _. by-test P (eqb o.recovery 0)
    (λ _. by-test P (is 1) (λ _. runs)
    (λ _. by-test P (is 2) rests
    (λ _. by-test P (is 3) (λ _. k.window _)
    (λ _. by-test P (is 4) (λ _. k.erasing _)
    (λ _. by-test P (is 5) (λ _. k.resting _) (λ _. by-test P (is 6) (λ _. inside) (λ _. by-test P (is 7) (λ _. k.chip-erasing _) (λ _. k.idle))))))))
    (λ some. k.recovering o.erase o.recovery (some_of o.recovery some)))
