-- What is stated of `k5l_carry`.
use Prim.Native.Nat.{ℕ}
use mathlib.Core.Path.{◌≡◌, ◌∙◌}
use mathlib.Core.Bool.{true}
use mathlib.Core.List.{List}
use lib.ListN.{length}
use borrow.Author.Tests.{eq-eqb}
use Rattle.plain.specs.declared.Refusal.TheVariants.{Done}
use Rattle.plain.specs.Refusals.{number}
use Rattle.layout.specs.Places.{record_words}
use Rattle.layout.specs.Carried.{carriable, carried}
use Rattle.layout.proofs.Carried.{of-older, older-carriable, carries_over, stays-carried}
use Rattle.audit.specs.CallCarried.{Carries, carries, CarriesOlder, CarriesCurrent}

-- what may be carried is
carried-by : {stored before after : List ℕ} {n : ℕ} → Carries stored before n after → carriable stored ≡ true → length before ≡ record_words
    → (n ≡ number Done) × (after ≡ carried stored)
carried-by (carries t at by d) h long = rw (h, eq-eqb _ _ long) at d

pub carries-older : CarriesOlder
carries-older v stored before n after c h long =
    let done = carried-by c (older-carriable v stored (of-older v stored h)) long in
    let over = carries_over v stored h in
    (done.0, rw done.1 over)

pub carries-current : CarriesCurrent
unfolding carriable
carries-current stored before n after c h long =
    let done = carried-by c (rw h) long in
    (done.0, done.1 ∙ stays-carried stored h)
