-- The numbers of the answers run from 0 to 14; 12 is nobody's.
use Prim.Native.Nat.{◌<◌}
use mathlib.Core.Path.{◌≡◌, refl, ◌∙◌}
use mathlib.Core.Bool.{true, false, ◌&&◌, not}
use lib.Dec.{eqb, ltb}
use denote.Enum.Bare.{sameb}
use borrow.Author.Tests.{eq-eqb, eqb-true, ltb-true, not-true, not-false}
use Rattle.geometry.specs.declared.Part.{Part}
use Rattle.plain.specs.contracts.Refusal.{the_type}
use Rattle.plain.specs.declared.Refusal.{Refusal}
use Rattle.plain.specs.declared.Refusal.TheVariants.{Done, State, Cells, Address, Clock, Debris, Busy, Sequence, Bank, Protected, Suspended, Locked, OtpLocked, Raise}
use Rattle.plain.specs.Ends.{NoneAnswers12}
use Rattle.plain.specs.Machine.{step}
use Rattle.plain.specs.Refusals.{number, TwelveUnused}
use Rattle.plain.proofs.Tools.{both_left, both_right, clash}

in-range : (n : Refusal) → (ltb (number n) 15 && not (eqb (number n) 12)) ≡ true
unfolding number
in-range Done = refl
in-range State = refl
in-range Cells = refl
in-range Address = refl
in-range Clock = refl
in-range Debris = refl
in-range Busy = refl
in-range Sequence = refl
in-range Bank = refl
in-range Protected = refl
in-range Suspended = refl
in-range Locked = refl
in-range OtpLocked = refl
in-range Raise = refl

pub number-below : (n : Refusal) → number n < 15
number-below n = ltb-true (number n) 15 (both_left _ _ (in-range n))

pub twelve-unused : TwelveUnused
twelve-unused n e = clash (eq-eqb (number n) 12 e) (not-true (eqb (number n) 12) (both_right (ltb (number n) 15) _ (in-range n)))

pub none-answers-12 : (p : Part) → NoneAnswers12 p
none-answers-12 p r l e = twelve-unused (step p r l e).answer.refusal

-- DONE is told by its number as by its name
pub is_done : (n : Refusal) → eqb (number n) 0 ≡ sameb the_type n Done
unfolding number
is_done Done = refl
is_done State = refl
is_done Cells = refl
is_done Address = refl
is_done Clock = refl
is_done Debris = refl
is_done Busy = refl
is_done Sequence = refl
is_done Bank = refl
is_done Protected = refl
is_done Suspended = refl
is_done Locked = refl
is_done OtpLocked = refl
is_done Raise = refl

pub if_refused : (n : Refusal) → not (sameb the_type n Done) ≡ true → eqb (number n) 0 ≡ false
if_refused n e = is_done n ∙ not-true _ e

pub if_done : (n : Refusal) → not (sameb the_type n Done) ≡ false → number n ≡ 0
if_done n e = eqb-true _ _ (is_done n ∙ not-false _ e)
