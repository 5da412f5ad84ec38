-- The parts of an outcome, told backwards: from the plain machine's law to what a contract asks.
use mathlib.Core.Path.{◌≡◌, sym, ap}
use Rattle.plain.specs.Machine.{Outcome}

pub answers : {x o : Outcome} → x ≡ o → o.answer ≡ x.answer
answers e = sym (ap (λ (y : Outcome). y.answer) e)

pub leaves : {x o : Outcome} → x ≡ o → (o.lent.cells ≡ x.lent.cells) × (o.lent.otp ≡ x.lent.otp)
leaves e = (sym (ap (λ (y : Outcome). y.lent.cells) e), sym (ap (λ (y : Outcome). y.lent.otp) e))
