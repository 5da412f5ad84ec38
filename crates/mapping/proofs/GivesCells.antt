-- Where `gives_cells` says so, a read gives the cell and changes nothing, at whatever address of the bank.
use Prim.Native.Nat.{ℕ}
use mathlib.Core.Path.{◌≡◌, refl}
use mathlib.Core.Bool.{Bool, true, false, ◌&&◌, not}
use Rattle.geometry.specs.declared.Part.{Part}
use Rattle.geometry.specs.Parts.{bank_of}
use Rattle.protection.specs.declared.Protection.{Protection}
use Rattle.plain.specs.declared.Array.TheVariants.{Main}
use Rattle.plain.specs.declared.Operation.{Operation}
use Rattle.plain.specs.declared.Running.{Running}
use Rattle.plain.specs.declared.Running.TheVariants.{Still, Programs, Waits, Erases, Recovers, ErasesChip}
use Rattle.plain.specs.declared.Command.{Command}
use Rattle.plain.specs.declared.Command.TheVariants.{Ground, Entering, Reads}
use Rattle.plain.specs.declared.Reading.{Reading}
use Rattle.plain.specs.declared.Reading.TheVariants.{Identity, Dybs, OtpLock}
use Rattle.plain.specs.Lent.{Lent, word_at}
use Rattle.plain.specs.Operations.{running_of, suspension_of}
use Rattle.plain.specs.Sound.{operation_sound}
use Rattle.plain.specs.Status.{polls, given_at, reading_on, seen, look}
use Rattle.plain.proofs.Tools.{clash}
use Rattle.mapping.specs.Mapped.{given_in, reading_in, runs_in, rests_in, gives_cells}
use Rattle.mapping.proofs.Rests.{known, none-rests, main-read}

module _ (p : Part) (a : ℕ) where
  -- what runs, and a reading, is told by the bank of the address
  pub polls-same : (r : Running) → polls p r a ≡ runs_in p r (bank_of p a)
  unfolding polls runs_in
  polls-same Still = refl
  polls-same (Programs q) = refl
  polls-same (Waits e) = refl
  polls-same (Erases e) = refl
  polls-same (Recovers r) = refl
  polls-same (ErasesChip e) = refl

  given-same : (r : Reading) → given_at p r a ≡ given_in r (bank_of p a)
  unfolding given_at given_in
  given-same (Identity b) = refl
  given-same Dybs = refl
  given-same OtpLock = refl

  pub reading-same : (c : Command) → reading_on p c a ≡ reading_in c (bank_of p a)
  unfolding reading_on reading_in
  reading-same Ground = refl
  reading-same (Entering c) = refl
  reading-same (Reads r) = given-same r

none_of : (a b c : Bool) → (not a && (not b && not c)) ≡ true → (a ≡ false) × ((b ≡ false) × (c ≡ false))
none_of true b c e = clash e refl
none_of false true c e = clash e refl
none_of false false true e = clash e refl
none_of false false false e = (refl, (refl, refl))

pub gives-cells : (p : Part) (bits : Protection) (c : Command) (o : Operation) (l : Lent) (a : ℕ)
    → operation_sound p bits o ≡ true → gives_cells p c o (bank_of p a) ≡ true → look p bits c o l a ≡ seen (word_at l Main a) o
unfolding look gives_cells
gives-cells p bits c o l a s e =
    let none = none_of (reading_in c (bank_of p a)) (runs_in p (running_of o) (bank_of p a)) (rests_in p (suspension_of o) (bank_of p a)) e in
    let away = none-rests p bits (suspension_of o) (known p bits o s) a none.1.1 in
    rw (polls-same p a (running_of o), none.1.0, reading-same p a c, none.0, away, main-read p (suspension_of o) a none.1.1)
