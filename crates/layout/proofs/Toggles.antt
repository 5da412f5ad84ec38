-- A read leaves of an operation all but its toggles.
use Prim.Native.Nat.{ℕ}
use mathlib.Core.Path.{◌≡◌, refl}
use Rattle.geometry.specs.declared.Part.{Part}
use Rattle.protection.specs.declared.Protection.{Protection}
use Rattle.plain.specs.declared.Erase.{Erase}
use Rattle.plain.specs.declared.Inside.{Inside}
use Rattle.plain.specs.declared.Inside.TheVariants.{Nothing, Runs}
use Rattle.plain.specs.declared.Operation.{Operation}
use Rattle.plain.specs.declared.Operation.TheVariants.{Idle, Programming, ProgramSuspended, Window, Erasing, Recovering, EraseSuspended, ChipErasing, InOneTime, OneTimeProgramming}
use Rattle.plain.specs.declared.Command.{Command}
use Rattle.plain.specs.declared.Seen.{Seen}
use Rattle.plain.specs.Lent.{Lent}
use Rattle.plain.specs.Operations.{running_of, suspension_of}
use Rattle.plain.specs.Status.{polls, inside_polled, polled, reading_on, rests, rested, look}
use Rattle.plain.proofs.Tools.{by-test}
use Rattle.layout.specs.Operations.{suspended_parts, operation_parts}
use Rattle.layout.proofs.Stored.{retoggled}

-- is the one operation the other, but for the toggles?
abbrev pub Retoggled : Operation → Operation → Type 0
Retoggled x y = retoggled (operation_parts x) (operation_parts y) ≡ operation_parts y

inside-same : (e : Erase) (x : Inside) → retoggled (suspended_parts e x) (suspended_parts e x) ≡ suspended_parts e x
unfolding suspended_parts
inside-same e Nothing = refl
inside-same e (Runs q) = refl

pub same : (o : Operation) → Retoggled o o
unfolding operation_parts
same Idle = refl
same (Programming q) = refl
same (ProgramSuspended q) = refl
same (Window e) = refl
same (Erasing e) = refl
same (Recovering r) = refl
same (EraseSuspended s) = inside-same s.erase s.inside
same (ChipErasing e) = refl
same InOneTime = refl
same (OneTimeProgramming q) = refl

inside-flips : (e : Erase) (x : Inside) → retoggled (suspended_parts e x) (suspended_parts e (inside_polled x)) ≡ suspended_parts e (inside_polled x)
unfolding suspended_parts inside_polled
inside-flips e Nothing = refl
inside-flips e (Runs q) = refl

poll-flips : (p : Part) (o : Operation) (a : ℕ) → Retoggled o (polled p o a)
unfolding operation_parts polled
poll-flips p Idle a = refl
poll-flips p (Programming q) a = refl
poll-flips p (ProgramSuspended q) a = refl
poll-flips p (Window e) a = refl
poll-flips p (Erasing e) a = refl
poll-flips p (Recovering r) a = refl
poll-flips p (EraseSuspended s) a = inside-flips s.erase s.inside
poll-flips p (ChipErasing e) a = refl
poll-flips p InOneTime a = refl
poll-flips p (OneTimeProgramming q) a = refl

outside-flips : (e f : Erase) (x : Inside) → f.list ≡ e.list → f.hand ≡ e.hand → f.left ≡ e.left
    → retoggled (suspended_parts e x) (suspended_parts f x) ≡ suspended_parts f x
unfolding suspended_parts
outside-flips e f Nothing l h t = rw (l, h, t)
outside-flips e f (Runs q) l h t = rw (l, h, t)

rest-flips : (o : Operation) → Retoggled o (rested o)
unfolding operation_parts rested
rest-flips Idle = refl
rest-flips (Programming q) = refl
rest-flips (ProgramSuspended q) = refl
rest-flips (Window e) = refl
rest-flips (Erasing e) = refl
rest-flips (Recovering r) = refl
rest-flips (EraseSuspended s) = outside-flips s.erase _ s.inside refl refl refl
rest-flips (ChipErasing e) = refl
rest-flips InOneTime = refl
rest-flips (OneTimeProgramming q) = refl

pub look-flips : (p : Part) (bits : Protection) (c : Command) (o : Operation) (l : Lent) (a : ℕ) → Retoggled o (look p bits c o l a).operation
unfolding look
look-flips p bits c o l a =
    let P : Seen → Type 0 = λ s. Retoggled o s.operation in
    by-test P (polls p (running_of o) a) (λ t. poll-flips p o a)
    (λ t. by-test P (reading_on p c a) (λ t2. same o) (λ t2. by-test P (rests p (suspension_of o) a) (λ t3. rest-flips o) (λ t3. same o)))
