-- A write, taken or refused: the history goes on saying what the record says.
use Prim.Native.Nat.{ℕ}
use mathlib.Core.Path.{◌≡◌, refl}
use mathlib.Core.Bool.{false, not}
use mathlib.Core.List.{List}
use lib.Dec.{eqb}
use Rattle.geometry.specs.declared.Part.{Part}
use Rattle.geometry.specs.Parts.{block_of, bank_of, bank_of_block}
use Rattle.meter.specs.declared.Meter.{Meter}
use Rattle.protection.specs.declared.Protection.{Protection}
use Rattle.protection.specs.Protection.{protected}
use Rattle.plain.specs.declared.Refusal.TheVariants.{Busy, Bank, Protected}
use Rattle.plain.specs.declared.Erase.{Erase}
use Rattle.plain.specs.declared.Inside.{Inside}
use Rattle.plain.specs.declared.Inside.TheVariants.{Nothing, Runs}
use Rattle.plain.specs.declared.Operation.{Operation}
use Rattle.plain.specs.declared.Operation.TheVariants.{Idle, Programming, ProgramSuspended, Window, Erasing, Recovering, EraseSuspended, ChipErasing, InOneTime, OneTimeProgramming}
use Rattle.plain.specs.declared.Suspension.{Suspension}
use Rattle.plain.specs.declared.Suspension.TheVariants.{Unsuspended, OfErase, Entered}
use Rattle.plain.specs.declared.Command.{Command}
use Rattle.plain.specs.declared.Effect.{Effect}
use Rattle.plain.specs.declared.Effect.TheVariants.{Starts, Stays, Drops}
use Rattle.plain.specs.declared.Device.{Device}
use Rattle.plain.specs.Cycles.{is}
use Rattle.plain.specs.Figures.{window_time, erase_time, recovery_time}
use Rattle.plain.specs.Lent.{Lent}
use Rattle.plain.specs.Operations.{suspension_of}
use Rattle.plain.specs.Record.{device, suspended}
use Rattle.plain.specs.Commands.{program_is_suspended, entered, add_block, in_window, in_suspended_erase, written, effected}
use Rattle.plain.specs.History.{Told, kind, wrote, gave_up, turned_down, wrote_as}
use Rattle.plain.specs.Holds.{Fact}
use Rattle.plain.specs.History as told
use Rattle.plain.proofs.Tools.{by-test, clash}
use Rattle.plain.proofs.Register.{standing}
use Rattle.plain.proofs.SuspendedProgram.{Awake}
use Rattle.history.proofs.Seen.{seen_inside, seen_op, seen, none-gone}
use Rattle.history.proofs.Heard.{For, stays, enters-told}

module _ (p : Part) (fs : List Fact) (l : Lent) (a w : ℕ) (m : Meter) (bits : Protection) where
  abbrev before : Command → Operation → Told
  before c o = seen p (device m c o bits) fs

  abbrev TellsOf : Command → Operation → Effect → Type 0
  TellsOf c o x = For p fs l a w m bits c o x

  -- ---- while nothing runs, and while a program does

  still-told : (s : Suspension) (c : Command) → program_is_suspended s ≡ false → TellsOf c (standing s) (entered p bits s c l a w)
  still-told s c n = enters-told p fs l a w m bits s c n

  busy : {c : Command} {o : Operation} → TellsOf c o (Stays Busy)
  unfolding kind
  busy = stays p fs l a w m bits Busy refl

  in-suspended : (c : Command) (e : Erase) (i : Inside) → TellsOf c (EraseSuspended (suspended e i)) (in_suspended_erase i (entered p bits (OfErase e) c l a w))
  unfolding in_suspended_erase standing program_is_suspended
  in-suspended c e Nothing = still-told (OfErase e) c refl
  in-suspended c e (Runs q) = busy

  -- ---- while an erase runs

  runs_on : {c : Command} {o : Operation} (n : Operation) → wrote p (before c o) (seen_op p o) a w ≡ told.begins (before c o) (seen_op p n) → TellsOf c o (Starts n)
  unfolding effected kind wrote_as
  runs_on n e = record { tells = e }

  window-down : {c : Command} {e : Erase} → TellsOf c (Window e) (Stays Protected)
  unfolding effected kind wrote_as turned_down seen_op
  window-down = record { tells = refl }

  window-drops : {c : Command} {e : Erase} → TellsOf c (Window e) Drops
  unfolding effected kind wrote_as gave_up seen_op
  window-drops = record { tells = refl }

  in_window_lem : (c : Command) (e : Erase) → TellsOf c (Window e) (in_window p bits e a w)
  unfolding in_window add_block wrote kind seen_op seen_inside
  in_window_lem c e =
      by-test (TellsOf c (Window e)) (is w 0x30)
      (λ f. by-test (TellsOf c (Window e)) (not (eqb (bank_of p a) (bank_of_block p e.hand))) (λ g. stays p fs l a w m bits Bank refl)
      (λ g. by-test (TellsOf c (Window e)) (protected bits (block_of p a)) (λ h. window-down) (λ h. runs_on _ (rw (f, none-gone (window_time p))))))
      (λ f. by-test (TellsOf c (Window e)) (is w 0xB0) (λ g. runs_on _ (rw (f, none-gone (erase_time p)))) (λ g. window-drops))

  -- ---- any write

  written-told : (c : Command) (o : Operation) → Awake o → TellsOf c o (written p bits o c l a w)
  unfolding written wrote seen_op seen_inside standing suspension_of program_is_suspended
  written-told c Idle n = still-told Unsuspended c refl
  written-told c (Programming q) n = busy
  written-told c (ProgramSuspended q) n = clash refl n
  written-told c (Window e) n = in_window_lem c e
  written-told c (Erasing x) n = by-test (TellsOf c (Erasing x)) (is w 0xB0) (λ e. runs_on _ (rw (none-gone (recovery_time p)))) (λ e. busy)
  written-told c (Recovering x) n = busy
  written-told c (EraseSuspended s) n = in-suspended c s.erase s.inside
  written-told c (ChipErasing e) n = busy
  written-told c InOneTime n = still-told Entered c refl
  written-told c (OneTimeProgramming q) n = busy

-- a write on any record that holds no suspended program
pub write-told : (p : Part) (fs : List Fact) (l : Lent) (a w : ℕ) (r : Device) → Awake r.operation
    → wrote_as p (seen p r fs) (kind (effected r (written p r.bits r.operation r.command l a w)).refusal) a w
    ≡ seen p (effected r (written p r.bits r.operation r.command l a w)).device fs
write-told p fs l a w r n = (written-told p fs l a w r.meter r.bits r.command r.operation n).tells
