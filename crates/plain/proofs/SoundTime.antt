-- Soundness is kept by time: one microsecond, and any number of them.
use Prim.Native.Nat.{ℕ, zero, suc, ◌+◌, ◌-◌, ◌*◌, ◌≤◌}
use mathlib.Core.Path.{◌≡◌, refl, sym, ◌∙◌}
use mathlib.Core.Bool.{true, false}
use native.Mathlib.Omega.{arith}
use lib.Dec.{ltb}
use borrow.Author.Tests.{ltb-true, leb-false}
use Rattle.blocks.specs.Blocks.{has, first_from}
use Rattle.blocks.proofs.Lowest.{first-has}
use Rattle.geometry.specs.declared.Part.{Part}
use Rattle.geometry.specs.Parts.{block_count}
use Rattle.geometry.proofs.Counts.{blocks-most}
use Rattle.protection.specs.declared.Protection.{Protection}
use Rattle.plain.specs.declared.Program.{Program}
use Rattle.plain.specs.declared.Erase.{Erase}
use Rattle.plain.specs.declared.Inside.{Inside}
use Rattle.plain.specs.declared.Inside.TheVariants.{Nothing, Runs}
use Rattle.plain.specs.declared.Operation.{Operation}
use Rattle.plain.specs.declared.Operation.TheVariants.{Idle, Programming, ProgramSuspended, Window, Erasing, Recovering, EraseSuspended, ChipErasing, InOneTime, OneTimeProgramming}
use Rattle.plain.specs.declared.Running.{Running}
use Rattle.plain.specs.declared.Running.TheVariants.{Still, Programs, Waits, Erases, Recovers, ErasesChip}
use Rattle.plain.specs.declared.Suspension.{Suspension}
use Rattle.plain.specs.declared.Command.{Command}
use Rattle.plain.specs.declared.Device.{Device}
use Rattle.plain.specs.Figures.{program_time, window_time, erase_time, recovery_time, chip_time, running_current, clock_limit}
use Rattle.std.specs.Prelude.{if◌then◌else◌}
use Rattle.plain.specs.Lent.{Lent}
use Rattle.plain.specs.Machine.{now, wait_taken}
use Rattle.plain.specs.Operations.{running_of, running_inside}
use Rattle.plain.specs.Record.{program_left, erase, erase_left, suspended}
use Rattle.plain.specs.Sound.{operation_sound, is_still, command_sound, sound}
use Rattle.plain.specs.Time.{Moment, last, current, onward, operation_tick, inside_tick, tick, ticks}
use Rattle.plain.proofs.Tools.{by-test}
use Rattle.plain.proofs.FigureLaws.{erase-some, chip-some, standby-most, one-sound}
use Rattle.plain.proofs.Facts.{ProgramFacts, EraseFacts, BlockEraseFacts, programming, window, window-lowest, erasing, recovering, erase-suspended, inside-runs, chip-erasing, one-time-programming, sound-charge, sound-bits, sound-operation, sound-command}
use Rattle.plain.proofs.FactsHold.{meter-holds, sound-holds, idle-holds, programming-holds, window-holds, erasing-holds, recovering-holds, resting-holds, inside-holds, chip-holds, entered-holds, one-time-holds}
use Rattle.plain.proofs.Register.{ran}

-- ---- the same list with another block in hand, and another time left

module _ (p : Part) (bits : Protection) (e : Erase) (hand left full : ℕ) (listed : has e.list hand ≡ true) (h : 1 ≤ left) (g : left ≤ full) (was : ℕ) where
  chip-anew : EraseFacts p bits e was → EraseFacts p bits (erase e.list hand left e.dq6 e.dq2) full
  chip-anew f = record { hand-listed = listed; below = f.below; erasable = f.erasable; some_left = h; most-left = g }

  erase-anew : BlockEraseFacts p bits e was → BlockEraseFacts p bits (erase e.list hand left e.dq6 e.dq2) full
  erase-anew f =
      record { erase = chip-anew f.erase; one-bank = λ b l. f.one-bank b l ∙ sym (f.one-bank hand listed) }

-- a window that ends leaves the block in hand its full time
pub closed : (p : Part) (bits : Protection) (e : Erase) → BlockEraseFacts p bits e (window_time p) → BlockEraseFacts p bits (erase_left e (erase_time p)) (erase_time p)
closed p bits e f =
    erase-anew p bits e e.hand (erase_time p) (erase_time p) f.erase.hand-listed (erase-some p) (omega arith) (window_time p) f

-- ---- the register

inside-command : (p : Part) (e : Erase) (i : Inside) (c : Command) → command_sound p (EraseSuspended (suspended e i)) c ≡ true → command_sound p (inside_tick e i) c ≡ true
unfolding inside_tick command_sound running_of running_inside is_still
inside-command p e Nothing c s = s
inside-command p e (Runs q) c s = ran p (inside_tick e (Runs q)) c s

tick-command : (p : Part) (o : Operation) (c : Command) → command_sound p o c ≡ true → command_sound p (operation_tick p o) c ≡ true
unfolding operation_tick command_sound running_of is_still
tick-command p Idle c e = e
tick-command p (Programming q) c e = ran p (operation_tick p (Programming q)) c e
tick-command p (ProgramSuspended q) c e = e
tick-command p (Window x) c e = ran p (operation_tick p (Window x)) c e
tick-command p (Erasing x) c e = ran p (operation_tick p (Erasing x)) c e
tick-command p (Recovering r) c e = ran p (operation_tick p (Recovering r)) c e
tick-command p (EraseSuspended s) c e = inside-command p s.erase s.inside c e
tick-command p (ChipErasing x) c e = ran p (operation_tick p (ChipErasing x)) c e
tick-command p InOneTime c e = e
tick-command p (OneTimeProgramming q) c e = ran p (operation_tick p (OneTimeProgramming q)) c e

-- ---- the operation

fewer : (left full : ℕ) → last left ≡ false → left ≤ full → (1 ≤ left - 1) × (left - 1 ≤ full)
fewer left full h g = (omega (arith, leb-false left 1 h), omega arith)

module _ (p : Part) (bits : Protection) where
  abbrev Fit : Operation → Type 0
  Fit o = operation_sound p bits o ≡ true

  counted : (s : Suspension) (q : Program) → last q.left ≡ false → ProgramFacts p bits s q → ProgramFacts p bits s (program_left q (q.left - 1))
  counted s q h f =
      let l = fewer q.left (program_time p) h f.most-left in
      record { array = f.array; in-part = f.in-part; some_left = l.0; most-left = l.1; free = f.free }

  inside-tick : (e : Erase) (i : Inside) → Fit (EraseSuspended (suspended e i)) → Fit (inside_tick e i)
  unfolding inside_tick
  inside-tick e Nothing s = s
  inside-tick e (Runs q) s =
      let f = erase-suspended p bits (suspended e (Runs q)) s in
      let g = inside-runs p bits (suspended e (Runs q)) q s refl in
      by-test Fit (last q.left) (λ h. resting-holds p bits e f)
      (λ h. inside-holds p bits e (program_left q (q.left - 1)) f (record { program = counted _ q h g.program; off_list = g.off_list }))

  abbrev next : Erase → ℕ
  next e = first_from e.list (suc e.hand)

  next-listed : (e : Erase) → ltb (next e) (block_count p) ≡ true → has e.list (next e) ≡ true
  next-listed e g = first-has e.list (suc e.hand) (omega (arith, ltb-true (next e) (block_count p) g, blocks-most p))

  -- an erase goes on to the next listed block, or ends: what fits for any listed block fits for that one
  pub onward-fit : (e : Erase) (erasing : Erase → Operation) (full : ℕ) → 1 ≤ full
      → ((hand left : ℕ) → has e.list hand ≡ true → 1 ≤ left → left ≤ full → Fit (erasing (erase e.list hand left e.dq6 e.dq2)))
      → Fit (onward p erasing full e)
  onward-fit e erasing full some fit =
      by-test Fit (ltb (next e) (block_count p)) (λ g. fit (next e) full (next-listed e g) some (omega arith)) (λ g. idle-holds p bits)

  erase-tick : (e : Erase) (erasing : Erase → Operation) (full : ℕ) → 1 ≤ full → e.left ≤ full → has e.list e.hand ≡ true
      → ((hand left : ℕ) → has e.list hand ≡ true → 1 ≤ left → left ≤ full → Fit (erasing (erase e.list hand left e.dq6 e.dq2)))
      → Fit (if last e.left then onward p erasing full e else erasing (erase_left e (e.left - 1)))
  erase-tick e erasing full some most listed fit =
      by-test Fit (last e.left) (λ h. onward-fit e erasing full some fit)
      (λ h. let l = fewer e.left full h most in fit e.hand (e.left - 1) listed l.0 l.1)

  -- of a block erase and of a chip erase that fit, any listed block may be in hand, with any time left
  pub erasing-any : (e : Erase) → Fit (Erasing e) → (hand left : ℕ) → has e.list hand ≡ true → 1 ≤ left → left ≤ erase_time p
      → Fit (Erasing (erase e.list hand left e.dq6 e.dq2))
  erasing-any e s hand left listed h g =
      erasing-holds p bits _ (erase-anew p bits e hand left _ listed h g _ (erasing p bits e s))

  pub chip-any : (e : Erase) → Fit (ChipErasing e) → (hand left : ℕ) → has e.list hand ≡ true → 1 ≤ left → left ≤ chip_time p
      → Fit (ChipErasing (erase e.list hand left e.dq6 e.dq2))
  chip-any e s hand left listed h g =
      chip-holds p bits _ (chip-anew p bits e hand left _ listed h g _ (chip-erasing p bits e s))

  pub tick-fit : (o : Operation) → Fit o → Fit (operation_tick p o)
  unfolding operation_tick
  tick-fit Idle s = s
  tick-fit (Programming q) s =
      by-test Fit (last q.left) (λ h. idle-holds p bits) (λ h. programming-holds p bits (program_left q (q.left - 1)) (counted _ q h (programming p bits q s)))
  tick-fit (ProgramSuspended q) s = s
  tick-fit (Window e) s =
      let f = window p bits e s in
      by-test Fit (last e.left) (λ h. erasing-holds p bits _ (closed p bits e f))
      (λ h. let l = fewer e.left (window_time p) h f.erase.most-left in
      window-holds p bits _ (erase-anew p bits e e.hand (e.left - 1) _ f.erase.hand-listed l.0 l.1 _ f) (window-lowest p bits e s))
  tick-fit (Erasing e) s =
      let f = erasing p bits e s in
      erase-tick e Erasing (erase_time p) (erase-some p) f.erase.most-left f.erase.hand-listed (erasing-any e s)
  tick-fit (Recovering r) s =
      let f = recovering p bits r s in
      by-test Fit (last r.left) (λ h. resting-holds p bits r.erase f.erase)
      (λ h. let l = fewer r.left (recovery_time p) h f.most-left in
      recovering-holds p bits _ (record { erase = f.erase; some_left = l.0; most-left = l.1 }))
  tick-fit (EraseSuspended s) h = inside-tick s.erase s.inside h
  tick-fit (ChipErasing e) s =
      let f = chip-erasing p bits e s in
      erase-tick e ChipErasing (chip_time p) (chip-some p) f.most-left f.hand-listed (chip-any e s)
  tick-fit InOneTime s = s
  tick-fit (OneTimeProgramming q) s =
      by-test Fit (last q.left) (λ h. entered-holds p bits)
      (λ h. one-time-holds p bits (program_left q (q.left - 1)) (counted _ q h (one-time-programming p bits q s)))

-- ---- the meter

pub current-most : (p : Part) (r : Running) → current p r ≤ running_current p
unfolding current
current-most p Still = standby-most p
current-most p (Programs q) = omega arith
current-most p (Waits e) = standby-most p
current-most p (Erases e) = omega arith
current-most p (Recovers r) = omega arith
current-most p (ErasesChip e) = omega arith

-- ---- n microseconds

-- all of soundness that time could break
pub record Going (p : Part) (bits : Protection) (c : Command) (m : Moment) : Type 0 where
  pub charge : m.meter.charge ≤ running_current p * m.meter.clock
  pub operation : operation_sound p bits m.operation ≡ true
  pub command : command_sound p m.operation c ≡ true

tick-going : (p : Part) (bits : Protection) (c : Command) (m : Moment) → Going p bits c m → Going p bits c (tick p m)
unfolding tick
tick-going p bits c m g =
    record {
      charge = one-sound p m.meter.clock m.meter.charge _ (current-most p (running_of m.operation)) g.charge;
      operation = tick-fit p bits m.operation g.operation;
      command = tick-command p m.operation c g.command;
    }

pub ticks-going : (p : Part) (bits : Protection) (c : Command) (n : ℕ) (m : Moment) → Going p bits c m → Going p bits c (ticks p n m)
unfolding ticks
ticks-going p bits c zero m g = g
ticks-going p bits c (suc n) m g = ticks-going p bits c n (tick p m) (tick-going p bits c m g)

-- the clock tells the wait
pub ticks-clock : (p : Part) (n : ℕ) (m : Moment) → (ticks p n m).meter.clock ≡ m.meter.clock + n
unfolding ticks tick
ticks-clock p zero m = omega arith
ticks-clock p (suc n) m = omega (arith, ticks-clock p n (tick p m))

-- a wait leaves a sound record
pub waited-sound : (p : Part) (r : Device) (l : Lent) (n : ℕ) → sound p r ≡ true → r.meter.clock + n ≤ clock_limit p → sound p (wait_taken p r l n).answer.device ≡ true
waited-sound p r l n s room =
    let after = ticks p n (now r l) in
    let g =
    ticks-going p r.bits r.command n (now r l)
    (record { charge = sound-charge p r s; operation = sound-operation p r s r.operation refl; command = sound-command p r s }) in
    sound-holds p after.meter r.command after.operation r.bits
    (meter-holds p after.meter (omega (arith, ticks-clock p n (now r l), room)) g.charge) (sound-bits p r s) g.operation g.command
