-- A command's next write while nothing runs, taken or refused: the history goes on saying what the record says.
use Prim.Native.Nat.{ℕ, ◌%◌}
use mathlib.Core.Path.{◌≡◌, refl}
use mathlib.Core.Bool.{Bool, true, false, ◌&&◌, not}
use mathlib.Core.List.{List}
use lib.Dec.{eqb}
use borrow.Author.Tests.{eqb-true}
use Rattle.geometry.specs.declared.Part.{Part}
use Rattle.geometry.specs.Parts.{block_of}
use Rattle.meter.specs.declared.Meter.{Meter}
use Rattle.protection.specs.declared.Protection.{Protection}
use Rattle.protection.specs.Protection.{protected, unprotected, all_protected}
use Rattle.plain.specs.declared.Array.{Array}
use Rattle.plain.specs.declared.Array.TheVariants.{Main, OneTime}
use Rattle.plain.specs.declared.Refusal.{Refusal}
use Rattle.plain.specs.declared.Refusal.TheVariants.{Sequence, Protected, Suspended, Locked, Raise}
use Rattle.plain.specs.declared.Operation.{Operation}
use Rattle.plain.specs.declared.Operation.TheVariants.{Idle}
use Rattle.plain.specs.declared.Suspension.{Suspension}
use Rattle.plain.specs.declared.Suspension.TheVariants.{Unsuspended, OfProgram, OfErase, Entered}
use Rattle.plain.specs.declared.Command.{Command}
use Rattle.plain.specs.declared.Command.TheVariants.{Ground, Entering, Reads}
use Rattle.plain.specs.declared.Cycle.{Cycle}
use Rattle.plain.specs.declared.Cycle.TheVariants.{Unlock, Unlocked, ProgramData, EraseSetup, EraseUnlock, EraseUnlocked, DybData, PpbSetup, PpbSetting, PpbClearing, OtpLocking}
use Rattle.plain.specs.declared.Reading.{Reading}
use Rattle.plain.specs.declared.Reading.TheVariants.{Identity, Dybs, OtpLock}
use Rattle.plain.specs.declared.Effect.{Effect}
use Rattle.plain.specs.declared.Effect.TheVariants.{Goes, Starts, Protects, Falls, Stays}
use Rattle.plain.specs.declared.Device.{Device}
use Rattle.std.specs.Prelude.{if◌then◌else◌}
use Rattle.plain.specs.Cycles.{is_at, is, first_unlock, second_unlock, is_dyb, is_lock_address}
use Rattle.plain.specs.Figures.{program_time, window_time, chip_time}
use Rattle.plain.specs.Lent.{Lent}
use Rattle.plain.specs.Operations.{is_entered, selected}
use Rattle.plain.specs.Programs.{barred, barred_by, barred_as, raises}
use Rattle.plain.specs.Record.{device}
use Rattle.plain.specs.Commands.{program_is_suspended, is_suspended, resumes, keeps_out, started, begins, at_lock, resets, or_reset, exits, at_ground, after_unlock, after_unlocked, after_a0, after80, after_80_unlock, after_80_unlocked, after48, after60, after68, after6060, after_lock_68, after_reading, continued, entered, effected}
use Rattle.plain.specs.Doings.{begins_program, goes_on, has_entered}
use Rattle.plain.specs.History.{Told, telling, kind, dropped, unheard, enters, hears_cycle, hears, wrote, gave_up, turned_down, wrote_as}
use Rattle.plain.specs.Holds.{Fact}
use Rattle.plain.specs.History as told
use Rattle.plain.proofs.Tools.{by-test, both_right, clash}
use Rattle.plain.proofs.Register.{standing}
use Rattle.history.proofs.Fine.{asks_for}
use Rattle.history.proofs.Seen.{seen_inside, seen_op, seen, none-gone}

module _ (p : Part) (fs : List Fact) (l : Lent) (a w : ℕ) (m : Meter) (bits : Protection) where
  abbrev rec : Command → Operation → Device
  rec c o = device m c o bits

  abbrev before : Command → Operation → Told
  before c o = seen p (rec c o) fs

  -- the effect of a write is told as it should be
  pub record For (c : Command) (o : Operation) (x : Effect) : Type 0 where
    pub tells : wrote_as p (before c o) (kind (effected (rec c o) x).refusal) a w ≡ seen p (effected (rec c o) x).device fs

  -- ---- the ends of a cycle, while nothing runs

  abbrev In : Suspension → Command → Effect → Type 0
  In s c x = For c (standing s) x

  abbrev heard : Suspension → Command → Told
  heard s c = hears p (before c (standing s)) c a w

  goes : (s : Suspension) (c d : Command) → heard s c ≡ enters (before c (standing s)) d → In s c (Goes d)
  unfolding effected kind wrote_as wrote seen_op seen_inside standing
  goes Unsuspended c d e = record { tells = e }
  goes (OfProgram q) c d e = record { tells = e }
  goes (OfErase x) c d e = record { tells = e }
  goes Entered c d e = record { tells = e }

  starts : (s : Suspension) (c : Command) (n : Operation) → heard s c ≡ told.begins (before c (standing s)) (seen_op p n) → In s c (Starts n)
  unfolding effected kind wrote_as wrote seen_op seen_inside standing
  starts Unsuspended c n e = record { tells = e }
  starts (OfProgram q) c n e = record { tells = e }
  starts (OfErase x) c n e = record { tells = e }
  starts Entered c n e = record { tells = e }

  -- the same with other bits
  abbrev guarded : Told → Protection → Told
  guarded h b = telling Ground h.doing b.dyb b.ppb b.sealed h.facts h.clock h.charge

  guards : (s : Suspension) (c : Command) (b : Protection) → heard s c ≡ guarded (before c (standing s)) b → In s c (Protects b)
  unfolding effected kind wrote_as wrote seen_op seen_inside standing
  guards Unsuspended c b e = record { tells = e }
  guards (OfProgram q) c b e = record { tells = e }
  guards (OfErase x) c b e = record { tells = e }
  guards Entered c b e = record { tells = e }

  sequence : (s : Suspension) (c : Command) → In s c (Falls Sequence)
  unfolding effected kind wrote_as gave_up seen_op seen_inside standing
  sequence Unsuspended c = record { tells = refl }
  sequence (OfProgram q) c = record { tells = refl }
  sequence (OfErase x) c = record { tells = refl }
  sequence Entered c = record { tells = refl }

  down : (s : Suspension) (c : Command) (n : Refusal) → kind n ≡ dropped → In s c (Falls n)
  unfolding effected wrote_as turned_down seen_op seen_inside standing
  down Unsuspended c n e = record { tells = rw e }
  down (OfProgram q) c n e = record { tells = rw e }
  down (OfErase x) c n e = record { tells = rw e }
  down Entered c n e = record { tells = rw e }

  pub stays : {c : Command} {o : Operation} → (n : Refusal) → kind n ≡ unheard → For c o (Stays n)
  unfolding effected wrote_as
  stays n e = record { tells = rw e }

  unless-so : (s : Suspension) (c : Command) (b : Bool) (x : Effect) → In s c x → In s c (if b then Falls Suspended else x)
  unfolding kind
  unless-so s c true x f = down s c Suspended refl
  unless-so s c false x f = f

  -- F0H, or what else the cycle makes of the write
  resets-told : (s : Suspension) (c : Command) → heard s c ≡ told.resets (before c (standing s)) → In s c (resets s)
  unfolding resets has_entered seen_op seen_inside standing
  resets-told Unsuspended c e = goes Unsuspended c Ground e
  resets-told (OfProgram q) c e = goes (OfProgram q) c Ground e
  resets-told (OfErase x) c e = goes (OfErase x) c Ground e
  resets-told Entered c e = starts Entered c Idle e

  or-reset : (s : Suspension) (c : Command) (x : Effect) → (is w 0xF0 ≡ true → heard s c ≡ told.resets (before c (standing s))) → (is w 0xF0 ≡ false → In s c x)
      → In s c (or_reset s w x)
  or-reset s c x f g = by-test (In s c) (is w 0xF0) (λ e. resets-told s c (f e)) g

  low : (code : ℕ) → is w code ≡ true → w % 256 ≡ code
  low code e = eqb-true (w % 256) code e

  -- ---- operations that go on and start

  -- of a suspended program nothing was told
  resumes-told : (s : Suspension) → program_is_suspended s ≡ false → first_unlock a w ≡ false → is w 0x30 ≡ true → In s Ground (resumes s)
  unfolding program_is_suspended resumes hears goes_on seen_op seen_inside standing
  resumes-told Unsuspended n f e = sequence Unsuspended Ground
  resumes-told (OfProgram q) n f e = clash refl n
  resumes-told (OfErase x) n f e = starts (OfErase x) Ground _ (rw (f, e))
  resumes-told Entered n f e = sequence Entered Ground

  begins-told : (s : Suspension) → keeps_out p s (asks_for s a w) ≡ false → In s (Entering ProgramData) (Starts (begins s (started p (asks_for s a w))))
  unfolding keeps_out begins hears hears_cycle begins_program has_entered seen_op seen_inside standing
  begins-told Unsuspended n = starts Unsuspended _ _ (rw (none-gone (program_time p)))
  begins-told (OfProgram q) n = clash refl n
  begins-told (OfErase x) n = starts (OfErase x) _ _ (rw (none-gone (program_time p)))
  begins-told Entered n = starts Entered _ _ (rw (none-gone (program_time p)))

  -- ---- the register's states

  at-ground : (s : Suspension) → program_is_suspended s ≡ false → In s Ground (at_ground s a w)
  unfolding at_ground hears
  at-ground s n =
      by-test (In s Ground) (first_unlock a w) (λ e. goes s _ _ (rw e))
      (λ e. or-reset s Ground _ (λ f. rw (e, low 0xF0 f)) (λ f. by-test (In s Ground) (is w 0x30) (λ g. resumes-told s n e g) (λ g. sequence s Ground)))

  second : (s : Suspension) (c d : Command) → (second_unlock a w ≡ true → heard s c ≡ enters (before c (standing s)) d) → (is w 0xF0 ≡ true → heard s c ≡ told.resets (before c (standing s)))
      → In s c (if second_unlock a w then Goes d else or_reset s w (Falls Sequence))
  second s c d f g = by-test (In s c) (second_unlock a w) (λ e. goes s c d (f e)) (λ e. or-reset s c _ g (λ h. sequence s c))

  third : (s : Suspension) → In s (Entering Unlocked) (after_unlocked p bits s a w)
  unfolding after_unlocked hears hears_cycle seen_op
  third s =
      let c = Entering Unlocked in
      let F = In s c in
      or-reset s c _ (λ e. rw (low 0xF0 e))
      (λ e. by-test F (not (is_at a 0x555)) (λ f. sequence s c)
      (λ f. by-test F (is w 0xA0) (λ g. unless-so s c (program_is_suspended s) _ (goes s c _ (rw (low 0xA0 g))))
      (λ g. by-test F (is w 0x80) (λ h. unless-so s c (is_suspended s) _ (by-test F (is_entered s) (λ _. sequence s c) (λ _. goes s c _ (rw (low 0x80 h)))))
      (λ h. by-test F (is w 0x88) (λ x. unless-so s c (is_suspended s) _ (starts s c _ (rw (low 0x88 x))))
      (λ x. by-test F (is w 0x90) (λ i. goes s c _ (rw (low 0x90 i)))
      (λ i. by-test F (is w 0x58) (λ j. goes s c _ (rw (low 0x58 j)))
      (λ j. by-test F (is w 0x48) (λ k. unless-so s c (is_suspended s) _ (goes s c _ (rw (low 0x48 k))))
      (λ k. by-test F (is w 0x78) (λ n. unless-so s c (is_suspended s) _ (guards s c _ (rw (low 0x78 n))))
      (λ n. by-test F (is w 0x60) (λ o. unless-so s c (is_suspended s) _ (goes s c _ (rw (low 0x60 o))))
      (λ o. sequence s c))))))))))

  barred-dropped : (y : Array) → kind (barred_by y) ≡ dropped
  unfolding kind
  barred-dropped Main = refl
  barred-dropped OneTime = refl

  data-told : (s : Suspension) → In s (Entering ProgramData) (after_a0 p bits s l a w)
  unfolding after_a0 barred_as kind
  data-told s =
      let c = Entering ProgramData in
      let F = In s c in
      by-test F (barred p bits (asks_for s a w)) (λ _. down s c _ (barred-dropped (selected s a)))
      (λ _. by-test F (keeps_out p s (asks_for s a w)) (λ _. down s c Suspended refl)
      (λ n. by-test F (raises (asks_for s a w) l) (λ _. down s c Raise refl) (λ _. begins-told s n)))

  erase-told : (s : Suspension) → In s (Entering EraseUnlocked) (after_80_unlocked p bits s a w)
  unfolding after_80_unlocked hears hears_cycle kind seen_op unprotected
  erase-told s =
      let c = Entering EraseUnlocked in
      let F = In s c in
      or-reset s c _ (λ e. rw e)
      (λ e. by-test F (is_at a 0x555 && is w 0x10)
      (λ f. by-test F (all_protected p bits) (λ g. down s c Protected refl)
      (λ g. starts s c _ (rw (low 0x10 (both_right (is_at a 0x555) (is w 0x10) f), none-gone (chip_time p)))))
      (λ f. by-test F (is w 0x30)
      (λ g. by-test F (protected bits (block_of p a)) (λ h. down s c Protected refl) (λ h. starts s c _ (rw (low 0x30 g, none-gone (window_time p)))))
      (λ g. sequence s c)))

  -- the lock's address, by the history
  at-lock : (s : Suspension) → (has_entered (seen_op p (standing s)) && is_lock_address a) ≡ at_lock s a
  unfolding has_entered seen_op seen_inside standing
  at-lock Unsuspended = refl
  at-lock (OfProgram q) = refl
  at-lock (OfErase e) = refl
  at-lock Entered = refl

  setup-told : (s : Suspension) → In s (Entering PpbSetup) (after60 p s a w)
  unfolding after60 hears hears_cycle
  setup-told s =
      let c = Entering PpbSetup in
      let F = In s c in
      or-reset s c _ (λ e. rw e)
      (λ e. by-test F (at_lock s a)
      (λ t. by-test F (is w 0x68) (λ f. goes s c _ (rw (at-lock s, t, low 0x68 f)))
      (λ f. by-test F (is w 0x48) (λ g. goes s c _ (rw (at-lock s, t, low 0x48 g))) (λ g. sequence s c)))
      (λ t. by-test F (is w 0x68) (λ f. goes s c _ (rw (at-lock s, t, low 0x68 f)))
      (λ f. by-test F (is w 0x60) (λ g. goes s c _ (rw (at-lock s, t, low 0x60 g))) (λ g. sequence s c))))

  locks : (s : Suspension) (c : Command) (b : Protection) → heard s c ≡ guarded (before c (standing s)) b → In s c (if bits.lock then Falls Locked else Protects b)
  unfolding kind
  locks s c b e = by-test (In s c) bits.lock (λ _. down s c Locked refl) (λ _. guards s c b e)

  cycle-told : (s : Suspension) (c : Cycle) → In s (Entering c) (continued p bits s c l a w)
  unfolding continued after_unlock after80 after_80_unlock after48 after68 after6060 after_lock_68 hears hears_cycle kind
  cycle-told s Unlock = second s _ _ (λ e. rw (low 0x55 (both_right (is_at a 0x2AA) (is w 0x55) e))) (λ e. rw e)
  cycle-told s Unlocked = third s
  cycle-told s ProgramData = data-told s
  cycle-told s EraseSetup =
      by-test (In s (Entering EraseSetup)) (first_unlock a w) (λ e. goes s _ _ (rw (low 0xAA (both_right (is_at a 0x555) (is w 0xAA) e))))
      (λ e. or-reset s _ _ (λ f. rw f) (λ f. sequence s _))
  cycle-told s EraseUnlock = second s _ _ (λ e. rw (low 0x55 (both_right (is_at a 0x2AA) (is w 0x55) e))) (λ e. rw e)
  cycle-told s EraseUnlocked = erase-told s
  cycle-told s DybData =
      by-test (In s (Entering DybData)) (is_dyb w 1) (λ e. guards s _ _ (rw e))
      (λ e. by-test (In s (Entering DybData)) (is_dyb w 0) (λ f. guards s _ _ (rw e)) (λ f. sequence s _))
  cycle-told s PpbSetup = setup-told s
  cycle-told s (PpbSetting b) =
      let F = In s (Entering (PpbSetting b)) in
      or-reset s _ _ (λ e. rw e)
      (λ e. by-test F (at_lock s a) (λ t. sequence s _) (λ t. by-test F (is w 0x48 && eqb (block_of p a) b) (λ f. locks s _ _ (rw e)) (λ f. sequence s _)))
  cycle-told s PpbClearing =
      let F = In s (Entering PpbClearing) in
      or-reset s _ _ (λ e. rw e) (λ e. by-test F (at_lock s a) (λ t. sequence s _) (λ t. by-test F (is w 0x40) (λ f. locks s _ _ (rw e)) (λ f. sequence s _)))
  cycle-told s OtpLocking =
      or-reset s _ _ (λ e. rw e) (λ e. by-test (In s (Entering OtpLocking)) (at_lock s a && is w 0x48) (λ f. guards s _ _ (rw e)) (λ f. sequence s _))

  -- 90H and then 00H leaves the one-time block, and nothing else
  exits-told : (s : Suspension) (r : Reading) → exits s r w ≡ true → In s (Reads r) (Starts Idle)
  unfolding exits hears has_entered seen_op seen_inside standing
  exits-told Unsuspended (Identity bank) e = clash e refl
  exits-told (OfProgram q) (Identity bank) e = clash e refl
  exits-told (OfErase x) (Identity bank) e = clash e refl
  exits-told Entered (Identity bank) e = starts Entered _ _ refl
  exits-told s Dybs e = clash e refl
  exits-told s OtpLock e = clash e refl

  pub enters-told : (s : Suspension) (c : Command) → program_is_suspended s ≡ false → In s c (entered p bits s c l a w)
  unfolding entered after_reading hears
  enters-told s Ground n = at-ground s n
  enters-told s (Entering c) n = cycle-told s c
  enters-told s (Reads r) n =
      or-reset s (Reads r) _ (λ e. refl) (λ e. by-test (In s (Reads r)) (exits s r w) (λ f. exits-told s r f) (λ f. sequence s (Reads r)))
