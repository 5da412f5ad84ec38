-- What a wait comes to in the window and while an erase runs, block after block.
use Rattle.std.specs.Prelude.{Some, None}
use Prim.Native.Nat.{ℕ, suc, ◌-◌, ◌*◌, ◌<◌, ◌≤◌}
use mathlib.Core.Path.{◌≡◌, refl, sym, ap, ◌∙◌}
use mathlib.Core.Bool.{true, false}
use native.Mathlib.Omega.{arith}
use lib.ListN.{length}
use borrow.Author.Tests.{lt-ltb, le-ltb}
use Rattle.blocks.specs.Blocks.{has}
use Rattle.blocks.proofs.Lowest.{first-has}
use Rattle.cells.proofs.Laws.{length-erased}
use Rattle.geometry.specs.declared.Part.{Part}
use Rattle.geometry.specs.Parts.{block_count, first_of, size_of, word_count}
use Rattle.geometry.proofs.Counts.{blocks-most}
use Rattle.geometry.proofs.Laid.{block-fits}
use Rattle.meter.specs.declared.Meter.{Meter}
use Rattle.meter.specs.Meter.{metered}
use Rattle.protection.specs.declared.Protection.{Protection}
use Rattle.plain.specs.declared.Array.TheVariants.{Main, OneTime}
use Rattle.plain.specs.declared.Erase.{Erase}
use Rattle.plain.specs.declared.Operation.{Operation}
use Rattle.plain.specs.declared.Operation.TheVariants.{Idle, Window}
use Rattle.plain.specs.Figures.{erase_time, running_current, standby_current}
use Rattle.plain.specs.Lent.{Lent}
use Rattle.plain.specs.Record.{erase_left}
use Rattle.plain.specs.Sound.{operation_sound}
use Rattle.plain.specs.Time.{Moment, moment, erase_finished, onward, ticks}
use Rattle.plain.proofs.Facts.{EraseFacts, window, chip-erasing}
use Rattle.plain.proofs.Facts as known
use Rattle.plain.proofs.FactsHold.{erasing-holds}
use Rattle.plain.proofs.FigureLaws.{erase-some, chip-some}
use Rattle.plain.proofs.Lents.{whole-both}
use Rattle.plain.proofs.InTime.{idle-still, window-running, erase-running}
use Rattle.plain.proofs.SoundTime.{closed, erasing-any, chip-any}
use Rattle.plain.proofs.Ticks.{Running, still, drift, passes}
use Rattle.plain.proofs.Tools.{by_order}
use Rattle.moments.specs.Moments.{Passable, moved}
use Rattle.moments.proofs.Passed.{Passed, passed, instead}
use Rattle.moments.proofs.Rooms.{room-ran, room-stood-by}
use Rattle.erasing.specs.declared.Kind.{Kind}
use Rattle.erasing.specs.declared.Kind.TheVariants.{Block, Chip}
use Rattle.erasing.specs.Hand.{after_hand, next_hand}
use Rattle.erasing.specs.Kinds.{erasing, block_time}

some-same : {x y : Erase} → Some x ≡ Some y → x ≡ y
some-same e = cc

none-some : {x : Erase} → None ≡ Some x → ⊥
none-some e = cc

-- ---- what soundness says of an erase of either kind

facts : (p : Part) (bits : Protection) (kind : Kind) (e : Erase) → operation_sound p bits (erasing kind e) ≡ true → EraseFacts p bits e (block_time p kind)
facts p bits Chip e s = chip-erasing p bits e s
facts p bits Block e s = (known.erasing p bits e s).erase

runs-by : (p : Part) (kind : Kind) (e : Erase)
    → Running p (λ l. erasing kind (erase_left e l)) (running_current p) (onward p (erasing kind) (block_time p kind) e) (erase_finished p e)
runs-by p Block e = erase-running p false e
runs-by p Chip e = erase-running p true e

time-some : (p : Part) (kind : Kind) → 1 ≤ block_time p kind
time-some p Chip = chip-some p
time-some p Block = erase-some p

-- another listed block may be in hand
any-hand : (p : Part) (bits : Protection) (kind : Kind) (e : Erase) → operation_sound p bits (erasing kind e) ≡ true → (full : ℕ) → full ≡ block_time p kind → has e.list (after_hand e full).hand ≡ true
    → operation_sound p bits (erasing kind (after_hand e full)) ≡ true
any-hand p bits Chip e s full d listed = chip-any p bits e s _ full listed (omega (arith, d, time-some p Chip)) (omega (arith, d))
any-hand p bits Block e s full d listed = erasing-any p bits e s _ full listed (omega (arith, d, time-some p Block)) (omega (arith, d))

-- a window that ends leaves a wait that is passable, too
pub window-closes : (p : Part) (m : Meter) (e : Erase) (l : Lent) (n : ℕ) → Passable p m (Window e) l n → e.left ≤ n
    → Passable p (metered m e.left (e.left * standby_current p)) (erasing Block (erase_left e (erase_time p))) l (n - e.left)
window-closes p m e l n f h =
    record {
      room = room-stood-by p m n e.left h f.room;
      whole = f.whole;
      bits = f.bits;
      sound = erasing-holds p f.bits _ (closed p f.bits e (window p f.bits e f.sound));
    }

module _ (p : Part) (m : Meter) (l : Lent) (n : ℕ) where
  abbrev stands : ℕ → Meter
  stands k = metered m k (k * standby_current p)

  abbrev runs : ℕ → Meter
  runs k = metered m k (k * running_current p)

  -- ---- the window

  pub window-goes-on : (e : Erase) → n < e.left → Passed p n (moment m (Window e) l) (moved (moment (stands n) (Window (erase_left e (e.left - n))) l)) l
  window-goes-on e h =
      passed p n (moment m (Window e) l) (moment (stands n) (Window (erase_left e (e.left - n))) l)
      (drift p _ _ _ _ (window-running p e) n e.left m l h)

  pub window-ends : (e : Erase) → 1 ≤ e.left → e.left ≤ n
      → ticks p (n - e.left) (moment (stands e.left) (erasing Block (erase_left e (erase_time p))) l) ≡ ticks p n (moment m (Window e) l)
  window-ends e s h = sym (passes p _ _ _ _ (window-running p e) n e.left m l s h)

  -- ---- an erase

  pub erase-goes-on : (kind : Kind) (e : Erase) → n < e.left
      → Passed p n (moment m (erasing kind e) l) (moved (moment (runs n) (erasing kind (erase_left e (e.left - n))) l)) l
  erase-goes-on kind e h =
      passed p n (moment m (erasing kind e) l) (moment (runs n) (erasing kind (erase_left e (e.left - n))) l)
      (drift p _ _ _ _ (runs-by p kind e) n e.left m l h)

  block-done : (kind : Kind) (e : Erase) (o : Operation) → 1 ≤ e.left → e.left ≤ n → onward p (erasing kind) (block_time p kind) e ≡ o
      → ticks p n (moment m (erasing kind e) l) ≡ ticks p (n - e.left) (moment (runs e.left) o (erase_finished p e l))
  block-done kind e o s h d =
      passes p _ _ _ _ (runs-by p kind e) n e.left m l s h
      ∙ ap (λ (x : Operation). ticks p (n - e.left) (moment (runs e.left) x (erase_finished p e l))) d

  -- a block is finished, and the next one is in hand
  block-next : (kind : Kind) (e : Erase) → 1 ≤ e.left → e.left ≤ n → (after_hand e (block_time p kind)).hand < block_count p
      → ticks p n (moment m (erasing kind e) l) ≡ ticks p (n - e.left) (moment (runs e.left) (erasing kind (after_hand e (block_time p kind))) (erase_finished p e l))
  block-next kind e s h k = block-done kind e (erasing kind (after_hand e (block_time p kind))) s h (rw (lt-ltb _ (block_count p) k))

  -- the last block is finished
  block_last : (kind : Kind) (e : Erase) → 1 ≤ e.left → e.left ≤ n → block_count p ≤ (after_hand e (block_time p kind)).hand
      → Passed p n (moment m (erasing kind e) l) (moved (moment (metered (runs e.left) (n - e.left) ((n - e.left) * standby_current p)) Idle l)) (erase_finished p e l)
  block_last kind e s h k =
      passed p n (moment m (erasing kind e) l) (moment (metered (runs e.left) (n - e.left) ((n - e.left) * standby_current p)) Idle (erase_finished p e l))
      (block-done kind e Idle s h (rw (le-ltb _ (block_count p) k)) ∙ still p Idle (standby_current p) (idle-still p) (n - e.left) (runs e.left) (erase_finished p e l))

-- ---- the next block in hand, or none

next-some : (p : Part) (e : Erase) (full : ℕ) (next : Erase) → next_hand p e full ≡ Some next → (next ≡ after_hand e full) × ((after_hand e full).hand < block_count p)
next-some p e full next s =
    by_order (after_hand e full).hand (block_count p)
    (λ h. (sym (some-same (rw (lt-ltb _ (block_count p) h) at s)), h))
    (λ h. absurd (none-some (rw (le-ltb _ (block_count p) h) at s)))

next-none : (p : Part) (e : Erase) (full : ℕ) → next_hand p e full ≡ None → block_count p ≤ (after_hand e full).hand
next-none p e full s =
    by_order (after_hand e full).hand (block_count p)
    (λ h. absurd (none-some (sym (rw (lt-ltb _ (block_count p) h) at s))))
    (λ h. h)

-- ---- the loop over blocks: what is left to wait, from where it stands, comes to the whole wait from the start

pub record Underway (p : Part) (kind : Kind) (n : ℕ) (from : Moment) (l : Lent) (e : Erase) (m : Meter) (rest : ℕ) : Type 0 where
  pub same : ticks p rest (moment m (erasing kind e) l) ≡ ticks p n from
  pub fit : Passable p m (erasing kind e) l rest

module _ (p : Part) (kind : Kind) (n : ℕ) (from : Moment) (l : Lent) (e : Erase) (m : Meter) (rest : ℕ) (u : Underway p kind n from l e m rest) where
  erase-facts : EraseFacts p u.fit.bits e (block_time p kind)
  erase-facts = facts p u.fit.bits kind e u.fit.sound

  pub some_left : 1 ≤ e.left
  some_left = erase-facts.some_left

  pub hand-below : e.hand < 320
  hand-below = omega (arith, erase-facts.below e.hand erase-facts.hand-listed, blocks-most p)

  -- the cells are as many as before
  pub wiped-long : length (erase_finished p e l).cells ≡ word_count p
  wiped-long = length-erased l.cells (first_of p e.hand) (size_of p e.hand) (rw (u.fit.whole Main) (block-fits p e.hand)) ∙ u.fit.whole Main

  pub block-turn : e.left ≤ rest → (next : Erase) → next_hand p e (block_time p kind) ≡ Some next
      → Underway p kind n from (erase_finished p e l) next (metered m e.left (e.left * running_current p)) (rest - e.left)
  block-turn h next t =
      let more = next-some p e (block_time p kind) next t in
      rw more.0 (record {
        same = sym (block-next p m l rest kind e some_left h more.1) ∙ u.same;
        fit = record {
          room = room-ran p m rest e.left h u.fit.room;
          whole = whole-both p (erase_finished p e l) wiped-long (u.fit.whole OneTime);
          bits = u.fit.bits;
          sound = any-hand p u.fit.bits kind e u.fit.sound (block_time p kind) refl (first-has e.list (suc e.hand) (omega (arith, more.1, blocks-most p)));
        };
      })

  pub erase-over : e.left ≤ rest → next_hand p e (block_time p kind) ≡ None
      → Passed p n from (moved (moment (metered (metered m e.left (e.left * running_current p)) (rest - e.left) ((rest - e.left) * standby_current p)) Idle l)) (erase_finished p e l)
  erase-over h t =
      instead p n rest from (moment m (erasing kind e) l) _ _ u.same (block_last p m l rest kind e some_left h (next-none p e (block_time p kind) t))

  pub erase-stops : rest < e.left
      → Passed p n from (moved (moment (metered m rest (rest * running_current p)) (erasing kind (erase_left e (e.left - rest))) l)) l
  erase-stops h = instead p n rest from (moment m (erasing kind e) l) _ _ u.same (erase-goes-on p m l rest kind e h)
