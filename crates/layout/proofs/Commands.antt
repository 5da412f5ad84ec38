-- The command register and its two words: each stands for the other.
use Prim.Native.Nat.{ℕ}
use mathlib.Core.Path.{◌≡◌, refl, ap, sym}
use mathlib.Core.Bool.{true}
use lib.Dec.{eqb, ltb}
use borrow.Author.Tests.{eqb-true}
use Rattle.plain.specs.declared.Command.{Command}
use Rattle.plain.specs.declared.Command.TheVariants.{Ground, Entering, Reads}
use Rattle.plain.specs.declared.Cycle.{Cycle}
use Rattle.plain.specs.declared.Cycle.TheVariants.{Unlock, Unlocked, ProgramData, EraseSetup, EraseUnlock, EraseUnlocked, DybData, PpbSetup, PpbSetting, PpbClearing, OtpLocking}
use Rattle.plain.specs.declared.Reading.{Reading}
use Rattle.plain.specs.declared.Reading.TheVariants.{Identity, Dybs, OtpLock}
use Rattle.plain.proofs.Tools.{both_left}
use Rattle.layout.specs.declared.CommandWords.{CommandWords}
use Rattle.layout.specs.Commands.{beside, alone, cycle_words, reading_words, command_words, command_fits, cycle_of, command_of}
use Rattle.layout.proofs.Words.{each}

-- ---- from a command

pub record Told (c : Command) : Type 0 where
  pub fits : command_fits (command_words c) ≡ true
  pub back : command_of (command_words c) ≡ c

cycle-told : (c : Cycle) → Told (Entering c)
unfolding command_words cycle_words command_fits command_of cycle_of
cycle-told Unlock = record { fits = refl; back = refl }
cycle-told Unlocked = record { fits = refl; back = refl }
cycle-told ProgramData = record { fits = refl; back = refl }
cycle-told EraseSetup = record { fits = refl; back = refl }
cycle-told EraseUnlock = record { fits = refl; back = refl }
cycle-told EraseUnlocked = record { fits = refl; back = refl }
cycle-told DybData = record { fits = refl; back = refl }
cycle-told PpbSetup = record { fits = refl; back = refl }
cycle-told (PpbSetting block) = record { fits = refl; back = refl }
cycle-told PpbClearing = record { fits = refl; back = refl }
cycle-told OtpLocking = record { fits = refl; back = refl }

reading-told : (g : Reading) → Told (Reads g)
unfolding command_words reading_words command_fits command_of
reading-told (Identity bank) = record { fits = refl; back = refl }
reading-told Dybs = record { fits = refl; back = refl }
reading-told OtpLock = record { fits = refl; back = refl }

pub command-told : (c : Command) → Told c
unfolding command_words command_fits command_of
command-told Ground = record { fits = refl; back = refl }
command-told (Entering c) = cycle-told c
command-told (Reads g) = reading-told g

-- ---- from words that fit

abbrev Back : ℕ → Type 0
Back n = (b : ℕ) → command_fits (beside n b) ≡ true → command_words (command_of (beside n b)) ≡ beside n b

placeless : (n b : ℕ) → eqb b 0 ≡ true → alone n ≡ beside n b
placeless n b h = ap (beside n) (sym (eqb-true b 0 h))

backs : (n : ℕ) → ltb n 15 ≡ true → Back n
unfolding command_words cycle_words reading_words command_fits command_of cycle_of
backs = each 15 Back (
  placeless 0,
  (
    placeless 1,
    (
      placeless 2,
      (
        placeless 3,
        (
          placeless 4,
          (
            placeless 5,
            (
              placeless 6,
              (
                placeless 7,
                (
                  placeless 8,
                  ((λ b h. refl), (placeless 10, ((λ b h. refl), (placeless 12, (placeless 13, (placeless 14, tt)))))),
                ),
              ),
            ),
          ),
        ),
      ),
    ),
  ),
)

pub command-back : (c : CommandWords) → command_fits c ≡ true → command_words (command_of c) ≡ c
unfolding command_fits
command-back c h = backs c.number (both_left (ltb c.number 15) _ h) c.place h
