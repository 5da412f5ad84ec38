-- The command register as two words: a number, and the block of 68H or the bank of identity reading beside it.
use Rattle.std.specs.Prelude.{ℕ, Bool, ◌&&◌, ◌||◌, eqb, ltb}
use Rattle.plain.specs.declared.Command.{Command}
use Rattle.plain.specs.declared.Command.TheVariants.{Ground, Entering, Reads}
use Rattle.plain.specs.declared.Cycle.{Cycle}
use Rattle.plain.specs.declared.Cycle.TheVariants.{Unlock, Unlocked, ProgramData, EraseSetup, EraseUnlock, EraseUnlocked, DybData, PpbSetup, PpbSetting, PpbClearing, OtpLocking}
use Rattle.plain.specs.declared.Reading.{Reading}
use Rattle.plain.specs.declared.Reading.TheVariants.{Identity, Dybs, OtpLock}
use Rattle.std.specs.Prelude.{if◌then◌else◌}
use Rattle.layout.specs.declared.CommandWords.{CommandWords}

abbrev pub beside : (number place : ℕ) → CommandWords
beside n b = record { number = n; place = b }

abbrev pub alone : (number : ℕ) → CommandWords
alone n = beside n 0

unfoldable pub cycle_words : Cycle → CommandWords
cycle_words Unlock = alone 1
cycle_words Unlocked = alone 2
cycle_words ProgramData = alone 3
cycle_words EraseSetup = alone 4
cycle_words EraseUnlock = alone 5
cycle_words EraseUnlocked = alone 6
cycle_words DybData = alone 7
cycle_words PpbSetup = alone 8
cycle_words (PpbSetting block) = beside 9 block
cycle_words PpbClearing = alone 10
cycle_words OtpLocking = alone 13

unfoldable pub reading_words : Reading → CommandWords
reading_words (Identity bank) = beside 11 bank
reading_words Dybs = alone 12
reading_words OtpLock = alone 14

unfoldable pub command_words : Command → CommandWords
command_words Ground = alone 0
command_words (Entering c) = cycle_words c
command_words (Reads g) = reading_words g

-- is there a command of that number, and does it have a place if one is told?
unfoldable pub command_fits : CommandWords → Bool
command_fits c = ltb c.number 15 && (eqb c.number 9 || (eqb c.number 11 || eqb c.place 0))

-- the command that words which fit stand for
unfoldable pub cycle_of : CommandWords → Cycle
cycle_of c =
    if eqb c.number 1 then Unlock
    else if eqb c.number 2 then Unlocked
    else if eqb c.number 3 then ProgramData
    else if eqb c.number 4 then EraseSetup
    else if eqb c.number 5 then EraseUnlock
    else if eqb c.number 6 then EraseUnlocked
    else if eqb c.number 7 then DybData
    else if eqb c.number 8 then PpbSetup
    else if eqb c.number 9 then PpbSetting c.place
    else if eqb c.number 10 then PpbClearing
    else OtpLocking

unfoldable pub command_of : CommandWords → Command
command_of c =
    if eqb c.number 0 then Ground
    else if eqb c.number 11 then Reads (Identity c.place)
    else if eqb c.number 12 then Reads Dybs
    else if eqb c.number 14 then Reads OtpLock
    else Entering (cycle_of c)
