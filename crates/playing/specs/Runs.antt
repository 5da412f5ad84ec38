-- A script's run, byte by byte: what the device, what it is lent and the line under way are, and what is told.
use Rattle.std.specs.Prelude.{ℕ, ◌+◌, ◌%◌, ◌^◌, List, [], ◌∷◌, ◌++◌, length, nat_eq}
use Rattle.plain.specs.declared.Device.{Device}
use Rattle.std.specs.Prelude.{if◌then◌else◌}
use Rattle.plain.specs.Lent.{Lent}
use Rattle.plain.specs.Record.{fresh}
use Rattle.script.specs.declared.Line.{Line}
use Rattle.script.specs.Lines.{no_line, fed_line, fed_words, ended_order, ended_words}
use Rattle.playing.specs.declared.Replay.{Replay}
use Rattle.language.specs.Orders.{seen}
use Rattle.deeds.specs.Events.{State, state}
use Rattle.deeds.specs.Deeds.{does}
use Rattle.deeds.specs.Tells.{tells}
use Rattle.deeds.specs.Answers.{last_of}

abbrev pub replay : Device → Line → (number : ℕ) → Replay
replay r l n = record { device = r; line = l; number = n }

-- "The device is the small part, fresh."
abbrev pub begun : Replay
begun = replay fresh no_line 1

-- with the cells and the one-time words, and the words of the line under way
pub record Run : Type 0 where
  pub replay : Replay
  pub lent : Lent
  pub words : List ℕ

abbrev pub run : Replay → Lent → (words : List ℕ) → Run
run p l words = record { replay = p; lent = l; words = words }

-- the line ends: what it asks for is done, and the next begins
unfoldable pub ended : Run → Run
ended s =
    let p = s.replay in
    let words = ended_words p.line s.words in
    let done = does (seen (ended_order p.line (length s.words)) words) p.device s.lent in
    run (replay done.device no_line ((p.number + 1) % 2 ^ 64)) done.lent words

-- and what it is answered with
unfoldable pub answered : Run → List ℕ
answered s =
    let p = s.replay in
    tells (seen (ended_order p.line (length s.words)) (ended_words p.line s.words)) p.number p.device s.lent

-- a byte of it
unfoldable pub fed : Run → (byte : ℕ) → Run
fed s b =
    let p = s.replay in
    run (replay p.device (fed_line p.line b (length s.words)) p.number) s.lent (fed_words p.line b s.words)

-- "lines end with LF"
unfoldable pub run_over : Run → (bytes : List ℕ) → Run
run_over s [] = s
run_over s (b ∷ bytes) = run_over (if nat_eq b 10 then ended s else fed s b) bytes

-- the answers, one after the other
unfoldable pub told_over : Run → (bytes : List ℕ) → List ℕ
told_over s [] = []
told_over s (b ∷ bytes) = (if nat_eq b 10 then answered s else []) ++ told_over (if nat_eq b 10 then ended s else fed s b) bytes

-- ---- the end of the input, which ends a last line as an LF does

-- what a run leaves
abbrev pub left : Run → State
left s = state (ended s).replay.device (ended s).lent

-- and what it is answered with there
abbrev pub closing : Run → List ℕ
closing s = answered s ++ last_of (left s)

-- all that a run over these bytes tells
abbrev pub told : Run → (bytes : List ℕ) → List ℕ
told s bytes = told_over s bytes ++ closing (run_over s bytes)
