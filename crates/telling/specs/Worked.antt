-- Lines of README.md, "What the replay prints", and of REPLAY.md: the definitions give them to the byte.
use Rattle.std.specs.Prelude.{ℕ, ◌≡◌, refl, List, [], ◌∷◌, map}
use Rattle.plain.specs.declared.Array.TheVariants.{Main, OneTime}
use Rattle.plain.specs.declared.Refusal.TheVariants.{Done, Clock, Protected}
use Rattle.plain.specs.Refusals.{number}
use Rattle.refusals.specs.Names.{name}
use Rattle.printing.specs.Text.{ascii, digit, decimal_within}
use Rattle.telling.specs.Lines.{event_line, malformed_line, block_line, word_line, range_line, end_line}

abbrev pub lines : List (List ℕ)
lines =
    event_line 4 Done 0 0 0
    ∷ event_line 11 Protected 0 0 0
    ∷ event_line 28 Done 0 300070 5100001050
    ∷ event_line 31 Done 0x08 300070 5100001050
    ∷ event_line 62 Clock 0 1000150 17000511800
    ∷ malformed_line 7
    ∷ block_line 48 39 2048 2111
    ∷ word_line 48 Main 3001 0xFFFF 0xFF55
    ∷ end_line 2000150 17015511800 32869 49543 3584 1897
    ∷ []

pub lines-read : lines
    ≡ map ascii
    ("4 0 DONE 0000 0 0\n"
    ∷ "11 9 PROTECTED 0000 0 0\n"
    ∷ "28 0 DONE 0000 300070 5100001050\n"
    ∷ "31 0 DONE 0008 300070 5100001050\n"
    ∷ "62 4 CLOCK 0000 1000150 17000511800\n"
    ∷ "7 malformed\n"
    ∷ "48 block 39 2048 2111\n"
    ∷ "48 word 3001 FFFF FF55\n"
    ∷ "end 2000150 17015511800 32869 49543 3584 1897\n"
    ∷ [])
unfolding number digit decimal_within name event_line malformed_line block_line word_line end_line
lines-read = refl

-- and those of the one-time block
pub otp-lines-read :
    (word_line 49 OneTime 129 0xFFFF 0xFF0F ≡ ascii "49 otp 129 FFFF FF0F\n")
    × (range_line 15 OneTime 0 2 24146 48291 ≡ ascii "15 otp 0 2 24146 48291\n")
    × (range_line 18 Main 256 16128 29229 5473 ≡ ascii "18 main 256 16128 29229 5473\n")
unfolding digit decimal_within word_line range_line
otp-lines-read = (refl, refl, refl)
