-- What a line of a script is answered with, as bytes (docs/REPLAY.md): the figures are those of the plain machine's answers.
use Rattle.std.specs.Prelude.{ℕ, List, [], ◌++◌, eqb}
use Rattle.geometry.specs.declared.Part.TheVariants.{Small}
use Rattle.plain.specs.declared.Answer.{Answer}
use Rattle.plain.specs.declared.Device.{Device}
use Rattle.std.specs.Prelude.{if◌then◌else◌}
use Rattle.plain.specs.Lent.{Lent}
use Rattle.plain.specs.Machine.{Outcome, read_event, write_event, wait_event, cut_event, range_event, range_array, range_words}
use Rattle.plain.specs.Refusals.{number}
use Rattle.judged.specs.Asked.{exposed_now}
use Rattle.sums.specs.Sums.{sums_of}
use Rattle.telling.specs.Lines.{event_line, malformed_line, range_line, end_line}
use Rattle.exceptions.specs.Exceptions.{exception_lines}
use Rattle.language.specs.Language.{Meaning, nothing, malformed, read, write, wait, cut, range, cell, otp}
use Rattle.language.specs.Language.{fresh as freshen}

-- "Each event is answered by a line"
abbrev pub answer_line : (line : ℕ) → Answer → List ℕ
answer_line line y = event_line line y.refusal y.word y.device.meter.clock y.device.meter.charge

-- and some, if they are taken, by more
abbrev pub with_more : (line : ℕ) → Answer → (more : List ℕ) → List ℕ
with_more line y more = answer_line line y ++ (if eqb (number y.refusal) 0 then more else [])

-- "After an accepted cut comes a line for each exception that it made"
abbrev pub cut_lines : (line : ℕ) → Device → Lent → Outcome → List ℕ
cut_lines line r l o = with_more line o.answer (exception_lines line (exposed_now Small r) l o.lent)

-- "after DONE a line tells what it handed back"
abbrev pub handed_line : (line : ℕ) → Device → (first count : ℕ) (words : List ℕ) → List ℕ
handed_line line r first count words =
    range_line line (range_array r.operation first) first count (sums_of words).first (sums_of words).second

abbrev pub range_lines : (line : ℕ) → Device → Lent → (first count : ℕ) → List ℕ
range_lines line r l first count =
    with_more line (range_event Small r l first count).answer (handed_line line r first count (range_words Small r l first count))

-- "At the end, `end CLOCK CHARGE S1 S2 O1 O2`"
abbrev pub last_line : Device → Lent → List ℕ
last_line r l =
    end_line r.meter.clock r.meter.charge (sums_of l.cells).first (sums_of l.cells).second (sums_of l.otp).first (sums_of l.otp).second

-- by what the line means and its number; `cell` and `otp` have "no answer", `fresh` "ends this device (its `end` line is written)"
unfoldable pub tells : Meaning → (line : ℕ) → Device → Lent → List ℕ
tells nothing line r l = []
tells malformed line r l = malformed_line line
tells (read a) line r l = answer_line line (read_event Small r l a).answer
tells (write a w) line r l = answer_line line (write_event Small r l a w).answer
tells (wait d) line r l = answer_line line (wait_event Small r l d).answer
tells (cut debris) line r l = cut_lines line r l (cut_event Small r l debris)
tells (range first count) line r l = range_lines line r l first count
tells (cell a words) line r l = []
tells (otp a words) line r l = []
tells freshen line r l = last_line r l
