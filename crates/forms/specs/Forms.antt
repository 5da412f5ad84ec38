-- A line by its items, as the reader keeps it. `room` is how many words the caller lends.
use Rattle.std.specs.Prelude.{ℕ, ◌+◌, ◌-◌, Bool, List, ◌++◌, Option, Some, None, eqb, leb, ltb, length, take, drop, replicate}
use Rattle.std.specs.Prelude.{if◌then◌else◌}
use Rattle.spelling.specs.declared.Item.{Item}
use Rattle.spelling.specs.declared.Words.{Words}
use Rattle.forms.specs.declared.Verb.{Verb}
use Rattle.forms.specs.declared.Target.{Target}
use Rattle.forms.specs.declared.Form.{Form}
use Rattle.spelling.specs.Items.{number_of, words_of}

-- how many words there are with `times` more; one more than the room stands for every greater number
unfoldable pub put_count : (room count times : ℕ) → ℕ
put_count room count times = if leb (count + times) room then count + times else room + 1

-- the lent words then: those that there is room for
unfoldable pub put_words : (words : List ℕ) (count times word : ℕ) → List ℕ
put_words words count times word =
    if leb (count + times) (length words)
    then take count words ++ (replicate times word ++ drop times (drop count words))
    else take count words ++ replicate (length words - count) word

unfoldable pub named_by : (letters : ℕ) (remark : Bool) → Form
named_by letters remark =
    if remark then Form.Remark
    else if eqb letters 0x172656164 then Form.Named Verb.Read
    else if eqb letters 0x17772697465 then Form.Named Verb.Write
    else if eqb letters 0x177616974 then Form.Named Verb.Wait
    else if eqb letters 0x1637574 then Form.Cuts 0
    else if eqb letters 0x172616e6765 then Form.Named Verb.Range
    else if eqb letters 0x163656c6c then Form.Named Verb.Cell
    else if eqb letters 0x16f7470 then Form.Named Verb.Otp
    else if eqb letters 0x16672657368 then Form.Freshens
    else Form.Wrong

unfoldable pub verb_with : Verb → (number : ℕ) → Form
verb_with Verb.Read n = Form.Reads n
verb_with Verb.Write n = Form.Addresses n
verb_with Verb.Wait n = Form.Waits n
verb_with Verb.Range n = Form.Starts n
verb_with Verb.Cell n = Form.Sets Target.Cells n 0
verb_with Verb.Otp n = Form.Sets Target.OneTime n 0

abbrev pub numbered_by : Verb → Option ℕ → Form
numbered_by verb None = Form.Wrong
numbered_by verb (Some n) = verb_with verb n

-- "a word at most FFFFH"
abbrev pub written_by : (address : ℕ) → Option ℕ → Form
written_by address None = Form.Wrong
written_by address (Some w) = if ltb 0xffff w then Form.Wrong else Form.Writes address w

abbrev pub ranged_by : (first : ℕ) → Option ℕ → Form
ranged_by first None = Form.Wrong
ranged_by first (Some n) = Form.Ranges first n

unfoldable pub counted_to : (room count : ℕ) → Option Words → Option ℕ
counted_to room count None = None
counted_to room count (Some w) = Some (put_count room count w.times)

unfoldable pub stored_to : (words : List ℕ) (count : ℕ) → Option Words → List ℕ
stored_to words count None = words
stored_to words count (Some w) = put_words words count w.times w.word

abbrev pub cuts_by : Option ℕ → Form
cuts_by None = Form.Wrong
cuts_by (Some n) = Form.Cuts n

abbrev pub sets_by : Target → (address : ℕ) → Option ℕ → Form
sets_by target address None = Form.Wrong
sets_by target address (Some n) = Form.Sets target address n

-- the line with one item more
unfoldable pub taken_by : Form → Item → (room : ℕ) → Form
taken_by Form.Empty i room = named_by i.letters i.remark
taken_by Form.Remark i room = Form.Remark
taken_by (Form.Named verb) i room = numbered_by verb (number_of i)
taken_by (Form.Reads address) i room = Form.Wrong
taken_by (Form.Addresses address) i room = written_by address (number_of i)
taken_by (Form.Writes address word) i room = Form.Wrong
taken_by (Form.Waits microseconds) i room = Form.Wrong
taken_by (Form.Cuts count) i room = cuts_by (counted_to room count (words_of i))
taken_by (Form.Starts first) i room = ranged_by first (number_of i)
taken_by (Form.Ranges first count) i room = Form.Wrong
taken_by (Form.Sets target address count) i room = sets_by target address (counted_to room count (words_of i))
taken_by Form.Freshens i room = Form.Wrong
taken_by Form.Wrong i room = Form.Wrong

-- and the lent words
unfoldable pub kept_by : Form → Item → (words : List ℕ) → List ℕ
kept_by Form.Empty i words = words
kept_by Form.Remark i words = words
kept_by (Form.Named verb) i words = words
kept_by (Form.Reads address) i words = words
kept_by (Form.Addresses address) i words = words
kept_by (Form.Writes address word) i words = words
kept_by (Form.Waits microseconds) i words = words
kept_by (Form.Cuts count) i words = stored_to words count (words_of i)
kept_by (Form.Starts first) i words = words
kept_by (Form.Ranges first count) i words = words
kept_by (Form.Sets target address count) i words = stored_to words count (words_of i)
kept_by Form.Freshens i words = words
kept_by Form.Wrong i words = words

-- an item of no byte is none
unfoldable pub taken_form : Form → Item → (room : ℕ) → Form
taken_form form i room = if eqb i.letters 1 then form else taken_by form i room

unfoldable pub taken_words : Form → Item → (words : List ℕ) → List ℕ
taken_words form i words = if eqb i.letters 1 then words else kept_by form i words
