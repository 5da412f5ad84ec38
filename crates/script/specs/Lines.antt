-- A line, byte by byte, as the reader keeps it.
use Rattle.std.specs.Prelude.{ℕ, Bool, true, false, ◌||◌, List, eqb}
use Rattle.std.specs.Prelude.{if◌then◌else◌}
use Rattle.spelling.specs.declared.Item.{Item}
use Rattle.language.specs.declared.Order.{Order}
use Rattle.forms.specs.declared.Form.{Form}
use Rattle.script.specs.declared.Line.{Line}
use Rattle.spelling.specs.Items.{no_item, next_item}
use Rattle.forms.specs.Forms.{taken_form, taken_words}
use Rattle.script.specs.Orders.{order_of}

abbrev pub line : Form → Item → (held : Bool) → Line
line form i held = record { form = form; item = i; held = held }

abbrev pub no_line : Line
no_line = line Form.Empty no_item false

-- the item under way, with the CR that was held back, since the line goes on
abbrev pub released : Line → Item
released l = if l.held then next_item l.item 13 else l.item

-- "items are separated by blanks or tabs"
abbrev pub separates_items : (byte : ℕ) → Bool
separates_items b = eqb b 32 || eqb b 9

abbrev pub read_on : Form → Item → (byte room : ℕ) → Line
read_on form i b room =
    if eqb b 13 then line form i true
    else if separates_items b then line (taken_form form i room) no_item false
    else line form (next_item i b) false

abbrev pub read_words : Form → Item → (byte : ℕ) (words : List ℕ) → List ℕ
read_words form i b words =
    if eqb b 13 then words
    else if separates_items b then taken_words form i words
    else words

-- the line with one byte more, and the lent words then
unfoldable pub fed_line : Line → (byte room : ℕ) → Line
fed_line l b room = read_on l.form (released l) b room

unfoldable pub fed_words : Line → (byte : ℕ) (words : List ℕ) → List ℕ
fed_words l b words = read_words l.form (released l) b words

-- what the line asks for that ends here, and the lent words then
unfoldable pub ended_order : Line → (room : ℕ) → Order
ended_order l room = order_of (taken_form l.form l.item room) room

unfoldable pub ended_words : Line → (words : List ℕ) → List ℕ
ended_words l words = taken_words l.form l.item words
