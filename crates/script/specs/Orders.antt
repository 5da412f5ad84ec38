-- What a line asks for that ends. `room` is how many words the caller lends.
use Rattle.std.specs.Prelude.{ℕ, ◌+◌, ◌&&◌, leb, ltb}
use Rattle.std.specs.Prelude.{if◌then◌else◌}
use Rattle.language.specs.declared.Order.{Order}
use Rattle.forms.specs.declared.Target.{Target}
use Rattle.forms.specs.declared.Form.{Form}

unfoldable pub cut_of : (count room : ℕ) → Order
cut_of count room = if ltb room count then Order.Cut room else Order.Cut count

abbrev pub size_of : Target → ℕ
size_of Target.Cells = 16384
size_of Target.OneTime = 256

abbrev pub setting : Target → (address count : ℕ) → Order
setting Target.Cells = Order.Cell
setting Target.OneTime = Order.Otp

unfoldable pub set_of : Target → (address count room : ℕ) → Order
set_of target address count room =
    if leb count room && leb (address + count) (size_of target) then setting target address count else Order.Malformed

-- what the line asks for
unfoldable pub order_of : Form → (room : ℕ) → Order
order_of Form.Empty room = Order.Nothing
order_of Form.Remark room = Order.Nothing
order_of (Form.Named verb) room = Order.Malformed
order_of (Form.Reads address) room = Order.Read address
order_of (Form.Addresses address) room = Order.Malformed
order_of (Form.Writes address word) room = Order.Write address word
order_of (Form.Waits microseconds) room = Order.Wait microseconds
order_of (Form.Cuts count) room = cut_of count room
order_of (Form.Starts first) room = Order.Malformed
order_of (Form.Ranges first count) room = Order.Range first count
order_of (Form.Sets target address count) room = set_of target address count room
order_of Form.Freshens room = Order.Fresh
order_of Form.Wrong room = Order.Malformed
