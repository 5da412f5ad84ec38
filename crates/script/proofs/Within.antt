-- An order has no more words than are lent, and sets none past the last.
use Prim.Native.Nat.{ℕ}
use native.Mathlib.Omega.{arith}
use Rattle.forms.specs.declared.Target.{Target}
use Rattle.forms.specs.declared.Form.{Form}
use Rattle.script.specs.Orders.{order_of, cut_of, set_of}
use Rattle.language.specs.Orders.{Within}
use Rattle.std.proofs.lemmas.Grind.{common_steps}

pub order_within : (form : Form) (room : ℕ) → Within (order_of form room) room
unfolding order_of cut_of set_of
order_within Form.Empty room = tt
order_within Form.Remark room = tt
order_within (Form.Named verb) room = tt
order_within (Form.Reads address) room = tt
order_within (Form.Addresses address) room = tt
order_within (Form.Writes address word) room = tt
order_within (Form.Waits microseconds) room = tt
order_within (Form.Cuts count) room = grind (arith, common_steps)
order_within (Form.Starts first) room = tt
order_within (Form.Ranges first count) room = tt
order_within (Form.Sets Target.Cells address count) room = grind (arith, common_steps)
order_within (Form.Sets Target.OneTime address count) room = grind (arith, common_steps)
order_within Form.Freshens room = tt
order_within Form.Wrong room = tt
