-- What stands behind the lookups: banks and sizes go by runs of blocks. No public promise names it.
use Rattle.std.specs.Prelude.{ℕ, List, cond, ltb, get_or}

-- the bank of a word or a block, by the first of each bank
unfoldable pub bank_by : List ℕ → ℕ → ℕ
bank_by starts a =
    cond (ltb a (get_or starts 1 0)) 0 (cond (ltb a (get_or starts 2 0)) 1 (cond (ltb a (get_or starts 3 0)) 2 3))

-- the size of a block, of a boot block's size and a main block's
unfoldable pub size_by : ℕ → ℕ → ℕ → ℕ
size_by boot main b = cond (ltb b 8) boot (cond (ltb b 262) main (cond (ltb b 270) boot 0))
