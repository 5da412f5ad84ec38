-- The cycles that commands are made of (document 01, "Command cycles").
use Rattle.std.specs.Prelude.{ℕ, ◌%◌, Bool, ◌&&◌, eqb}

-- "Command addresses are compared on their low 11 bits, command data on their low 8."
abbrev pub is_at : (address at : ℕ) → Bool
is_at a at = eqb (a % 2048) at

abbrev pub is : (word code : ℕ) → Bool
is w code = eqb (w % 256) code

-- "Two unlock writes, 555H/AAH and 2AAH/55H"
abbrev pub first_unlock : (address word : ℕ) → Bool
first_unlock a w = is_at a 0x555 && is w 0xAA

abbrev pub second_unlock : (address word : ℕ) → Bool
second_unlock a w = is_at a 0x2AA && is w 0x55

-- the address of the one-time block's lock, OW in Table 6 of 000: 1AH, by the low 8 bits
abbrev pub is_lock_address : (address : ℕ) → Bool
is_lock_address a = eqb (a % 256) 0x1A

-- "48H: the next write's low four data bits, 1 or 0"
abbrev pub is_dyb : (word value : ℕ) → Bool
is_dyb w value = eqb (w % 16) value
