-- Where each part of a record stands among its words, as include/k5l2931cam.h tells it. Layouts are append-only: a later one
-- has its new words at the end, and 0 there means "as before".
use Rattle.std.specs.Prelude.{ℕ}

abbrev pub layout_number : ℕ
layout_number = 3

abbrev pub record_words : ℕ
record_words = 32

-- those before had its first words
abbrev pub first_layout : ℕ
first_layout = 1

abbrev pub first_words : ℕ
first_words = 29

abbrev pub second_layout : ℕ
second_layout = 2

abbrev pub second_words : ℕ
second_words = 30

abbrev pub layout_at : ℕ
layout_at = 0

abbrev pub clock_at : ℕ
clock_at = 1

abbrev pub charge_at : ℕ
charge_at = 2

abbrev pub command_at : ℕ
command_at = 3

abbrev pub place_at : ℕ
place_at = 4

abbrev pub operation_at : ℕ
operation_at = 5

-- an erase: five words of listed blocks, then the rest
abbrev pub list_at : ℕ
list_at = 6

abbrev pub hand_at : ℕ
hand_at = 11

abbrev pub erase_left_at : ℕ
erase_left_at = 12

abbrev pub toggles_at : ℕ
toggles_at = 13

-- a program
abbrev pub address_at : ℕ
address_at = 14

abbrev pub data_at : ℕ
data_at = 15

abbrev pub program_left_at : ℕ
program_left_at = 16

abbrev pub toggle_at : ℕ
toggle_at = 17

-- protection: five words for each set of bits
abbrev pub dyb_at : ℕ
dyb_at = 18

abbrev pub ppb_at : ℕ
ppb_at = 23

abbrev pub lock_at : ℕ
lock_at = 28

-- from layout 2 on: the time left of a recovery
abbrev pub recovery_at : ℕ
recovery_at = 29

-- from layout 3 on: 1 while the one-time block is entered, and its customer's lock
abbrev pub entered_at : ℕ
entered_at = 30

abbrev pub sealed_at : ℕ
sealed_at = 31
