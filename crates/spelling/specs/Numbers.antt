-- A number, byte by byte, as the reader keeps it.
use Rattle.std.specs.Prelude.{ℕ, ◌+◌, ◌*◌, ◌^◌, ◌&&◌, Option, Some, None, eqb, ltb}
use Rattle.std.specs.Prelude.{if◌then◌else◌}
use Rattle.language.specs.Language.{digit_of}
use Rattle.spelling.specs.declared.numbers.Number.{Number}
use Rattle.spelling.specs.declared.numbers.Number.TheVariants.{Nothing, Zero, Decimal, Prefix, Hexadecimal, Wrong}

-- a value with one digit more, if it is a digit of the base and the value stays below 2^64
unfoldable pub grown_to : (value base digit : ℕ) → Option ℕ
grown_to value base digit =
    if ltb digit base && ltb (value * base + digit) (2 ^ 64) then Some (value * base + digit) else None

abbrev pub number_as : (kind : ℕ → Number) → Option ℕ → Number
number_as kind None = Wrong
number_as kind (Some value) = kind value

unfoldable pub decimal_on : (value byte : ℕ) → Number
decimal_on value byte = number_as Decimal (grown_to value 10 (digit_of byte))

unfoldable pub hexadecimal_on : (value byte : ℕ) → Number
hexadecimal_on value byte = number_as Hexadecimal (grown_to value 16 (digit_of byte))

-- the number with one byte more
unfoldable pub next_number : Number → (byte : ℕ) → Number
next_number Nothing b = if eqb b 48 then Zero else decimal_on 0 b
next_number Zero b = if eqb b 120 then Prefix else decimal_on 0 b
next_number (Decimal value) b = decimal_on value b
next_number Prefix b = hexadecimal_on 0 b
next_number (Hexadecimal value) b = hexadecimal_on value b
next_number Wrong b = Wrong

abbrev pub value_of : Number → Option ℕ
value_of Nothing = None
value_of Zero = Some 0
value_of (Decimal value) = Some value
value_of Prefix = None
value_of (Hexadecimal value) = Some value
value_of Wrong = None
