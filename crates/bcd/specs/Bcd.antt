-- Binary coded decimal by kind of tag: how many registers, which values, and each way between a value and its digits.
-- A tag's registers are one number, the register at the tag's address its lowest 16 bits: in binary and in BCD alike.
-- Assumes nothing.
use Rattle.std.specs.Prelude.{ℕ, suc, ◌+◌, ◌*◌, ◌-◌, ◌^◌, ◌/◌, ◌%◌, Bool, cond, not, ◌&&◌, ◌||◌, eqb, ltb, Option, Some, None}
use Rattle.numbers.specs.Numbers.{digits_per_register, signed_digits, minus}
use Rattle.laws.specs.Digits.{digits, value, below}
use Rattle.bcd.specs.declared.Kind.{Kind}
use Rattle.bcd.specs.declared.Kind.TheVariants.{Width16, Width32, Signed16}

-- n decimal digits, each as a hexadecimal one; and back
unfoldable pub packed : ℕ → ℕ → ℕ
packed n v = value 16 (digits 10 n v)

unfoldable pub unpacked : ℕ → ℕ → ℕ
unpacked n w = value 10 (digits 16 n w)

-- no nibble is above 9
unfoldable pub decimal : ℕ → ℕ → Bool
decimal n w = below 10 (digits 16 n w)

-- n digits: values from 0 to 10 ^ n − 1
unfoldable pub encoded_digits : ℕ → ℕ → Option ℕ
encoded_digits n v = cond (ltb v (10 ^ n)) (Some (packed n v)) None

unfoldable pub decoded_digits : ℕ → ℕ → Option ℕ
decoded_digits n w = cond (decimal n w) (Some (unpacked n w)) None

-- the nibble number i of a word, the lowest first
abbrev pub nibble : ℕ → ℕ → ℕ
nibble i w = w / 16 ^ i % 16

-- n digits below a nibble for the sign, 0 for plus and F for minus. In binary the value is in two's complement in these n + 1 nibbles: minus v is what is missing from v to 16 ^ (n + 1)
unfoldable pub complement : ℕ → ℕ → ℕ
complement n v = 16 ^ suc n - v

-- from 0 to 10 ^ n − 1; and from −1 down to −(10 ^ n − 1)
unfoldable pub is_plus : ℕ → ℕ → Bool
is_plus n v = ltb v (10 ^ n)

unfoldable pub is_minus : ℕ → ℕ → Bool
is_minus n v = ltb v (16 ^ suc n) && ltb (complement n v) (10 ^ n)

unfoldable pub encoded_signed : ℕ → ℕ → Option ℕ
encoded_signed n v =
    cond (is_plus n v) (Some (packed n v))
    (cond (is_minus n v) (Some (packed n (complement n v) + minus * 16 ^ n))
    None)

-- minus 0 is no number
unfoldable pub decoded_signed : ℕ → ℕ → Option ℕ
decoded_signed n w =
    cond (not (decimal n w)) None
    (cond (eqb (nibble n w) 0) (Some (unpacked n w))
    (cond (eqb (nibble n w) minus && not (eqb (unpacked n w) 0)) (Some (complement n (unpacked n w)))
    None))

-- the kinds: a later one is one more case of each of these four
unfoldable pub registers : Kind → ℕ
registers Width16 = 1
registers Width32 = 2
registers Signed16 = 1

unfoldable pub in_range : Kind → ℕ → Bool
in_range Width16 v = ltb v (10 ^ digits_per_register)
in_range Width32 v = ltb v (10 ^ (2 * digits_per_register))
in_range Signed16 v = is_plus signed_digits v || is_minus signed_digits v

unfoldable pub encoded : Kind → ℕ → Option ℕ
encoded Width16 v = encoded_digits digits_per_register v
encoded Width32 v = encoded_digits (2 * digits_per_register) v
encoded Signed16 v = encoded_signed signed_digits v

unfoldable pub decoded : Kind → ℕ → Option ℕ
decoded Width16 w = decoded_digits digits_per_register w
decoded Width32 w = decoded_digits (2 * digits_per_register) w
decoded Signed16 w = decoded_signed signed_digits w
