-- Parts of a text, each ended by a byte; the number whose digits stand in a word; the bytes whose digits stand in a text, and a text of digits.
-- Assumes nothing.
use Rattle.std.specs.Prelude.{ℕ, zero, suc, ◌+◌, ◌-◌, ◌*◌, ◌/◌, ◌%◌, ◌^◌, cond, ◌&&◌, List, [], ◌∷◌, length, take, drop, ◌==◌, nat_le, nat_lt}

-- where a byte first stands, the length where it does not
unfoldable pub end_of : ℕ → List ℕ → ℕ
end_of byte [] = 0
end_of byte (x ∷ xs) = cond (x == byte) 0 (suc (end_of byte xs))

-- what stands before the first such byte, and what behind it
abbrev pub head_of : ℕ → List ℕ → List ℕ
head_of byte s = take (end_of byte s) s

abbrev pub rest_of : ℕ → List ℕ → List ℕ
rest_of byte s = drop 1 (drop (end_of byte s) s)

-- the k-th part, counted from 0
unfoldable pub field_of : ℕ → ℕ → List ℕ → List ℕ
field_of byte zero s = head_of byte s
field_of byte (suc k) s = field_of byte k (rest_of byte s)

-- a number with one digit more, in 64 bits; a byte that is no digit leaves it
abbrev pub tenth : ℕ
tenth = 1844674407370955162

abbrev pub longer : ℕ → ℕ → ℕ
longer n c = cond (nat_le 48 c && nat_le c 57) ((n % tenth * 10 + (c - 48)) % 2 ^ 64) n

unfoldable pub number_from : ℕ → List ℕ → ℕ
number_from n [] = n
number_from n (c ∷ cs) = number_from (longer n c) cs

-- the number whose digits stand in a word, the other one where there is no word
abbrev pub number_of : List ℕ → ℕ → ℕ
number_of word other = cond (length word == 0) other (number_from 0 word)

-- the number that a hexadecimal digit is: 0 to 9, A to F
abbrev pub nibble : ℕ → ℕ
nibble c = (c % 16 + cond (nat_lt c 65) 0 9) % 16

-- the bytes, at most n, that a text of digits and single spaces is
unfoldable pub bytes_of : ℕ → List ℕ → List ℕ
bytes_of zero s = []
bytes_of (suc n) [] = []
bytes_of (suc n) (a ∷ []) = []
bytes_of (suc n) (a ∷ b ∷ s) = (nibble a * 16 + nibble b) ∷ bytes_of n (drop 1 s)

-- a blank and the digits of each byte
abbrev pub digit : ℕ → ℕ
digit n = cond (nat_lt n 10) (48 + n) (55 + n)

unfoldable pub hex_of : List ℕ → List ℕ
hex_of [] = []
hex_of (b ∷ bs) = 32 ∷ digit (b / 16 % 16) ∷ digit (b % 16) ∷ hex_of bs
