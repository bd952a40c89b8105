-- Numbers of 16 bits in bytes, the high byte first, and what is written over the start of a buffer.
-- Assumes nothing.
use Rattle.std.specs.Prelude.{ℕ, ◌+◌, ◌*◌, ◌/◌, ◌%◌, List, [], ◌∷◌, ◌++◌, length, get_or, set, take, drop}

-- w written over the start of what was there
abbrev pub over : List ℕ → List ℕ → List ℕ
over w b = w ++ drop (length w) b

-- w written over what was there from byte `at` on
abbrev pub over_at : List ℕ → ℕ → List ℕ → List ℕ
over_at w at b = take at b ++ w ++ drop (at + length w) b

-- the number that stands at byte k; and n put there
abbrev pub pair_at : List ℕ → ℕ → ℕ
pair_at s k = get_or s k 0 * 256 + get_or s (k + 1) 0

abbrev pub put_at : List ℕ → ℕ → ℕ → List ℕ
put_at s k n = set (set s k (n / 256)) (k + 1) (n % 256)

-- the bytes of a number
abbrev pub pair_of : ℕ → List ℕ
pair_of n = n / 256 ∷ n % 256 ∷ []
