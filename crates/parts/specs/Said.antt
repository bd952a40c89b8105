-- What is said piece by piece, held against what must stand there; and the text of a form with its numbers.
-- Assumes nothing.
use Rattle.std.specs.Prelude.{ℕ, zero, suc, ◌+◌, ◌-◌, ◌^◌, min, Bool, true, false, cond, ◌&&◌, List, [], ◌∷◌, ◌++◌, length, drop, ◌==◌, nat_le, nat_lt}
use Rattle.parts.specs.Digits.{last_digits}

-- whether a text begins with a piece
unfoldable pub begins : List ℕ → List ℕ → Bool
begins [] t = true
begins (c ∷ cs) [] = false
begins (c ∷ cs) (b ∷ t) = c == b && begins cs t

-- no place: what was said differs, and nothing behind it is right
abbrev pub lost : ℕ
lost = 2 ^ 64 - 1

-- the place behind a piece that is said at a place
unfoldable pub said : List ℕ → ℕ → List ℕ → ℕ
said right at piece = cond (at == lost) lost (cond (begins piece (drop at right)) (min (at + length piece) lost) lost)

-- the fewest digits at base b that hold n, no fewer than `least`; so many more are tried
unfoldable pub fewest : ℕ → ℕ → ℕ → ℕ → ℕ
fewest zero b least n = least
fewest (suc more) b least n = cond (nat_lt n (b ^ least)) least (fewest more b (suc least) n)

-- a number of 64 bits as text
abbrev pub numeral : ℕ → ℕ → ℕ → List ℕ
numeral b least n = last_digits b (fewest 20 b least n) n

-- what a mark of a form stands for: D for decimal digits; B, X, L for 2, 4, 8 hexadecimal ones; any other byte for itself
unfoldable pub marked : ℕ → ℕ → List ℕ
marked mark n =
    cond (mark == 68) (numeral 10 1 n)
    (cond (mark == 66) (numeral 16 2 n)
    (cond (mark == 88) (numeral 16 4 n)
    (cond (mark == 76) (numeral 16 8 n)
    (mark ∷ []))))

-- a form with its numbers, in the order of its marks, which are capital letters; the third stands for all behind it
unfoldable pub formed : List ℕ → ℕ → ℕ → ℕ → List ℕ
formed [] one two three = []
formed (mark ∷ form) one two three =
    marked mark one ++ cond (nat_le 65 mark && nat_le mark 90) (formed form two three three) (formed form one two three)
