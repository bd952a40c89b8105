-- Digits at any base, and any number of them.
-- Assumes nothing.
use Rattle.std.specs.Prelude.{ℕ, zero, suc, ◌+◌, ◌*◌, ◌/◌, ◌%◌, Bool, true, ◌&&◌, List, [], ◌∷◌, ltb}

-- the last k digits of n at base b, the lowest first
unfoldable pub digits : ℕ → ℕ → ℕ → List ℕ
digits b zero n = []
digits b (suc k) n = n % b ∷ digits b k (n / b)

-- the number that digits at base b are
unfoldable pub value : ℕ → List ℕ → ℕ
value b [] = 0
value b (d ∷ ds) = d + b * value b ds

-- every digit is below b
unfoldable pub below : ℕ → List ℕ → Bool
below b [] = true
below b (d ∷ ds) = ltb d b && below b ds
