-- Numbers on a circle, upward and past the last to 0.
-- Assumes nothing.
use Rattle.std.specs.Prelude.{ℕ, ◌+◌, ◌-◌, cond, ltb, leb}

-- a number below 2 m, on a circle of m numbers
abbrev pub turn : ℕ → ℕ → ℕ
turn m k = cond (ltb k m) k (k - m)

-- how far it is from c up to x on that circle
abbrev pub gap : ℕ → ℕ → ℕ → ℕ
gap m c x = cond (leb c x) (x - c) (x + m - c)
