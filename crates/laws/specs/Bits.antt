-- Sets of small numbers as the bits of a number.
-- Assumes nothing.
use Rattle.std.specs.Prelude.{ℕ, ◌+◌, ◌-◌, ◌/◌, ◌%◌, ◌^◌, Bool, cond, eqb}

-- c is in the set
abbrev pub has : ℕ → ℕ → Bool
has s c = eqb (s / 2 ^ c % 2) 1

-- the set with c, and the set without it
unfoldable pub with : ℕ → ℕ → ℕ
with s c = cond (has s c) s (s + 2 ^ c)

unfoldable pub without : ℕ → ℕ → ℕ
without s c = cond (has s c) (s - 2 ^ c) s
