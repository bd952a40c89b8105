-- The values of a signed tag as integers: which have three digits, and each with its sign's nibble above its digits.
-- Assumes nothing.
use Rattle.std.specs.Prelude.{ℕ, suc, ◌+◌, ℤ, pos, negsuc, ◌≤ℤ◌}
use Rattle.bcd.specs.Bcd.{packed}

-- from −999 to 999; `negsuc n` is −(n + 1)
abbrev pub InThreeDigits : ℤ → Type 0
InThreeDigits z = (negsuc 998 ≤ℤ z) × (z ≤ℤ pos 999)

-- nibble 0 or F, then the three digits of the size
unfoldable pub with_sign : ℤ → ℕ
with_sign (pos n) = packed 3 n
with_sign (negsuc n) = packed 3 (suc n) + 0xF000
