-- Which words are no number of a kind, nibble by nibble; and the number with a 1 in each nibble.
-- Assumes nothing.
use Rattle.std.specs.Prelude.{ℕ, zero, suc, ◌+◌, ◌*◌, ◌%◌, ◌<◌, ◌≡◌, ◌⊎◌}
use Rattle.numbers.specs.Numbers.{digits_per_register, signed_digits}
use Rattle.bcd.specs.Bcd.{registers, nibble}
use Rattle.bcd.specs.declared.Kind.{Kind}
use Rattle.bcd.specs.declared.Kind.TheVariants.{Width16, Width32, Signed16}

-- 1 in each of n nibbles
unfoldable pub ones : ℕ → ℕ
ones zero = 0
ones (suc n) = ones n * 16 + 1

-- a nibble among the lowest n is above 9
abbrev pub AboveNine : ℕ → ℕ → Type 0
AboveNine n w = (i : ℕ) × (i < n) × (9 < nibble i w)

-- One of the registers' nibbles is above 9; below a sign, one of three, or the sign's nibble is neither 0 nor F, or the word is minus 0.
abbrev pub NoNumberOf : Kind → ℕ → Type 0
NoNumberOf Width16 w = AboveNine (digits_per_register * registers Width16) w
NoNumberOf Width32 w = AboveNine (digits_per_register * registers Width32) w
NoNumberOf Signed16 w =
    AboveNine signed_digits w ⊎ (((nibble signed_digits w ≡ 0 → ⊥) × (nibble signed_digits w ≡ 15 → ⊥)) ⊎ (w % 65536 ≡ 0xF000))
