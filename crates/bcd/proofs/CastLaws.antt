-- An `i16` from −999 to 999: its size and its sign, its negative, its word and its digits.
-- Assumes nothing.
use Prim.Native.Nat.{ℕ, zero, suc, ◌+◌, ◌-◌, ◌≤◌, ◌<◌}
use mathlib.Core.Path.{◌≡◌, refl, ap}
use mathlib.Core.Bool.{true, false}
use native.Mathlib.Omega.{arith}
use lib.Dec.{leb→le, le→leb}
use lib.IntN.{ℤ, pos, negsuc, nat_abs, ◌-ℤ◌, +ℤ_idl}
use lib.Signed.{le_z_yes, lt_z}
use mir.Syntax.{w16}
use mir.Val.{SFits, to_z, of_z}
use mir.ValLaws.{to_z_pos, to_z-of_z}
use borrow.Author.Tests.{ltb-true}
use Rattle.laws.proofs.Choice.{never}
use Rattle.bcd.specs.Bcd.{packed}
use Rattle.bcd.specs.Integers.{InThreeDigits, with_sign}
use Rattle.bcd.proofs.PackedLaws.{packed_more}

-- three digits, by the size
pub size_most : (z : ℤ) → InThreeDigits z → nat_abs z ≤ 999
size_most (pos n) h = leb→le n 999 h.1.le
size_most (negsuc n) h = let l = leb→le n 998 h.0.le in omega arith

pub size-within : (z : ℤ) → nat_abs z ≤ 999 → InThreeDigits z
size-within (pos n) l = (le_z_yes tt, le_z_yes (le→leb n 999 l))
size-within (negsuc n) l = (le_z_yes (le→leb n 998 (omega arith)), le_z_yes tt)

size_fits : (z : ℤ) → nat_abs z ≤ 999 → SFits w16 z
size_fits (pos n) l = record { sfits = omega arith }
size_fits (negsuc n) l = record { sfits = omega arith }

-- the negative has the same size
pub negated_size : (z : ℤ) → nat_abs (pos 0 -ℤ z) ≡ nat_abs z
negated_size (pos zero) = refl
negated_size (pos (suc n)) = ap nat_abs (+ℤ_idl (negsuc n))
negated_size (negsuc n) = ap nat_abs (+ℤ_idl (pos (suc n)))

pub negated_within : (z : ℤ) → InThreeDigits z → InThreeDigits (pos 0 -ℤ z)
negated_within z h = size-within (pos 0 -ℤ z) (rw (negated_size z) (size_most z h))

module _ (z : ℤ) (h : InThreeDigits z) where
  pub word_back : to_z w16 (of_z w16 z) ≡ z
  word_back = to_z-of_z w16 z (size_fits z (size_most z h))

  pub negated_fits : SFits w16 (pos 0 -ℤ z)
  negated_fits = size_fits (pos 0 -ℤ z) (size_most (pos 0 -ℤ z) (negated_within z h))

-- by the sign
pub minus-digits : (z : ℤ) → InThreeDigits z → lt_z z (pos 0) ≡ true → packed 4 (nat_abs z) + 0xF000 ≡ with_sign z
unfolding with_sign
minus-digits (pos n) h t = absurd (omega (arith, ltb-true n 0 t))
minus-digits (negsuc n) h t = let l = size_most (negsuc n) h in rw (packed_more 3 (suc n) (omega arith))

pub plus_digits : (z : ℤ) → InThreeDigits z → lt_z z (pos 0) ≡ false → packed 4 (nat_abs z) ≡ with_sign z
unfolding with_sign
plus_digits (pos n) h t = let l = size_most (pos n) h in packed_more 3 n (omega arith)
plus_digits (negsuc n) h t = never (cc)

-- the word of a negative size
pub negated_word : (u : ℕ) → 0 < u → u ≤ 999 → of_z w16 (pos 0 -ℤ to_z w16 u) ≡ 65536 - u
negated_word zero z l = absurd (omega arith)
negated_word (suc n) z l = rw (to_z_pos w16 (suc n) (omega arith)) (ap (of_z w16) (+ℤ_idl (negsuc n)))

pub size_integer : (u : ℕ) → u ≤ 999 → InThreeDigits (to_z w16 u)
size_integer u l = rw (to_z_pos w16 u (omega arith)) (size-within (pos u) l)
