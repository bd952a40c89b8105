-- Packed and unpacked digits are inverse to each other, their bounds, and both in two groups as two registers hold them: any number of digits.
-- Assumes nothing.
use Prim.Native.Nat.{ℕ, ◌+◌, ◌*◌, ◌/◌, ◌%◌, ◌^◌, ◌<◌}
use mathlib.Core.Path.{◌≡◌, ◌∙◌}
use mathlib.Core.Bool.{true, ◌&&◌, and-true}
use native.Mathlib.Nat.{mod-eq_of_lt, div-eq_of_lt}
use native.Mathlib.Omega.{arith}
use Rattle.laws.specs.Digits.{digits, value, below}
use Rattle.laws.proofs.DigitLaws.{value-digits, digits_value, digits-below, digits_back, value-below, length_digits, digits-split, digits_mod}
use Rattle.bcd.specs.Bcd.{packed, unpacked, decimal}
use Rattle.laws.proofs.DigitLaws.{below_split, value-digits-split}

module _ (n : ℕ) where
  pub packed-decimal : (v : ℕ) → decimal n (packed n v) ≡ true
  unfolding packed decimal
  packed-decimal v = rw (digits_back 10 16 n v (omega arith) (omega arith)) (digits-below 10 10 n v (omega arith) (omega arith))

  pub unpacked-packed : (v : ℕ) → v < 10 ^ n → unpacked n (packed n v) ≡ v
  unfolding packed unpacked
  unpacked-packed v l = rw (digits_back 10 16 n v (omega arith) (omega arith)) (value-digits 10 n v (omega arith) l)

  pub packed-unpacked : (w : ℕ) → decimal n w ≡ true → w < 16 ^ n → packed n (unpacked n w) ≡ w
  unfolding packed unpacked decimal
  packed-unpacked w t l = rw (rw (length_digits 16 n w) at (digits_value 10 (digits 16 n w) t)) (value-digits 16 n w (omega arith) l)

  pub packed-below : (v : ℕ) → packed n v < 16 ^ n
  unfolding packed
  packed-below v = rw (length_digits 10 n v) at (value-below 16 (digits 10 n v) (digits-below 10 16 n v (omega arith) (omega arith)))

  pub unpacked-below : (w : ℕ) → decimal n w ≡ true → unpacked n w < 10 ^ n
  unfolding unpacked decimal
  unpacked-below w t = rw (length_digits 16 n w) at (value-below 10 (digits 16 n w) t)

  -- what lies above n digits is not looked at
  pub unpacked-low : (w : ℕ) → unpacked n (w % 16 ^ n) ≡ unpacked n w
  unfolding unpacked
  unpacked-low w = rw (digits_mod 16 n w (omega arith))

  pub decimal-low : (w : ℕ) → decimal n (w % 16 ^ n) ≡ decimal n w
  unfolding decimal
  decimal-low w = rw (digits_mod 16 n w (omega arith))

  -- n digits, and k above them
  pub packed_pair : (k v : ℕ) → packed (n + k) v ≡ packed n (v % 10 ^ n) + 16 ^ n * packed k (v / 10 ^ n)
  unfolding packed
  packed_pair k v = rw (digits_mod 10 n v (omega arith)) (value-digits-split 10 16 n k v)

  pub unpacked_pair : (k w : ℕ) → unpacked (n + k) w ≡ unpacked n (w % 16 ^ n) + 10 ^ n * unpacked k (w / 16 ^ n)
  unfolding unpacked
  unpacked_pair k w = rw (digits_mod 16 n w (omega arith)) (value-digits-split 16 10 n k w)

  pub decimal_pair : (k w : ℕ) → decimal (n + k) w ≡ (decimal n (w % 16 ^ n) && decimal k (w / 16 ^ n))
  unfolding decimal
  decimal_pair k w = rw (digits_mod 16 n w (omega arith), digits-split 16 n k w) (below_split 10 (digits 16 n w) (digits 16 k (w / 16 ^ n)))

  -- a nibble more that is 0
  pub packed_more : (v : ℕ) → v < 10 ^ n → packed (n + 1) v ≡ packed n v
  unfolding packed digits value
  packed_more v l = packed_pair 1 v ∙ rw (mod-eq_of_lt l, div-eq_of_lt l) (omega arith)

  pub unpacked_more : (w : ℕ) → w < 16 ^ n → unpacked (n + 1) w ≡ unpacked n w
  unfolding unpacked digits value
  unpacked_more w l = unpacked_pair 1 w ∙ rw (mod-eq_of_lt l, div-eq_of_lt l) (omega arith)

  pub decimal_more : (w : ℕ) → w < 16 ^ n → decimal (n + 1) w ≡ decimal n w
  unfolding decimal digits below
  decimal_more w l = decimal_pair 1 w ∙ rw (mod-eq_of_lt l, div-eq_of_lt l) (and-true (decimal n w))
