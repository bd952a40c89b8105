-- When n digits encode and decode and when they do not, and what an outcome tells of the number that it came from.
-- Assumes nothing.
use Prim.Native.Nat.{ℕ, ◌^◌, ◌≤◌, ◌<◌}
use mathlib.Core.Path.{◌≡◌, sym}
use mathlib.Core.Bool.{true, false}
use native.Mathlib.Omega.{arith}
use lib.Dec.{ltb}
use borrow.Author.Tests.{lt-ltb, le-ltb, ltb-true, ltb-false}
use Rattle.std.specs.Prelude.{Some, None}
use Rattle.bcd.specs.Bcd.{packed, unpacked, decimal, encoded_digits, decoded_digits}
use Rattle.laws.proofs.Choice.{cond-first, cond_second}

pub encoded-within : (n v : ℕ) → v < 10 ^ n → encoded_digits n v ≡ Some (packed n v)
unfolding encoded_digits
encoded-within n v l = rw (lt-ltb v (10 ^ n) l)

pub encoded_above : (n v : ℕ) → 10 ^ n ≤ v → encoded_digits n v ≡ None
unfolding encoded_digits
encoded_above n v l = rw (le-ltb v (10 ^ n) l)

pub decoded-decimal : (n w : ℕ) → decimal n w ≡ true → decoded_digits n w ≡ Some (unpacked n w)
unfolding decoded_digits
decoded-decimal n w t = rw t

pub decoded_other : (n w : ℕ) → decimal n w ≡ false → decoded_digits n w ≡ None
unfolding decoded_digits
decoded_other n w t = rw t

bcd_refused : (w : ℕ) → Some w ≡ None → ⊥
bcd_refused w e = let z : ◌≡◌ {A = ℕ} 0 1 = cc in omega arith

binary_refused : (v : ℕ) → Some v ≡ None → ⊥
binary_refused v e = let z : ◌≡◌ {A = ℕ} 0 1 = cc in omega arith

pub was_within : (n v w : ℕ) → encoded_digits n v ≡ Some w → (v < 10 ^ n) × (packed n v ≡ w)
unfolding encoded_digits
was_within n v w e =
    let s = cond-first (ltb v (10 ^ n)) (Some (packed n v)) None (Some w) (λ q. bcd_refused w (sym q)) e in
    (ltb-true v (10 ^ n) s.0, cc s.1)

pub was_above : (n v : ℕ) → encoded_digits n v ≡ None → 10 ^ n ≤ v
unfolding encoded_digits
was_above n v e = ltb-false v (10 ^ n) (cond_second (ltb v (10 ^ n)) (Some (packed n v)) None None (bcd_refused (packed n v)) e).0

pub was_decimal : (n w v : ℕ) → decoded_digits n w ≡ Some v → (decimal n w ≡ true) × (unpacked n w ≡ v)
unfolding decoded_digits
was_decimal n w v e =
    let s = cond-first (decimal n w) (Some (unpacked n w)) None (Some v) (λ q. binary_refused v (sym q)) e in
    (s.0, cc s.1)

pub was_other : (n w : ℕ) → decoded_digits n w ≡ None → decimal n w ≡ false
unfolding decoded_digits
was_other n w e = (cond_second (decimal n w) (Some (unpacked n w)) None None (binary_refused (unpacked n w)) e).0
