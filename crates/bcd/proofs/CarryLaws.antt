-- With 6 added to each nibble none carries exactly if none is above 9: any number of nibbles.
-- Assumes nothing.
use Prim.Native.Nat.{ℕ, zero, suc, ◌+◌, ◌*◌, ◌/◌, ◌%◌, ◌≤◌, ◌<◌}
use mathlib.Core.Path.{◌≡◌, ap, ◌∙◌}
use mathlib.Core.Logic.{⊎_elim}
use native.Mathlib.Nat.{div-add-mod', add-zero}
use native.Mathlib.Omega.{arith}
use lib.Bits.{bit_and, bit_xor, and_block, and_mask, and_zero_r, xor_shr, xor_add_and}
use lib.Dec.{eqb}
use borrow.Author.Tests.{lt-ltb, le-ltb, eq-eqb, ne_eqb, eqb-true}
use Rattle.laws.specs.Digits.{digits, below}
use Rattle.bcd.specs.Bcd.{decimal}
use Rattle.laws.proofs.Choice.{lt_or, same_test}
use Rattle.bcd.specs.Plain.{ones}

-- a mask, by its lowest nibble and the others
and_nibble : (x m s : ℕ) → s < 16 → bit_and x (m * 16 + s) ≡ bit_and (x / 16) m * 16 + bit_and (x % 16) s
and_nibble x m s l = rw (div-add-mod' x 16) at (and_block 4 (x / 16) m (x % 16) s (omega arith) l)

and_above : (x m : ℕ) → bit_and x (m * 16) ≡ bit_and (x / 16) m * 16
and_above x m = rw (add-zero (m * 16), and_zero_r (x % 16), add-zero (bit_and (x / 16) m * 16)) at (and_nibble x m 0 (omega arith))

-- the carries out of one nibble more: the one out of the lowest, and those out of the others
carry_step : (n x : ℕ) → bit_and x (ones (suc n) * 16) ≡ (bit_and (x / 16) (ones n * 16) + x / 16 % 2) * 16
unfolding ones
carry_step n x =
    let e = and_above x (ones n * 16 + 1) in
    let f = and_nibble (x / 16) (ones n) 1 (omega arith) in
    let g = and_above (x / 16) (ones n) in
    let h : bit_and (x / 16 % 16) 1 ≡ x / 16 % 16 % 2 = and_mask (x / 16 % 16) 1 in
    omega arith

none_more : (n : ℕ) → eqb (n * 16) 0 ≡ eqb n 0
none_more n = same_test _ _ (λ t. let e = eqb-true (n * 16) 0 t in eq-eqb n 0 (omega arith)) (λ t. let e = eqb-true n 0 t in eq-eqb (n * 16) 0 (omega arith))

pub no_carry : (n w : ℕ) → eqb (bit_and (bit_xor (w + ones n * 6) w) (ones n * 16)) 0 ≡ decimal n w
unfolding ones decimal digits below
no_carry zero w = eq-eqb (bit_and (bit_xor (w + 0) w) 0) 0 (and_zero_r (bit_xor (w + 0) w))
no_carry (suc n) w =
    let t = w + ones (suc n) * 6 in
    let x = bit_xor (t / 16) (w / 16) in
    let s : bit_xor t w / 16 ≡ x = xor_shr t w 4 in
    let e : bit_and (bit_xor t w) (ones (suc n) * 16) ≡ (bit_and x (ones n * 16) + x % 2) * 16 = rw s at (carry_step n (bit_xor t w)) in
    let p = xor_add_and (t / 16) (w / 16) in
    ⊎_elim
    (λ (l : w % 16 < 10).
    let q : t / 16 ≡ w / 16 + ones n * 6 = omega arith in
    let z : bit_and (bit_xor t w) (ones (suc n) * 16) ≡ bit_and x (ones n * 16) * 16 = omega arith in
    rw (lt-ltb (w % 16) 10 l) (ap (λ (k : ℕ). eqb k 0) z ∙ none_more (bit_and x (ones n * 16)) ∙ rw q (no_carry n (w / 16))))
    (λ (l : 10 ≤ w % 16). rw (le-ltb (w % 16) 10 l) (ne_eqb (bit_and (bit_xor t w) (ones (suc n) * 16)) 0 (λ z. omega arith)))
    (lt_or (w % 16) 10)
