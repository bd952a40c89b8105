-- From the digits of each register to the digits of the tag: n digits in one register, or n in the first and k in the next, or n below a sign.
-- Assumes nothing.
use Prim.Native.Nat.{ℕ, suc, ◌+◌, ◌*◌, ◌-◌, ◌/◌, ◌%◌, ◌^◌, ◌<◌}
use mathlib.Core.Path.{◌≡◌, sym, ◌∙◌}
use mathlib.Core.Bool.{Bool, true, false, not, ◌&&◌}
use native.Mathlib.Nat.{mod-lt, one-le-pow}
use native.Mathlib.Omega.{arith}
use lib.Dec.{eqb}
use borrow.Author.Tests.{ne_eqb}
use Rattle.numbers.specs.Numbers.{minus}
use Rattle.std.specs.Prelude.{Some, None}
use Rattle.bcd.specs.Bcd.{packed, unpacked, decimal, encoded_digits, decoded_digits, nibble, complement, decoded_signed}
use Rattle.bcd.proofs.PackedLaws.{unpacked-low, decimal-low, packed_pair, unpacked_pair, decimal_pair, unpacked_more, decimal_more}
use Rattle.bcd.proofs.OutcomeLaws.{encoded-within, decoded-decimal, decoded_other}

module _ (n : ℕ) where
  pub word_encoded : (v r : ℕ) → v < 10 ^ n → r ≡ packed n v → Some r ≡ encoded_digits n v
  word_encoded v r l e = cc (encoded-within n v l)

  pub word_decoded : (w r : ℕ) (t : Bool) → t ≡ decimal n (w % 16 ^ n) → t ≡ true → r ≡ unpacked n (w % 16 ^ n) → Some r ≡ decoded_digits n w
  word_decoded w r t d h e = cc (decoded-decimal n w (sym (decimal-low n w) ∙ sym d ∙ h), unpacked-low n w)

  pub word_refused : (w : ℕ) (t : Bool) → t ≡ decimal n (w % 16 ^ n) → t ≡ false → None ≡ decoded_digits n w
  word_refused w t d h = sym (decoded_other n w (sym (decimal-low n w) ∙ sym d ∙ h))

  pub pair_encoded : (k v low high : ℕ) → v < 10 ^ (n + k)
      → low ≡ packed n (v % 10 ^ n) → high ≡ packed k (v / 10 ^ n)
      → Some (low + 16 ^ n * high) ≡ encoded_digits (n + k) v
  pair_encoded k v low high l e f = cc (encoded-within (n + k) v l, packed_pair n k v)

  pub pair_decoded : (k w low high : ℕ) (s t : Bool) → s ≡ decimal n (w % 16 ^ n) → t ≡ decimal k (w / 16 ^ n) → (s && t) ≡ true
      → low ≡ unpacked n (w % 16 ^ n) → high ≡ unpacked k (w / 16 ^ n)
      → Some (low + 10 ^ n * high) ≡ decoded_digits (n + k) w
  pair_decoded k w low high s t c d h e f =
      let p : decimal (n + k) w ≡ true = decimal_pair n k w ∙ rw (← c, ← d) h in
      cc (decoded-decimal (n + k) w p, unpacked_pair n k w)

  pub pair_refused : (k w : ℕ) (s t : Bool) → s ≡ decimal n (w % 16 ^ n) → t ≡ decimal k (w / 16 ^ n) → (s && t) ≡ false
      → None ≡ decoded_digits (n + k) w
  pair_refused k w s t c d h = sym (decoded_other (n + k) w (decimal_pair n k w ∙ rw (← c, ← d) h))

  -- the digits below a sign, with 0 in the sign's place
  pub sign-decimal : (w : ℕ) (t : Bool) → t ≡ decimal (n + 1) (w % 16 ^ n) → t ≡ decimal n w
  sign-decimal w t d = d ∙ decimal_more n (w % 16 ^ n) (mod-lt w (one-le-pow n 16 (omega arith))) ∙ decimal-low n w

  pub sign-unpacked : (w r : ℕ) → r ≡ unpacked (n + 1) (w % 16 ^ n) → r ≡ unpacked n w
  sign-unpacked w r e = e ∙ unpacked_more n (w % 16 ^ n) (mod-lt w (one-le-pow n 16 (omega arith))) ∙ unpacked-low n w

  pub plus_decoded : (w r : ℕ) → decimal n w ≡ true → nibble n w ≡ 0 → r ≡ unpacked n w → Some r ≡ decoded_signed n w
  unfolding decoded_signed
  plus_decoded w r d z e = simp (d, z, e)

  pub minus-decoded : (w r u : ℕ) → decimal n w ≡ true → (nibble n w ≡ 0 → ⊥) → u ≡ unpacked n w → (eqb (nibble n w) minus && not (eqb u 0)) ≡ true
      → r ≡ 16 ^ suc n - u → Some r ≡ decoded_signed n w
  unfolding decoded_signed complement
  minus-decoded w r u d z e t f = simp (d, ne_eqb (nibble n w) 0 z, rw e at t, f, e)

  pub sign-refused : (w u : ℕ) → decimal n w ≡ true → (nibble n w ≡ 0 → ⊥) → u ≡ unpacked n w → (eqb (nibble n w) minus && not (eqb u 0)) ≡ false
      → None ≡ decoded_signed n w
  unfolding decoded_signed
  sign-refused w u d z e t = simp (d, ne_eqb (nibble n w) 0 z, rw e at t)

  pub digit-refused : (w : ℕ) → decimal n w ≡ false → None ≡ decoded_signed n w
  unfolding decoded_signed
  digit-refused w d = simp d
