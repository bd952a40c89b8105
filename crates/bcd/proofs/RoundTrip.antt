-- What is encoded decodes to itself and the other way round, what is refused each way, and the bounds: for any number of digits, then for any kind.
-- Assumes nothing.
use Prim.Native.Nat.{ℕ, suc, ◌*◌, ◌-◌, ◌^◌, ◌≤◌, ◌<◌}
use mathlib.Core.Path.{◌≡◌, ap, ◌∙◌}
use mathlib.Core.Logic.Iff
use mathlib.Core.Logic.{◌↔◌, ◌⊎◌, inl, inr, ⊎_elim}
use mathlib.Core.Bool.{true, false}
use native.Mathlib.Nat.{lt_of_lt_of_le, pow-le-pow_left}
use native.Mathlib.Omega.{arith}
use lib.Dec.{ltb}
use borrow.Author.Tests.{lt-ltb, le-ltb, ltb-true, ltb-false}
use Rattle.numbers.specs.Numbers.{digits_per_register, signed_digits}
use Rattle.laws.proofs.Choice.{true_or, lt_or, and_left, and_right, or_either, never}
use Rattle.bcd.specs.declared.Kind.{Kind}
use Rattle.bcd.specs.declared.Kind.TheVariants.{Width16, Width32, Signed16}
use Rattle.std.specs.Prelude.{Some, None}
use Rattle.bcd.specs.Bcd.{packed, unpacked, decimal, encoded_digits, decoded_digits, registers, in_range, is_plus, is_minus, complement, encoded, decoded, nibble}
use Rattle.laws.proofs.DigitLaws.{above_some, some_above}
use Rattle.bcd.specs.Plain.{NoNumberOf}
use Rattle.bcd.proofs.PackedLaws.{packed-decimal, unpacked-packed, packed-unpacked, packed-below, unpacked-below}
use Rattle.bcd.proofs.OutcomeLaws.{encoded-within, encoded_above, decoded-decimal, decoded_other, was_within, was_above, was_decimal, was_other}
use Rattle.bcd.proofs.SignedLaws.{signed_encode_decode, signed_decode_encode, signed_encode_refuses, signed_encode_accepts, signed_decode_refuses, signed_encoded_below, signed_decoded_in_range}

-- FOR ANY NUMBER OF DIGITS

-- The digits that a value is encoded to decode to that value.
pub digits_encode_decode : (n v w : ℕ) → encoded_digits n v ≡ Some w → decoded_digits n w ≡ Some v
digits_encode_decode n v w e =
    let s = was_within n v w e in
    rw (← s.1) (decoded-decimal n (packed n v) (packed-decimal n v) ∙ ap Some (unpacked-packed n v s.0))

-- Digits that decode to a value, with nothing above them, are what that value is encoded to.
pub digits_decode_encode : (n w v : ℕ) → decoded_digits n w ≡ Some v → w < 16 ^ n → encoded_digits n v ≡ Some w
digits_decode_encode n w v e l =
    let s = was_decimal n w v e in
    rw (← s.1) (encoded-within n (unpacked n w) (unpacked-below n w s.0) ∙ ap Some (packed-unpacked n w s.0 l))

-- A value is refused exactly if it is 10 ^ n or more.
pub digits_encode_refuses : (n v : ℕ) → (encoded_digits n v ≡ None) ↔ (10 ^ n ≤ v)
digits_encode_refuses n v = (was_above n v, encoded_above n v)

-- Every smaller value is encoded.
pub digits_encode_accepts : (n v : ℕ) → v < 10 ^ n → (w : ℕ) × (encoded_digits n v ≡ Some w)
digits_encode_accepts n v l = (packed n v, encoded-within n v l)

-- Digits are refused exactly if one of the n nibbles is above 9.
pub digits_decode_refuses : (n w : ℕ) → (decoded_digits n w ≡ None) ↔ ((i : ℕ) × (i < n) × (9 < nibble i w))
unfolding decimal
digits_decode_refuses n w =
    (λ e. above_some 16 10 n w (was_other n w e), λ s. decoded_other n w (some_above 16 10 n w s.0 s.1 s.2))

-- Digits are a number exactly if none of the n nibbles is above 9.
pub digits_decode_accepts : (n w : ℕ) → ((v : ℕ) × (decoded_digits n w ≡ Some v)) ↔ ((i : ℕ) → i < n → nibble i w ≤ 9)
unfolding decimal
digits_decode_accepts n w = (
  λ r i l.
      ⊎_elim (λ (h : 9 < nibble i w). never (cc (r.1, (digits_decode_refuses n w).1 (i, l, h))))
      (λ (h : nibble i w ≤ 9). h)
      (lt_or 9 (nibble i w)),
  λ f.
      ⊎_elim (λ (t : decimal n w ≡ true). (unpacked n w, decoded-decimal n w t))
      (λ (t : decimal n w ≡ false). let s = above_some 16 10 n w t in absurd (omega (arith, f s.0 s.1, s.2)))
      (true_or (decimal n w)),
)

-- What a value is encoded to has n nibbles.
pub digits-encoded-below : (n v w : ℕ) → encoded_digits n v ≡ Some w → w < 16 ^ n
digits-encoded-below n v w e = rw (was_within n v w e).1 at (packed-below n v)

-- What digits decode to has n digits.
pub digits-decoded-below : (n w v : ℕ) → decoded_digits n w ≡ Some v → v < 10 ^ n
digits-decoded-below n w v e = let s = was_decimal n w v e in rw s.1 at (unpacked-below n w s.0)

-- FOR ANY KIND: a later kind is one more case of each

-- What a value is encoded to decodes to that value.
pub encode_decode : (k : Kind) (v w : ℕ) → encoded k v ≡ Some w → decoded k w ≡ Some v
unfolding encoded decoded
encode_decode Width16 = digits_encode_decode digits_per_register
encode_decode Width32 = digits_encode_decode (2 * digits_per_register)
encode_decode Signed16 = signed_encode_decode signed_digits

-- What decodes to a value and fits the kind's registers is what that value is encoded to.
pub decode_encode : (k : Kind) (w v : ℕ) → decoded k w ≡ Some v → w < 65536 ^ registers k → encoded k v ≡ Some w
unfolding encoded decoded registers
decode_encode Width16 = digits_decode_encode digits_per_register
decode_encode Width32 = digits_decode_encode (2 * digits_per_register)
decode_encode Signed16 = signed_decode_encode signed_digits

-- a test's two meanings
not-below : (v m : ℕ) → (m ≤ v) ↔ (ltb v m ≡ false)
not-below v m = (le-ltb v m, ltb-false v m)

is_below : (v m : ℕ) → (ltb v (suc m) ≡ true) ↔ (v ≤ m)
is_below v m = (λ t. let l = ltb-true v (suc m) t in omega arith, λ l. lt-ltb v (suc m) (omega arith))

-- Four digits are the values from 0 to 9,999.
pub range_16 : (v : ℕ) → (in_range Width16 v ≡ true) ↔ (v ≤ 9999)
unfolding in_range
range_16 v = is_below v 9999

-- Eight digits are the values from 0 to 99,999,999.
pub range_32 : (v : ℕ) → (in_range Width32 v ≡ true) ↔ (v ≤ 99999999)
unfolding in_range
range_32 v = is_below v 99999999

-- A sign and three digits are the values from 0 to 999 and, in two's complement, those from −999 to −1.
pub range_signed : (v : ℕ) → (in_range Signed16 v ≡ true) ↔ ((v ≤ 999) ⊎ ((64537 ≤ v) × (v ≤ 65535)))
unfolding in_range is_plus is_minus complement
range_signed v = (
  λ t.
      ⊎_elim (λ p. inl ((is_below v 999).0 p))
      (λ m.
      let l = ltb-true v 65536 (and_left (ltb v 65536) (ltb (65536 - v) 1000) m) in
      let k = ltb-true (65536 - v) 1000 (and_right (ltb v 65536) (ltb (65536 - v) 1000) m) in
      inr (omega arith, omega arith))
      (or_either (is_plus 3 v) (is_minus 3 v) t),
  ⊎_elim (λ (l : v ≤ 999). rw (lt-ltb v 1000 (omega arith)))
      (λ (l : (64537 ≤ v) × (v ≤ 65535)).
      simp (le-ltb v 1000 (omega arith), lt-ltb v 65536 (omega arith), lt-ltb (65536 - v) 1000 (omega arith))),
)

-- A value is refused exactly if it is outside the kind's range.
pub encode_refuses : (k : Kind) (v : ℕ) → (encoded k v ≡ None) ↔ (in_range k v ≡ false)
unfolding encoded in_range
encode_refuses Width16 v = Iff.trans (digits_encode_refuses digits_per_register v) (not-below v (10 ^ digits_per_register))
encode_refuses Width32 v = Iff.trans (digits_encode_refuses (2 * digits_per_register) v) (not-below v (10 ^ (2 * digits_per_register)))
encode_refuses Signed16 v = signed_encode_refuses signed_digits v

-- Every value inside it is encoded.
pub encode_accepts : (k : Kind) (v : ℕ) → in_range k v ≡ true → (w : ℕ) × (encoded k v ≡ Some w)
unfolding encoded in_range
encode_accepts Width16 v t = digits_encode_accepts digits_per_register v (ltb-true v (10 ^ digits_per_register) t)
encode_accepts Width32 v t = digits_encode_accepts (2 * digits_per_register) v (ltb-true v (10 ^ (2 * digits_per_register)) t)
encode_accepts Signed16 v t = signed_encode_accepts signed_digits v t

-- A value inside it is encoded to what decodes to it.
pub round_trip : (k : Kind) (v : ℕ) → in_range k v ≡ true → (w : ℕ) × (encoded k v ≡ Some w) × (decoded k w ≡ Some v)
round_trip k v t = let s = encode_accepts k v t in (s.0, s.1, encode_decode k v s.0 s.1)

-- Words are refused exactly if they are no number of the kind.
pub decode_refuses : (k : Kind) (w : ℕ) → (decoded k w ≡ None) ↔ NoNumberOf k w
unfolding decoded registers
decode_refuses Width16 = digits_decode_refuses digits_per_register
decode_refuses Width32 = digits_decode_refuses (2 * digits_per_register)
decode_refuses Signed16 = signed_decode_refuses signed_digits

-- What a value is encoded to fits the kind's registers.
pub encoded-below : (k : Kind) (v w : ℕ) → encoded k v ≡ Some w → w < 65536 ^ registers k
unfolding encoded registers
encoded-below Width16 = digits-encoded-below digits_per_register
encoded-below Width32 = digits-encoded-below (2 * digits_per_register)
encoded-below Signed16 = signed_encoded_below signed_digits

-- n digits fit n nibbles
fits : (n w v : ℕ) → decoded_digits n w ≡ Some v → (v < 16 ^ n) × (ltb v (10 ^ n) ≡ true)
fits n w v e =
    let l = digits-decoded-below n w v e in
    (lt_of_lt_of_le l (pow-le-pow_left (omega arith) n), lt-ltb v (10 ^ n) l)

-- What words decode to fits the kind's registers and is in its range.
pub decoded_in_range : (k : Kind) (w v : ℕ) → decoded k w ≡ Some v → (v < 65536 ^ registers k) × (in_range k v ≡ true)
unfolding decoded registers in_range
decoded_in_range Width16 = fits digits_per_register
decoded_in_range Width32 = fits (2 * digits_per_register)
decoded_in_range Signed16 = signed_decoded_in_range signed_digits
