-- In integers: a word is in a signed tag's range exactly if it is one from −999 to 999, and each of these is encoded to the sign's nibble and the three digits of its size, and read back.
-- Assumes nothing.
use Prim.Native.Nat.{ℕ, suc, ◌-◌, ◌≤◌, ◌<◌}
use mathlib.Core.Path.{◌≡◌, ap, ◌∙◌}
use mathlib.Core.Logic.{◌↔◌, inl, inr, ⊎_elim}
use mathlib.Core.Bool.{true}
use native.Mathlib.Omega.{arith}
use lib.IntN.{ℤ, pos, negsuc}
use mir.Syntax.{w16}
use mir.Val.{to_z, of_z}
use mir.ValLaws.{to_z_pos, to_z-neg, of_z-to_z}
use Rattle.laws.proofs.Choice.{lt_or}
use Rattle.bcd.specs.declared.Kind.TheVariants.{Signed16}
use Rattle.std.specs.Prelude.{Some}
use Rattle.bcd.specs.Bcd.{in_range, encoded, decoded}
use Rattle.bcd.specs.Integers.{InThreeDigits, with_sign}
use Rattle.bcd.proofs.SignedLaws.{plus_sent, minus_sent}
use Rattle.bcd.proofs.RoundTrip.{range_signed, encode_decode}
use Rattle.bcd.proofs.CastLaws.{size_most, size-within}

-- the integer of a word in the upper half
upper : (v : ℕ) → 32768 ≤ v → v < 65536 → to_z w16 v ≡ negsuc (65535 - v)
upper v k l =
    let e : v ≡ 65536 - suc (65535 - v) = omega arith in
    ap (to_z w16) e ∙ to_z-neg w16 (65535 - v) (omega arith)

-- Every integer from −999 to 999 is in range as a word, and encoded to its sign's nibble and its digits.
pub integer_encoded : (z : ℤ) → InThreeDigits z → (in_range Signed16 (of_z w16 z) ≡ true) × (encoded Signed16 (of_z w16 z) ≡ Some (with_sign z))
unfolding encoded with_sign
integer_encoded (pos n) h =
    let l = size_most (pos n) h in
    ((range_signed n).1 (inl l), plus_sent 3 n (omega arith))
integer_encoded (negsuc n) h =
    let l = size_most (negsuc n) h in
    ((range_signed (65536 - suc n)).1 (inr (omega arith, omega arith)), minus_sent 3 (suc n) (omega arith) (omega arith))

-- And back: the sign's nibble and the digits are read as the integer's word.
pub integer_decoded : (z : ℤ) → InThreeDigits z → decoded Signed16 (with_sign z) ≡ Some (of_z w16 z)
integer_decoded z h = encode_decode Signed16 (of_z w16 z) (with_sign z) (integer_encoded z h).1

-- A word is in range exactly if its integer is from −999 to 999.
pub integer_range : (v : ℕ) → v < 65536 → (in_range Signed16 v ≡ true) ↔ InThreeDigits (to_z w16 v)
integer_range v l =
    ⊎_elim
    (λ (k : v < 32768).
    rw (to_z_pos w16 v k) (
      λ t. size-within (pos v) (⊎_elim (λ (m : v ≤ 999). m) (λ (m : (64537 ≤ v) × (v ≤ 65535)). omega arith) ((range_signed v).0 t)),
      λ h. (range_signed v).1 (inl (size_most (pos v) h)),
    ))
    (λ (k : 32768 ≤ v).
    rw (upper v k l) (
      λ t. size-within (negsuc (65535 - v)) (⊎_elim (λ (m : v ≤ 999). omega arith) (λ (m : (64537 ≤ v) × (v ≤ 65535)). omega arith) ((range_signed v).0 t)),
      λ h. let m = size_most (negsuc (65535 - v)) h in (range_signed v).1 (inr (omega arith, omega arith)),
    ))
    (lt_or v 32768)

-- A word in range, by its integer.
pub integer_sent : (v : ℕ) → in_range Signed16 v ≡ true → InThreeDigits (to_z w16 v) × (encoded Signed16 v ≡ Some (with_sign (to_z w16 v)))
integer_sent v t =
    let l : v < 65536 = ⊎_elim (λ (m : v ≤ 999). omega arith) (λ (m : (64537 ≤ v) × (v ≤ 65535)). omega arith) ((range_signed v).0 t) in
    let h = (integer_range v l).0 t in
    (h, rw (of_z-to_z w16 v (record { fits = l })) at (integer_encoded (to_z w16 v) h).1)
