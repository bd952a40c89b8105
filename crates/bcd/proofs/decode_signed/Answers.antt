-- `bcd::decode_signed` meets its contract: the digits below the sign are a size of at most 999, and its word or that of its negative is the value.
use Prim.Native.Nat.{◌≤◌}
use mathlib.Core.Path.{◌≡◌, ap, sym, ◌∙◌}
use mathlib.Core.Bool.{true, false, not, ◌&&◌}
use native.Mathlib.Omega.{arith}
use lib.Dec.{eqb}
use lib.IntN.{pos, ◌-ℤ◌}
use mir.Syntax.{w16}
use mir.Val.{to_z, of_z}
use mir.ValLaws.{of_z-to_z}
use borrow.Author.Tests.{eq-eqb, ne_eqb}
use Rattle.bcd.specs.Bcd.{decimal, unpacked, nibble}
use Rattle.bcd.specs.Integers.{InThreeDigits}
use Rattle.bcd.proofs.PackedLaws.{unpacked-below}
use Rattle.bcd.proofs.RegisterLaws.{sign-decimal, sign-unpacked, plus_decoded, minus-decoded, sign-refused, digit-refused}
use Rattle.bcd.proofs.CastLaws.{word_back, size_integer, negated_fits, negated_within, negated_word}
use Rattle.bcd.proofs.decode_signed.Goals.{After-unpack-size}
use Rattle.bcd.proofs.decode_signed.Goals as goal

-- the digits, once they are found to be digits
all_digits : (c : After-unpack-size) → decimal 3 c.args.w ≡ true
all_digits c = sym (sign-decimal 3 _ _ c.is_decimal.ensures) ∙ c.if-not-is_decimal.false

size_is : (c : After-unpack-size) → c.unpack-size.result ≡ unpacked 3 c.args.w
size_is c = sign-unpacked 3 _ _ c.unpack-size.ensures

size_most : (c : After-unpack-size) → c.unpack-size.result ≤ 999
size_most c = let l = unpacked-below 3 c.args.w (all_digits c) in omega (arith, size_is c)

-- and its negative
minus-within : (c : After-unpack-size) → InThreeDigits (pos 0 -ℤ to_z w16 c.unpack-size.result)
minus-within c = negated_within _ (size_integer _ (size_most c))

pub returns-then-not-is_decimal : goal.returns-then-not-is_decimal
returns-then-not-is_decimal c = digit-refused 3 _ (sym (sign-decimal 3 _ _ c.is_decimal.ensures) ∙ c.if-not-is_decimal.true)

pub overflow_cast-size : goal.overflow_cast-size
overflow_cast-size c = record { sfits = omega (arith, size_most (goal.at.overflow_cast-size c).After-unpack-size) }

pub overflow_sub-size : goal.overflow_sub-size
overflow_sub-size c = negated_fits _ (size_integer _ (size_most (goal.at.overflow_sub-size c).After-unpack-size))

pub returns-in-0 : goal.returns-in-0
returns-in-0 c =
    let s = (goal.at.returns-in-0 c).After-unpack-size in
    let k = of_z-to_z w16 c.unpack-size.result (record { fits = omega (arith, size_most s) }) in
    plus_decoded 3 _ _ (all_digits s) c.in-0.is (c.word_of.ensures ∙ k ∙ size_is s)

pub returns-in-15 : goal.returns-in-15
returns-in-15 c =
    let s = (goal.at.returns-in-15 c).After-unpack-size in
    let u = c.unpack-size.result in
    let k = ap (of_z w16) (word_back (pos 0 -ℤ to_z w16 u) (minus-within s)) ∙ negated_word u (omega arith) (size_most s) in
    let t : (eqb (nibble 3 c.args.w) 15 && not (eqb u 0)) ≡ true = rw (eq-eqb (nibble 3 c.args.w) 15 c.in-15.is, ne_eqb u 0 c.if-size-ne0.true) in
    minus-decoded 3 _ _ u (all_digits s) (λ z. omega arith) (size_is s) t (c.word_of-in-15.ensures ∙ k)

-- minus 0
pub returns-in_default : goal.returns-in_default
returns-in_default c =
    let s = (goal.at.returns-in_default c).After-unpack-size in
    let u = c.unpack-size.result in
    let t : (eqb (nibble 3 c.args.w) 15 && not (eqb u 0)) ≡ false = rw (eq-eqb (nibble 3 c.args.w) 15 c.in-15.is, eq-eqb u 0 c.if-size-ne0.false) in
    sign-refused 3 _ u (all_digits s) (λ z. omega arith) (size_is s) t

-- a nibble that is no sign
pub returns-in_default-2 : goal.returns-in_default-2
returns-in_default-2 c =
    let s = (goal.at.returns-in_default-2 c).After-unpack-size in
    let u = c.unpack-size.result in
    let t : (eqb (nibble 3 c.args.w) 15 && not (eqb u 0)) ≡ false = rw (ne_eqb (nibble 3 c.args.w) 15 (λ z. omega arith)) in
    sign-refused 3 _ u (all_digits s) (λ z. omega arith) (size_is s) t
