-- What the proofs of `digit_count`, `decimal` and `hex` want of powers of a base; from a bound on a count to what the contracts ask.
-- Assumes nothing.
use Prim.Native.Nat.{ℕ, ◌+◌, ◌-◌, ◌*◌, ◌/◌, ◌^◌, ◌≤◌, ◌<◌}
use native.Mathlib.Nat.{le_trans, le_of_suc-le-suc, mul-le-mul_right, mul-div-le, one-mul, pow-zero, pow-suc, one-le-pow, pow-le-pow_right, div-div-eq-div-mul, le-div_iff_mul-le, div-lt_iff_lt-mul, lt_of_not-le}
use native.Mathlib.Numerals.{add-one}
use native.Mathlib.Omega.{arith}
use mathlib.Core.Path.{◌≡◌, sym, ap, subst, ◌∙◌}
use mathlib.Core.List.{List}
use lib.ListN.{length}
use lib.Seq.{length-take-le}
use Rattle.std.proofs.Common.{mul_comm, ⊎_elim, Option, Some, None, IsSome, IfSome, ◌↔◌, max}
use Rattle.std.specs.Option.{unwrap_or}
use mathlib.Core.Bool.{false≢true}
use Rattle.laws.proofs.Choice.{lt_or}
use Rattle.parts.specs.Digits.{IsPrefixLen, IsDigitCount}

pub two-mul-div-le : (n b : ℕ) → 1 < b → 2 * (n / b) ≤ n
two-mul-div-le n b h = le_trans (mul-le-mul_right (n / b) h) (mul-div-le n b)

pub div-pow-one : (n b : ℕ) → n / b ≡ n / b ^ 1
div-pow-one n b = ap (λ (d : ℕ). n / d) (sym (pow-suc b 0 ∙ ap (λ (p : ℕ). p * b) (pow-zero b) ∙ one-mul b))

pub div-pow-div : (n b k : ℕ) → n / b ^ k / b ≡ n / b ^ (k + 1)
div-pow-div n b k = div-div-eq-div-mul n (b ^ k) b ∙ ap (λ (d : ℕ). n / d) (sym (pow-suc b k) ∙ ap (λ (j : ℕ). b ^ j) (sym (add-one k)))

-- something is left of n after k digits, so one more is wanted
pub pow-le_of_div_pos : (n b k : ℕ) → 0 < b → 0 < n / b ^ k → b ^ (k + 1 - 1) ≤ n
pow-le_of_div_pos n b k h some =
    let e : k ≡ k + 1 - 1 = omega arith in
    let p : 1 * b ^ k ≤ n = (le-div_iff_mul-le (one-le-pow k b h)).0 some in
    subst (λ (j : ℕ). b ^ j ≤ n) e (omega arith)

-- nothing is left of n after k digits, so k digits hold it, and so do more
pub lt-pow_of_div-zero : (n b k j : ℕ) → 0 < b → n / b ^ k < 1 → k ≤ j → n < b ^ j
lt-pow_of_div-zero n b k j h none more =
    let p : n < 1 * b ^ k = (div-lt_iff_lt-mul (one-le-pow k b h)).0 none in
    let q : b ^ k ≤ b ^ j = pow-le-pow_right h more in
    omega arith

digit_count_not_above : (b width n k most : ℕ) → 0 < b → IsDigitCount b width n k → width ≤ most → n < b ^ most → most < k → ⊥
digit_count_not_above b width n k most h fewest within holds over =
    let p : b ^ (k - 1) ≤ n = fewest.2 (omega arith) in
    let q : b ^ most ≤ b ^ (k - 1) = pow-le-pow_right h (omega arith) in
    omega arith

-- where `most` digits hold n, the fewest are no more
pub digit_count_le : (b width n k most : ℕ) → 0 < b → IsDigitCount b width n k → width ≤ most → n < b ^ most → k ≤ most
digit_count_le b width n k most h fewest within holds = le_of_suc-le-suc (lt_of_not-le (digit_count_not_above b width n k most h fewest within holds))

-- from a bound on a count to what `&buf[..n]` asks
pub prefix_len_of_le : (n : ℕ) (xs : List ℕ) → n ≤ length xs → IsPrefixLen n xs
prefix_len_of_le n xs h = (h, sym (length-take-le n xs h))

-- a number has one digit more than its logarithm, 0 has one, and a wider field is filled
pub count_log : (b width n : ℕ) (log : Option ℕ) → 1 < b → 0 < width → (IsSome log ↔ ((0 < n) × (2 ≤ b))) → IfSome log (λ k. b ^ k ≤ n) → IfSome log (λ k. n < b * b ^ k) → (count : ℕ) → count ≡ max (unwrap_or log 0 + 1) width → IsDigitCount b width n count
count_log b width n None h w some low high count e =
    let zero_one : n ≡ 0 = ⊎_elim (λ (l : 0 < n). absurd (false≢true (some.1 (l, h)))) (λ (l : n ≤ 0). omega arith) (lt_or 0 n) in
    let room : 1 ≤ b ^ count = one-le-pow count b (omega arith) in
    (omega arith, omega arith, λ s. omega arith)
count_log b width n (Some k) h w some low high count e =
    let next : b ^ (k + 1) ≡ b ^ k * b = rw (add-one k) (pow-suc b k) in
    let more : b ^ (k + 1) ≤ b ^ count = pow-le-pow_right (omega arith) (omega arith) in
    let below : n < b ^ (k + 1) = rw next (omega (arith, mul_comm b (b ^ k))) in
    let last : width < count → count - 1 ≡ k = λ s. omega arith in
    (omega arith, omega arith, λ s. rw (last s) low)
