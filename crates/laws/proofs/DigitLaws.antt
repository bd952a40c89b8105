-- Digits and their value: any base, any number of digits.
-- Assumes nothing.
use Prim.Native.Nat.{ℕ, zero, suc, ◌+◌, ◌*◌, ◌/◌, ◌%◌, ◌^◌, ◌≤◌, ◌<◌}
use mathlib.Core.Path.{◌≡◌, refl, ap, sym, ◌∙◌}
use mathlib.Core.Logic.{⊎_elim}
use mathlib.Core.Bool.{true, false, ◌&&◌, and_assoc, and-false, true≢false}
use mathlib.Core.List.{List, [], ◌∷◌, ◌++◌}
use native.Mathlib.Nat.{pow-zero, pow-succ', div-add-mod', div-lt_iff_lt-mul, mod-lt, mul_comm, add_comm, add-mul-div_left, add-mul-mod_self_left, mod-eq_of_lt, div-eq_of_lt, zero-add, one-mul, mul-one, mul_assoc, mul-add, add_assoc, mul-le-mul_left, one-le-pow, pow-suc, div-div-eq-div-mul, div-one}
use native.Mathlib.Omega.{arith}
use lib.ListN.{length}
use lib.Dec.{ltb}
use lib.Arith.{mod-mul, digits_div as split_div, digits_mod as split_mod}
use borrow.Author.Tests.{lt-ltb, le-ltb, ltb-true, ltb-false}
use Rattle.laws.specs.Digits.{digits, value, below}
use Rattle.laws.proofs.Choice.{true_or, and_left, and_right}

-- the digits of a number below b ^ k have it as their value
pub value-digits : (b k n : ℕ) → 0 < b → n < b ^ k → value b (digits b k n) ≡ n
unfolding digits value
value-digits b zero n h l = let p = pow-zero b in omega arith
value-digits b (suc k) n h l =
    let s = (div-lt_iff_lt-mul {k = b} {x = n} {y = b ^ k} h).1 (rw (pow-succ' b k, mul_comm b (b ^ k)) at l) in
    rw (value-digits b k (n / b) h s) (add_comm (n % b) (b * (n / b)) ∙ rw (mul_comm b (n / b)) (div-add-mod' n b))

-- digits at base b are digits at any larger base
pub digits-below : (b b' k n : ℕ) → 0 < b → b ≤ b' → below b' (digits b k n) ≡ true
unfolding digits below
digits-below b b' zero n h l = refl
digits-below b b' (suc k) n h l =
    let m = mod-lt n h in
    rw (lt-ltb (n % b) b' (omega arith)) (digits-below b b' k (n / b) h l)

pub length_digits : (b k n : ℕ) → length (digits b k n) ≡ k
unfolding digits
length_digits b zero n = refl
length_digits b (suc k) n = ap suc (length_digits b k (n / b))

-- the value's digits are the digits
pub digits_value : (b : ℕ) (ds : List ℕ) → below b ds ≡ true → digits b (length ds) (value b ds) ≡ ds
unfolding digits value below
digits_value b [] h = refl
digits_value b (d ∷ ds) h =
    let l = ltb-true d b (and_left (ltb d b) (below b ds) h) in
    let e : (d + b * value b ds) % b ≡ d = add-mul-mod_self_left d b (value b ds) ∙ mod-eq_of_lt l in
    let f : (d + b * value b ds) / b ≡ value b ds = add-mul-div_left d (value b ds) (omega arith) ∙ rw (div-eq_of_lt l) (zero-add (value b ds)) in
    rw (e, f, digits_value b ds (and_right (ltb d b) (below b ds) h))

-- and the value of digits below b is below b to their number
pub value-below : (b : ℕ) (ds : List ℕ) → below b ds ≡ true → value b ds < b ^ length ds
unfolding value below
value-below b [] h = rw (pow-zero b) (omega arith)
value-below b (d ∷ ds) h =
    let l = ltb-true d b (and_left (ltb d b) (below b ds) h) in
    let i = value-below b ds (and_right (ltb d b) (below b ds) h) in
    let m : b * (value b ds + 1) ≤ b * b ^ length ds = mul-le-mul_left b (omega arith) in
    let e : b * (value b ds + 1) ≡ b * value b ds + b = mul-add b (value b ds) 1 ∙ rw (mul-one b) in
    rw (pow-succ' b (length ds)) (omega arith)

-- digits in two groups, and their value
pub digits-split : (b j k n : ℕ) → digits b (j + k) n ≡ digits b j n ++ digits b k (n / b ^ j)
unfolding digits
digits-split b zero k n = rw (zero-add k, pow-zero b, div-one n)
digits-split b (suc j) k n =
    let e : suc j + k ≡ suc (j + k) = omega arith in
    rw (e, digits-split b j k (n / b), pow-succ' b j, div-div-eq-div-mul n b (b ^ j))

pub value-split : (b : ℕ) (ds es : List ℕ) → value b (ds ++ es) ≡ value b ds + b ^ length ds * value b es
unfolding value
value-split b [] es = rw (pow-zero b, one-mul (value b es), zero-add (value b es))
value-split b (d ∷ ds) es =
    rw (value-split b ds es, mul-add b (value b ds) (b ^ length ds * value b es), pow-succ' b (length ds), ← mul_assoc b (b ^ length ds) (value b es))
    (sym (add_assoc d (b * value b ds) (b * b ^ length ds * value b es)))

-- the last k digits are those of the remainder
pub digits_mod : (b k n : ℕ) → 0 < b → digits b k (n % b ^ k) ≡ digits b k n
unfolding digits
digits_mod b zero n h = refl
digits_mod b (suc k) n h =
    let m : n % b ^ suc k ≡ (n / b % b ^ k) * b + n % b = rw (pow-suc b k) (mod-mul n (one-le-pow k b h) h) in
    let r = mod-lt n h in
    rw (m, split_mod (n / b % b ^ k) r, split_div (n / b % b ^ k) r, digits_mod b k (n / b) h)

-- a number of k digits at a base has its digits at any larger base too, and they are as many
pub digits_back : (b b' k n : ℕ) → 0 < b → b ≤ b' → digits b' k (value b' (digits b k n)) ≡ digits b k n
digits_back b b' k n h l = rw (length_digits b k n) at (digits_value b' (digits b k n) (digits-below b b' k n h l))

-- two groups of digits are below b if each is
pub below_split : (b : ℕ) (ds es : List ℕ) → below b (ds ++ es) ≡ (below b ds && below b es)
unfolding below
below_split b [] es = refl
below_split b (d ∷ ds) es = rw (below_split b ds es) (sym (and_assoc (ltb d b) (below b ds) (below b es)))

-- digits taken at one base and read at another, in two groups
pub value-digits-split : (b b' j k n : ℕ) → value b' (digits b (j + k) n) ≡ value b' (digits b j n) + b' ^ j * value b' (digits b k (n / b ^ j))
value-digits-split b b' j k n = rw (digits-split b j k n, value-split b' (digits b j n) (digits b k (n / b ^ j)), length_digits b j n)

-- the digit number i + 1 is the digit number i of the quotient
pub digit-suc : (b n i : ℕ) → n / b ^ suc i % b ≡ n / b / b ^ i % b
digit-suc b n i = rw (pow-succ' b i, ← div-div-eq-div-mul n b (b ^ i))

-- where not all digits at base b are below b', some digit is not
pub above_some : (b b' k n : ℕ) → below b' (digits b k n) ≡ false → (i : ℕ) × (i < k) × (b' ≤ n / b ^ i % b)
unfolding digits below
above_some b b' zero n e = absurd (true≢false e)
above_some b b' (suc k) n e =
    ⊎_elim
    (λ (t : ltb (n % b) b' ≡ true).
    let s = above_some b b' k (n / b) (rw t at e) in
    (suc s.0, omega (arith, s.1), rw (digit-suc b n s.0) s.2))
    (λ (t : ltb (n % b) b' ≡ false). (0, omega arith, rw (pow-zero b, div-one n) (ltb-false (n % b) b' t)))
    (true_or (ltb (n % b) b'))

-- and the other way round
pub some_above : (b b' k n i : ℕ) → i < k → b' ≤ n / b ^ i % b → below b' (digits b k n) ≡ false
unfolding digits below
some_above b b' zero n i l h = absurd (omega arith)
some_above b b' (suc k) n zero l h = rw (le-ltb (n % b) b' (rw (pow-zero b, div-one n) at h))
some_above b b' (suc k) n (suc i) l h =
    rw (some_above b b' k (n / b) i (omega arith) (rw (digit-suc b n i) at h)) (and-false (ltb (n % b) b'))
