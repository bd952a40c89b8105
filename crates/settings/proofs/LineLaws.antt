-- The decimal of a number is read back as that number, and no other digits are read so: for any number of digits. So a line's text and its number fit one to one.
-- Assumes nothing.
use Prim.Native.Nat.{ℕ, zero, suc, ◌+◌, ◌*◌, ◌-◌, ◌/◌, ◌%◌, ◌^◌, ◌≤◌, ◌<◌}
use mathlib.Core.Path.{◌≡◌, refl, ap, sym, ◌∙◌}
use mathlib.Core.Logic.{⊎_elim}
use mathlib.Core.Bool.{true, false, cond, false≢true}
use mathlib.Core.Option.{Option, some, none, some-injective, none-ne-some}
use mathlib.Core.List.{List, [], ◌∷◌, ◌++◌, append_assoc, append-nil, cons≢nil}
use native.Mathlib.Nat.{pow-zero, pow-succ', div-lt_iff_lt-mul, mul_comm}
use native.Mathlib.Omega.{arith}
use lib.ListN.{length, length-append}
use lib.Dec.{eqb, leb}
use borrow.Author.Tests.{lt-ltb, le-ltb, le-leb, leb-true, eq-eqb, ne_eqb, eqb-true, eqb-false, not-true}
use Rattle.laws.proofs.Choice.{true_or, lt_or, and_left, and_right}
use Rattle.settings.specs.Lines.{Numbered, equals, line_feed, digit_zero, digit_nine, is_digit, decimal_of, decimal, line_of, leading, trailing, plain, number_from, behind, number_in, line_in}
use Rattle.settings.specs.Plain.{numbered}

-- digits: what `trailing` leaves nothing of

pub digit_range : (d : ℕ) → is_digit d ≡ true → (digit_zero ≤ d) × (d ≤ digit_nine)
digit_range d w = (leb-true 48 d (and_left (leb 48 d) (leb d 57) w), leb-true d 57 (and_right (leb 48 d) (leb d 57) w))

pub digit-first : (d : ℕ) (ds : List ℕ) → trailing (d ∷ ds) ≡ [] → (is_digit d ≡ true) × (trailing ds ≡ [])
unfolding trailing
digit-first d ds e =
    ⊎_elim
    (λ (t : is_digit d ≡ true). (t, rw t at e))
    (λ (f : is_digit d ≡ false). absurd (cons≢nil (rw f at e)))
    (true_or (is_digit d))

pub digits_then : (ds t : List ℕ) → trailing ds ≡ [] → trailing (ds ++ t) ≡ trailing t
unfolding trailing
digits_then [] t e = refl
digits_then (d ∷ ds) t e = let h = digit-first d ds e in rw h.0 (digits_then ds t h.1)

pub digits_lead : (ds t : List ℕ) → trailing ds ≡ [] → leading (ds ++ t) ≡ ds ++ leading t
unfolding leading
digits_lead [] t e = refl
digits_lead (d ∷ ds) t e = let h = digit-first d ds e in rw h.0 (ap (d ∷◌) (digits_lead ds t h.1))

pub leading-digits : (t : List ℕ) → trailing (leading t) ≡ []
unfolding leading trailing
leading-digits [] = refl
leading-digits (c ∷ t) =
    ⊎_elim
    (λ (e : is_digit c ≡ true). rw e (rw e (leading-digits t)))
    (λ (e : is_digit c ≡ false). rw e)
    (true_or (is_digit c))

pub leading-trailing : (t : List ℕ) → leading t ++ trailing t ≡ t
unfolding leading trailing
leading-trailing [] = refl
leading-trailing (c ∷ t) =
    ⊎_elim
    (λ (e : is_digit c ≡ true). rw e (ap (c ∷◌) (leading-trailing t)))
    (λ (e : is_digit c ≡ false). rw e)
    (true_or (is_digit c))

pub digit_of : (n : ℕ) → n < 10 → is_digit (digit_zero + n) ≡ true
digit_of n h = rw (le-leb 48 (48 + n) (omega arith), le-leb (48 + n) 57 (omega arith))

pub decimal-digits : (k n : ℕ) → trailing (decimal_of k n) ≡ []
unfolding decimal_of trailing
decimal-digits zero n = refl
decimal-digits (suc k) n =
    ⊎_elim
    (λ (h : n < 10). rw (lt-ltb n 10 h) (rw (digit_of n h)))
    (λ (h : 10 ≤ n). rw (le-ltb n 10 h) (digits_then (decimal_of k (n / 10)) ((digit_zero + n % 10) ∷ []) (decimal-digits k (n / 10)) ∙ rw (digit_of (n % 10) (omega arith))))
    (lt_or n 10)

-- a number's decimal is that number

pub number_then : (n : ℕ) (ds es : List ℕ) → number_from n (ds ++ es) ≡ number_from (number_from n ds) es
unfolding number_from
number_then n [] es = refl
number_then n (d ∷ ds) es = number_then (n * 10 + (d - digit_zero)) ds es

one_digit_less : (k n : ℕ) → n < 10 ^ suc k → n / 10 < 10 ^ k
one_digit_less k n l = (div-lt_iff_lt-mul {k = 10} {x = n} {y = 10 ^ k} (omega arith)).1 (rw (pow-succ' 10 k, mul_comm 10 (10 ^ k)) at l)

pub decimal_back : (k n : ℕ) → n < 10 ^ k → number_from 0 (decimal_of k n) ≡ n
unfolding decimal_of number_from
decimal_back zero n l = let p = pow-zero 10 in omega arith
decimal_back (suc k) n l =
    ⊎_elim
    (λ (h : n < 10). rw (lt-ltb n 10 h) (omega arith))
    (λ (h : 10 ≤ n).
    rw (le-ltb n 10 h, number_then 0 (decimal_of k (n / 10)) ((digit_zero + n % 10) ∷ []), decimal_back k (n / 10) (one_digit_less k n l)) (omega arith))
    (lt_or n 10)

-- a decimal has no leading zero: it begins as the decimal of a number above 0 does, or is one digit

begins : List ℕ → ℕ
begins [] = 0
begins (d ∷ ds) = d

first_nonzero : (k n : ℕ) → n < 10 ^ k → 1 ≤ n → digit_zero < begins (decimal_of k n)
unfolding decimal_of begins
first_nonzero zero n l h = let p = pow-zero 10 in absurd (omega arith)
first_nonzero (suc k) n l h =
    ⊎_elim
    (λ (b : n < 10). rw (lt-ltb n 10 b) (omega arith))
    (λ (b : 10 ≤ n). rw (le-ltb n 10 b) (longer (decimal_of k (n / 10)) (first_nonzero k (n / 10) (one_digit_less k n l) (omega arith))))
    (lt_or n 10)
  where
    longer : (ds : List ℕ) → digit_zero < begins ds → digit_zero < begins (ds ++ ((digit_zero + n % 10) ∷ []))
    longer [] b = absurd (omega arith)
    longer (d ∷ ds) b = b

plain-first : (ds : List ℕ) → digit_zero < begins ds → plain ds ≡ true
unfolding begins plain
plain-first [] b = absurd (omega arith)
plain-first (d ∷ []) b = refl
plain-first (d ∷ e ∷ ds) b = rw (ne_eqb d 48 (λ z. omega arith))

pub decimal-plain : (k n : ℕ) → n < 10 ^ suc k → plain (decimal_of (suc k) n) ≡ true
unfolding decimal_of plain
decimal-plain k n l =
    ⊎_elim
    (λ (h : n < 10). rw (lt-ltb n 10 h))
    (λ (h : 10 ≤ n). plain-first (decimal_of (suc k) n) (first_nonzero (suc k) n l (omega arith)))
    (lt_or n 10)

-- no other digits without a leading zero are that number

pub number_grows : (n : ℕ) (ds : List ℕ) → n ≤ number_from n ds
unfolding number_from
number_grows n [] = omega arith
number_grows n (d ∷ ds) = let i = number_grows (n * 10 + (d - digit_zero)) ds in omega arith

idle_digit : (k n : ℕ) → 1 ≤ n → n < 10 ^ k → decimal_of (suc k) n ≡ decimal_of k n
unfolding decimal_of
idle_digit zero n h l = let p = pow-zero 10 in absurd (omega arith)
idle_digit (suc k) n h l =
    ⊎_elim
    (λ (b : n < 10). rw (lt-ltb n 10 b))
    (λ (b : 10 ≤ n). rw (le-ltb n 10 b) (ap (◌++ ((digit_zero + n % 10) ∷ [])) (idle_digit k (n / 10) (omega arith) (one_digit_less k n l))))
    (lt_or n 10)

digit_more : (k n d : ℕ) → 1 ≤ n → is_digit d ≡ true → n * 10 + (d - digit_zero) < 10 ^ k → decimal_of k (n * 10 + (d - digit_zero)) ≡ decimal_of k n ++ (d ∷ [])
unfolding decimal_of
digit_more zero n d h w l = let p = pow-zero 10 in absurd (omega arith)
digit_more (suc k) n d h w l =
    let range = digit_range d w in
    let m : ℕ = n * 10 + (d - 48) in
    let tens : m / 10 ≡ n = omega arith in
    let ones : 48 + m % 10 ≡ d = omega arith in
    let fits : n < 10 ^ k = rw tens at (one_digit_less k m l) in
    rw (le-ltb m 10 (omega arith), tens, ones) (ap (◌++ (d ∷ [])) (sym (idle_digit k n h fits)))

digits_more : (k n : ℕ) (ds : List ℕ) → 1 ≤ n → trailing ds ≡ [] → number_from n ds < 10 ^ k → decimal_of k (number_from n ds) ≡ decimal_of k n ++ ds
unfolding number_from
digits_more k n [] h e l = sym (append-nil (decimal_of k n))
digits_more k n (d ∷ ds) h e l =
    let w = digit-first d ds e in
    let g = number_grows (n * 10 + (d - digit_zero)) ds in
    digits_more k (n * 10 + (d - digit_zero)) ds (omega arith) w.1 l
    ∙ ap (◌++ ds) (digit_more k n d h w.0 (omega arith))
    ∙ append_assoc (decimal_of k n) (d ∷ []) ds

pub decimal_only : (k : ℕ) (ds : List ℕ) → trailing ds ≡ [] → plain ds ≡ true → number_from 0 ds < 10 ^ suc k → decimal_of (suc k) (number_from 0 ds) ≡ ds
unfolding number_from plain decimal_of
decimal_only k [] e p l = absurd (false≢true p)
decimal_only k (d ∷ []) e p l =
    let range = digit_range d (digit-first d [] e).0 in
    let v : 48 + (0 * 10 + (d - 48)) ≡ d = omega arith in
    rw (lt-ltb (0 * 10 + (d - 48)) 10 (omega arith), v)
decimal_only k (d ∷ c ∷ ds) e p l =
    let w = digit-first d (c ∷ ds) e in
    let range = digit_range d w.0 in
    let above = eqb-false d 48 (not-true (eqb d 48) p) in
    let v : 48 + (0 * 10 + (d - 48)) ≡ d = omega arith in
    digits_more (suc k) (0 * 10 + (d - 48)) (c ∷ ds) (omega arith) w.1 l
    ∙ rw (lt-ltb (0 * 10 + (d - 48)) 10 (omega arith), v)

-- what a text begins with

pub behind_back : (k t : List ℕ) → behind k (k ++ t) ≡ some t
unfolding behind
behind_back [] t = refl
behind_back (c ∷ k) t = rw (eq-eqb c c refl) (behind_back k t)

pub behind_only : (k t r : List ℕ) → behind k t ≡ some r → t ≡ k ++ r
unfolding behind
behind_only [] t r e = some-injective t r e
behind_only (c ∷ k) [] r e = absurd (none-ne-some r e)
behind_only (c ∷ k) (b ∷ t) r e =
    ⊎_elim
    (λ (q : eqb c b ≡ true). rw (eqb-true c b q) (ap (b ∷◌) (behind_only k t r (rw q at e))))
    (λ (q : eqb c b ≡ false). absurd (none-ne-some r (rw q at e)))
    (true_or (eqb c b))

-- a number in a text: digits, and what stands behind them

pub number_ends : (ds t : List ℕ) → trailing ds ≡ [] → number_in (ds ++ (line_feed ∷ t)) ≡ cond (plain ds) (some (numbered (number_from 0 ds) t)) none
unfolding number_in leading trailing behind
number_ends ds t e =
    let lead : leading (ds ++ (line_feed ∷ t)) ≡ ds = digits_lead ds (line_feed ∷ t) e ∙ append-nil ds in
    rw (number_in, digits_then ds (line_feed ∷ t) e) (rw lead)

pub number_unended : (t : List ℕ) → behind (line_feed ∷ []) (trailing t) ≡ none → number_in t ≡ none
unfolding number_in
number_unended t e = rw (e, number_in)

pub number_unplain : (t : List ℕ) → plain (leading t) ≡ false → number_in t ≡ none
unfolding number_in
number_unplain t p = go (behind (line_feed ∷ []) (trailing t)) refl
  where
    go : (o : Option (List ℕ)) → behind (line_feed ∷ []) (trailing t) ≡ o → number_in t ≡ none
    go none e = rw (e, number_in)
    go (some r) e = rw (e, number_in) (rw p)

-- the number of a text that begins with one, from its digits
pub record NumberRead (t : List ℕ) (x : Numbered) : Type 0 where
  pub digits : List ℕ
  pub whole : t ≡ digits ++ (line_feed ∷ x.rest)
  pub only : trailing digits ≡ []
  pub right : plain digits ≡ true
  pub number : x.number ≡ number_from 0 digits

pub number_read : (t : List ℕ) (x : Numbered) → number_in t ≡ some x → NumberRead t x
unfolding number_in
number_read t x h = go (behind (line_feed ∷ []) (trailing t)) refl
  where
    go : (o : Option (List ℕ)) → behind (line_feed ∷ []) (trailing t) ≡ o → NumberRead t x
    go none e = absurd (none-ne-some x (rw (e, number_in) at h))
    go (some r) e =
        ⊎_elim
        (λ (p : plain (leading t) ≡ true).
        let q : numbered (number_from 0 (leading t)) r ≡ x = some-injective _ _ (rw p at (rw (e, number_in) at h)) in
        record {
          digits = leading t;
          whole = sym (leading-trailing t) ∙ ap (leading t ++◌) (behind_only (line_feed ∷ []) (trailing t) r e ∙ ap (λ (y : Numbered). line_feed ∷ y.rest) q);
          only = leading-digits t;
          right = p;
          number = sym (ap (λ (y : Numbered). y.number) q);
        })
        (λ (p : plain (leading t) ≡ false). absurd (none-ne-some x (rw p at (rw (e, number_in) at h))))
        (true_or (plain (leading t)))

-- a line in a text: its key with '=', and a number

pub line_parts : (key digits rest : List ℕ) → (key ++ (equals ∷ digits ++ (line_feed ∷ []))) ++ rest ≡ (key ++ (equals ∷ [])) ++ (digits ++ (line_feed ∷ rest))
line_parts key digits rest = simp append_assoc

pub digits_back : (key digits rest : List ℕ) → trailing digits ≡ [] → plain digits ≡ true
    → line_in key ((key ++ (equals ∷ digits ++ (line_feed ∷ []))) ++ rest) ≡ some (numbered (number_from 0 digits) rest)
unfolding line_in
digits_back key digits rest d p =
    let r : List ℕ = digits ++ (line_feed ∷ rest) in
    rw (line_parts key digits rest) (rw (line_in, behind_back (key ++ (equals ∷ [])) r)
    (number_ends digits rest d ∙ rw p))

pub line_read : (key t : List ℕ) (x : Numbered) → line_in key t ≡ some x → (r : List ℕ) × (t ≡ (key ++ (equals ∷ [])) ++ r) × (number_in r ≡ some x)
unfolding line_in
line_read key t x h = go (behind (key ++ (equals ∷ [])) t) refl
  where
    go : (o : Option (List ℕ)) → behind (key ++ (equals ∷ [])) t ≡ o → (r : List ℕ) × (t ≡ (key ++ (equals ∷ [])) ++ r) × (number_in r ≡ some x)
    go none e = absurd (none-ne-some x (rw (e, line_in) at h))
    go (some r) e = (r, behind_only (key ++ (equals ∷ [])) t r e, rw (e, line_in) at h)

-- A line is read back from its text: any key, any number of up to 20 digits, and whatever follows.
pub line_back : (key : List ℕ) (n : ℕ) (rest : List ℕ) → n < 10 ^ 20 → line_in key (line_of key n ++ rest) ≡ some (numbered n rest)
unfolding line_of
line_back key n rest l = digits_back key (decimal n) rest (decimal-digits 20 n) (decimal-plain 19 n l) ∙ rw (decimal_back 20 n l)

-- And no other text is read as that line.
pub line_only : (key t : List ℕ) (x : Numbered) → line_in key t ≡ some x → x.number < 10 ^ 20 → t ≡ line_of key x.number ++ x.rest
unfolding line_of
line_only key t x h l =
    let r = line_read key t x h in
    let d = number_read r.0 x r.2 in
    let w : decimal x.number ≡ d.digits = ap decimal d.number ∙ decimal_only 19 d.digits d.only d.right (rw d.number at l) in
    r.1 ∙ ap ((key ++ (equals ∷ [])) ++◌) (d.whole ∙ ap (◌++ (line_feed ∷ x.rest)) (sym w)) ∙ sym (line_parts key (decimal x.number) x.rest)

-- how long a line is

decimal-length : (k j n : ℕ) → n < 10 ^ suc j → length (decimal_of k n) ≤ suc j
unfolding decimal_of
decimal-length zero j n l = omega arith
decimal-length (suc k) zero n l = rw (lt-ltb n 10 l) (omega arith)
decimal-length (suc k) (suc j) n l =
    ⊎_elim
    (λ (h : n < 10). rw (lt-ltb n 10 h) (omega arith))
    (λ (h : 10 ≤ n).
    let i = decimal-length k j (n / 10) (one_digit_less (suc j) n l) in
    rw (le-ltb n 10 h) (omega (arith, length-append (decimal_of k (n / 10)) ((digit_zero + n % 10) ∷ []))))
    (lt_or n 10)

pub line-length : (key : List ℕ) (j n : ℕ) → n < 10 ^ suc j → length (line_of key n) ≤ length key + suc j + 2
unfolding line_of
line-length key j n l =
    let d = decimal-length 20 j n l in
    simp length-append (omega arith)
