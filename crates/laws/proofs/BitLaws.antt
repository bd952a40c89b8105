-- The bits of and, or, a power of two and a complement, at any width.
-- Assumes nothing.
use Prim.Native.Nat.{ℕ, zero, suc, ◌+◌, ◌*◌, ◌-◌, ◌/◌, ◌%◌, ◌^◌, ◌≤◌, ◌<◌, min, max}
use mathlib.Core.Path.{◌≡◌, refl, ap, sym, ◌∙◌}
use mathlib.Core.Logic.{⊎_elim, ◌⊎◌, inl, inr}
use mathlib.Core.Bool.{Bool, true, false, not, ◌&&◌, ◌||◌, and-false, and_comm, or-false}
use native.Mathlib.Nat.{pow-zero, pow-succ', div-one, zero-div, div-div-eq-div-mul, one-mul, div-eq_of_lt, mod-eq_of_lt, lt_of_lt_of_le, lt_of_le_of_lt, zero-mul, add_comm}
use native.Mathlib.Numerals.{add-one}
use native.Mathlib.Omega.{arith}
use lib.Dec.{lit<, eqb, eqb-suc-suc, eqb-zero-suc, eqb-suc-zero}
use lib.Pow.{pow_pos, pow-lt, pow_mono}
use lib.Bits.{bit_and, bit_or, and_step, or_step, and_shr, or_shr, and_high, and_le_l, or_lt, or_add_and}
use borrow.Author.Tests.{eq-eqb, ne_eqb, eqb-true, eqb-false}
use Rattle.laws.specs.Bits.{has, with, without}
use Rattle.laws.proofs.Choice.{true_or, eq_or, lt_or}

odd_or : (x : ℕ) → (x % 2 ≡ 0) ⊎ (x % 2 ≡ 1)
odd_or x = ⊎_elim (λ e. inl e) (λ e. inr (omega (arith, e))) (go (eqb (x % 2) 0) refl)
  where
    go : (t : Bool) → eqb (x % 2) 0 ≡ t → (x % 2 ≡ 0) ⊎ (x % 2 ≡ 0 → ⊥)
    go true e = inl (eqb-true (x % 2) 0 e)
    go false e = inr (eqb-false (x % 2) 0 e)

-- what holds of each two bits holds of the lowest two
bit_cases : (P : ℕ → ℕ → Type 0) → P 0 0 → P 0 1 → P 1 0 → P 1 1 → (x y : ℕ) → P (x % 2) (y % 2)
bit_cases P a b c d x y =
    ⊎_elim
    (λ (e : x % 2 ≡ 0). ⊎_elim (λ (f : y % 2 ≡ 0). rw (e, f) a) (λ (f : y % 2 ≡ 1). rw (e, f) b) (odd_or y))
    (λ (e : x % 2 ≡ 1). ⊎_elim (λ (f : y % 2 ≡ 0). rw (e, f) c) (λ (f : y % 2 ≡ 1). rw (e, f) d) (odd_or y))
    (odd_or x)

and_odd : (x y : ℕ) → eqb (bit_and x y % 2) 1 ≡ (eqb (x % 2) 1 && eqb (y % 2) 1)
and_odd x y =
    let low : min (x % 2) (y % 2) < 2 = bit_cases (λ a b. min a b < 2) (lit< tt) (lit< tt) (lit< tt) (lit< tt) x y in
    let e : bit_and x y % 2 ≡ min (x % 2) (y % 2) = omega (arith, and_step x y) in
    ap (λ (n : ℕ). eqb n 1) e ∙ bit_cases (λ a b. eqb (min a b) 1 ≡ (eqb a 1 && eqb b 1)) refl refl refl refl x y

or_odd : (x y : ℕ) → eqb (bit_or x y % 2) 1 ≡ (eqb (x % 2) 1 || eqb (y % 2) 1)
or_odd x y =
    let low : max (x % 2) (y % 2) < 2 = bit_cases (λ a b. max a b < 2) (lit< tt) (lit< tt) (lit< tt) (lit< tt) x y in
    let e : bit_or x y % 2 ≡ max (x % 2) (y % 2) = omega (arith, or_step x y) in
    ap (λ (n : ℕ). eqb n 1) e ∙ bit_cases (λ a b. eqb (max a b) 1 ≡ (eqb a 1 || eqb b 1)) refl refl refl refl x y

pub has_and : (a b i : ℕ) → has (bit_and a b) i ≡ (has a i && has b i)
has_and a b i = rw (and_shr a b i) (and_odd (a / 2 ^ i) (b / 2 ^ i))

pub has_or : (a b i : ℕ) → has (bit_or a b) i ≡ (has a i || has b i)
has_or a b i = rw (or_shr a b i) (or_odd (a / 2 ^ i) (b / 2 ^ i))

-- one bit on is the half's bit
pub has-suc : (a i : ℕ) → has a (suc i) ≡ has (a / 2) i
has-suc a i = rw (pow-succ' 2 i, ← div-div-eq-div-mul a 2 (2 ^ i))

pub has-zero : (a : ℕ) → has a 0 ≡ eqb (a % 2) 1
has-zero a = rw (pow-zero 2, div-one a)

pub has-none : (i : ℕ) → has 0 i ≡ false
has-none i = rw (zero-div (2 ^ i))

pub has_pow : (c i : ℕ) → has (2 ^ c) i ≡ eqb i c
has_pow zero zero = has-zero (2 ^ 0)
has_pow zero (suc i) = has-suc (2 ^ 0) i ∙ has-none i ∙ sym (eqb-suc-zero i)
has_pow (suc c) zero = has-zero (2 ^ suc c) ∙ ne_eqb (2 ^ suc c % 2) 1 (λ z. omega (arith, pow-succ' 2 c)) ∙ sym (eqb-zero-suc c)
has_pow (suc c) (suc i) =
    let e : 2 ^ suc c / 2 ≡ 2 ^ c = omega (arith, pow-succ' 2 c) in
    has-suc (2 ^ suc c) i ∙ rw e (has_pow c i ∙ sym (eqb-suc-suc i c))

-- what is not among the first k numbers is in no set below 2 ^ k
pub has_high : (k a i : ℕ) → a < 2 ^ k → k ≤ i → has a i ≡ false
has_high k a i h l = rw (div-eq_of_lt (lt_of_lt_of_le h (pow_mono l)))

-- the complement among the first k numbers
pub has-not : (k m i : ℕ) → m < 2 ^ k → i < k → has (2 ^ k - 1 - m) i ≡ not (has m i)
has-not zero m i h l = absurd (omega arith)
has-not (suc k) m zero h l =
    let p = pow-succ' 2 k in
    let q = pow_pos k in
    ⊎_elim
    (λ (e : m % 2 ≡ 0). has-zero (2 ^ suc k - 1 - m) ∙ eq-eqb ((2 ^ suc k - 1 - m) % 2) 1 (omega arith) ∙ sym (ap not (has-zero m ∙ ne_eqb (m % 2) 1 (λ z. omega arith))))
    (λ (e : m % 2 ≡ 1). has-zero (2 ^ suc k - 1 - m) ∙ ne_eqb ((2 ^ suc k - 1 - m) % 2) 1 (λ z. omega arith) ∙ sym (ap not (has-zero m ∙ eq-eqb (m % 2) 1 e)))
    (odd_or m)
has-not (suc k) m (suc i) h l =
    let p = pow-succ' 2 k in
    let e : (2 ^ suc k - 1 - m) / 2 ≡ 2 ^ k - 1 - m / 2 = omega arith in
    has-suc (2 ^ suc k - 1 - m) i ∙ rw e (has-not k (m / 2) i (omega arith) (omega arith) ∙ sym (ap not (has-suc m i)))

-- 1 << c at a width of k bits
pub one_shl : (k c : ℕ) → c < k → 1 * 2 ^ c % 2 ^ k ≡ 2 ^ c
one_shl k c h = rw (one-mul (2 ^ c)) (mod-eq_of_lt (pow-lt h))

-- a mask of one bit
pub mask_one : (s c : ℕ) → bit_and s (2 ^ c) ≡ (s / 2 ^ c % 2) * 2 ^ c
mask_one s c =
    let e : 2 ^ (1 + c) - 2 ^ c ≡ 2 ^ c = rw (add_comm 1 c) (rw (add-one c) (let p = pow-succ' 2 c in omega arith)) in
    rw e at (and_high s 1 c)

-- the set without c, at a width of k bits
pub has-without : (k s c i : ℕ) → s < 2 ^ k → c < k → has (bit_and s (2 ^ k - 1 - 2 ^ c)) i ≡ (not (eqb i c) && has s i)
has-without k s c i hs hc =
    has_and s (2 ^ k - 1 - 2 ^ c) i
    ∙ ⊎_elim
    (λ (l : i < k). rw (has-not k (2 ^ c) i (pow-lt hc) l, has_pow c i) (and_comm (has s i) (not (eqb i c))))
    (λ (l : k ≤ i). rw (has_high k s i hs l) (sym (and-false (not (eqb i c)))))
    (lt_or i k)

-- numbers of k bits that have the same bits are equal
pub bits_ext : (k a b : ℕ) → a < 2 ^ k → b < 2 ^ k → ((i : ℕ) → i < k → has a i ≡ has b i) → a ≡ b
bits_ext zero a b ha hb h = let p = pow-zero 2 in omega arith
bits_ext (suc k) a b ha hb h =
    let p = pow-succ' 2 k in
    let e : a / 2 ≡ b / 2 = bits_ext k (a / 2) (b / 2) (omega arith) (omega arith) (λ i l. sym (has-suc a i) ∙ h (suc i) (omega arith) ∙ has-suc b i) in
    let f : eqb (a % 2) 1 ≡ eqb (b % 2) 1 = sym (has-zero a) ∙ h 0 (omega arith) ∙ has-zero b in
    ⊎_elim
    (λ (x : a % 2 ≡ 0). let y = eqb-false (b % 2) 1 (sym f ∙ ne_eqb (a % 2) 1 (λ z. omega arith)) in ⊎_elim (λ z. omega (arith, e)) (λ z. absurd (y z)) (odd_or b))
    (λ (x : a % 2 ≡ 1). let y = eqb-true (b % 2) 1 (sym f ∙ eq-eqb (a % 2) 1 x) in omega (arith, e))
    (odd_or a)

-- a set with c by or, and a set without c by and, at a width of k bits
pub or_with : (s c : ℕ) → bit_or s (2 ^ c) ≡ with s c
unfolding with
or_with s c =
    let a = or_add_and s (2 ^ c) in
    let m = mask_one s c in
    ⊎_elim
    (λ (t : has s c ≡ true). let n : bit_and s (2 ^ c) ≡ 2 ^ c = m ∙ rw (eqb-true (s / 2 ^ c % 2) 1 t) (one-mul (2 ^ c)) in rw t (omega arith))
    (λ (t : has s c ≡ false).
    let z : s / 2 ^ c % 2 ≡ 0 = ⊎_elim (λ x. x) (λ x. absurd (eqb-false (s / 2 ^ c % 2) 1 t x)) (odd_or (s / 2 ^ c)) in
    let n : bit_and s (2 ^ c) ≡ 0 = m ∙ rw z (zero-mul (2 ^ c)) in
    rw t (omega arith))
    (true_or (has s c))

-- a set that has c is the set with c already; of one that has not, that is 2 ^ c more
pub with_there : (s c : ℕ) → has s c ≡ true → with s c ≡ s
unfolding with
with_there s c t = rw t

with_new : (s c : ℕ) → has s c ≡ false → with s c ≡ s + 2 ^ c
unfolding with
with_new s c h = rw h

pub and_without : (k s c : ℕ) → s < 2 ^ k → c < k → bit_and s (2 ^ k - 1 - 2 ^ c) ≡ without s c
unfolding without
and_without k s c hs hc =
    let r = bit_and s (2 ^ k - 1 - 2 ^ c) in
    let hr : r < 2 ^ k = lt_of_le_of_lt (and_le_l s (2 ^ k - 1 - 2 ^ c)) hs in
    let here : has r c ≡ false = has-without k s c c hs hc ∙ rw (eq-eqb c c refl) in
    ⊎_elim
    (λ (t : has s c ≡ true).
    let w : bit_or r (2 ^ c) ≡ s =
    bits_ext k (bit_or r (2 ^ c)) s (or_lt k r (2 ^ c) hr (pow-lt hc)) hs (λ i l.
    has_or r (2 ^ c) i ∙ rw (has_pow c i, has-without k s c i hs hc)
    (⊎_elim (λ (q : i ≡ c). rw (eq-eqb i c q) (rw q (sym t))) (λ q. rw (ne_eqb i c q) (or-false (has s i))) (eq_or i c))) in
    let v : with r c ≡ r + 2 ^ c = with_new r c here in
    rw t (let e = sym (or_with r c) ∙ w in omega arith))
    (λ (t : has s c ≡ false).
    rw t (bits_ext k r s hr hs (λ i l.
    has-without k s c i hs hc
    ∙ ⊎_elim (λ (q : i ≡ c). rw (eq-eqb i c q) (rw q (sym t))) (λ q. rw (ne_eqb i c q) refl) (eq_or i c))))
    (true_or (has s c))

-- and they are sets of k bits
pub with-low : (k s c : ℕ) → s < 2 ^ k → c < k → with s c < 2 ^ k
with-low k s c hs hc = rw (← or_with s c) (or_lt k s (2 ^ c) hs (pow-lt hc))

pub without-low : (k s c : ℕ) → s < 2 ^ k → without s c < 2 ^ k
unfolding without
without-low k s c hs = ⊎_elim (λ t. rw t (omega arith)) (λ t. rw t hs) (true_or (has s c))

-- who is in a set with c, and in a set without it
pub in_with : (s c i : ℕ) → has (with s c) i ≡ (has s i || eqb i c)
in_with s c i = rw (← or_with s c) (has_or s (2 ^ c) i ∙ ap (λ (t : Bool). has s i || t) (has_pow c i))

below_pow : (k : ℕ) → k < 2 ^ k
below_pow zero = lit< tt
below_pow (suc k) = let i = below_pow k in let p = pow-succ' 2 k in omega arith

pub in_without : (s c i : ℕ) → has (without s c) i ≡ (not (eqb i c) && has s i)
in_without s c i =
    let k = s + c + 1 in
    let hs : s < 2 ^ k = lt_of_lt_of_le (below_pow s) (pow_mono (omega arith)) in
    let hc : c < k = omega arith in
    rw (← and_without k s c hs hc) (has-without k s c i hs hc)
