-- How many places pass a test, and sums over places.
-- Assumes nothing.
use Prim.Native.Nat.{ℕ, zero, suc, ◌+◌, ◌≤◌, ◌<◌}
use mathlib.Core.Path.{◌≡◌, refl, ap, sym, ◌∙◌}
use mathlib.Core.Logic.{⊎_elim}
use mathlib.Core.Bool.{Bool, true, false, cond, not, ◌||◌}
use native.Mathlib.Numerals.{add-one}
use native.Mathlib.Omega.{arith}
use Rattle.laws.specs.Search.{count, total}
use Rattle.laws.proofs.Choice.{true_or, eq_or}

pub count_le : (test : ℕ → Bool) (n : ℕ) → count test n ≤ n
unfolding count
count_le test zero = omega arith
count_le test (suc n) = let i = count_le test n in ⊎_elim (λ t. rw t (omega arith)) (λ t. rw t (omega arith)) (true_or (test n))

pub count_more : (test : ℕ → Bool) (n : ℕ) → count test (n + 1) ≡ cond (test n) 1 0 + count test n
unfolding count
count_more test n = rw (add-one n)

pub count_ext : (test test' : ℕ → Bool) (n : ℕ) → ((j : ℕ) → j < n → test' j ≡ test j) → count test' n ≡ count test n
unfolding count
count_ext test test' zero h = refl
count_ext test test' (suc n) h = rw (h n (omega arith), count_ext test test' n (λ j l. h j (omega arith)))

pub count_none : (test : ℕ → Bool) (n : ℕ) → ((j : ℕ) → j < n → test j ≡ false) → count test n ≡ 0
unfolding count
count_none test zero h = refl
count_none test (suc n) h = let e = count_none test n (λ j l. h j (omega arith)) in rw (h n (omega arith)) (omega arith)

pub count_all : (test : ℕ → Bool) (n : ℕ) → ((j : ℕ) → j < n → test j ≡ true) → count test n ≡ n
unfolding count
count_all test zero h = refl
count_all test (suc n) h = let e = count_all test n (λ j l. h j (omega arith)) in rw (h n (omega arith)) (omega arith)

pub count_mono : (test test' : ℕ → Bool) (n : ℕ) → ((j : ℕ) → test j ≡ true → test' j ≡ true) → count test n ≤ count test' n
unfolding count
count_mono test test' zero h = omega arith
count_mono test test' (suc n) h =
    let i = count_mono test test' n h in
    ⊎_elim (λ t. rw t (rw (h n t) (omega arith))) (λ t. rw t (omega arith)) (true_or (test n))

-- places that do not pass may be left out at the end
pub count_cut : (test : ℕ → Bool) (m n : ℕ) → m ≤ n → ((k : ℕ) → m ≤ k → k < n → test k ≡ false) → count test n ≡ count test m
unfolding count
count_cut test m zero l h = let e : m ≡ zero = omega arith in rw e
count_cut test m (suc n) l h =
    ⊎_elim
    (λ (q : m ≡ suc n). rw q)
    (λ (q : m ≡ suc n → ⊥). let i = count_cut test m n (omega (arith, q)) (λ k a b. h k a (omega arith)) in rw (h n (omega (arith, q)) (omega arith)) (omega arith))
    (eq_or m (suc n))

pub count-split : (test : ℕ → Bool) (a n : ℕ) → count test (a + n) ≡ count test a + count (λ j. test (a + j)) n
unfolding count
count-split test a zero = let e : a + 0 ≡ a = omega arith in rw e (omega arith)
count-split test a (suc n) = let e : a + suc n ≡ suc (a + n) = omega arith in let i = count-split test a n in rw e (omega arith)

pub count-not : (test : ℕ → Bool) (n : ℕ) → count test n + count (λ j. not (test j)) n ≡ n
unfolding count
count-not test zero = omega arith
count-not test (suc n) = let i = count-not test n in ⊎_elim (λ t. rw t (omega arith)) (λ t. rw t (omega arith)) (true_or (test n))

one_of : (a b : Bool) → cond (a || b) 1 0 ≤ cond a 1 0 + cond b 1 0
one_of true b = omega arith
one_of false b = omega arith

pub count_or : (p q : ℕ → Bool) (n : ℕ) → count (λ j. p j || q j) n ≤ count p n + count q n
unfolding count
count_or p q zero = omega arith
count_or p q (suc n) = let i = count_or p q n in let j = one_of (p n) (q n) in omega arith

-- one at most passes
pub count_one : (test : ℕ → Bool) (n : ℕ) → ((i j : ℕ) → i < n → j < n → test i ≡ true → test j ≡ true → i ≡ j) → count test n ≤ 1
unfolding count
count_one test zero h = omega arith
count_one test (suc n) h =
    ⊎_elim
    (λ (t : test n ≡ true).
    let z = count_none test n (λ j l. ⊎_elim (λ (s : test j ≡ true). absurd (let q = h j n (omega arith) (omega arith) s t in omega arith)) (λ s. s) (true_or (test j))) in
    rw t (omega arith))
    (λ (t : test n ≡ false). let i = count_one test n (λ i j a b. h i j (omega arith) (omega arith)) in rw t (omega arith))
    (true_or (test n))

-- one place that passed does not any more
pub count-drop : (test test' : ℕ → Bool) (n k : ℕ) → k < n → test k ≡ true → test' k ≡ false → ((j : ℕ) → (j ≡ k → ⊥) → test' j ≡ test j) → count test' n + 1 ≡ count test n
unfolding count
count-drop test test' zero k h t f o = absurd (omega arith)
count-drop test test' (suc n) k h t f o =
    ⊎_elim
    (λ (q : k ≡ n). let e = count_ext test test' n (λ j l. o j (λ z. omega arith)) in
    let tn : test n ≡ true = rw q at t in
    let fn : test' n ≡ false = rw q at f in
    rw (tn, fn) (omega arith))
    (λ (q : k ≡ n → ⊥). let e = count-drop test test' n k (omega (arith, q)) t f o in rw (o n (λ z. q (sym z))) (omega arith))
    (eq_or k n)

pub total_ext : (f g : ℕ → ℕ) (n : ℕ) → ((k : ℕ) → k < n → f k ≡ g k) → total f n ≡ total g n
unfolding total
total_ext f g zero h = refl
total_ext f g (suc n) h = rw (h n (omega arith), total_ext f g n (λ k l. h k (omega arith)))

pub total-zero : (n : ℕ) → total (λ k. 0) n ≡ 0
unfolding total
total-zero zero = refl
total-zero (suc n) = let i = total-zero n in omega arith

pub total-count : (p : ℕ → Bool) (f : ℕ → ℕ) (n : ℕ) → total (λ k. cond (p k) 1 0 + f k) n ≡ count p n + total f n
unfolding total count
total-count p f zero = omega arith
total-count p f (suc n) = let i = total-count p f n in omega arith

pub count-some : (test : ℕ → Bool) (n k : ℕ) → k < n → test k ≡ true → 1 ≤ count test n
unfolding count
count-some test zero k h t = absurd (omega arith)
count-some test (suc n) k h t =
    ⊎_elim
    (λ (z : k ≡ n). let e : test n ≡ true = rw z at t in rw e (omega arith))
    (λ (z : k ≡ n → ⊥). let i = count-some test n k (omega (arith, z)) t in omega arith)
    (eq_or k n)

pub at_most_one : (t : Bool) → cond t 1 0 ≤ 1
at_most_one true = omega arith
at_most_one false = omega arith

-- no place passes where none is counted
pub count-zero : (test : ℕ → Bool) (n k : ℕ) → count test n ≡ 0 → k < n → test k ≡ false
unfolding count
count-zero test zero k h l = absurd (omega arith)
count-zero test (suc n) k h l =
    ⊎_elim
    (λ (t : test n ≡ true). absurd (let z : count test (suc n) ≡ 1 + count test n = rw t in omega arith))
    (λ (t : test n ≡ false). ⊎_elim
    (λ (q : k ≡ n). ap test q ∙ t)
    (λ (q : k ≡ n → ⊥). count-zero test n k (let z : count test (suc n) ≡ 0 + count test n = rw t in omega arith) (omega (arith, q)))
    (eq_or k n))
    (true_or (test n))
