-- What the least over places is: a bound of all that pass, taken by one of them.
-- Assumes nothing.
use Prim.Native.Nat.{ℕ, zero, suc, ◌+◌, ◌≤◌, ◌<◌}
use mathlib.Core.Path.{◌≡◌, refl, sym, ◌∙◌}
use mathlib.Core.Logic.{⊎_elim, ◌⊎◌, inl, inr}
use mathlib.Core.Bool.{Bool, true, false, cond, ◌&&◌}
use native.Mathlib.Numerals.{add-one}
use native.Mathlib.Omega.{arith}
use lib.Dec.{ltb}
use borrow.Author.Tests.{lt-ltb, le-ltb, ltb-true, ltb-false}
use Rattle.laws.specs.Search.{least}
use Rattle.laws.proofs.Choice.{true_or, eq_or, and_left, and_right}

module _ (test : ℕ → Bool) (f : ℕ → ℕ) (most : ℕ) where
  -- no place that passes is below it, nor is `most`
  pub least-low : (n : ℕ) → (least test f most n ≤ most) × ((k : ℕ) → k < n → test k ≡ true → least test f most n ≤ f k)
  unfolding least
  least-low zero = (omega arith, λ k h t. absurd (omega arith))
  least-low (suc n) =
      let l = least test f most n in
      let i = least-low n in
      ⊎_elim
      (λ (w : (test n && ltb (f n) l) ≡ true).
      let z = ltb-true (f n) l (and_right (test n) _ w) in
      rw w (
        omega (arith, i.0),
        λ k h t. ⊎_elim (λ (q : k ≡ n). rw q (omega arith)) (λ (q : k ≡ n → ⊥). let y = i.1 k (omega (arith, q)) t in omega arith) (eq_or k n),
      ))
      (λ (w : (test n && ltb (f n) l) ≡ false). rw w (
        i.0,
        λ k h t. ⊎_elim
            (λ (q : k ≡ n). let u : test n ≡ true = rw q at t in rw q (ltb-false (f n) l (rw u at w)))
            (λ (q : k ≡ n → ⊥). i.1 k (omega (arith, q)) t)
            (eq_or k n),
      ))
      (true_or (test n && ltb (f n) l))

  -- a scan's turn: what a place counts for, and the lesser of that and what was found
  pub least-turn : (k b d : ℕ) {r : ℕ} → b ≡ least test f most k → d ≡ cond (test k) (f k) most → ((d < b) × (r ≡ d)) ⊎ ((b ≤ d) × (r ≡ b)) → r ≡ least test f most (k + 1)
  unfolding least
  least-turn k b d e g w =
      let m = (least-low k).0 in
      ⊎_elim
      (λ (t : test k ≡ true).
      let q : d ≡ f k = rw t at g in
      rw (add-one k, t, ← e, ← q) (⊎_elim (λ (x : (d < b) × _). rw (lt-ltb d b x.0) x.1) (λ (x : (b ≤ d) × _). rw (le-ltb d b x.0) x.1) w))
      (λ (t : test k ≡ false).
      let q : d ≡ most = rw t at g in
      rw (add-one k, t, ← e) (⊎_elim (λ (x : (d < b) × _). absurd (omega (arith, x.0))) (λ (x : (b ≤ d) × _). x.1) w))
      (true_or (test k))

  -- it is `most`, or that of a place that passes
  pub least_taken : (n : ℕ) → (least test f most n ≡ most) ⊎ ((k : ℕ) × (k < n) × (test k ≡ true) × (f k ≡ least test f most n))
  unfolding least
  least_taken zero = inl refl
  least_taken (suc n) =
      ⊎_elim
      (λ w. rw w (inr (n, omega arith, and_left (test n) _ w, refl)))
      (λ w. rw w (⊎_elim inl (λ (z : (k : ℕ) × (k < n) × (test k ≡ true) × (f k ≡ least test f most n)). inr (z.0, omega (arith, z.1), z.2, z.3)) (least_taken n)))
      (true_or (test n && ltb (f n) (least test f most n)))

  -- places that do not pass may be left out at the end
  pub least_cut : (m n : ℕ) → m ≤ n → ((k : ℕ) → m ≤ k → k < n → test k ≡ false) → least test f most n ≡ least test f most m
  unfolding least
  least_cut m zero l h = let e : m ≡ zero = omega arith in rw e
  least_cut m (suc n) l h =
      ⊎_elim
      (λ (q : m ≡ suc n). rw q)
      (λ (q : m ≡ suc n → ⊥). rw (h n (omega (arith, q)) (omega arith)) (least_cut m n (omega (arith, q)) (λ k a b. h k a (omega arith))))
      (eq_or m (suc n))

-- two whose tests and values agree are the same
pub least_ext : (test test' : ℕ → Bool) (f f' : ℕ → ℕ) (most n : ℕ) → ((k : ℕ) → k < n → test k ≡ test' k) → ((k : ℕ) → k < n → test k ≡ true → f k ≡ f' k) → least test f most n ≡ least test' f' most n
unfolding least
least_ext test test' f f' most zero h g = refl
least_ext test test' f f' most (suc n) h g =
    let e = least_ext test test' f f' most n (λ k l. h k (omega arith)) (λ k l. g k (omega arith)) in
    ⊎_elim
    (λ (t : test n ≡ true). let t' : test' n ≡ true = sym (h n (omega arith)) ∙ t in rw (t, t', e, g n (omega arith) t))
    (λ (t : test n ≡ false). let t' : test' n ≡ false = sym (h n (omega arith)) ∙ t in rw (t, t') e)
    (true_or (test n))
