-- The pigeonhole, for any numbers of things and places: things at places that are all different are no more than the places.
-- Assumes nothing.
use Prim.Native.Nat.{ℕ, zero, suc, ◌≤◌, ◌<◌, zero-le, suc-le-suc}
use mathlib.Core.Path.{◌≡◌, refl, ap, sym, ◌∙◌}
use mathlib.Core.Logic.{⊎_elim}
use mathlib.Core.Bool.{cond}
use mathlib.Core.List.{List}
use native.Mathlib.Omega.{arith}
use lib.ListN.{get_or}
use lib.Dec.{eqb, ltb}
use borrow.Author.Tests.{eq-eqb, ne_eqb, eqb-true, ltb-true, ltb-false}
use Rattle.laws.proofs.Choice.{true_or, eq_or}

-- g with the place m taken out: what was there stands at p
moved : (ℕ → ℕ) → ℕ → ℕ → ℕ → ℕ
moved g m p j = cond (eqb (g j) m) p (g j)

moved_at : (g : ℕ → ℕ) (m p j : ℕ) → g j ≡ m → moved g m p j ≡ p
unfolding moved
moved_at g m p j e = rw (eq-eqb (g j) m e)

moved_off : (g : ℕ → ℕ) (m p j : ℕ) → (g j ≡ m → ⊥) → moved g m p j ≡ g j
unfolding moved
moved_off g m p j e = rw (ne_eqb (g j) m e)

pub pigeon : (n m : ℕ) (g : ℕ → ℕ) → ((j : ℕ) → j < n → g j < m) → ((i j : ℕ) → i < n → j < n → g i ≡ g j → i ≡ j) → n ≤ m
pigeon zero m g low inj = zero-le
pigeon (suc n) zero g low inj = absurd (let h = low n (omega arith) in omega arith)
pigeon (suc n) (suc m) g low inj = suc-le-suc (pigeon n m (moved g m (g n)) low' inj')
  where
    low' : (j : ℕ) → j < n → moved g m (g n) j < m
    low' j h =
        let hj = low j (omega arith) in
        let hn = low n (omega arith) in
        ⊎_elim
        (λ e. rw (moved_at g m (g n) j e) (⊎_elim (λ f. let z = inj j n (omega arith) (omega arith) (e ∙ sym f) in absurd (omega arith)) (λ f. omega (arith, f)) (eq_or (g n) m)))
        (λ e. rw (moved_off g m (g n) j e) (omega (arith, e)))
        (eq_or (g j) m)

    inj' : (i j : ℕ) → i < n → j < n → moved g m (g n) i ≡ moved g m (g n) j → i ≡ j
    inj' i j hi hj q =
        ⊎_elim
        (λ a. ⊎_elim
        (λ b. inj i j (omega arith) (omega arith) (a ∙ sym b))
        (λ b. let z = inj n j (omega arith) (omega arith) (sym (moved_at g m (g n) i a) ∙ q ∙ moved_off g m (g n) j b) in absurd (omega arith))
        (eq_or (g j) m))
        (λ a. ⊎_elim
        (λ b. let z = inj i n (omega arith) (omega arith) (sym (moved_off g m (g n) i a) ∙ q ∙ moved_at g m (g n) j b) in absurd (omega arith))
        (λ b. inj i j (omega arith) (omega arith) (sym (moved_off g m (g n) i a) ∙ q ∙ moved_off g m (g n) j b))
        (eq_or (g j) m))
        (eq_or (g i) m)

-- the first place below n that holds x, and n where none does
place : List ℕ → ℕ → ℕ → ℕ
place ids x zero = 0
place ids x (suc n) = cond (ltb (place ids x n) n) (place ids x n) (cond (eqb (get_or ids n 0) x) n (suc n))

place_found : (ids : List ℕ) (x n : ℕ) → place ids x n < n → get_or ids (place ids x n) 0 ≡ x
unfolding place
place_found ids x zero h = absurd (omega arith)
place_found ids x (suc n) h =
    ⊎_elim
    (λ q. rw q (place_found ids x n (ltb-true (place ids x n) n q)))
    (λ q. rw q
    (⊎_elim
    (λ r. rw r (eqb-true (get_or ids n 0) x r))
    (λ r. absurd (let l : place ids x (suc n) ≡ suc n = rw q (rw r refl) in omega arith))
    (true_or (eqb (get_or ids n 0) x))))
    (true_or (ltb (place ids x n) n))

place-low : (ids : List ℕ) (x n k : ℕ) → k < n → get_or ids k 0 ≡ x → place ids x n < n
unfolding place
place-low ids x zero k h e = absurd (omega arith)
place-low ids x (suc n) k h e =
    ⊎_elim
    (λ q. rw q (let l = ltb-true (place ids x n) n q in omega arith))
    (λ q. rw q
    (⊎_elim
    (λ (i : k ≡ n). rw (eq-eqb (get_or ids n 0) x (rw i at e)) (omega arith))
    (λ (i : k ≡ n → ⊥). absurd (let l = place-low ids x n k (omega (arith, i)) e in omega (arith, ltb-false (place ids x n) n q)))
    (eq_or k n)))
    (true_or (ltb (place ids x n) n))

-- t different ids that are all live in a table of n places are no more than n
pub crowd : (n t : ℕ) (ids : List ℕ) (f : ℕ → ℕ) → ((j : ℕ) → j < t → ((k : ℕ) × (k < n) × (get_or ids k 0 ≡ f j))) → ((i j : ℕ) → i < t → j < t → f i ≡ f j → i ≡ j) → t ≤ n
crowd n t ids f live inj =
    pigeon t n (λ j. place ids (f j) n)
    low
    (λ i j hi hj q. inj i j hi hj (sym (place_found ids (f i) n (low i hi)) ∙ ap (λ (k : ℕ). get_or ids k 0) q ∙ place_found ids (f j) n (low j hj)))
  where
    low : (j : ℕ) → j < t → place ids (f j) n < n
    low j h = place-low ids (f j) n (live j h).0 (live j h).1 (live j h).2
