-- Stores in a row, and lists whose elements are below a bound.
-- Assumes nothing.
use Prim.Native.Nat.{ℕ, zero, suc, ◌+◌, ◌≤◌, ◌<◌}
use mathlib.Core.Path.{◌≡◌, refl, ap, sym, ◌∙◌}
use mathlib.Core.Logic.{⊎_elim, ◌⊎◌, inl, inr}
use mathlib.Core.Bool.{true}
use mathlib.Core.List.{List, [], ◌∷◌}
use native.Mathlib.Omega.{arith}
use lib.ListN.{length, get_or, set, take, drop, take-append-drop, length-set}
use lib.Seq.{sets, get_or-set_same, get_or-set_other, set_comm}
use lib.Dec.{ltb}
use borrow.Author.Tests.{lt-ltb, ltb-true}
use Rattle.laws.specs.Digits.{below}
use Rattle.laws.proofs.Choice.{eq_or, and_left, and_right}
use Rattle.laws.proofs.DigitLaws.{below_split}

module _ {A : Type 0} where
  -- elsewhere nothing changed
  pub sets_out : (ws l : List A) (k i : ℕ) (d : A) → (i < k) ⊎ (k + length ws ≤ i) → get_or (sets l k ws) i d ≡ get_or l i d
  sets_out [] l k i d h = refl
  sets_out (a ∷ ws) l k i d h =
      sets_out ws (set l k a) (suc k) i d (⊎_elim (λ b. inl (omega arith)) (λ b. inr (omega arith)) h)
      ∙ get_or-set_other l k i a d (⊎_elim (λ b z. omega arith) (λ b z. omega arith) h)

  -- and what was stored is there
  pub sets_in : (ws l : List A) (k j : ℕ) (d : A) → j < length ws → k + length ws ≤ length l → get_or (sets l k ws) (k + j) d ≡ get_or ws j d
  sets_in [] l k j d h r = absurd (omega arith)
  sets_in (a ∷ ws) l k zero d h r =
      let e : k + 0 ≡ k = omega arith in
      rw e (sets_out ws (set l k a) (suc k) k d (inl (omega arith)) ∙ get_or-set_same l k a d (omega arith))
  sets_in (a ∷ ws) l k (suc j) d h r =
      let e : k + suc j ≡ suc k + j = omega arith in
      rw e (sets_in ws (set l k a) (suc k) j d (omega arith) (rw (length-set l k a) (omega arith)))

  -- a store before them may come first
  pub set-sets : (ws l : List A) (k i : ℕ) (a : A) → i < k → set (sets l k ws) i a ≡ sets (set l i a) k ws
  set-sets [] l k i a h = refl
  set-sets (w ∷ ws) l k i a h = set-sets ws (set l k w) (suc k) i a (omega arith) ∙ rw (set_comm l k i w a (λ z. omega arith))

module _ (b : ℕ) where
  pub below_at : (ds : List ℕ) (i : ℕ) → below b ds ≡ true → i < length ds → get_or ds i 0 < b
  unfolding below
  below_at [] i t h = absurd (omega arith)
  below_at (d ∷ ds) zero t h = ltb-true d b (and_left (ltb d b) (below b ds) t)
  below_at (d ∷ ds) (suc i) t h = below_at ds i (and_right (ltb d b) (below b ds) t) (omega arith)

  pub below-take : (n : ℕ) (ds : List ℕ) → below b ds ≡ true → below b (take n ds) ≡ true
  below-take n ds t =
      and_left (below b (take n ds)) (below b (drop n ds)) (sym (below_split b (take n ds) (drop n ds)) ∙ ap (below b) (take-append-drop n ds) ∙ t)

  pub below-drop : (n : ℕ) (ds : List ℕ) → below b ds ≡ true → below b (drop n ds) ≡ true
  below-drop n ds t =
      and_right (below b (take n ds)) (below b (drop n ds)) (sym (below_split b (take n ds) (drop n ds)) ∙ ap (below b) (take-append-drop n ds) ∙ t)

  below_set : (ds : List ℕ) (k a : ℕ) → below b ds ≡ true → a < b → below b (set ds k a) ≡ true
  unfolding below
  below_set [] k a t h = refl
  below_set (d ∷ ds) zero a t h = rw (lt-ltb a b h) (and_right (ltb d b) (below b ds) t)
  below_set (d ∷ ds) (suc k) a t h = rw (and_left (ltb d b) (below b ds) t) (below_set ds k a (and_right (ltb d b) (below b ds) t) h)

  pub below-sets : (ws ds : List ℕ) (k : ℕ) → below b ds ≡ true → below b ws ≡ true → below b (sets ds k ws) ≡ true
  unfolding below
  below-sets [] ds k t s = t
  below-sets (w ∷ ws) ds k t s =
      below-sets ws (set ds k w) (suc k) (below_set ds k w t (ltb-true w b (and_left (ltb w b) (below b ws) s))) (and_right (ltb w b) (below b ws) s)

-- what holds of the new element and of every other one holds of every element after a store
pub set_each : (P : ℕ → ℕ → Type 0) (l : List ℕ) (i v : ℕ) → i < length l → P i v → ((k : ℕ) → (k ≡ i → ⊥) → P k (get_or l k 0)) → (k : ℕ) → P k (get_or (set l i v) k 0)
set_each P l i v h here other k =
    ⊎_elim
    (λ (q : k ≡ i). rw (q, get_or-set_same l i v 0 h) here)
    (λ (q : k ≡ i → ⊥). rw (get_or-set_other l i k v 0 q) (other k q))
    (eq_or k i)
