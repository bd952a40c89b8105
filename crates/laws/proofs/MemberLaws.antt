-- The members of a list and their places.
-- Assumes nothing.
use Prim.Native.Nat.{ℕ, zero, suc, ◌+◌, ◌≤◌, ◌<◌}
use mathlib.Core.Path.{◌≡◌, refl}
use mathlib.Core.Logic.{⊎_elim, ◌⊎◌, inl, inr}
use mathlib.Core.Bool.{Bool, true, false, cond}
use mathlib.Core.List.{List, [], ◌∷◌, Memᴰ}
use native.Mathlib.Omega.{arith}
use lib.ListN.{length, get_or}
use Rattle.laws.specs.Lists.{filter}
use Rattle.laws.proofs.Choice.{true_or}
use Rattle.laws.proofs.FilterLaws.{filter-yes, filter_no}

module _ {A : Type 0} where
  -- what a list has stands at a place of it
  pub mem-place : (x d : A) (xs : List A) → Memᴰ x xs → (k : ℕ) × (k < length xs) × (x ≡ get_or xs k d)
  mem-place x d [] m = absurd (mathlib.Core.List.Memᴰ.not-nil m)
  mem-place x d (y ∷ xs) m =
      ⊎_elim
      (λ (e : x ≡ y). (0, omega arith, e))
      (λ (n : Memᴰ x xs). let r = mem-place x d xs n in (suc r.0, omega (arith, r.1), r.2))
      (mathlib.Core.List.Memᴰ.cases_cons m)

  -- and what stands at a place is in the list
  pub place-mem : (xs : List A) (k : ℕ) (d : A) → k < length xs → Memᴰ (get_or xs k d) xs
  place-mem [] k d h = absurd (omega arith)
  place-mem (y ∷ xs) zero d h = mathlib.Core.List.Memᴰ.head refl
  place-mem (y ∷ xs) (suc k) d h = mathlib.Core.List.Memᴰ.tail (place-mem xs k d (omega arith))

  -- what one of two lists has, by a test
  pub mem-cond : (x : A) (t : Bool) (xs ys : List A) → Memᴰ x (cond t xs ys) → ((t ≡ true) × Memᴰ x xs) ⊎ ((t ≡ false) × Memᴰ x ys)
  mem-cond x true xs ys m = inl (refl, m)
  mem-cond x false xs ys m = inr (refl, m)

  -- where two tests never both hold, those that pass either are no more than there are
  pub filter_two : (p q : A → Bool) (xs : List A) → ((x : A) → p x ≡ true → q x ≡ false) → length (filter p xs) + length (filter q xs) ≤ length xs
  unfolding filter
  filter_two p q [] h = omega arith
  filter_two p q (x ∷ xs) h =
      let i = filter_two p q xs h in
      ⊎_elim
      (λ (t : p x ≡ true). rw (filter-yes p x xs t, filter_no q x xs (h x t)) (omega arith))
      (λ (t : p x ≡ false). rw (filter_no p x xs t)
      (⊎_elim (λ (s : q x ≡ true). rw (filter-yes q x xs s) (omega arith)) (λ (s : q x ≡ false). rw (filter_no q x xs s) (omega arith)) (true_or (q x))))
      (true_or (p x))
