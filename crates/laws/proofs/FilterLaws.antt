-- Lists filtered by a test.
-- Assumes nothing.
use Prim.Native.Nat.{ℕ, ◌+◌, ◌≤◌}
use mathlib.Core.Path.{◌≡◌, refl, ap, sym, ◌∙◌}
use mathlib.Core.Logic.{⊎_elim}
use mathlib.Core.Bool.{Bool, true, false, cond, not}
use mathlib.Core.List.{List, [], ◌∷◌, ◌++◌, map, Memᴰ, append-nil}
use native.Mathlib.Omega.{arith}
use lib.ListN.{length, length-append}
use Rattle.laws.specs.Lists.{filter}
use Rattle.laws.proofs.Choice.{true_or}
use Rattle.laws.specs.Search.{count, total}
use Rattle.laws.proofs.CountLaws.{total_ext, total-zero, total-count}

module _ {A : Type 0} where
  pub filter-yes : (p : A → Bool) (x : A) (xs : List A) → p x ≡ true → filter p (x ∷ xs) ≡ x ∷ filter p xs
  unfolding filter
  filter-yes p x xs t = rw t

  pub filter_no : (p : A → Bool) (x : A) (xs : List A) → p x ≡ false → filter p (x ∷ xs) ≡ filter p xs
  unfolding filter
  filter_no p x xs t = rw t

  pub filter_append : (p : A → Bool) (xs ys : List A) → filter p (xs ++ ys) ≡ filter p xs ++ filter p ys
  unfolding filter
  filter_append p [] ys = refl
  filter_append p (x ∷ xs) ys =
      ⊎_elim
      (λ t. filter-yes p x (xs ++ ys) t ∙ ap (x ∷◌) (filter_append p xs ys) ∙ ap (◌++ filter p ys) (sym (filter-yes p x xs t)))
      (λ t. filter_no p x (xs ++ ys) t ∙ filter_append p xs ys ∙ ap (◌++ filter p ys) (sym (filter_no p x xs t)))
      (true_or (p x))

  pub filter_none : (p : A → Bool) (xs : List A) → ((x : A) → Memᴰ x xs → p x ≡ false) → filter p xs ≡ []
  unfolding filter
  filter_none p [] h = refl
  filter_none p (x ∷ xs) h = filter_no p x xs (h x (mathlib.Core.List.Memᴰ.head refl)) ∙ filter_none p xs (λ y m. h y (mathlib.Core.List.Memᴰ.tail m))

  pub filter_in : (p : A → Bool) (x : A) (xs : List A) → Memᴰ x (filter p xs) → Memᴰ x xs × (p x ≡ true)
  unfolding filter
  filter_in p x [] m = absurd (mathlib.Core.List.Memᴰ.not-nil m)
  filter_in p x (y ∷ ys) m =
      ⊎_elim
      (λ (t : p y ≡ true). ⊎_elim
      (λ (e : x ≡ y). (mathlib.Core.List.Memᴰ.head e, ap p e ∙ t))
      (λ (n : Memᴰ x (filter p ys)). let i = filter_in p x ys n in (mathlib.Core.List.Memᴰ.tail i.0, i.1))
      (mathlib.Core.List.Memᴰ.cases_cons (rw (filter-yes p y ys t) at m)))
      (λ (t : p y ≡ false). let i = filter_in p x ys (rw (filter_no p y ys t) at m) in (mathlib.Core.List.Memᴰ.tail i.0, i.1))
      (true_or (p y))

  -- two filters, where the first takes out nothing that the second would keep
  pub filter_idle : (p q : A → Bool) (xs : List A) → ((x : A) → p x ≡ true → q x ≡ true) → filter p (filter q xs) ≡ filter p xs
  unfolding filter
  filter_idle p q [] h = refl
  filter_idle p q (x ∷ xs) h =
      ⊎_elim
      (λ (t : p x ≡ true). rw (filter-yes q x xs (h x t), filter-yes p x (filter q xs) t, filter-yes p x xs t, filter_idle p q xs h))
      (λ (t : p x ≡ false). rw (filter_no p x xs t)
      (⊎_elim
      (λ (s : q x ≡ true). rw (filter-yes q x xs s, filter_no p x (filter q xs) t) (filter_idle p q xs h))
      (λ (s : q x ≡ false). rw (filter_no q x xs s) (filter_idle p q xs h))
      (true_or (q x))))
      (true_or (p x))

  pub filter_swap : (p q : A → Bool) (xs : List A) → filter p (filter q xs) ≡ filter q (filter p xs)
  unfolding filter
  filter_swap p q [] = refl
  filter_swap p q (x ∷ xs) =
      ⊎_elim
      (λ (t : p x ≡ true). rw (filter-yes p x xs t)
      (⊎_elim
      (λ (s : q x ≡ true). rw (filter-yes q x xs s, filter-yes q x (filter p xs) s, filter-yes p x (filter q xs) t, filter_swap p q xs))
      (λ (s : q x ≡ false). rw (filter_no q x xs s, filter_no q x (filter p xs) s) (filter_swap p q xs))
      (true_or (q x))))
      (λ (t : p x ≡ false). rw (filter_no p x xs t)
      (⊎_elim
      (λ (s : q x ≡ true). rw (filter-yes q x xs s, filter_no p x (filter q xs) t) (filter_swap p q xs))
      (λ (s : q x ≡ false). rw (filter_no q x xs s) (filter_swap p q xs))
      (true_or (q x))))
      (true_or (p x))

  -- a filter and its opposite share a list out
  pub share : (q p : A → Bool) (xs : List A) → length (filter q (filter p xs)) + length (filter q (filter (λ x. not (p x)) xs)) ≡ length (filter q xs)
  unfolding filter
  share q p [] = omega arith
  share q p (x ∷ xs) =
      let i = share q p xs in
      ⊎_elim
      (λ (t : p x ≡ true). rw (filter-yes p x xs t, filter_no (λ y. not (p y)) x xs (rw t))
      (⊎_elim
      (λ (s : q x ≡ true). rw (filter-yes q x xs s, filter-yes q x (filter p xs) s) (omega arith))
      (λ (s : q x ≡ false). rw (filter_no q x xs s, filter_no q x (filter p xs) s) i)
      (true_or (q x))))
      (λ (t : p x ≡ false). rw (filter_no p x xs t, filter-yes (λ y. not (p y)) x xs (rw t))
      (⊎_elim
      (λ (s : q x ≡ true). rw (filter-yes q x xs s, filter-yes q x (filter (λ y. not (p y)) xs) s) (omega arith))
      (λ (s : q x ≡ false). rw (filter_no q x xs s, filter_no q x (filter (λ y. not (p y)) xs) s) i)
      (true_or (q x))))
      (true_or (p x))

pub map-filter : {A B : Type 0} (f : A → B) (p : B → Bool) (xs : List A) → filter p (map f xs) ≡ map f (filter (λ x. p (f x)) xs)
unfolding filter
map-filter f p [] = refl
map-filter f p (x ∷ xs) =
    ⊎_elim
    (λ (t : p (f x) ≡ true). filter-yes p (f x) (map f xs) t ∙ ap (f x ∷◌) (map-filter f p xs) ∙ ap (map f) (sym (filter-yes (λ y. p (f y)) x xs t)))
    (λ (t : p (f x) ≡ false). filter_no p (f x) (map f xs) t ∙ map-filter f p xs ∙ ap (map f) (sym (filter_no (λ y. p (f y)) x xs t)))
    (true_or (p (f x)))

pub filter_all : {A : Type 0} (xs : List A) → filter (λ x. true) xs ≡ xs
unfolding filter
filter_all [] = refl
filter_all (x ∷ xs) = ap (x ∷◌) (filter_all xs)

module _ {A : Type 0} where
  pub member_length : (x : A) (xs : List A) → Memᴰ x xs → 1 ≤ length xs
  member_length x [] m = absurd (mathlib.Core.List.Memᴰ.not-nil m)
  member_length x (y ∷ ys) m = omega arith

  pub filter_le : (p : A → Bool) (xs : List A) → length (filter p xs) ≤ length xs
  filter_le p xs = omega (arith, rw (filter_all (filter p xs), filter_all (filter (λ x. not (p x)) xs), filter_all xs) at (share (λ x. true) p xs))

  pub filter_snoc : (p : A → Bool) (xs : List A) (x : A) → p x ≡ true → filter p (xs ++ (x ∷ [])) ≡ filter p xs ++ (x ∷ [])
  unfolding filter
  filter_snoc p xs x t = filter_append p xs (x ∷ []) ∙ ap (filter p xs ++◌) (filter-yes p x [] t)

  pub filter_snoc_no : (p : A → Bool) (xs : List A) (x : A) → p x ≡ false → filter p (xs ++ (x ∷ [])) ≡ filter p xs
  unfolding filter
  filter_snoc_no p xs x t = filter_append p xs (x ∷ []) ∙ ap (filter p xs ++◌) (filter_no p x [] t) ∙ append-nil (filter p xs)

  pub filter-count : (p : A → Bool) (xs ys : List A) → length (filter p (xs ++ ys)) ≡ length (filter p xs) + length (filter p ys)
  filter-count p xs ys = ap length (filter_append p xs ys) ∙ length-append (filter p xs) (filter p ys)

  pub filter_cons : (p : A → Bool) (x : A) (xs : List A) → length (filter p (x ∷ xs)) ≡ cond (p x) 1 0 + length (filter p xs)
  filter_cons p x xs = ⊎_elim (λ t. rw (filter-yes p x xs t, t) (omega arith)) (λ t. rw (filter_no p x xs t, t) (omega arith)) (true_or (p x))

  pub filter_ext : (p q : A → Bool) (xs : List A) → ((x : A) → Memᴰ x xs → p x ≡ q x) → filter p xs ≡ filter q xs
  unfolding filter
  filter_ext p q [] h = refl
  filter_ext p q (x ∷ xs) h = rw (h x (mathlib.Core.List.Memᴰ.head refl), filter_ext p q xs (λ y m. h y (mathlib.Core.List.Memᴰ.tail m)))

  -- what passes is kept
  pub filter-keep : (p : A → Bool) (x : A) (xs : List A) → Memᴰ x xs → p x ≡ true → Memᴰ x (filter p xs)
  filter-keep p x [] m t = absurd (mathlib.Core.List.Memᴰ.not-nil m)
  filter-keep p x (y ∷ ys) m t =
      ⊎_elim
      (λ (e : x ≡ y). rw (filter-yes p y ys (sym (ap p e) ∙ t)) (mathlib.Core.List.Memᴰ.head e))
      (λ (n : Memᴰ x ys). ⊎_elim
      (λ (u : p y ≡ true). rw (filter-yes p y ys u) (mathlib.Core.List.Memᴰ.tail (filter-keep p x ys n t)))
      (λ (u : p y ≡ false). rw (filter_no p y ys u) (filter-keep p x ys n t))
      (true_or (p y)))
      (mathlib.Core.List.Memᴰ.cases_cons m)

  -- things, each of which passes the tests of exactly one of n places, share themselves out among the places
  pub share_out : (test : ℕ → A → Bool) (n : ℕ) (xs : List A) → ((x : A) → Memᴰ x xs → count (λ k. test k x) n ≡ 1) → total (λ k. length (filter (test k) xs)) n ≡ length xs
  unfolding filter
  share_out test n [] h = total-zero n
  share_out test n (x ∷ xs) h =
      total_ext _ _ n (λ k l. filter_cons (test k) x xs)
      ∙ total-count (λ k. test k x) (λ k. length (filter (test k) xs)) n
      ∙ (let i = share_out test n xs (λ y m. h y (mathlib.Core.List.Memᴰ.tail m)) in let o = h x (mathlib.Core.List.Memᴰ.head refl) in omega arith)
