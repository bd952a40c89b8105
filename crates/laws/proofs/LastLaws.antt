-- The last value along a list: what one element more makes of it, and what it is in plain words.
-- Assumes nothing.
use mathlib.Core.Path.{◌≡◌, refl, ap, sym, ◌∙◌}
use mathlib.Core.Logic.{⊎_elim, ◌⊎◌, inl, inr, ◌↔◌}
use mathlib.Core.Bool.{Bool, true, false, cond}
use mathlib.Core.Option.{Option, some, none, or_else, none-ne-some, some-ne-none, some-injective}
use mathlib.Core.List.Memᴰ
use mathlib.Core.List.{List, [], ◌∷◌, ◌++◌, Memᴰ}
use Rattle.laws.specs.Lists.{last_given, last_of, Silent, Last}
use Rattle.laws.proofs.Choice.{cond-first, cond_second}

module _ {B : Type 0} where
  else_nothing : (a : Option B) → or_else a none ≡ a
  unfolding or_else
  else_nothing none = refl
  else_nothing (some x) = refl

  else_else : (a b c : Option B) → or_else (or_else a b) c ≡ or_else a (or_else b c)
  unfolding or_else
  else_else none b c = refl
  else_else (some x) b c = refl

  neither : (a b : Option B) → or_else a b ≡ none → (a ≡ none) × (b ≡ none)
  unfolding or_else
  neither none b e = (refl, e)
  neither (some x) b e = absurd (some-ne-none x e)

module _ {A B : Type 0} (f : A → Option B) where
  -- of two lists, and of one element more
  pub last_append : (xs ys : List A) → last_given f (xs ++ ys) ≡ or_else (last_given f ys) (last_given f xs)
  unfolding last_given or_else
  last_append [] ys = sym (else_nothing (last_given f ys))
  last_append (x ∷ xs) ys = ap (λ (o : Option B). or_else o (f x)) (last_append xs ys) ∙ else_else (last_given f ys) (last_given f xs) (f x)

  pub last_more : (xs : List A) (x : A) → last_given f (xs ++ (x ∷ [])) ≡ or_else (f x) (last_given f xs)
  unfolding last_given or_else
  last_more xs x = last_append xs (x ∷ [])

  silent_last : (zs : List A) → Silent f zs → last_given f zs ≡ none
  unfolding last_given or_else
  silent_last [] h = refl
  silent_last (z ∷ zs) h = rw (silent_last zs (λ y m. h y (Memᴰ.tail m))) (h z (Memᴰ.head refl))

  last_silent : (zs : List A) → last_given f zs ≡ none → Silent f zs
  unfolding last_given
  last_silent [] e z m = absurd (Memᴰ.not-nil m)
  last_silent (y ∷ zs) e z m =
      let w = neither (last_given f zs) (f y) e in
      ⊎_elim (λ (q : z ≡ y). ap f q ∙ w.1) (λ (n : Memᴰ z zs). last_silent zs w.0 z n) (Memᴰ.cases_cons m)

  -- seen from one element before
  earlier : (x : A) (xs : List A) (b : B) (o : Option B) → last_given f xs ≡ o → (last_given f xs ≡ some b → Last f xs b) → or_else o (f x) ≡ some b → Last f (x ∷ xs) b
  unfolding or_else
  earlier x xs b none e i h = ([], x, xs, refl, h, last_silent xs e)
  earlier x xs b (some c) e i h = let w = i (e ∙ h) in (x ∷ w.0, w.1, w.2, ap (x ∷◌) w.3, w.4, w.5)

  found : (xs : List A) (b : B) → last_given f xs ≡ some b → Last f xs b
  unfolding last_given
  found [] b e = absurd (none-ne-some b e)
  found (x ∷ xs) b e = earlier x xs b (last_given f xs) refl (found xs b) e

  given : (ys : List A) (x : A) (zs : List A) (b : B) → f x ≡ some b → Silent f zs → last_given f (ys ++ x ∷ zs) ≡ some b
  unfolding last_given or_else
  given [] x zs b e n = rw (silent_last zs n) e
  given (y ∷ ys) x zs b e n = rw (given ys x zs b e n) refl

  -- the last value is b exactly if an element gives it and nothing is given behind that; there is none exactly if nothing is given
  pub last_exactly : (xs : List A) (b : B) → (last_given f xs ≡ some b) ↔ Last f xs b
  last_exactly xs b = (found xs b, λ w. ap (last_given f) w.3 ∙ given w.0 w.1 w.2 b w.4 w.5)

  pub none_exactly : (xs : List A) → (last_given f xs ≡ none) ↔ Silent f xs
  none_exactly xs = (last_silent xs, silent_last xs)

module _ {A : Type 0} (p : A → Bool) where
  pub last_yes : (xs : List A) (x : A) → p x ≡ true → last_of p (xs ++ (x ∷ [])) ≡ some x
  unfolding or_else
  last_yes xs x t = last_more (λ y. cond (p y) (some y) none) xs x ∙ rw t refl

  pub last_no : (xs : List A) (x : A) → p x ≡ false → last_of p (xs ++ (x ∷ [])) ≡ last_of p xs
  unfolding or_else
  last_no xs x t = last_more (λ y. cond (p y) (some y) none) xs x ∙ rw t refl

  -- where x passes, the last that passes of a list with x in it is x or behind it
  pub last_behind : (xs : List A) (x : A) (ys : List A) (y : A) → p x ≡ true → last_of p (xs ++ x ∷ ys) ≡ some y → (last_of p ys ≡ some y) ⊎ (x ≡ y)
  unfolding last_given or_else
  last_behind xs x ys y t e = by (last_of p ys) (rw (last_append (λ z. cond (p z) (some z) none) xs (x ∷ ys), t) at e)
    where
      by : (o : Option A) → or_else (or_else o (some x)) (last_of p xs) ≡ some y → (o ≡ some y) ⊎ (x ≡ y)
      by none e = inr (some-injective x y e)
      by (some z) e = inl e

  -- the last that passes is x exactly if x passes and nothing behind it does
  pub last_of_exactly : (xs : List A) (x : A) → (last_of p xs ≡ some x) ↔ ((ys : List A) × (zs : List A) × (xs ≡ ys ++ x ∷ zs) × (p x ≡ true) × ((z : A) → Memᴰ z zs → p z ≡ false))
  last_of_exactly xs x = (
    λ e.
        let w = (last_exactly (λ y. cond (p y) (some y) none) xs x).0 e in
        let q = cond-first (p w.1) (some w.1) none (some x) (none-ne-some x) w.4 in
        let same : w.1 ≡ x = some-injective w.1 x q.1 in
        (w.0, w.2, rw same at w.3, rw same at q.0, λ z m. (cond_second (p z) (some z) none none (some-ne-none z) (w.5 z m)).0),
    λ w. (last_exactly (λ y. cond (p y) (some y) none) xs x).1 (w.0, x, w.1, w.2, rw w.3 refl, λ z m. rw (w.4 z m) refl),
  )
