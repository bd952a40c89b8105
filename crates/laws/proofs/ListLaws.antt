-- Lists made by a rule, the fronts of lists, and what holds of each element with those before it.
-- Assumes nothing.
use Prim.Native.Nat.{ℕ, zero, suc, ◌+◌, ◌-◌, ◌≤◌, ◌<◌}
use mathlib.Core.Path.{◌≡◌, refl, ap, sym, ◌∙◌, subst₂}
use mathlib.Core.Logic.{⊎_elim, ◌⊎◌, inl, inr}
use mathlib.Core.List.{List, [], ◌∷◌, ◌++◌, map, map-append, flat_map, append_assoc, append-nil}
use native.Mathlib.Numerals.{add-one}
use native.Mathlib.Omega.{arith}
use lib.ListN.{length, get_or, set, take, drop, replicate, length-append, length-replicate, get_or-replicate, replicate-append-replicate, get_or-append, get_or-eq_default}
use lib.Seq.{set_at, set-append_left, get_or_at, take-append_seam, drop-append_seam, set-append_seam, ext_get_or}
use Rattle.laws.specs.Lists.{tab}
use Rattle.laws.proofs.Choice.{eq_or, lt_or, never}

module _ {A : Type 0} where
  pub tab_ext : (n : ℕ) (f g : ℕ → A) → ((j : ℕ) → j < n → f j ≡ g j) → tab n f ≡ tab n g
  unfolding tab
  tab_ext zero f g h = refl
  tab_ext (suc n) f g h = rw (tab_ext n f g (λ j l. h j (omega arith)), h n (omega arith))

  pub tab_more : (n : ℕ) (f : ℕ → A) → tab (n + 1) f ≡ tab n f ++ (f n ∷ [])
  unfolding tab
  tab_more n f = rw (add-one n)

  pub length-tab : (n : ℕ) (f : ℕ → A) → length (tab n f) ≡ n
  unfolding tab
  length-tab zero f = refl
  length-tab (suc n) f = omega (arith, length-append (tab n f) (f n ∷ []), length-tab n f)

  pub get_d_tab : (n : ℕ) (f : ℕ → A) (k : ℕ) (d : A) → k < n → get_or (tab n f) k d ≡ f k
  unfolding tab
  get_d_tab zero f k d h = absurd (omega arith)
  get_d_tab (suc n) f k d h =
      ⊎_elim
      (λ (q : k ≡ n). rw q (get_or_at (tab n f) (f n) [] d n (length-tab n f)))
      (λ (q : k ≡ n → ⊥). get_or-append (tab n f) (f n ∷ []) d k (omega (arith, length-tab n f, q)) ∙ get_d_tab n f k d (omega (arith, q)))
      (eq_or k n)

  -- two rules that differ at one place give lists that differ there
  pub tab-set : (n p : ℕ) (f g : ℕ → A) (v : A) → p < n → g p ≡ v → ((k : ℕ) → k < n → (k ≡ p → ⊥) → g k ≡ f k) → tab n g ≡ set (tab n f) p v
  unfolding tab
  tab-set zero p f g v h e o = absurd (omega arith)
  tab-set (suc n) p f g v h e o =
      ⊎_elim
      (λ (q : p ≡ n).
      tab_ext n g f (λ j l. o j (omega arith) (λ z. omega arith)) ⊢ q)
      (λ (q : p ≡ n → ⊥).
      rw (tab-set n p f g v (omega (arith, q)) e (λ k l. o k (omega arith)), o n (omega arith) (λ z. q (sym z)), set-append_left (tab n f) (f n ∷ []) p v (omega (arith, length-tab n f, q))))
      (eq_or p n)
    where
      infixl 10 ◌⊢◌
      ◌⊢◌ : tab n g ≡ tab n f → p ≡ n → tab n g ++ (g n ∷ []) ≡ set (tab n f ++ (f n ∷ [])) p v
      ◌⊢◌ a q = rw (a, set_at (tab n f) (f n) [] v p (length-tab n f ∙ sym q), ← q, e)

pub map-tab : {A B : Type 0} (h : A → B) (n : ℕ) (f : ℕ → A) → map h (tab n f) ≡ tab n (λ i. h (f i))
unfolding tab
map-tab h zero f = refl
map-tab h (suc n) f = map-append h (tab n f) (f n ∷ []) ∙ rw (map-tab h n f)

-- parts of lists

module _ {A : Type 0} where
  -- the front of a list and what is behind it
  pub take_part : (n : ℕ) (l : List A) → take n l ++ drop (length (take n l)) l ≡ l
  take_part zero l = refl
  take_part (suc n) [] = refl
  take_part (suc n) (x ∷ xs) = ap (x ∷◌) (take_part n xs)

  -- a list that goes on to another is its front, and not longer
  pub front : (p q l : List A) → p ++ q ≡ l → take (length p) l ≡ p
  front p q l e = rw e at (take-append_seam p q)

  pub front_rest : (p q l : List A) → p ++ q ≡ l → p ++ drop (length p) l ≡ l
  front_rest p q l e = ap (p ++◌) (rw e at (drop-append_seam p q)) ∙ e

  pub front_length : (p q l : List A) → p ++ q ≡ l → length p ≤ length l
  front_length p q l e = omega (arith, length-append p q, ap length e)

-- a list is made of its elements
pub tab_get_d : {A : Type 0} (d : A) (l : List A) (n : ℕ) → length l ≡ n → tab n (λ k. get_or l k d) ≡ l
tab_get_d d l n e = ext_get_or d (tab n (λ k. get_or l k d)) l (length-tab n _ ∙ sym e) (λ i h. get_d_tab n _ i d (rw length-tab at h))

-- a list padded to n elements: the first of the padding is stored over
pub set-padded : {A : Type 0} (z v : A) (l : List A) (n : ℕ) → length l < n → set (l ++ replicate (n - length l) z) (length l) v ≡ (l ++ (v ∷ [])) ++ replicate (n - length (l ++ (v ∷ []))) z
set-padded z v l n h =
    let more : n - length l ≡ suc (n - suc (length l)) = omega arith in
    let size : length (l ++ (v ∷ [])) ≡ suc (length l) = omega (arith, length-append l (v ∷ [])) in
    rw (more, size, set-append_seam l z (replicate (n - suc (length l)) z) v, append_assoc l (v ∷ []) (replicate (n - suc (length l)) z))

-- the element of a mapped list
pub get_d_map : {A B : Type 0} (f : A → B) (l : List A) (k : ℕ) (d : A) (e : B) → k < length l → get_or (map f l) k e ≡ f (get_or l k d)
get_d_map f [] k d e h = absurd (omega arith)
get_d_map f (x ∷ l) zero d e h = refl
get_d_map f (x ∷ l) (suc k) d e h = get_d_map f l k d e (omega arith)

-- zeros behind a list change no element
pub get_d_zeros : (m : ℕ) (l : List ℕ) (k : ℕ) → get_or (l ++ replicate m 0) k 0 ≡ get_or l k 0
get_d_zeros zero [] k = refl
get_d_zeros (suc m) [] zero = refl
get_d_zeros (suc m) [] (suc k) = get_d_zeros m [] k
get_d_zeros m (x ∷ l) zero = refl
get_d_zeros m (x ∷ l) (suc k) = get_d_zeros m l k

pub flat_map_append : {A B : Type 0} (f : A → List B) (xs ys : List A) → flat_map f (xs ++ ys) ≡ flat_map f xs ++ flat_map f ys
unfolding flat_map
flat_map_append f [] ys = refl
flat_map_append f (x ∷ xs) ys = rw (flat_map_append f xs ys) (sym (append_assoc (f x) (flat_map f xs) (flat_map f ys)))

-- one element more of a list made by a rule
pub flat_map_more : {A B : Type 0} (f : A → List B) (n : ℕ) (g : ℕ → A) → flat_map f (tab (n + 1) g) ≡ flat_map f (tab n g) ++ f (g n)
unfolding flat_map
flat_map_more f n g = rw (tab_more n g, flat_map_append f (tab n g) (g n ∷ []), append-nil (f (g n)))

-- a list of no elements
pub nothing : {A : Type 0} (l : List A) → length l ≡ 0 → l ≡ []
nothing [] e = refl
nothing (x ∷ l) e = absurd (omega arith)

-- repeats

module _ {A : Type 0} where
  -- a repeat has the same at every place
  pub get_d_repeat : (n k : ℕ) (a : A) → get_or (replicate n a) k a ≡ a
  get_d_repeat n k a = ⊎_elim (λ l. get_or-replicate n k a a l) (λ l. get_or-eq_default (replicate n a) a (rw (length-replicate n a) l)) (lt_or k n)

  -- a rule that gives the same everywhere makes a repeat
  pub tab_repeat : (n : ℕ) (a : A) → tab n (λ k. a) ≡ replicate n a
  unfolding tab
  tab_repeat zero a = refl
  tab_repeat (suc n) a = rw (tab_repeat n a) (replicate-append-replicate n 1 a ∙ rw (add-one n))

-- what holds of no elements, and with each element more, holds of every list
pub grown : {A : Type 0} (P : List A → Type 0) → P [] → ((xs : List A) (x : A) → P xs → P (xs ++ (x ∷ []))) → (xs : List A) → P xs
grown P start more xs = go [] xs start
  where
    go : (ys xs : List _) → P ys → P (ys ++ xs)
    go ys [] h = rw (append-nil ys) h
    go ys (x ∷ xs) h = rw (append_assoc ys (x ∷ []) xs) at (go (ys ++ (x ∷ [])) xs (more ys x h))

-- EACH ELEMENT OF A LIST, with those before it

-- Of a list that is split at two elements: the first stands before the second, they are one, or it stands behind it.
pub splits : {A : Type 0} (xs : List A) (a : A) (ys us : List A) (b : A) (ws : List A) → xs ++ a ∷ ys ≡ us ++ b ∷ ws
    → ((mid : List A) × (us ≡ xs ++ a ∷ mid) × (ys ≡ mid ++ b ∷ ws)) ⊎ (((xs ≡ us) × (a ≡ b)) ⊎ ((mid : List A) × (xs ≡ us ++ b ∷ mid) × (ws ≡ mid ++ a ∷ ys)))
splits [] a ys [] b ws e = inr (inl (refl, cc))
splits [] a ys (u ∷ us) b ws e = let h : u ≡ a = cc in inl (us, ap (◌∷ us) h, cc)
splits (x ∷ xs) a ys [] b ws e = let h : x ≡ b = cc in inr (inr (xs, ap (◌∷ xs) h, cc))
splits (x ∷ xs) a ys (u ∷ us) b ws e =
    let h : x ≡ u = cc in
    let t : xs ++ a ∷ ys ≡ us ++ b ∷ ws = cc in
    ⊎_elim
    (λ w. inl (w.0, ap (u ∷◌) w.1 ∙ ap (◌∷ (xs ++ a ∷ w.0)) (sym h), w.2))
    (λ v. inr (⊎_elim (λ w. inl (ap (x ∷◌) w.0 ∙ ap (◌∷ us) h, w.1)) (λ w. inr (w.0, ap (x ∷◌) w.1 ∙ ap (◌∷ (us ++ b ∷ w.0)) h, w.2)) v))
    (splits xs a ys us b ws t)

-- No elements are split at none; what holds of each element and those before it, and of one more, holds of each element of the longer list.
pub each_none : {A : Type 0} (mid : List A) (y : A) (rest : List A) → [] ≡ mid ++ y ∷ rest → ⊥
each_none [] y rest e = never (cc)
each_none (m ∷ ms) y rest e = never (cc)

pub each_more : {A : Type 0} (P : List A → A → Type 0) (xs : List A) (x : A) → ((mid : List A) (y : A) (rest : List A) → xs ≡ mid ++ y ∷ rest → P mid y) → P xs x
    → (mid : List A) (y : A) (rest : List A) → xs ++ (x ∷ []) ≡ mid ++ y ∷ rest → P mid y
each_more P xs x h p mid y rest e =
    ⊎_elim (λ w. absurd (each_none w.0 y rest w.2)) (⊎_elim (λ w. subst₂ P w.0 w.1 p) (λ w. h mid y w.0 w.1)) (splits xs x [] mid y rest e)
