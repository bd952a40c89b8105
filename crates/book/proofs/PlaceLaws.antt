-- What stands in the places after a change, and which ids are live there.
-- Assumes nothing.
use Prim.Native.Nat.{ℕ, zero, suc, ◌≤◌, ◌<◌}
use mathlib.Core.Path.{◌≡◌, refl, sym, ◌∙◌}
use mathlib.Core.Logic.{⊎_elim, ◌⊎◌, inl, inr}
use mathlib.Core.Bool.{true, false, false≢true, true≢false, or-true}
use mathlib.Core.Option
use mathlib.Core.Option.{Option, some, none, none-ne-some, some-injective, map-eq-some_iff}
use mathlib.Core.List.{List, [], ◌∷◌, map}
use native.Mathlib.Omega.{arith}
use lib.ListN.{length, get_or, set, replicate, get_or-map, get_or-eq_default}
use lib.Seq.{get_or-set_same, get_or-set_other}
use lib.Dec.{eqb}
use borrow.Author.Tests.{eq-eqb, eqb-true}
use Rattle.laws.specs.Search.{count}
use Rattle.laws.proofs.Choice.{eq_or, lt_or, or_either}
use Rattle.laws.proofs.CountLaws.{count_or, count_one, count_none}
use Rattle.book.specs.Book.{Live, has_id, live_in}

module _ {A : Type 0} where
  pub at_low : (l : List (Option A)) (k : ℕ) (e : A) → get_or l k none ≡ some e → k < length l
  at_low l k e h = ⊎_elim (λ z. z) (λ z. absurd (none-ne-some e (sym (get_or-eq_default l none z) ∙ h))) (lt_or k (length l))

  pub set_cases : (l : List (Option A)) (k : ℕ) (v : Option A) (j : ℕ) (e : A) → k < length l → get_or (set l k v) j none ≡ some e
      → ((j ≡ k) × (v ≡ some e)) ⊎ ((j ≡ k → ⊥) × (get_or l j none ≡ some e))
  set_cases l k v j e h q =
      ⊎_elim
      (λ (z : j ≡ k). inl (z, sym (get_or-set_same l k v none h) ∙ (rw z at q)))
      (λ (z : j ≡ k → ⊥). inr (z, sym (get_or-set_other l k j v none z) ∙ q))
      (eq_or j k)

  pub none_cases : (l : List (Option A)) (k j : ℕ) (e : A) → k < length l → get_or (set l k none) j none ≡ some e → (j ≡ k → ⊥) × (get_or l j none ≡ some e)
  none_cases l k j e h q = ⊎_elim (λ w. absurd (none-ne-some e w.1)) (λ w. w) (set_cases l k none j e h q)

  pub map_cases : (f : A → A) (l : List (Option A)) (k : ℕ) (e : A) → get_or (map (Option.map f) l) k none ≡ some e → (d : A) × (get_or l k none ≡ some d) × (f d ≡ e)
  map_cases f l k e h = (map-eq-some_iff f (get_or l k none)).0 (sym (get_or-map (Option.map f) l k none) ∙ h)

  pub nothing_there : (n k : ℕ) (e : A) → get_or (replicate n none) k none ≡ some e → ⊥
  nothing_there zero k e h = none-ne-some e h
  nothing_there (suc n) zero e h = none-ne-some e h
  nothing_there (suc n) (suc k) e h = nothing_there n k e h

  -- a fact of every entry, after one place, or every entry, changed
  module _ (Q : A → Type 0) (l : List (Option A)) where
    pub set_each : (k : ℕ) (v : A) → k < length l → Q v → ((j : ℕ) (e : A) → (j ≡ k → ⊥) → get_or l j none ≡ some e → Q e)
        → (j : ℕ) (e : A) → get_or (set l k (some v)) j none ≡ some e → Q e
    set_each k v h q a j e z = ⊎_elim (λ w. rw (some-injective v e w.1) at q) (λ w. a j e w.0 w.1) (set_cases l k (some v) j e h z)

    pub none_each : (k : ℕ) → k < length l → ((j : ℕ) (e : A) → (j ≡ k → ⊥) → get_or l j none ≡ some e → Q e) → (j : ℕ) (e : A) → get_or (set l k none) j none ≡ some e → Q e
    none_each k h a j e z = let w = none_cases l k j e h z in a j e w.0 w.1

    pub map_each : (f : A → A) → ((j : ℕ) (e : A) → get_or l j none ≡ some e → Q (f e)) → (j : ℕ) (e : A) → get_or (map (Option.map f) l) j none ≡ some e → Q e
    map_each f a j e z = let w = map_cases f l j e z in rw w.2 at (a j w.0 w.1)

module _ {W N : Type 0} where
  -- which ids are live

  pub live_here : (l : List (Option (Live W N))) (k : ℕ) (e : Live W N) (id : ℕ) → get_or l k none ≡ some e → e.id ≡ id → live_in l id ≡ true
  unfolding live_in
  live_here [] k e id h q = absurd (none-ne-some e h)
  live_here (o ∷ os) zero e id h q = rw (h, eq-eqb e.id id q)
  live_here (o ∷ os) (suc k) e id h q = rw (live_here os k e id h q) (or-true (has_id id o))

  pub live_where : (l : List (Option (Live W N))) (id : ℕ) → live_in l id ≡ true → (k : ℕ) × (e : Live W N) × (get_or l k none ≡ some e) × (e.id ≡ id)
  unfolding live_in
  live_where [] id h = absurd (false≢true h)
  live_where (none ∷ os) id h = let w = live_where os id h in (suc w.0, w.1, w.2, w.3)
  live_where (some e ∷ os) id h =
      ⊎_elim
      (λ t. (0, e, refl, eqb-true e.id id t))
      (λ t. let w = live_where os id t in (suc w.0, w.1, w.2, w.3))
      (or_either (eqb e.id id) (live_in os id) h)

  -- nothing stands under an id that is not live
  pub live_not : (l : List (Option (Live W N))) (k : ℕ) (e : Live W N) (id : ℕ) → live_in l id ≡ false → get_or l k none ≡ some e → e.id ≡ id → ⊥
  live_not l k e id f h q = true≢false (sym (live_here l k e id h q) ∙ f)

  -- a place changes, and has the id or not as before
  pub live_set : (l : List (Option (Live W N))) (k : ℕ) (v : Option (Live W N)) (id : ℕ) → has_id id v ≡ has_id id (get_or l k none) → live_in (set l k v) id ≡ live_in l id
  unfolding live_in
  live_set [] k v id h = refl
  live_set (o ∷ os) zero v id h = rw h
  live_set (o ∷ os) (suc k) v id h = rw (live_set os k v id h)

  pub live_less : (l : List (Option (Live W N))) (k id : ℕ) → k < length l → live_in (set l k none) id ≡ true → live_in l id ≡ true
  live_less l k id z h = let w = live_where (set l k none) id h in live_here l w.0 w.1 id (none_cases l k w.0 w.1 z w.2).1 w.3

  pub live_map : (f : Live W N → Live W N) (l : List (Option (Live W N))) (id : ℕ) → ((e : Live W N) → (f e).id ≡ e.id) → live_in (map (Option.map f) l) id ≡ live_in l id
  unfolding live_in
  live_map f [] id h = refl
  live_map f (none ∷ os) id h = live_map f os id h
  live_map f (some e ∷ os) id h = rw (h e, live_map f os id h)

  -- of different ids no more are live than there are places
  pub live_count : (l : List (Option (Live W N))) (f : ℕ → ℕ) (n : ℕ) → ((i j : ℕ) → i < n → j < n → f i ≡ f j → i ≡ j) → count (λ j. live_in l (f j)) n ≤ length l
  unfolding live_in
  live_count [] f n inj = let z = count_none (λ j. false) n (λ j h. refl) in omega arith
  live_count (none ∷ os) f n inj = let i = live_count os f n inj in omega arith
  live_count (some e ∷ os) f n inj =
      let i = live_count os f n inj in
      let a = count_or (λ j. eqb e.id (f j)) (λ j. live_in os (f j)) n in
      let b = count_one (λ j. eqb e.id (f j)) n (λ i j p q s t. inj i j p q (sym (eqb-true e.id (f i) s) ∙ eqb-true e.id (f j) t)) in
      omega arith

pub live_none : (W N : Type 0) (n id : ℕ) → live_in {W = W} {N = N} (replicate n none) id ≡ true → ⊥
live_none W N n id h = let w = live_where {W = W} {N = N} (replicate n none) id h in nothing_there n w.0 w.1 w.2
