-- Of two places that pass the sooner has the earlier f, or the same and the lower id: what a search for the soonest asks of a place once it has found one.
-- Assumes nothing.
use Prim.Native.Nat.{ℕ, ◌-◌, ◌≤◌, ◌<◌}
use mathlib.Core.Path.{◌≡◌, refl, sym, ◌∙◌}
use mathlib.Core.Logic.{⊎_elim}
use mathlib.Core.Bool.{Bool, true, false, ◌&&◌, ◌||◌, and-false, false≢true, true≢false}
use native.Mathlib.Omega.{arith}
use lib.Dec.{eqb, ltb, leb}
use borrow.Author.Tests.{lt-ltb, le-ltb, ltb-true, le-leb, lt-leb, leb-true, eq-eqb, ne_eqb, eqb-true}
use Rattle.laws.proofs.Choice.{eq_or, lt_or, and_left, or_left, or_right, or_either, same_test}

-- a test that another one needs may be left out beside it
spared : (a c e s : Bool) → e ≡ false → (s ≡ true → c ≡ true) → ((a && c) && (e || s)) ≡ (a && s)
spared false c e s n h = refl
spared true true true s n h = absurd (true≢false n)
spared true true false s n h = refl
spared true false e true n h = absurd (false≢true (h refl))
spared true false e false n h = refl

up_to : (m n : ℕ) → 0 < n → ltb m n ≡ leb m (n - 1)
up_to m n h = same_test _ _ (λ t. let z = ltb-true m n t in le-leb m (n - 1) (omega arith)) (λ t. let z = leb-true m (n - 1) t in lt-ltb m n (omega arith))

module _ (test : ℕ → Bool) (f id : ℕ → ℕ) where
  abbrev sooner : ℕ → ℕ → Bool
  sooner j k = ltb (f j) (f k) || (eqb (f j) (f k) && ltb (id j) (id k))

  sooner-before : (j k : ℕ) → sooner j k ≡ true → f j ≤ f k
  sooner-before j k t =
      ⊎_elim
      (λ (e : ltb (f j) (f k) ≡ true). let z = ltb-true (f j) (f k) e in omega arith)
      (λ (e : (eqb (f j) (f k) && ltb (id j) (id k)) ≡ true). let z = eqb-true (f j) (f k) (and_left _ _ e) in omega arith)
      (or_either (ltb (f j) (f k)) _ t)

  -- a place that is sooner than one that has come has come too
  pub sooner_come : (time none b j : ℕ) → (b ≡ none → ⊥) → f b ≤ time → ((test j && leb (f j) time) && (eqb b none || sooner j b)) ≡ (test j && sooner j b)
  sooner_come time none b j n h =
      spared (test j) (leb (f j) time) (eqb b none) (sooner j b) (ne_eqb b none n) (λ t. let z = sooner-before j b t in le-leb (f j) time (omega arith))

  -- one with a later f is not sooner
  pub later-not : (b j : ℕ) → f b < f j → (test j && sooner j b) ≡ false
  later-not b j h = rw (le-ltb (f j) (f b) (omega arith), ne_eqb (f j) (f b) (λ z. omega arith)) (and-false (test j))

  -- the same asked of f first
  pub sooner-by : (b j : ℕ) → 0 < id b → (test j && sooner j b) ≡ (leb (f j) (f b) && (test j && (ltb (f j) (f b) || leb (id j) (id b - 1))))
  sooner-by b j p =
      ⊎_elim
      (λ (l : f b < f j). later-not b j l ∙ sym (rw (lt-leb (f j) (f b) l)))
      (λ (l : f j ≤ f b). rw (le-leb (f j) (f b) l)
      (⊎_elim
      (λ (e : f j ≡ f b). rw (le-ltb (f j) (f b) (omega arith), eq-eqb (f j) (f b) e, up_to (id j) (id b) p))
      (λ (e : f j ≡ f b → ⊥). rw (lt-ltb (f j) (f b) (omega (arith, e))))
      (eq_or (f j) (f b))))
      (lt_or (f b) (f j))

  -- one that has neither an earlier f nor passes with an id below is not sooner
  pub higher_not : (b j : ℕ) → 0 < id b → (ltb (f j) (f b) || (test j && leb (id j) (id b - 1))) ≡ false → (test j && sooner j b) ≡ false
  higher_not b j p t = sooner-by b j p ∙ rw (or_left (ltb (f j) (f b)) _ t, or_right (ltb (f j) (f b)) _ t) (and-false (leb (f j) (f b)))
