-- What a scan of the places has found so far, turn by turn, and what it has found when it stops.
-- Assumes nothing.
use Prim.Native.Nat.{ℕ, ◌+◌, ◌≤◌, ◌<◌}
use mathlib.Core.Path.{◌≡◌, refl, sym, ◌∙◌}
use mathlib.Core.Logic.{⊎_elim}
use mathlib.Core.Bool.{Bool, true, false, ◌&&◌, ◌||◌}
use mathlib.Core.List.{List, [], ◌∷◌}
use native.Mathlib.Omega.{arith}
use lib.ListN.{get_or, length}
use lib.Dec.{eqb, ltb}
use borrow.Author.Tests.{lt-ltb, le-ltb, eq-eqb, leb-true}
use Rattle.numbers.specs.Numbers.{places}
use Rattle.std.specs.List.{position_or_len, position}
use Rattle.laws.specs.Search.{best, first}
use Rattle.laws.specs.Options.{place_or}
use Rattle.laws.proofs.Choice.{and_left, and_right, true_or, lt_or}
use Rattle.laws.proofs.SearchLaws.{best_wins, best_stays, best_on, best-nothing, first_found, first-before, first-here}
use Rattle.laws.proofs.SoonerLaws.{sooner_come}
use Rattle.table.specs.inner.Places.{is_taken, is_due, is_sooner}

-- k of n places are passed, and `found` is the best of them
pub record Scan (test : ℕ → Bool) (beats : ℕ → ℕ → Bool) (none n k found : ℕ) : Type 0 where
  pub within : k ≤ n
  pub so_far : found ≡ best test beats none k

module _ {test : ℕ → Bool} {beats : ℕ → ℕ → Bool} {none n : ℕ} where
  -- Before the first turn nothing is found.
  pub scan_starts : Scan test beats none n 0 none
  unfolding best
  scan_starts = record { within = omega arith; so_far = refl }

  -- A turn that takes the place.
  pub scan_takes : {k found r : ℕ} → Scan test beats none n k found → k < n → (test k && (eqb found none || beats k found)) ≡ true → r ≡ k → Scan test beats none n (k + 1) r
  scan_takes {k} {found} s h t e = record { within = omega arith; so_far = e ∙ best_wins test beats none k found s.so_far t }

  -- A turn that passes it by.
  pub scan_passes : {k found r : ℕ} → Scan test beats none n k found → k < n → (test k && (eqb found none || beats k found)) ≡ false → r ≡ found → Scan test beats none n (k + 1) r
  scan_passes {k} {found} s h t e = record { within = omega arith; so_far = e ∙ best_stays test beats none k found s.so_far t }

  -- After the last turn.
  pub scan_ends : {k found : ℕ} → Scan test beats none n k found → n ≤ k → found ≡ best test beats none n
  scan_ends {k} {found} s h = let w = s.within in let e : k ≡ n = omega arith in rw e at s.so_far

-- The first number of a list that passes is at the first place that passes.
first_place : (p : ℕ → Bool) (xs : List ℕ) → position_or_len p xs ≡ first (λ k. p (get_or xs k 0)) (length xs)
unfolding first
first_place p [] = refl
first_place p (x ∷ xs) = let i = first_place p xs in ⊎_elim (λ (t : p x ≡ true). rw t) (λ (t : p x ≡ false). rw t (omega arith)) (true_or (p x))

-- The place of the first number of a list that passes is the first of the places that pass.
pub found_place : (p : ℕ → Bool) (xs : List ℕ) (test : ℕ → Bool) (none n : ℕ) → n ≤ none → length xs ≡ n → ((k : ℕ) → k < n → p (get_or xs k 0) ≡ test k)
    → place_or none (position p xs) ≡ best test (λ i j. false) none n
found_place p xs test none n l long same =
    let t : ℕ → Bool = λ k. p (get_or xs k 0) in
    let e : position_or_len p xs ≡ first t n = rw long at (first_place p xs) in
    ⊎_elim
    (λ (q : first t n < n).
    let yes : ltb (first t n) n ≡ true = lt-ltb (first t n) n q in
    rw (e, long, yes)
    (sym (first_found test none n (first t n) l q (λ j h. sym (same j (omega arith)) ∙ first-before t n j h) (sym (same (first t n) q) ∙ first-here t n q))))
    (λ (q : n ≤ first t n).
    let no : ltb (first t n) n ≡ false = le-ltb (first t n) n q in
    rw (e, long, no) (sym (best-nothing test (λ i j. false) none n (λ j h. sym (same j h) ∙ first-before t n j (omega arith)))))
    (lt_or (first t n) n)

-- Beside a place that is due a sooner one is due.
pub place_due : (is ds : List ℕ) (time b : ℕ) → b < places → is_due is ds time b ≡ true → (j : ℕ) → (is_due is ds time j && (eqb b places || is_sooner is ds j b)) ≡ (is_taken is j && is_sooner is ds j b)
place_due is ds time b h t j = sooner_come (is_taken is) (λ j. get_or ds j 0) (λ j. get_or is j 0) time places b j (λ z. omega arith) (leb-true _ _ (and_right (is_taken is b) _ t))

-- `found` is a place that passes, and the best of those up to it
pub record Stands (test : ℕ → Bool) (beats : ℕ → ℕ → Bool) (none n found : ℕ) : Type 0 where
  pub within : found < n
  pub passes : test found ≡ true
  pub so_far : found ≡ best test beats none (found + 1)

module _ (test : ℕ → Bool) (beats : ℕ → ℕ → Bool) (none n : ℕ) where
  -- The first that passes stands.
  pub stands_first : (found : ℕ) → found ≡ first test n → found < n → Stands test beats none n found
  stands_first found e h =
      let p : test found ≡ true = rw e (first-here test n (omega arith)) in
      record {
        within = h;
        passes = p;
        so_far = best_wins test beats none found none (sym (best-nothing test beats none found (λ k l. first-before test n k (omega arith)))) (rw (p, eq-eqb none none refl));
      }

  module _ {found : ℕ} (s : Stands test beats none n found) where
    -- The next that beats it stands.
    pub stands_next : (next : ℕ) → found < next → next < n → ((k : ℕ) → found < k → k < next → (test k && (eqb found none || beats k found)) ≡ false)
        → (test next && (eqb found none || beats next found)) ≡ true → Stands test beats none n next
    stands_next next l h f t =
        record {
          within = h;
          passes = and_left (test next) _ t;
          so_far = best_wins test beats none next found (best_on test beats none (found + 1) next found (omega arith) s.so_far (λ k a b. f k (omega arith) b)) t;
        }

    -- Where none beats it, it is the best.
    pub stands_ends : ((k : ℕ) → found < k → k < n → (test k && (eqb found none || beats k found)) ≡ false) → found ≡ best test beats none n
    stands_ends f = let h = s.within in best_on test beats none (found + 1) n found (omega arith) s.so_far (λ k a b. f k (omega arith) b)
