-- What a search over places finds: a place that passes and that no other beats, or none where none passes.
-- Assumes nothing.
use Prim.Native.Nat.{ℕ, zero, suc, ◌+◌, ◌≤◌, ◌<◌}
use mathlib.Core.Path.{◌≡◌, refl, sym, ◌∙◌}
use mathlib.Core.Logic.{⊎_elim, ◌⊎◌, inl, inr}
use mathlib.Core.Bool.{Bool, true, false, cond, ◌&&◌, ◌||◌, false≢true, true≢false}
use native.Mathlib.Numerals.{add-one}
use native.Mathlib.Omega.{arith}
use lib.Dec.{eqb}
use borrow.Author.Tests.{eq-eqb, ne_eqb, eqb-false, eqb-true}
use Rattle.laws.specs.Search.{best, first}
use Rattle.laws.proofs.Choice.{true_or, eq_or, and_left, and_right, or_second, lt_or, or_either}

module _ (test : ℕ → Bool) (beats : ℕ → ℕ → Bool) (none : ℕ) where
  pub best_wins : (k b : ℕ) → b ≡ best test beats none k → (test k && (eqb b none || beats k b)) ≡ true → k ≡ best test beats none (k + 1)
  unfolding best
  best_wins k b e t = rw (add-one k, ← e, t)

  pub best_stays : (k b : ℕ) → b ≡ best test beats none k → (test k && (eqb b none || beats k b)) ≡ false → b ≡ best test beats none (k + 1)
  unfolding best
  best_stays k b e t = rw (add-one k, ← e, t)

pub cond_ext : (a a' : Bool) (x y y' : ℕ) → a ≡ a' → y ≡ y' → cond a x y ≡ cond a' x y'
cond_ext a a' x y y' e f = rw (e, f)

-- what was found is a place that passed
pub best_in : (test : ℕ → Bool) (beats : ℕ → ℕ → Bool) (none n : ℕ) → (best test beats none n ≡ none) ⊎ ((best test beats none n < n) × (test (best test beats none n) ≡ true))
unfolding best
best_in test beats none zero = inl refl
best_in test beats none (suc n) =
    ⊎_elim
    (λ t. rw t (inr (omega arith, and_left (test n) _ t)))
    (λ t. rw t (⊎_elim inl (λ w. inr (omega (arith, w.0), w.1)) (best_in test beats none n)))
    (true_or (test n && (eqb (best test beats none n) none || beats n (best test beats none n))))

pub best_all : (test : ℕ → Bool) (beats : ℕ → ℕ → Bool) (n : ℕ) → n ≤ best test beats n n → best test beats n n ≡ n
best_all test beats n h = ⊎_elim (λ e. e) (λ w. absurd (omega (arith, w.0))) (best_in test beats n n)

pub best-some : (test : ℕ → Bool) (beats : ℕ → ℕ → Bool) (n : ℕ) → best test beats n n < n → test (best test beats n n) ≡ true
best-some test beats n h = ⊎_elim (λ e. absurd (omega (arith, e))) (λ w. w.1) (best_in test beats n n)

-- two searches whose tests agree find the same
pub best_ext : (test test' : ℕ → Bool) (beats beats' : ℕ → ℕ → Bool) (none n : ℕ) → ((k : ℕ) → k < n → test k ≡ test' k)
    → ((j k : ℕ) → j < n → k < n → test j ≡ true → test k ≡ true → beats j k ≡ beats' j k)
    → best test beats none n ≡ best test' beats' none n
unfolding best
best_ext test test' beats beats' none zero h g = refl
best_ext test test' beats beats' none (suc n) h g =
    let e = best_ext test test' beats beats' none n (λ k l. h k (omega arith)) (λ j k a b. g j k (omega arith) (omega arith)) in
    cond_ext
    (test n && (eqb (best test beats none n) none || beats n (best test beats none n)))
    (test' n && (eqb (best test' beats' none n) none || beats' n (best test' beats' none n)))
    n
    (best test beats none n)
    (best test' beats' none n)
    (rw (← e, ← h n (omega arith))
    (⊎_elim
    (λ (t : test n ≡ true). ⊎_elim
    (λ (z : best test beats none n ≡ none). rw (eq-eqb (best test beats none n) none z))
    (λ (w : (best test beats none n < n) × (test (best test beats none n) ≡ true)).
    let q : beats n (best test beats none n) ≡ beats' n (best test beats none n) = g n (best test beats none n) (omega arith) (omega (arith, w.0)) t w.1 in
    rw q)
    (best_in test beats none n))
    (λ (t : test n ≡ false). rw t)
    (true_or (test n))))
    e

lost : (a b d : Bool) → a ≡ true → (a && (b || d)) ≡ false → (b ≡ false) × (d ≡ false)
lost true true d e w = absurd (true≢false w)
lost true false d e w = (refl, w)
lost false b d e w = absurd (false≢true e)

-- what was found is beaten by no place that passes, where beating is an order
module _ (test : ℕ → Bool) (beats : ℕ → ℕ → Bool) (none : ℕ) (irr : (k : ℕ) → beats k k ≡ false)
    (trans : (i j k : ℕ) → beats i j ≡ true → beats j k ≡ true → beats i k ≡ true) where
  pub best_right : (n : ℕ) → n ≤ none → (k : ℕ) → k < n → test k ≡ true → (best test beats none n ≡ none → ⊥) × (beats k (best test beats none n) ≡ false)
  unfolding best
  best_right zero l k h t = absurd (omega arith)
  best_right (suc n) l k h t =
      let b = best test beats none n in
      ⊎_elim
      (λ (w : (test n && (eqb b none || beats n b)) ≡ true). rw w (
        λ z. omega arith,
        ⊎_elim
            (λ (q : k ≡ n). rw q (irr n))
            (λ (q : k ≡ n → ⊥).
            let ih = best_right n (omega arith) k (omega (arith, q)) t in
            ⊎_elim
            (λ (x : beats k n ≡ true). absurd (true≢false (sym (trans k n b x (or_second (eqb b none) (beats n b) (ne_eqb b none ih.0) (and_right (test n) _ w))) ∙ ih.1)))
            (λ x. x)
            (true_or (beats k n)))
            (eq_or k n),
      ))
      (λ (w : (test n && (eqb b none || beats n b)) ≡ false). rw w
      (⊎_elim
      (λ (q : k ≡ n). let p = lost (test n) (eqb b none) (beats n b) (rw q at t) w in (eqb-false b none p.0, rw q p.1))
      (λ (q : k ≡ n → ⊥). best_right n (omega arith) k (omega (arith, q)) t)
      (eq_or k n)))
      (true_or (test n && (eqb b none || beats n b)))

-- nothing was found: no place passes
pub best-empty : (test : ℕ → Bool) (beats : ℕ → ℕ → Bool) (none n : ℕ) → n ≤ none → best test beats none n ≡ none → (k : ℕ) → k < n → test k ≡ false
unfolding best
best-empty test beats none zero l e k h = absurd (omega arith)
best-empty test beats none (suc n) l e k h =
    let b = best test beats none n in
    ⊎_elim
    (λ (w : (test n && (eqb b none || beats n b)) ≡ true). absurd (let z : n ≡ none = sym (rw w refl) ∙ e in omega arith))
    (λ (w : (test n && (eqb b none || beats n b)) ≡ false).
    let z : b ≡ none = sym (rw w refl) ∙ e in
    ⊎_elim
    (λ (q : k ≡ n). rw q (⊎_elim (λ t. absurd (true≢false (sym (eq-eqb b none z) ∙ (lost (test n) (eqb b none) (beats n b) t w).0))) (λ t. t) (true_or (test n))))
    (λ (q : k ≡ n → ⊥). best-empty test beats none n (omega arith) z k (omega (arith, q)))
    (eq_or k n))
    (true_or (test n && (eqb b none || beats n b)))

-- the same, where the outcome of the search is not below n
pub best_none : (test : ℕ → Bool) (beats : ℕ → ℕ → Bool) (n : ℕ) → n ≤ best test beats n n → (k : ℕ) → k < n → test k ≡ false
best_none test beats n h = best-empty test beats n n (omega arith) (best_all test beats n h)

pub first_le : (test : ℕ → Bool) (n : ℕ) → first test n ≤ n
unfolding first
first_le test zero = omega arith
first_le test (suc n) = let i = first_le (λ k. test (suc k)) n in ⊎_elim (λ t. rw t (omega arith)) (λ t. rw t (omega arith)) (true_or (test 0))

pub first-before : (test : ℕ → Bool) (n k : ℕ) → k < first test n → test k ≡ false
unfolding first
first-before test zero k h = absurd (omega arith)
first-before test (suc n) zero h =
    ⊎_elim (λ (t : test 0 ≡ true). absurd (let z : first test (suc n) ≡ 0 = rw t in omega arith)) (λ t. t) (true_or (test 0))
first-before test (suc n) (suc k) h =
    ⊎_elim
    (λ (t : test 0 ≡ true). absurd (let z : first test (suc n) ≡ 0 = rw t in omega arith))
    (λ (t : test 0 ≡ false). first-before (λ j. test (suc j)) n k (let z : first test (suc n) ≡ suc (first (λ j. test (suc j)) n) = rw t in omega arith))
    (true_or (test 0))

pub first-here : (test : ℕ → Bool) (n : ℕ) → first test n < n → test (first test n) ≡ true
unfolding first
first-here test zero h = absurd (omega arith)
first-here test (suc n) h =
    ⊎_elim
    (λ (t : test 0 ≡ true). rw t t)
    (λ (t : test 0 ≡ false). rw t (first-here (λ j. test (suc j)) n (let z : first test (suc n) ≡ suc (first (λ j. test (suc j)) n) = rw t in omega arith)))
    (true_or (test 0))

-- where no place beats another, the first that passes is found
pub best-first : (test : ℕ → Bool) (none n : ℕ) → n ≤ none → (k : ℕ) → k < n → k < best test (λ i j. false) none n → test k ≡ false
unfolding best
best-first test none zero l k h m = absurd (omega arith)
best-first test none (suc n) l k h m =
    let b = best test (λ i j. false) none n in
    ⊎_elim
    (λ (w : (test n && (eqb b none || false)) ≡ true).
    let z : b ≡ none = ⊎_elim (λ t. eqb-true b none t) (λ t. absurd (true≢false (sym t))) (or_either (eqb b none) false (and_right (test n) _ w)) in
    best-empty test (λ i j. false) none n (omega arith) z k (let y : best test (λ i j. false) none (suc n) ≡ n = rw w in omega arith))
    (λ (w : (test n && (eqb b none || false)) ≡ false).
    let y : best test (λ i j. false) none (suc n) ≡ b = rw w in
    ⊎_elim
    (λ (q : k < n). best-first test none n (omega arith) k q (omega arith))
    (λ (q : n ≤ k). ⊎_elim
    (λ (e : b ≡ none). let kn : k ≡ n = omega arith in rw kn (best-empty test (λ i j. false) none (suc n) l (y ∙ e) n (omega arith)))
    (λ e. absurd (omega (arith, e.0)))
    (best_in test (λ i j. false) none n))
    (lt_or k n))
    (true_or (test n && (eqb b none || false)))

-- and only one number is the first that passes
pub first_is : (test : ℕ → Bool) (n r : ℕ) → r ≤ n → ((k : ℕ) → k < r → test k ≡ false) → (r < n → test r ≡ true) → r ≡ first test n
first_is test n r h before here =
    let l = first_le test n in
    ⊎_elim
    (λ (a : r < first test n). absurd (true≢false (sym (here (omega arith)) ∙ first-before test n r a)))
    (λ (a : first test n ≤ r). ⊎_elim
    (λ (b : first test n < r). absurd (true≢false (sym (first-here test n (omega arith)) ∙ before (first test n) b)))
    (λ (b : r ≤ first test n). omega arith)
    (lt_or (first test n) r))
    (lt_or r (first test n))

module _ (test : ℕ → Bool) (beats : ℕ → ℕ → Bool) (none : ℕ) where
  -- where no place passes, nothing is found
  pub best-nothing : (n : ℕ) → ((k : ℕ) → k < n → test k ≡ false) → best test beats none n ≡ none
  best-nothing n h = ⊎_elim (λ e. e) (λ w. absurd (true≢false (sym w.1 ∙ h _ w.0))) (best_in test beats none n)

  -- places that do not pass may be left out at the end of a search
  pub best_cut : (m n : ℕ) → m ≤ n → ((k : ℕ) → m ≤ k → k < n → test k ≡ false) → best test beats none n ≡ best test beats none m
  unfolding best
  best_cut m zero l h = let e : m ≡ zero = omega arith in rw e
  best_cut m (suc n) l h =
      ⊎_elim
      (λ (q : m ≡ suc n). rw q)
      (λ (q : m ≡ suc n → ⊥). rw (h n (omega (arith, q)) (omega arith)) (best_cut m n (omega (arith, q)) (λ k a b. h k a (omega arith))))
      (eq_or m (suc n))

  -- what was found stays found past places that do not beat it
  pub best_on : (m n b : ℕ) → m ≤ n → b ≡ best test beats none m → ((k : ℕ) → m ≤ k → k < n → (test k && (eqb b none || beats k b)) ≡ false) → b ≡ best test beats none n
  unfolding best
  best_on m zero b l e h = let q : m ≡ zero = omega arith in rw q at e
  best_on m (suc n) b l e h =
      ⊎_elim
      (λ (q : m ≡ suc n). rw q at e)
      (λ (q : m ≡ suc n → ⊥). rw add-one at (best_stays test beats none n b (best_on m n b (omega (arith, q)) e (λ k a c. h k a (omega arith))) (h n (omega (arith, q)) (omega arith))))
      (eq_or m (suc n))

module _ (test : ℕ → Bool) where
  -- a place that passes, where none before it does, is the first
  pub first_found : (none n k : ℕ) → n ≤ none → k < n → ((j : ℕ) → j < k → test j ≡ false) → test k ≡ true → best test (λ i j. false) none n ≡ k
  unfolding best
  first_found none zero k l h b t = absurd (omega arith)
  first_found none (suc n) k l h b t =
      ⊎_elim
      (λ (q : k ≡ n).
      let e = best-nothing test (λ i j. false) none n (λ j z. b j (omega arith)) in
      let s : test n ≡ true = rw q at t in
      rw (e, s, eq-eqb none none refl) (sym q))
      (λ (q : k ≡ n → ⊥).
      let e = first_found none n k (omega arith) (omega (arith, q)) b t in
      rw (e, ne_eqb k none (λ z. omega arith)) (⊎_elim (λ s. rw s) (λ s. rw s) (true_or (test n))))
      (eq_or k n)

  -- a search in which no place beats another finds the first that passes
  pub best_is_first : (n : ℕ) → best test (λ i j. false) n n ≡ first test n
  best_is_first n =
      let le = first_le test n in
      ⊎_elim
      (λ z. first_found n n (first test n) (omega arith) z (first-before test n) (first-here test n z))
      (λ z. best-nothing test (λ i j. false) n n (λ k h. first-before test n k (omega arith)) ∙ omega arith)
      (lt_or (first test n) n)

  -- where every place from m on passes, that search may stop there and take m
  pub first_cut : (m n : ℕ) → m ≤ n → ((k : ℕ) → m ≤ k → k < n → test k ≡ true) → best test (λ i j. false) n n ≡ best test (λ i j. false) m m
  first_cut m n l h =
      let le = first_le test m in
      best_is_first n
      ∙ sym (first_is test n (first test m) (omega arith) (first-before test m) (λ z. ⊎_elim (first-here test m) (λ w. h (first test m) w z) (lt_or (first test m) m)))
      ∙ sym (best_is_first m)

-- two searches whose tests agree find the same
pub first_ext : (test test' : ℕ → Bool) (n : ℕ) → ((k : ℕ) → test k ≡ test' k) → first test n ≡ first test' n
unfolding first
first_ext test test' zero h = refl
first_ext test test' (suc n) h = rw (h 0, first_ext (λ k. test (suc k)) (λ k. test' (suc k)) n (λ k. h (suc k)))

-- A search that goes on from a place that beats what was found to the next that does: all before `next` are passed, and `next` beats what was found, or is n.
module _ (test : ℕ → Bool) (beats : ℕ → ℕ → Bool) (none n : ℕ) where
  pub record Leap (found next : ℕ) : Type 0 where
    pub within : next ≤ n
    pub so_far : found ≡ best test beats none next
    pub wins : next < n → (test next && (eqb found none || beats next found)) ≡ true

  -- at first nothing is found, and the first that passes is next
  pub leap_starts : {next : ℕ} → next ≡ first test n → Leap none next
  leap_starts {next} e =
      record {
        within = rw e (first_le test n);
        so_far = sym (best-nothing test beats none next (λ k h. first-before test n k (omega arith)));
        wins = λ h. rw (eq-eqb none none refl, e) (rw (first-here test n (omega arith)));
      }

  -- what was next is found, and none before the new one beats it
  pub leap_on : {found next new : ℕ} → Leap found next → next < n → next < new → new ≤ n → ((k : ℕ) → next < k → k < new → (test k && (eqb next none || beats k next)) ≡ false)
      → (new < n → (test new && (eqb next none || beats new next)) ≡ true) → Leap next new
  leap_on {found} {next} {new} s h l w f t =
      record {
        within = w;
        so_far = best_on test beats none (next + 1) new next (omega arith) (best_wins test beats none next found s.so_far (s.wins h)) (λ k a b. f k (omega arith) b);
        wins = t;
      }

  pub leap_ends : {found next : ℕ} → Leap found next → n ≤ next → found ≡ best test beats none n
  leap_ends {found} {next} s h = let w = s.within in let e : next ≡ n = omega arith in rw e at s.so_far
