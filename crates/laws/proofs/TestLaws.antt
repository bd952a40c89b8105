-- Tests that hold, or fail, exactly where a fact does.
-- Assumes nothing.
use Prim.Native.Nat.{ℕ, ◌+◌, ◌-◌, ◌≤◌}
use mathlib.Core.Path.{◌≡◌, refl}
use mathlib.Core.Logic.{◌↔◌, ⊎_elim, ◌⊎◌, inl, inr}
use mathlib.Core.Bool.{Bool, true, false, not, ◌&&◌, ◌||◌, false≢true, true≢false}
use native.Mathlib.Omega.{arith}
use lib.Dec.{eqb, ltb}
use borrow.Author.Tests.{lt-ltb, ltb-true, ltb-false, le-ltb, eqb-true, eqb-false, eq-eqb, ne_eqb, not-false, not-true}
use Rattle.laws.proofs.Choice.{same_test, and_left, and_right, or_left, or_right}

-- a test holds exactly where two numbers are equal
pub holds_eq : (a b : ℕ) → (eqb a b ≡ true) ↔ (a ≡ b)
holds_eq a b = (eqb-true a b, eq-eqb a b)

-- where another test fails, where both of two hold, where one does
pub holds_not : (t : Bool) → (not t ≡ true) ↔ (t ≡ false)
holds_not t = (not-true t, λ e. rw e)

pub holds_and : {P Q : Type 0} (s t : Bool) → (s ≡ true) ↔ P → (t ≡ true) ↔ Q → ((s && t) ≡ true) ↔ (P × Q)
holds_and s t p q = (λ e. (p.0 (and_left s t e), q.0 (and_right s t e)), λ w. rw (p.1 w.0) (q.1 w.1))

pub holds_or : {P Q : Type 0} (s t : Bool) → (s ≡ true) ↔ P → (t ≡ true) ↔ Q → ((s || t) ≡ true) ↔ (P ⊎ Q)
holds_or true t p q = (λ e. inl (p.0 refl), λ w. refl)
holds_or false t p q = (λ e. inr (q.0 e), λ w. ⊎_elim (λ x. absurd (false≢true (p.1 x))) (λ y. q.1 y) w)

-- a test that always holds
pub holds_always : (true ≡ true) ↔ Unit {0}
holds_always = (λ e. tt, λ u. refl)

-- a test fails exactly where another holds, where two numbers are equal, where one is not below the other, where a number is not 0
pub fails_not : {P : Type 0} (t : Bool) → (t ≡ true) ↔ P → (not t ≡ false) ↔ P
fails_not t p = (λ e. p.0 (not-false t e), λ w. rw (p.1 w))

pub fails_ne : (a b : ℕ) → (not (eqb a b) ≡ false) ↔ (a ≡ b)
fails_ne a b = fails_not (eqb a b) (holds_eq a b)

pub fails_lt : (a b : ℕ) → (ltb a b ≡ false) ↔ (b ≤ a)
fails_lt a b = (ltb-false a b, le-ltb a b)

pub fails_zero : (n : ℕ) → (eqb n 0 ≡ false) ↔ (1 ≤ n)
fails_zero n = (λ e. let z = eqb-false n 0 e in omega (arith, z), λ h. ne_eqb n 0 (λ z. omega arith))

-- of both
pub fails_or : {P Q : Type 0} (s t : Bool) → (s ≡ false) ↔ P → (t ≡ false) ↔ Q → ((s || t) ≡ false) ↔ (P × Q)
fails_or s t p q = (λ e. (p.0 (or_left s t e), q.0 (or_right s t e)), λ w. rw (p.1 w.0) (q.1 w.1))

-- a test that never holds
pub fails_never : (false ≡ false) ↔ Unit {0}
fails_never = (λ e. tt, λ u. refl)

-- where a test fails exactly where a fact does, the fact holds or not, and where it does not the test holds
pub either : {P : Type 0} {t : Bool} → (t ≡ false) ↔ P → P ⊎ (P → ⊥)
either {t = true} w = inr (λ x. true≢false (w.1 x))
either {t = false} w = inl (w.0 refl)

pub fails_holds : {P : Type 0} {t : Bool} → (t ≡ false) ↔ P → (P → ⊥) → t ≡ true
fails_holds {t = true} w n = refl
fails_holds {t = false} w n = absurd (n (w.0 refl))

-- one less on both sides leaves two numbers equal or unequal
pub eqb_less : (n m : ℕ) → (n ≡ 0 → ⊥) → eqb n (m + 1) ≡ eqb (n - 1) m
eqb_less n m h = same_test _ _ (λ t. let e = eqb-true n (m + 1) t in eq-eqb (n - 1) m (omega arith)) (λ t. let e = eqb-true (n - 1) m t in eq-eqb n (m + 1) (omega (arith, h)))

-- and in their order
pub ltb_less : (n m : ℕ) → (n ≡ 0 → ⊥) → (m ≡ 0 → ⊥) → ltb n m ≡ ltb (n - 1) (m - 1)
ltb_less n m h k = same_test _ _ (λ t. let e = ltb-true n m t in lt-ltb (n - 1) (m - 1) (omega (arith, h))) (λ t. let e = ltb-true (n - 1) (m - 1) t in lt-ltb n m (omega (arith, h, k)))
