-- Every test is true or false, two numbers are equal or not, and what the parts of a test say.
-- Assumes nothing.
use Prim.Native.Nat.{ℕ, ◌≤◌, ◌<◌}
use mathlib.Core.Path.{◌≡◌, refl}
use mathlib.Core.Logic.{⊎_elim, ◌⊎◌, inl, inr}
use mathlib.Core.Bool.{Bool, true, false, cond, ◌&&◌, ◌||◌, false≢true, true≢false}
use native.Mathlib.Omega.{arith}
use lib.Dec.{eqb, ltb}
use borrow.Author.Tests.{eqb-true, eqb-false, ltb-true, ltb-false}

pub true_or : (t : Bool) → (t ≡ true) ⊎ (t ≡ false)
true_or true = inl refl
true_or false = inr refl

pub eq_or : (a b : ℕ) → (a ≡ b) ⊎ (a ≡ b → ⊥)
eq_or a b = ⊎_elim (λ e. inl (eqb-true a b e)) (λ e. inr (eqb-false a b e)) (true_or (eqb a b))

pub lt_or : (a b : ℕ) → (a < b) ⊎ (b ≤ a)
lt_or a b = ⊎_elim (λ e. inl (ltb-true a b e)) (λ e. inr (ltb-false a b e)) (true_or (ltb a b))

pub and_left : (a b : Bool) → (a && b) ≡ true → a ≡ true
and_left true b t = refl
and_left false b t = t

pub and_right : (a b : Bool) → (a && b) ≡ true → b ≡ true
and_right true b t = t
and_right false b t = absurd (false≢true t)

-- where neither holds
pub or_left : (a b : Bool) → (a || b) ≡ false → a ≡ false
or_left true b e = absurd (true≢false e)
or_left false b e = refl

pub or_right : (a b : Bool) → (a || b) ≡ false → b ≡ false
or_right true b e = absurd (true≢false e)
or_right false b e = e

-- where none of four holds
pub or_four : (a b c d : Bool) → (((a || b) || c) || d) ≡ false → (a ≡ false) × (b ≡ false) × (c ≡ false) × (d ≡ false)
or_four a b c d e =
    let f = or_left ((a || b) || c) d e in
    let g = or_left (a || b) c f in
    (or_left a b g, or_right a b g, or_right (a || b) c f, or_right ((a || b) || c) d e)

-- where one holds and it is not the first
pub or_second : (a b : Bool) → a ≡ false → (a || b) ≡ true → b ≡ true
or_second true b e t = absurd (true≢false e)
or_second false b e t = t

-- two tests that follow from each other are equal
pub same_test : (a b : Bool) → (a ≡ true → b ≡ true) → (b ≡ true → a ≡ true) → a ≡ b
same_test true true f g = refl
same_test true false f g = absurd (false≢true (f refl))
same_test false true f g = absurd (false≢true (g refl))
same_test false false f g = refl

-- a chain of tests that ends in 0 passed each of them
pub past : (t : Bool) (n r : ℕ) → (n ≡ 0 → ⊥) → cond t n r ≡ 0 → (t ≡ false) × (r ≡ 0)
past true n r h e = absurd (h e)
past false n r h e = (refl, e)

-- what is not the second came from the first, and the other way round
pub cond-first : {A : Type 0} (t : Bool) (x y z : A) → (y ≡ z → ⊥) → cond t x y ≡ z → (t ≡ true) × (x ≡ z)
cond-first true x y z h e = (refl, e)
cond-first false x y z h e = absurd (h e)

pub cond_second : {A : Type 0} (t : Bool) (x y z : A) → (x ≡ z → ⊥) → cond t x y ≡ z → (t ≡ false) × (y ≡ z)
cond_second true x y z h e = absurd (h e)
cond_second false x y z h e = (refl, e)

pub or_either : (a b : Bool) → (a || b) ≡ true → (a ≡ true) ⊎ (b ≡ true)
or_either true b h = inl refl
or_either false b h = inr h

-- what two unequal constructors lead to: `never (cc)`
pub never : {A : Type 0} → ◌≡◌ {A = ℕ} 0 1 → A
never z = absurd (omega arith)
