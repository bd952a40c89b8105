-- Walking upward on a circle of any size.
-- Assumes nothing.
use Prim.Native.Nat.{ℕ, ◌+◌, ◌≤◌, ◌<◌}
use mathlib.Core.Path.{◌≡◌, ap, sym, ◌∙◌}
use mathlib.Core.Logic.{⊎_elim, ◌⊎◌, inl, inr}
use native.Mathlib.Omega.{arith}
use borrow.Author.Tests.{lt-ltb, le-ltb, le-leb, lt-leb}
use Rattle.laws.specs.Circle.{turn, gap}
use Rattle.laws.proofs.Choice.{lt_or}

pub turn_or : (m k : ℕ) → ((k < m) × (turn m k ≡ k)) ⊎ ((m ≤ k) × (turn m k + m ≡ k))
turn_or m k = ⊎_elim (λ z. inl (z, rw (lt-ltb k m z))) (λ z. inr (z, rw (le-ltb k m z) (omega arith))) (lt_or k m)

pub gap_or : (m c x : ℕ) → c < m → ((c ≤ x) × (gap m c x + c ≡ x)) ⊎ ((x < c) × (gap m c x + c ≡ x + m))
gap_or m c x h = ⊎_elim (λ z. inr (z, rw (lt-leb c x z) (omega arith))) (λ z. inl (z, rw (le-leb c x z) (omega arith))) (lt_or x c)

pub turn_inj : (m c i j : ℕ) → c < m → i < m → j < m → turn m (c + i) ≡ turn m (c + j) → i ≡ j
turn_inj m c i j h p q e =
    ⊎_elim
    (λ x. ⊎_elim (λ y. omega (arith, x, y)) (λ y. omega (arith, x, y)) (turn_or m (c + j)))
    (λ x. ⊎_elim (λ y. omega (arith, x, y)) (λ y. omega (arith, x, y)) (turn_or m (c + j)))
    (turn_or m (c + i))

pub turn_add : (m a j : ℕ) → a + j < m + m → turn m (turn m a + j) ≡ turn m (a + j)
turn_add m a j h =
    ⊎_elim
    (λ (x : (a < m) × (turn m a ≡ a)). rw x.1)
    (λ (x : (m ≤ a) × (turn m a + m ≡ a)). ⊎_elim
    (λ y. ⊎_elim (λ z. omega (arith, x, y, z)) (λ z. omega (arith, x, y, z)) (turn_or m (a + j)))
    (λ y. ⊎_elim (λ z. omega (arith, x, y, z)) (λ z. omega (arith, x, y, z)) (turn_or m (a + j)))
    (turn_or m (turn m a + j)))
    (turn_or m a)

pub gap-low : (m c x : ℕ) → c < m → x < m → gap m c x < m
gap-low m c x h k = ⊎_elim (λ y. omega (arith, y)) (λ y. omega (arith, y)) (gap_or m c x h)

-- the walk goes s + 1 steps on, and does not come past x
pub gap_on : (m c s x : ℕ) → c < m → x < m → s < gap m c x → gap m c x ≡ s + 1 + gap m (turn m (turn m (c + s) + 1)) x
gap_on m c s x h k z =
    let d = turn m (turn m (c + s) + 1) in
    let gl = gap-low m c x h k in
    let e : d ≡ turn m (c + s + 1) = turn_add m (c + s) 1 (omega arith) in
    let dl : d < m = ⊎_elim (λ y. omega (arith, y, e)) (λ y. omega (arith, y, e)) (turn_or m (c + s + 1)) in
    ⊎_elim
    (λ a. ⊎_elim
    (λ b. ⊎_elim (λ t. omega (arith, a, b, t, e)) (λ t. omega (arith, a, b, t, e)) (turn_or m (c + s + 1)))
    (λ b. ⊎_elim (λ t. omega (arith, a, b, t, e)) (λ t. omega (arith, a, b, t, e)) (turn_or m (c + s + 1)))
    (gap_or m d x dl))
    (λ a. ⊎_elim
    (λ b. ⊎_elim (λ t. omega (arith, a, b, t, e)) (λ t. omega (arith, a, b, t, e)) (turn_or m (c + s + 1)))
    (λ b. ⊎_elim (λ t. omega (arith, a, b, t, e)) (λ t. omega (arith, a, b, t, e)) (turn_or m (c + s + 1)))
    (gap_or m d x dl))
    (gap_or m c x h)

-- s steps on from c stands x: so far it is
pub gap_here : (m c s : ℕ) → c < m → s < m → gap m c (turn m (c + s)) ≡ s
gap_here m c s h k =
    ⊎_elim
    (λ t. ⊎_elim (λ a. omega (arith, a, t)) (λ a. omega (arith, a, t)) (gap_or m c (turn m (c + s)) h))
    (λ t. ⊎_elim (λ a. omega (arith, a, t)) (λ a. omega (arith, a, t)) (gap_or m c (turn m (c + s)) h))
    (turn_or m (c + s))

-- from behind x once round to x
pub gap_round : (m x : ℕ) → x < m → gap m (turn m (x + 1)) x + 1 ≡ m
gap_round m x h =
    let dl : turn m (x + 1) < m = ⊎_elim (λ y. omega (arith, y)) (λ y. omega (arith, y)) (turn_or m (x + 1)) in
    ⊎_elim
    (λ t. ⊎_elim (λ a. omega (arith, a, t)) (λ a. omega (arith, a, t)) (gap_or m (turn m (x + 1)) x dl))
    (λ t. ⊎_elim (λ a. omega (arith, a, t)) (λ a. omega (arith, a, t)) (gap_or m (turn m (x + 1)) x dl))
    (turn_or m (x + 1))

-- as far as it is from c to x, on from c, stands x
pub turn_gap : (m c x : ℕ) → c < m → x < m → turn m (c + gap m c x) ≡ x
turn_gap m c x h k =
    ⊎_elim
    (λ t. ⊎_elim (λ a. omega (arith, a, t)) (λ a. omega (arith, a, t)) (gap_or m c x h))
    (λ t. ⊎_elim (λ a. omega (arith, a, t)) (λ a. omega (arith, a, t)) (gap_or m c x h))
    (turn_or m (c + gap m c x))

pub turn_low : (m k : ℕ) → k < m + m → turn m k < m
turn_low m k h = ⊎_elim (λ z. rw (lt-ltb k m z) z) (λ z. rw (le-ltb k m z) (omega arith)) (lt_or k m)

-- it is no way from c to c
pub gap-none : (m c : ℕ) → c < m → gap m c c ≡ 0
gap-none m c h = ⊎_elim (λ y. omega (arith, y)) (λ y. omega (arith, y)) (gap_or m c c h)

-- one on from x it is one further, as long as c is not met again
pub gap-next : (m c x : ℕ) → c < m → x < m → gap m c x + 1 < m → gap m c (turn m (x + 1)) ≡ gap m c x + 1
gap-next m c x h k l =
    let g = gap m c x in
    let e : turn m (x + 1) ≡ turn m (c + (g + 1)) =
    ap (λ (y : ℕ). turn m (y + 1)) (sym (turn_gap m c x h k)) ∙ turn_add m (c + g) 1 (omega arith) ∙ ap (turn m) (omega arith) in
    ap (gap m c) e ∙ gap_here m c (g + 1) h l
