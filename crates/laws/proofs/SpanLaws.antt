-- What holds of each number of a span that grows at its end.
-- Assumes nothing.
use Prim.Native.Nat.{ℕ, ◌+◌, ◌≤◌, ◌<◌}
use mathlib.Core.Path.{◌≡◌}
use mathlib.Core.Logic.{⊎_elim}
use native.Mathlib.Omega.{arith}
use Rattle.laws.proofs.Choice.{eq_or}

module _ (P : ℕ → Type 0) (from : ℕ) where
  -- an empty span
  pub span_none : (j : ℕ) → from ≤ j → j < from → P j
  span_none j l h = absurd (omega arith)

  -- one number more, and four
  pub span_more : (k : ℕ) → ((j : ℕ) → from ≤ j → j < k → P j) → P k → (j : ℕ) → from ≤ j → j < k + 1 → P j
  span_more k s p j l h = ⊎_elim (λ (q : j ≡ k). rw q p) (λ (q : j ≡ k → ⊥). s j l (omega (arith, q))) (eq_or j k)

  pub span_four : (k : ℕ) → ((j : ℕ) → from ≤ j → j < k → P j) → P k → P (k + 1) → P (k + 2) → P (k + 3) → (j : ℕ) → from ≤ j → j < k + 4 → P j
  span_four k s a b c d j l h =
      span_more (k + 3)
      (λ i m g. span_more (k + 2) (λ i m g. span_more (k + 1) (span_more k s a) b i m (omega arith)) c i m (omega arith))
      d j l (omega arith)
