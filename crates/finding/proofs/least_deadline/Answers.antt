-- `finding::least_deadline` meets its contract: k places are passed, and `found` is the least deadline of those that are live.
use mathlib.Core.Path.{refl}
use mathlib.Core.Logic.{⊎_elim, inl, inr}
use Prim.Native.Nat.{◌<◌, ◌≤◌}
use native.Mathlib.Omega.{arith}
use Rattle.laws.specs.Search.{least}
use Rattle.laws.proofs.Choice.{lt_or}
use Rattle.laws.proofs.LeastLaws.{least-turn}
use Rattle.finding.proofs.least_deadline.Goals as goal

pub loop-k-init : goal.loop-k-init
unfolding least
loop-k-init c = refl

pub loop-k-preserved : goal.loop-k-preserved
loop-k-preserved c =
    let b = c.loop-k.found in
    let d = c.deadline_at.result in
    let e = c.min-found.ensures in
    least-turn _ _ _ _ _ _ c.loop-k.invariant c.deadline_at.ensures
    (⊎_elim (λ (h : d < b). inl (h, omega arith)) (λ (h : b ≤ d). inr (h, omega arith)) (lt_or d b))
