-- `finding::first_due` meets its contract: no place that is passed is due.
use Prim.Native.Nat.{ℕ, ◌<◌}
use mathlib.Core.Path.{◌≡◌}
use mathlib.Core.Bool.{false}
use Rattle.table.specs.inner.Places.{is_due}
use Rattle.finding.proofs.first_due.Given as goal

abbrev pub invariant-loop-k : goal.invariant-loop-k
invariant-loop-k l = (j : ℕ) → j < l.k → is_due l.table.ids l.table.deadlines l.time j ≡ false
