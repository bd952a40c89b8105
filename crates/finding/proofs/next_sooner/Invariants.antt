-- `finding::next_sooner` meets its contract: no place that is passed is sooner than the one that was found.
use Prim.Native.Nat.{ℕ, ◌<◌}
use mathlib.Core.Path.{◌≡◌}
use mathlib.Core.Bool.{false, ◌&&◌}
use Rattle.table.specs.inner.Places.{is_taken, is_sooner}
use Rattle.finding.proofs.next_sooner.Given as goal

abbrev pub invariant-loop-k : goal.invariant-loop-k
invariant-loop-k l =
    (l.found < l.k) × ((j : ℕ) → l.found < j → j < l.k → (is_taken l.table.ids j && is_sooner l.table.ids l.table.deadlines j l.found) ≡ false)
