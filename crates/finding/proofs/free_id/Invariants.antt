-- `finding::free_id` meets its contract. The outer loop walks over live ids, which the pigeonhole ends; the inner loop's invariant: no place passed holds the id.
use Prim.Native.Nat.{ℕ, ◌-◌, ◌<◌}
use mathlib.Core.Path.{◌≡◌}
use mathlib.Core.Bool.{false}
use Rattle.numbers.specs.Numbers.{ids as every-id}
use Rattle.laws.specs.Circle.{gap}
use Rattle.table.specs.inner.Places.{holds}
use Rattle.finding.proofs.IdLaws.{Walk}
use Rattle.finding.proofs.free_id.Given as goal

abbrev pub invariant-loop-k : goal.invariant-loop-k
invariant-loop-k l = (l.id ≡ l.initial.id) × ((j : ℕ) → j < l.k → holds l.table.ids l.initial.id.0 j ≡ false)

abbrev pub invariant-search : goal.invariant-search
invariant-search l = Walk l.table.ids l.table.top l.table.cursor l.id.0

abbrev pub decreases-search : goal.decreases-search
decreases-search l = l.top - gap every-id l.table.cursor l.id.0
