-- `finding::earliest` meets its contract: the search goes on from a place that is due to the next that is sooner.
use Prim.Native.Nat.{◌-◌}
use Rattle.numbers.specs.Numbers.{places}
use Rattle.table.specs.inner.Places.{is_due, is_sooner}
use Rattle.finding.proofs.ScanLaws.{Stands}
use Rattle.finding.proofs.earliest.Given as goal

abbrev pub invariant-loop-next : goal.invariant-loop-next
invariant-loop-next l = Stands (is_due l.table.ids l.table.deadlines l.time) (is_sooner l.table.ids l.table.deadlines) places l.table.top l.found

abbrev pub decreases-loop-next : goal.decreases-loop-next
decreases-loop-next l = l.table.top - l.found
