-- `finding::least_deadline` meets its contract: k places are passed, and `found` is the least deadline of those that are live.
use mathlib.Core.Path.{◌≡◌}
use lib.ListN.{get_or}
use Rattle.laws.specs.Search.{least}
use Rattle.machine.specs.Waiting.{no_deadline}
use Rattle.table.specs.inner.Places.{is_taken}
use Rattle.finding.proofs.least_deadline.Given as goal

abbrev pub invariant-loop-k : goal.invariant-loop-k
invariant-loop-k l = l.found ≡ least (is_taken l.table.ids) (λ j. get_or l.table.deadlines j 0) no_deadline l.k
