-- `finding::count_live` meets its contract: of the places that are passed, `live` are live.
use mathlib.Core.Path.{◌≡◌}
use Rattle.laws.specs.Search.{count}
use Rattle.table.specs.inner.Places.{is_taken}
use Rattle.finding.proofs.count_live.Given as goal

abbrev pub invariant-loop-held : goal.invariant-loop-held
invariant-loop-held l = l.live ≡ count (is_taken l.table.ids) l.held-index
