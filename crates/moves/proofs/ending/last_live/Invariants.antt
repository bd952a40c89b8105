-- `moves::ending::last_live` meets its contract. The loop's invariant: the last live place below the counter is that below top.
use mathlib.Core.Path.{◌≡◌}
use Rattle.table.specs.inner.Changes.{reach}
use Rattle.moves.proofs.ending.last_live.Given as goal

abbrev pub invariant-loop-n : goal.invariant-loop-n
invariant-loop-n l = reach l.table.ids l.n ≡ reach l.table.ids l.table.top
