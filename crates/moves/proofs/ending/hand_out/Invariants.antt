-- `moves::ending::hand_out` meets its contract. The loop's invariant: the first j parties stand in the list, as pairs.
use mathlib.Core.Path.{◌≡◌}
use Rattle.laws.specs.Bytes.{over}
use Rattle.machine.specs.Replies.{pairs}
use Rattle.table.specs.Columns.{run}
use Rattle.moves.proofs.ending.hand_out.Given as goal

abbrev pub invariant-loop-j : goal.invariant-loop-j
invariant-loop-j l = l.list ≡ over (pairs (run l.table.clients l.table.originals l.base l.j)) l.initial.list
