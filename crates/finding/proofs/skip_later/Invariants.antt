-- `finding::skip_later` meets its contract: each place that is passed has a later deadline.
use Prim.Native.Nat.{ℕ, ◌+◌, ◌*◌, ◌≤◌, ◌<◌}
use lib.ListN.{get_or}
use Rattle.finding.proofs.skip_later.Given as goal

abbrev pub invariant-loop-n : goal.invariant-loop-n
invariant-loop-n l = (j : ℕ) → l.from ≤ j → j < l.from + 4 * l.n → l.latest < get_or l.table.deadlines j 0
