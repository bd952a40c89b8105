-- `finding::skip_higher` meets its contract: no place that is passed may be sooner.
use Prim.Native.Nat.{ℕ, ◌+◌, ◌*◌, ◌≤◌, ◌<◌}
use mathlib.Core.Path.{◌≡◌}
use mathlib.Core.Bool.{false, ◌&&◌, ◌||◌}
use lib.Dec.{ltb, leb}
use lib.ListN.{get_or}
use Rattle.table.specs.inner.Places.{is_taken}
use Rattle.finding.proofs.skip_higher.Given as goal

abbrev pub invariant-loop-n : goal.invariant-loop-n
invariant-loop-n l =
    let t = l.table in
    (j : ℕ) → l.from ≤ j → j < l.from + 4 * l.n → (ltb (get_or t.deadlines j 0) l.latest || (is_taken t.ids j && leb (get_or t.ids j 0) l.highest)) ≡ false
