-- `moves::ending::last_live` meets its contract. The loop's invariant: the last live place below the counter is that below top.
use Prim.Native.Nat.{◌+◌, ◌-◌}
use mathlib.Core.Path.{◌≡◌, sym, ◌∙◌}
use native.Mathlib.Omega.{arith}
use Rattle.table.specs.inner.Changes.{reach}
use Rattle.table.proofs.EntryLaws.{reach-turn, reach_end}
use Rattle.moves.proofs.ending.last_live.Goals as goal

pub returns-then-table-n-ne0 : goal.returns-then-table-n-ne0
returns-then-table-n-ne0 c =
    let e : c.loop-n.n - 1 + 1 ≡ c.loop-n.n = omega arith in
    sym (reach_end c.args.table.now.ids (c.loop-n.n - 1) c.if-table-n-ne0.true) ∙ rw e c.loop-n.invariant

pub loop-n-preserved : goal.loop-n-preserved
loop-n-preserved c =
    let e : c.loop-n.n - 1 + 1 ≡ c.loop-n.n = omega arith in
    rw e at (reach-turn c.args.table.now.ids (c.loop-n.n - 1) c.if-table-n-ne0.false) ∙ c.loop-n.invariant

pub returns : goal.returns
unfolding reach
returns c =
    let e : c.loop-n.n ≡ 0 = omega arith in
    rw e at c.loop-n.invariant
