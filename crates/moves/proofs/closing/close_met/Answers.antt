-- `moves::closing::close_met` meets its contract: below top, the places that are closed are all.
use mathlib.Core.Path.{◌≡◌}
use native.Mathlib.Omega.{arith}
use Rattle.table.proofs.ClosingLaws.{closed_all}
use Rattle.moves.proofs.closing.close_met.Goals as goal

pub returns : goal.returns
returns c = λ word unit asked.
    let e : c.loop-k.k ≡ c.args.top = omega arith in
    closed_all _ _ _ _ _ (rw e at (c.loop-k.invariant word unit asked))
