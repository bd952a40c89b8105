-- `moves::striking::strike` meets its contract. The loop's invariant: the places below k are struck.
use native.Mathlib.Omega.{arith}
use Rattle.table.proofs.StrikeLaws.{struck-next}
use Rattle.moves.proofs.striking.strike.Goals as goal

pub loop-k-preserved : goal.loop-k-preserved
loop-k-preserved c =
    let i = c.loop-k.invariant in
    record { struck = struck-next _ _ _ _ _ _ _ _ _ _ _ (omega arith) i.struck (rw c.from-n.ensures at c.strike_run-kept.ensures); stays = i.stays }
