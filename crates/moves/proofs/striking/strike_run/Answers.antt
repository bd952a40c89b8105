-- `moves::striking::strike_run` meets its contract. The loop's invariant: of the first j parties `kept` stay.
use native.Mathlib.Omega.{arith}
use Rattle.table.proofs.StrikeLaws.{struck_out_none, struck_out_keep, struck_out_drop}
use Rattle.moves.proofs.striking.strike_run.Goals as goal
use Rattle.moves.proofs.striking.strike_run.Goals.{then-owner-client, else-owner-client}

pub loop-j-init : goal.loop-j-init
loop-j-init c = struck_out_none _ _ _ _

pub loop-j-preserved : goal.loop-j-preserved
loop-j-preserved c =
    let a = c.args in
    let l = c.loop-j in
    elim c.if-owner-client.branch [
      | then-owner-client w ↦
          rw (w.clients-is, w.originals-is, w.kept-is)
          (struck_out_keep a.base l.j a.client l.kept a.clients.now a.originals.now l.clients l.originals l.invariant (omega arith) (omega arith) w.if-owner-client.true)
      | else-owner-client w ↦
          rw (w.clients-is, w.originals-is, w.kept-is)
          (struck_out_drop a.base l.j a.client l.kept a.clients.now a.originals.now l.clients l.originals l.invariant w.if-owner-client.false)
    ]
