-- `moves::ending::hand_out` meets its contract. The loop's invariant: the first j parties stand in the list, as pairs.
use mathlib.Core.Path.{◌≡◌, sym, ◌∙◌}
use native.Mathlib.Omega.{arith}
use Rattle.laws.proofs.ListLaws.{length-tab}
use Rattle.table.proofs.PartyLaws.{handed_none, handed_more}
use Rattle.moves.proofs.ending.hand_out.Goals as goal

pub loop-j-init : goal.loop-j-init
loop-j-init c = let t = c.args.table.now in handed_none t.clients t.originals _ c.args.list.now

pub loop-j-preserved : goal.loop-j-preserved
loop-j-preserved c =
    let l = c.loop-j in
    let t = c.args.table.now in
    handed_more t.clients t.originals _ c.args.list.now l.list _ l.j c.from-client.result c.from-client.ensures c.put_pair.ensures (omega (arith, c.from-count.ensures)) l.invariant

pub returns : goal.returns
returns c =
    let n = c.from-count.ensures in
    let e : c.loop-j.j ≡ c.from-count.result = omega arith in
    (n ∙ sym (length-tab _ _), rw (e, n) at c.loop-j.invariant)
