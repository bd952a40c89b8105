-- `moves::changing::join` meets its contract: what is stored is one party more.
use Rattle.table.proofs.PartyLaws.{joined}
use Rattle.moves.proofs.changing.join.Goals as goal

pub returns-clause-joined : goal.returns-clause-joined
returns-clause-joined c =
    let a = c.args in
    let t = a.table.now in
    rw c.from.ensures (joined a.place a.client a.original.0 t.counts t.clients t.originals c.requires.runs c.requires.place_lt_places.0 c.requires.place_lt_places.1)
