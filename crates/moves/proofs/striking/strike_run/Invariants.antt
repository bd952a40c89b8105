-- `moves::striking::strike_run` meets its contract. The loop's invariant: of the first j parties `kept` stay.
use Rattle.table.specs.inner.Changes.{StruckOut}
use Rattle.moves.proofs.striking.strike_run.Given as goal

abbrev pub invariant-loop-j : goal.invariant-loop-j
invariant-loop-j l = StruckOut l.base l.j l.client l.kept l.initial.clients l.initial.originals l.clients l.originals
