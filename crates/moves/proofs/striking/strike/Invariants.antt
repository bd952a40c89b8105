-- `moves::striking::strike` meets its contract. The loop's invariant: the places below k are struck.
use mathlib.Core.Path.{◌≡◌}
use Rattle.table.proofs.StrikeLaws.{StruckTo}
use Rattle.moves.proofs.striking.strike.Given as goal

abbrev pub invariant-loop-k : goal.invariant-loop-k
invariant-loop-k l = let t = l.initial.table in record {
  struck : StruckTo l.k l.client t.counts t.clients t.originals l.table.counts l.table.clients l.table.originals;
  stays : (l.table.ids ≡ t.ids) × (l.table.asked ≡ t.asked) × (l.table.callers ≡ t.callers) × (l.table.deadlines ≡ t.deadlines) × (l.table.top ≡ t.top) × (l.table.cursor ≡ t.cursor);
}
