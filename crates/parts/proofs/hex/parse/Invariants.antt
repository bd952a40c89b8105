-- `parts::hex::parse` meets its contract. The loop's invariant: the first k bytes are those of the text before what is left of it.
use Rattle.parts.proofs.HexLaws.{Made}
use Rattle.parts.proofs.hex.parse.Given as goal

abbrev pub invariant-loop-k : goal.invariant-loop-k
invariant-loop-k l = Made l.s l.initial.bytes l.bytes l.left l.k
