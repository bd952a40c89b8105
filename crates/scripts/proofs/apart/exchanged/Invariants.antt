-- `scripts::apart::exchanged` meets its contract: the loop fills the text byte by byte. Its invariant: the first k bytes are those of the text with one byte in place of another.
use Rattle.laws.proofs.FillLaws.{Filled}
use Rattle.scripts.specs.Apart.{exchanged}
use Rattle.scripts.proofs.apart.exchanged.Given as goal

abbrev pub invariant-loop-k : goal.invariant-loop-k
invariant-loop-k l = Filled 512 0 (exchanged l.bytes l.from l.to) l.text l.k
