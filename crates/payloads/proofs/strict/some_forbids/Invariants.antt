-- `payloads::strict::some_forbids` meets its contract. The loop's invariant: no tag so far forbids the run.
use Prim.Native.Nat.{◌+◌}
use Rattle.rewrite.specs.Registers.{registers_at}
use Rattle.rewrite.proofs.ForbidLaws.{NoneBelow}
use Rattle.laws.specs.Search.{first}
use Rattle.rewrite.specs.inner.Lent.{reaches}
use lib.ListN.{length}
use Rattle.payloads.proofs.strict.some_forbids.Given as goal

abbrev pub invariant-loop-word : goal.invariant-loop-word
invariant-loop-word l = NoneBelow l.run.start (registers_at l.run.base l.run.quantity l.d) l.fn.tags.words.now (first (reaches l.fn.tags.words.now l.run.start) (length l.fn.tags.words.now) + l.word-index)
