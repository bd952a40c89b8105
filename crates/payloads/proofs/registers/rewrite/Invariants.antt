-- `payloads::registers::rewrite` meets its contract. The loop's invariant: the buffer and the counts are those of the tags so far.
use Prim.Native.Nat.{◌+◌}
use mathlib.Core.Path.{◌≡◌}
use lib.ListN.{length}
use Rattle.rewrite.specs.Rewriting.{with_counts, rewriting}
use Rattle.rewrite.specs.inner.Lent.{tags_of, reaches}
use Rattle.laws.specs.Search.{first}
use Rattle.payloads.proofs.registers.rewrite.Given as goal

abbrev pub invariant-loop-word : goal.invariant-loop-word
invariant-loop-word l =
    (length l.d ≡ length l.initial.d)
    × (with_counts l.raw.partial l.raw.value l.d ≡ rewriting l.way l.run.base l.run.start l.run.quantity (tags_of (first (reaches l.fn.tags.words.now l.run.start) (length l.fn.tags.words.now) + l.word-index) l.fn.tags.words.now) l.initial.d)
