-- `ReplyCache::drop_each` meets its contract. The loop's invariant: of the numbers below the bound, those passed are dropped.
use mathlib.Core.Path.{◌≡◌}
use Rattle.pdu.specs.declared.What.{What}
use Rattle.caching.proofs.DropLaws.{DroppedTo}
use Rattle.caching.proofs.ReplyCache.drop_each.Given as goal

abbrev pub invariant-loop-held : goal.invariant-loop-held
invariant-loop-held l = (w : What) → w.unit ≡ l.what.unit → w.asked ≡ l.what.asked → DroppedTo l.held-index w l.initial.held-items l.held-items
