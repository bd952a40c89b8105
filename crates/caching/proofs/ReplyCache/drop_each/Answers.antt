-- `ReplyCache::drop_each` meets its contract. The loop's invariant: of the numbers below the bound, those passed are dropped.
use native.Mathlib.Omega.{arith}
use Rattle.caching.specs.Kept.{bound_in}
use Rattle.caching.proofs.DropLaws.{dropped_none, dropped_next, dropped_front, dropped_all}
use Rattle.caching.proofs.ReplyCache.drop_each.Goals as goal

pub loop-held-init : goal.loop-held-init
loop-held-init c w unit asked = dropped_none _ _

pub loop-held-preserved : goal.loop-held-preserved
loop-held-preserved c w unit asked = rw (c.word_after.ensures w unit asked) (dropped_next _ _ _ _ (c.loop-held.invariant w unit asked))

pub returns-clause-drops : goal.returns-clause-drops
returns-clause-drops c w unit asked =
    let cache = c.args.self.now.numbers in
    dropped_all w cache _ (dropped_front w cache c.loop-held.held-items (bound_in cache) c.loop-held.held-index (omega arith) (omega arith) (c.loop-held.invariant w unit asked))
