-- `ReplyCache::empty` meets its contract: numbers that are all 0 are an empty cache.
use Rattle.caching.proofs.DropLaws.{zeros-emptied, zeros_sound}
use Rattle.caching.proofs.ReplyCache.empty.Goals as goal

pub returns-clause-emptied : goal.returns-clause-emptied
returns-clause-emptied c shown b = (zeros-emptied shown, zeros_sound shown b)
