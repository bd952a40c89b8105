-- `ReplyCache::value_at` meets its contract: the count stands above the life.
use mathlib.Core.Path.{ap}
use Rattle.cache.specs.Cache.{Cached}
use Rattle.caching.proofs.ShowLaws.{stands_held}
use Rattle.caching.proofs.ReplyCache.value_at.Goals as goal

pub returns : goal.returns
returns c shown e h = ap (λ (x : Cached). x.value) (stands_held c.args.self.now.numbers shown c.args.place e c.requires.1 h)
