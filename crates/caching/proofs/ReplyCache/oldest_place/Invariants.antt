-- `ReplyCache::oldest_place` meets its contract. The loop's invariant: `found` is the best of the places passed.
use Prim.Native.Nat.{◌<◌}
use mathlib.Core.Path.{◌≡◌}
use mathlib.Core.Bool.{true}
use Rattle.laws.specs.Search.{best}
use Rattle.caching.specs.Kept.{is_earlier}
use Rattle.caching.proofs.ReplyCache.oldest_place.Given as goal

abbrev pub invariant-loop-k : goal.invariant-loop-k
invariant-loop-k l = (l.found < l.k) × (l.found ≡ best (λ j. true) (is_earlier l.self.numbers) 64 l.k)
