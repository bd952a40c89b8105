-- `ReplyCache::own_place` meets its contract. The loop's invariant: no place passed has the word.
use Prim.Native.Nat.{ℕ, ◌<◌}
use mathlib.Core.Path.{◌≡◌}
use mathlib.Core.Bool.{false}
use Rattle.caching.specs.Kept.{has_word}
use Rattle.caching.proofs.ReplyCache.own_place.Given as goal

abbrev pub invariant-loop-k : goal.invariant-loop-k
invariant-loop-k l = (j : ℕ) → j < l.k → has_word l.self.numbers l.word j ≡ false
