-- `ReplyCache::spare_place` meets its contract. The loop's invariant: no place passed is empty or expired.
use Prim.Native.Nat.{ℕ, ◌<◌}
use mathlib.Core.Path.{◌≡◌}
use mathlib.Core.Bool.{false}
use Rattle.caching.specs.Kept.{is_spare}
use Rattle.caching.proofs.ReplyCache.spare_place.Given as goal

abbrev pub invariant-loop-k : goal.invariant-loop-k
invariant-loop-k l = (j : ℕ) → j < l.k → is_spare l.self.numbers l.time j ≡ false
