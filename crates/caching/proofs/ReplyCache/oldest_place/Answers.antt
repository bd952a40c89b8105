-- `ReplyCache::oldest_place` meets its contract. The loop's invariant: `found` is the best of the places passed.
use Prim.Native.Nat.{ℕ, ◌<◌}
use mathlib.Core.Path.{◌≡◌, refl, ◌∙◌}
use mathlib.Core.Logic.{inl, inr}
use mathlib.Core.List.{List}
use native.Mathlib.Omega.{arith}
use lib.ListN.{get_or, take, drop}
use lib.Seq.{get_or-take, get_or-drop}
use Rattle.laws.specs.Search.{best}
use Rattle.caching.specs.Kept.{time_at}
use Rattle.caching.proofs.KeptLaws.{oldest_turn}
use Rattle.caching.proofs.ReplyCache.oldest_place.Goals.{then-filled-k, else-filled-k}
use Rattle.caching.proofs.ReplyCache.oldest_place.Goals as goal

pub loop-k-init : goal.loop-k-init
unfolding best
loop-k-init c = (omega arith, refl)

-- the time of filling, read in the part that has the times
filled : (cache : List ℕ) (k : ℕ) → k < 64 → get_or (take 64 (drop 64 cache)) k 0 ≡ time_at cache k
filled cache k l = get_or-take 64 (drop 64 cache) k 0 l ∙ get_or-drop 64 cache k 0

pub loop-k-preserved : goal.loop-k-preserved
loop-k-preserved c =
    let cache = c.args.self.now.numbers in
    let i = c.loop-k.invariant in
    let at = filled cache c.loop-k.k (omega arith) in
    let best = filled cache c.loop-k.found (omega (arith, i.0)) in
    oldest_turn cache c.loop-k.k c.loop-k.found (omega arith) i.0 i.1 (elim c.if-filled-k.branch [ then-filled-k w ↦ inl (rw (at, best) at w.if-filled-k.true, w.found-is) | else-filled-k w ↦ inr (rw (at, best) at w.if-filled-k.false, w.found-is) ])
