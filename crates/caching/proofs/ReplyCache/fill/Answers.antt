-- `ReplyCache::fill` meets its contract: what is stored is the reply at the place that it takes.
use Prim.Native.Nat.{◌+◌, ◌-◌, ◌*◌, ◌≤◌, ◌<◌}
use native.Mathlib.Omega.{arith}
use mathlib.Core.Path.{◌≡◌, ◌∙◌}
use lib.ListN.{length, take, drop, length-take}
use lib.Seq.{get_or-drop}
use Rattle.laws.proofs.ByteLaws.{over_all}
use Rattle.caching.proofs.FillLaws.{part_rest, laid_mid, laid_low, frame-long, taken_below, room, filled}
use Rattle.caching.proofs.ReplyCache.fill.Goals.{Start}
use Rattle.caching.proofs.ReplyCache.fill.Goals as goal

-- the place is a place
below : (c : Start) → c.args.place < 64
below c = let a = c.args in omega (arith, c.requires.sound_cache.1, taken_below a.self.now.numbers a.self.now.shown c.requires.sound_cache.0 a.word a.time c.requires.key.0)

-- the registers have room there
fits : (c : Start) → 256 * c.args.place + length (drop 9 c.args.frame.now) ≤ length c.args.self.now.shown
fits c =
    let a = c.args in
    room a.self.now.numbers a.self.now.shown c.requires.sound_cache.0 a.place a.word a.time a.life a.value (below c) c.requires.key.0 (omega arith) (omega arith) a.frame.now c.requires.key.1

pub store-requires : goal.store-requires
store-requires c = below (goal.at.store-requires c).Start

pub slice_bounds-registers-count : goal.slice_bounds-registers-count
slice_bounds-registers-count c = omega (arith, frame-long c.args.word c.requires.key.0 c.args.frame.now c.requires.key.1)

pub slice_bounds-registers-start : goal.slice_bounds-registers-start
slice_bounds-registers-start c = omega (arith, frame-long c.args.word c.requires.key.0 c.args.frame.now c.requires.key.1)

pub overflow_mul-at : goal.overflow_mul-at
overflow_mul-at c = omega (arith, below (goal.at.overflow_mul-at c).Start)

pub overflow_add-at : goal.overflow_add-at
overflow_add-at c = rw (part_rest c.args.frame.now 9) (omega (arith, fits (goal.at.overflow_add-at c).Start, c.requires.sound_cache.0.bytes.long))

pub slice_bounds-copy-end : goal.slice_bounds-copy-end
slice_bounds-copy-end c = rw (part_rest c.args.frame.now 9) (omega (arith, fits (goal.at.slice_bounds-copy-end c).Start, c.requires.sound_cache.0.bytes.long))

pub returns : goal.returns
returns c =
    let a = c.args in
    let s = c.requires.sound_cache.0 in
    let f = a.frame.now in
    let room = fits (goal.at.returns c).Start in
    let low = laid_low (drop 9 f) a.self.now.shown (256 * a.place) room (λ k. rw (get_or-drop 9 f k 0) (omega (arith, c.type_inv.frame (9 + k)))) s.bytes.low in
    let k = filled a.self.now.numbers a.self.now.shown s a.place a.word a.time a.life a.value (below (goal.at.returns c).Start) c.requires.key.0 (omega arith) (omega arith) f c.requires.key.1 c.requires.sound_cache.1 low in
    let at = 256 * a.place in
    let rs = take (length f - 9) (drop 9 f) in
    let n = at + length rs - at in
    let whole : c.copy.new.out ≡ rs = c.copy.ensures ∙ over_all rs (take n (drop at c.store.new.self.shown)) (omega (arith, length-take n (drop at c.store.new.self.shown))) in
    rw (c.store.ensures.stored, c.from.ensures, c.from-2.ensures, c.store.ensures.stays, whole, part_rest f 9, laid_mid (drop 9 f) a.self.now.shown (256 * a.place) (256 * a.place + length (drop 9 f) - 256 * a.place) (omega arith))
    (record { shown_after = k.0; sound_cache_2 = k.1 })
