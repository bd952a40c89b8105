-- `ReplyCache::show` meets its contract: the header, and behind it the registers that were kept.
use Prim.Native.Nat.{◌+◌, ◌-◌, ◌*◌, ◌%◌, ◌≤◌}
use mathlib.Core.Path.{◌≡◌, ap, ◌∙◌}
use native.Mathlib.Omega.{arith}
use lib.ListN.{get_or, length, take, drop, length-take}
use Rattle.laws.specs.Bytes.{over}
use Rattle.pdu.specs.Words.{what_of}
use Rattle.caching.specs.Kept.{head_of, registers_at}
use Rattle.laws.proofs.ByteLaws.{over_all}
use Rattle.caching.proofs.FillLaws.{laid_mid}
use Rattle.caching.proofs.ShowLaws.{shown_few, shown_part, shown-long, shown-frame}
use Rattle.caching.proofs.ReplyCache.show.Goals.{Start}
use Rattle.caching.proofs.ReplyCache.show.Goals as goal

-- how many bytes there are
few : (c : Start) → 2 * (get_or c.args.self.now.numbers c.args.place 0 % 65536) ≤ 250
few c = let a = c.args in shown_few a.self.now.numbers a.self.now.shown c.requires.sound_cache.0 a.place c.requires.sound_cache.1 c.requires.sound_cache.2

pub overflow_cast-count : goal.overflow_cast-count
overflow_cast-count c = omega (arith, few (goal.at.overflow_cast-count c).Start)

pub put_head-requires : goal.put_head-requires
put_head-requires c = (omega (arith, c.requires.frame_buffer_in_bounds), few (goal.at.put_head-requires c).Start)

pub slice_bounds-copy-end : goal.slice_bounds-copy-end
slice_bounds-copy-end c = omega (arith, few (goal.at.slice_bounds-copy-end c).Start, c.requires.frame_buffer_in_bounds, c.put_head.auto.out)

pub slice_bounds-copy-end-2 : goal.slice_bounds-copy-end-2
slice_bounds-copy-end-2 c = omega (arith, few (goal.at.slice_bounds-copy-end-2 c).Start, c.requires.sound_cache.1)

pub returns : goal.returns
returns c e h =
    let a = c.args in
    let s = c.requires.sound_cache in
    let k = shown-frame a.self.now.numbers a.self.now.shown s.0 a.place s.1 s.2 a.high a.low a.out.now e (omega arith) (omega arith) h in
    let count = 2 * (get_or a.self.now.numbers a.place 0 % 65536) in
    let long = shown-long a.self.now.numbers a.self.now.shown s.0 a.place s.1 s.2 in
    let at = 256 * a.place in
    let rs = take (at + count - at) (drop at a.self.now.shown) in
    let stands = shown_part a.self.now.numbers a.self.now.shown s.0 a.place s.1 s.2 in
    let whole : c.copy.new.out ≡ rs = c.copy.ensures ∙ over_all rs (take (9 + count - 9) (drop 9 c.put_head.new.out)) (omega (arith, ap length stands, long, length-take (9 + count - 9) (drop 9 c.put_head.new.out))) in (
      k.0,
      rw (whole, shown_part a.self.now.numbers a.self.now.shown s.0 a.place s.1 s.2, c.put_head.ensures)
          (laid_mid (registers_at (what_of (get_or a.self.now.numbers a.place 0)) a.self.now.shown a.place) (over (head_of a.high a.low (what_of (get_or a.self.now.numbers a.place 0)) count) a.out.now) 9 (9 + count - 9) (omega (arith, long)) ∙ k.1),
    )
