-- `requesting::show_cached` meets its contract: what stands at the place, under the id in the frame's first two bytes.
use native.Mathlib.Omega.{arith}
use Rattle.requesting.proofs.StepLaws.{hit_made}
use Rattle.requesting.proofs.show_cached.Goals as goal

pub bounds-frame-0 : goal.bounds-frame-0
bounds-frame-0 c = omega (arith, c.requires.frame_buffer_in_bounds.1)

pub bounds-frame-1 : goal.bounds-frame-1
bounds-frame-1 c = omega (arith, c.requires.frame_buffer_in_bounds.1)

pub show-length-requires : goal.show-length-requires
show-length-requires c = record { sound_cache = c.requires.sound_cache; frame_buffer_in_bounds = c.requires.frame_buffer_in_bounds.0 }

pub value_at-value-requires : goal.value_at-value-requires
value_at-value-requires c = ((c.args.cache.now.shown, c.requires.sound_cache.0), c.requires.sound_cache.1)

pub returns : goal.returns
returns c m =
    let cache = c.args.cache.now in
    hit_made m cache.numbers cache.shown c.args.place c.args.frame.now c.args.out.now c.requires.sound_cache.1 c.requires.sound_cache.2 c.show-length.ensures (c.value_at-value.ensures cache.shown)
