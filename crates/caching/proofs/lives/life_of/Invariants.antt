-- `caching::lives::life_of` meets its contract. The loop's invariant: what is left of the walk, from the register reached and with the smallest ttl so far, tells the life.
use Rattle.std.specs.Prelude.{IfSome}
use Prim.Native.Nat.{◌+◌, ◌<◌}
use mathlib.Core.Path.{◌≡◌}
use mathlib.Core.List.{map}
use lib.ListN.{length, drop}
use Rattle.laws.specs.Options.{place_or}
use Rattle.laws.specs.Search.{first}
use Rattle.settings.specs.TagWords.{tag_of}
use Rattle.rewrite.specs.inner.Lent.{reaches}
use Rattle.cache.proofs.TilingLaws.{tiled, life_or_none}
use Rattle.caching.proofs.lives.life_of.Given as goal

abbrev pub invariant-loop-word : goal.invariant-loop-word
invariant-loop-word l = record {
  -- a life so far is above 0, which stands for none in the walk
  lives : IfSome l.life (λ n. 0 < n);
  walked : life_or_none l.start l.quantity (map tag_of l.fn.tags.words.now)
      ≡ tiled l.at (l.start + l.quantity) (place_or 0 l.life) (drop (first (reaches l.fn.tags.words.now l.start) (length l.fn.tags.words.now) + l.word-index) (map tag_of l.fn.tags.words.now));
}
