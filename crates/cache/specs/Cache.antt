-- The cache of replies to reads (#107), place by place: what a place holds, which place a read hits, which place a reply takes, and what an issued request drops.
-- Assumes nothing.
use Rattle.std.specs.Prelude.{ℕ, ◌-◌, Bool, true, false, cond, not, ◌&&◌, List, map, get_or, set, replicate, ltb}
use Rattle.std.proofs.Math.Option.{Option, some, none}
use Rattle.numbers.specs.Numbers.{cache_places}
use Rattle.laws.specs.Search.{best}
use Rattle.pdu.specs.declared.What.{What}
use Rattle.pdu.specs.Spoiling.{spoils}
use Rattle.pdu.specs.Reads.{equal_reads}

-- a cached reply: the read that it answered, which is its key; when it came and for how long it is good; its raw counts, and its rewritten frame with id bytes 00 00
pub record Cached : Type 0 where
  pub what : What
  pub filled : ℕ
  pub life : ℕ
  pub partial : ℕ
  pub value : ℕ
  pub bytes : List ℕ

abbrev pub Cache : Type 0
Cache = List (Option Cached)

-- nothing is cached; what stands in a place
abbrev pub emptied : Cache
emptied = replicate cache_places none

abbrev pub in_cache : Cache → ℕ → Option Cached
in_cache c k = get_or c k none

-- it has the key w: equal unit, function, start and quantity
abbrev pub has_key : What → Option Cached → Bool
has_key w none = false
has_key w (some e) = equal_reads w e.what

-- less than its life has gone by; else it is expired, and still there
abbrev pub is_fresh : ℕ → Option Cached → Bool
is_fresh now none = false
is_fresh now (some e) = ltb (now - e.filled) e.life

-- it was filled earlier
abbrev pub is_older : Option Cached → Option Cached → Bool
is_older none b = false
is_older (some a) none = false
is_older (some a) (some b) = ltb a.filled b.filled

-- the place that a read hits: the one that has its key and is fresh; `cache_places` where there is none
abbrev pub hit_place : ℕ → What → Cache → ℕ
hit_place now w c = best (λ k. has_key w (in_cache c k) && is_fresh now (in_cache c k)) (λ j k. false) cache_places cache_places

-- the place with the key w; the lowest that is empty or expired; the oldest, ties to the lowest; `cache_places` where there is none
abbrev pub own_place : What → Cache → ℕ
own_place w c = best (λ k. has_key w (in_cache c k)) (λ j k. false) cache_places cache_places

abbrev pub spare_place : ℕ → Cache → ℕ
spare_place now c = best (λ k. not (is_fresh now (in_cache c k))) (λ j k. false) cache_places cache_places

abbrev pub oldest_place : Cache → ℕ
oldest_place c = best (λ k. true) (λ j k. is_older (in_cache c j) (in_cache c k)) cache_places cache_places

-- a reply takes the place with its own key, else the lowest empty or expired one, else the oldest, ties to the lowest
unfoldable pub taken_place : ℕ → What → Cache → ℕ
taken_place now w c =
    cond (ltb (own_place w c) cache_places) (own_place w c)
    (cond (ltb (spare_place now c) cache_places) (spare_place now c)
    (oldest_place c))

unfoldable pub filled_with : Cached → Cache → Cache
filled_with e c = set c (taken_place e.filled e.what c) (some e)

-- the issue of w drops what it spoils: a write the reads of registers that it meets, "other" every read of its unit
unfoldable pub kept_from : What → Option Cached → Option Cached
kept_from w none = none
kept_from w (some e) = cond (spoils w e.what) none (some e)

unfoldable pub dropped_by : What → Cache → Cache
dropped_by w c = map (kept_from w) c
