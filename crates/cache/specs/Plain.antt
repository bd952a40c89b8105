-- The cache in plain words: what every cache keeps, what stands in a place, and which place a reply takes; which reads are cached and for how long.
-- Assumes nothing.
use Rattle.std.specs.Prelude.{ℕ, ◌+◌, ◌-◌, ◌≤◌, ◌<◌, ◌≡◌, ◌⊎◌, true, length}
use Rattle.std.proofs.Math.Option.{Option, some, none}
use mathlib.Core.List.{List, Memᴰ}
use Rattle.settings.specs.Grammar.{Tag}
use Rattle.settings.specs.TagWords.{last_of}
use Rattle.pdu.specs.declared.What.{What}
use Rattle.pdu.specs.Reads.{equal_reads}
use Rattle.cache.specs.Cache.{Cached, Cache, in_cache}
use Rattle.cache.specs.Life.{ttl_of}

-- 64 places; what stands in one is a reply to a read; one key stands in at most one
pub record Sorted (c : Cache) : Type 0 where
  pub long : length c ≡ 64
  pub reads : (k : ℕ) (e : Cached) → in_cache c k ≡ some e → equal_reads e.what e.what ≡ true
  pub once : (j k : ℕ) (d e : Cached) → in_cache c j ≡ some d → in_cache c k ≡ some e → d.what ≡ e.what → j ≡ k

-- a reply to w stands there, whose life may be over; one whose life is not over
abbrev pub Keyed : What → Option Cached → Type 0
Keyed w o = (e : Cached) × (o ≡ some e) × (e.what ≡ w)

abbrev pub Fresh : ℕ → Option Cached → Type 0
Fresh now o = (e : Cached) × (o ≡ some e) × (now - e.filled < e.life)

-- nothing stands there, or a reply whose life is over
abbrev pub Spare : ℕ → Option Cached → Type 0
Spare now o = (o ≡ none) ⊎ ((e : Cached) × (o ≡ some e) × (e.life ≤ now - e.filled))

-- the place p that a reply to w takes at `now`: the one with its own key, fresh or expired; where no place has that, the lowest that is empty or expired; where all are fresh, the one filled earliest, of
-- several the lowest
pub data Takes (now : ℕ) (w : What) (c : Cache) (p : ℕ) : Type 0 where
  own : Keyed w (in_cache c p) → Takes now w c p
  spare : ((k : ℕ) → k < 64 → Keyed w (in_cache c k) → ⊥) → Spare now (in_cache c p) → ((k : ℕ) → k < p → Fresh now (in_cache c k)) → Takes now w c p
  oldest : ((k : ℕ) → k < 64 → Keyed w (in_cache c k) → ⊥) → ((k : ℕ) → k < 64 → Fresh now (in_cache c k))
      → ((k : ℕ) (d e : Cached) → k < 64 → in_cache c p ≡ some d → in_cache c k ≡ some e → (d.filled ≤ e.filled) × (k < p → d.filled < e.filled)) → Takes now w c p

-- the tag lies wholly inside the range of q registers from s on, and has a ttl above 0
abbrev pub Fast : (s q : ℕ) → Tag → Type 0
Fast s q t = (s ≤ t.address) × (last_of t < s + q) × (0 < ttl_of t)

-- a read of q registers from s on is cacheable: there is one, and every one of them lies in such a tag
abbrev pub Cacheable : List Tag → (s q : ℕ) → Type 0
Cacheable tags s q = (0 < q) × ((x : ℕ) → s ≤ x → x < s + q → (t : Tag) × Memᴰ t tags × Fast s q t × (t.address ≤ x) × (x ≤ last_of t))

-- its life is n: the ttl of one of these tags, and of none a smaller one
pub record Life (tags : List Tag) (s q n : ℕ) : Type 0 where
  pub one : (t : Tag) × Memᴰ t tags × Fast s q t × (ttl_of t ≡ n)
  pub least : (t : Tag) → Memᴰ t tags → Fast s q t → n ≤ ttl_of t
