-- Which reads are cached and for how long (#107): a read of registers each of which lies in a tag that is wholly inside the range and has a ttl; the smallest of these ttls.
-- Assumes nothing.
use Rattle.std.specs.Prelude.{ℕ, ◌+◌, min, Bool, false, ◌&&◌, ◌||◌, List, [], ◌∷◌, map, eqb, ltb, leb}
use Rattle.laws.specs.Lists.{filter}
use Rattle.laws.specs.Search.{count}
use Rattle.settings.specs.Grammar.{Tag}
use Rattle.settings.specs.TagWords.{last_of}
use Rattle.pdu.specs.declared.What.{What}
use Rattle.pdu.specs.declared.Table.TheVariants.{Bits, Registers}
use Rattle.pdu.specs.declared.Asked.{Asked}
use Rattle.pdu.specs.declared.Asked.TheVariants.{Read, SingleWrite, MultipleWrite, MaskWrite, ReadWrite, Other}

-- a tag's time to live
abbrev pub ttl_of : Tag → ℕ
ttl_of t = t.ttl

-- the tag lies wholly inside the range of q registers from s on, and has a ttl above 0
abbrev pub is_fast : (s q : ℕ) → Tag → Bool
is_fast s q t = leb s t.address && (ltb (last_of t) (s + q) && ltb 0 (ttl_of t))

-- the register x lies in such a tag
unfoldable pub is_covered : (s q : ℕ) → List Tag → ℕ → Bool
is_covered s q [] x = false
is_covered s q (t ∷ ts) x = (is_fast s q t && (leb t.address x && leb x (last_of t))) || is_covered s q ts x

-- a read of registers (03, 04) is cacheable if there is one and every register lies in such a tag
unfoldable pub cacheable_by : List Tag → Asked → Bool
cacheable_by tags (Read Bits s q) = false
cacheable_by tags (Read Registers s q) = ltb 0 q && eqb (count (λ k. is_covered s q tags (s + k)) q) q
cacheable_by tags (SingleWrite t a v) = false
cacheable_by tags (MultipleWrite t s q) = false
cacheable_by tags (MaskWrite a x y) = false
cacheable_by tags (ReadWrite s q u p) = false
cacheable_by tags Other = false

abbrev pub cacheable : List Tag → What → Bool
cacheable tags w = cacheable_by tags w.asked

-- its life is the smallest ttl of these tags
unfoldable pub smallest : List ℕ → ℕ
smallest [] = 0
smallest (n ∷ []) = n
smallest (n ∷ k ∷ ns) = min n (smallest (k ∷ ns))

unfoldable pub life_by : List Tag → Asked → ℕ
life_by tags (Read t s q) = smallest (map ttl_of (filter (is_fast s q) tags))
life_by tags (SingleWrite t a v) = 0
life_by tags (MultipleWrite t s q) = 0
life_by tags (MaskWrite a x y) = 0
life_by tags (ReadWrite s q u p) = 0
life_by tags Other = 0

abbrev pub life_of : List Tag → What → ℕ
life_of tags w = life_by tags w.asked
