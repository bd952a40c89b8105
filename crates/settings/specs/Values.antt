-- The settings value of the boundary's struct, and back; when two values are equal.
-- Assumes nothing.
use Rattle.std.specs.Prelude.{ℕ, ◌-◌, Bool, true, false, ◌&&◌, List, [], ◌∷◌, ◌++◌, map, length, get_or, replicate, eqb}
use Rattle.numbers.specs.Numbers.{most_tags, usual_timeout}
use Rattle.laws.specs.Lists.{tab}
use Rattle.settings.specs.Grammar.{Tag, Value}
use Rattle.settings.specs.declared.Settings.{Settings}

-- the boundary's struct of its fields
abbrev pub settings : (timeout join tags : ℕ) (addr width sign ttl strict : List ℕ) → Settings
settings timeout join tags addr width sign ttl strict =
    record { timeout = timeout; join = join; tags = tags; addr = addr; width = width; sign = sign; ttl = ttl; strict = strict }

-- the first tags of the columns
abbrev pub listed : (tags : ℕ) (addr width sign ttl strict : List ℕ) → List Tag
listed tags addr width sign ttl strict =
    tab tags (λ k. record { address = get_or addr k 0; width = get_or width k 0; sign = get_or sign k 0; ttl = get_or ttl k 0; strict = get_or strict k 0 })

-- the listed tags count, and nothing beyond them
unfoldable pub value_of : Settings → Value
value_of s = record { timeout = s.timeout; join = s.join; tags = listed s.tags s.addr s.width s.sign s.ttl s.strict }

-- places beyond the tags are 0
abbrev pub padded : List ℕ → List ℕ
padded ns = ns ++ replicate (most_tags - length ns) 0

unfoldable pub settings_of : Value → Settings
settings_of v =
    record {
      timeout = v.timeout;
      join = v.join;
      tags = length v.tags;
      addr = padded (map (λ (t : Tag). t.address) v.tags);
      width = padded (map (λ (t : Tag). t.width) v.tags);
      sign = padded (map (λ (t : Tag). t.sign) v.tags);
      ttl = padded (map (λ (t : Tag). t.ttl) v.tags);
      strict = padded (map (λ (t : Tag). t.strict) v.tags);
    }

-- timeout 3000, join 1, no tags
abbrev pub usual : Value
usual = record { timeout = usual_timeout; join = 1; tags = [] }

-- two settings values are equal when timeout, join and the listed tags with their signs, ttls and strict are
unfoldable pub same_tags : List Tag → List Tag → Bool
same_tags [] [] = true
same_tags [] (u ∷ us) = false
same_tags (t ∷ ts) [] = false
same_tags (t ∷ ts) (u ∷ us) = eqb t.address u.address && (eqb t.width u.width && (eqb t.sign u.sign && (eqb t.ttl u.ttl && (eqb t.strict u.strict && same_tags ts us))))

unfoldable pub same : Value → Value → Bool
same v w = eqb v.timeout w.timeout && (eqb v.join w.join && same_tags v.tags w.tags)
