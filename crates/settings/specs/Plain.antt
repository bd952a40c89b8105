-- The plain words of the theorems on settings: which values are valid, in numbers; which line of a text is the first wrong one, and which value right lines tell, without the reader; the bounds of a valid value, the line and the version that a text begins with, and the value with the longest text.
-- Assumes nothing.
use Rattle.std.specs.Prelude.{ℕ, ◌+◌, ◌*◌, ◌≤◌, ◌<◌, ◌≡◌, ◌⊎◌, length, get_or}
use Rattle.std.proofs.Math.Option.{some}
use mathlib.Core.List.{List, [], ◌∷◌, ◌++◌, Memᴰ}
use Rattle.numbers.specs.Numbers.{most_tags, least_timeout, most_timeout}
use Rattle.laws.specs.Lists.{tab}
use Rattle.settings.specs.Grammar.{Tag, Value, version_key, timeout_key, join_key, tags_key, addr_key, width_key, sign_key, ttl_key, strict_key, Version, versions}
use Rattle.settings.specs.declared.Settings.{Settings}
use Rattle.settings.specs.Lines.{Numbered, line_in}

-- a tag of a valid value: of width 16 with or without a sign, or of width 32 without one, within the addresses, with a ttl of at most 60,000, and strict or not
abbrev pub RightTag : Tag → Type 0
RightTag t =
    (((t.width ≡ 16) × (t.sign ≤ 1) × (t.address ≤ 65535)) ⊎ ((t.width ≡ 32) × (t.sign ≡ 0) × (t.address ≤ 65534))) × (t.ttl ≤ 60000) × (t.strict ≤ 1)

-- the address n is above the last register of a tag with this address and width
abbrev pub Above : (address width n : ℕ) → Type 0
Above a w n = ((w ≡ 16) × (a < n)) ⊎ ((w ≡ 32) × (a + 1 < n))

-- a valid value
pub record ValidPlainly (v : Value) : Type 0 where
  pub least : 100 ≤ v.timeout
  pub most : v.timeout ≤ 60000
  pub joins : (v.join ≡ 0) ⊎ (v.join ≡ 1)
  pub few : length v.tags ≤ 256
  pub each : (i : ℕ) (d : Tag) → i < length v.tags → RightTag (get_or v.tags i d)
  pub ascend : (i : ℕ) (d : Tag) → i + 1 < length v.tags → Above (get_or v.tags i d).address (get_or v.tags i d).width (get_or v.tags (i + 1) d).address

-- the same of the struct that a host lends, zb_settings: the first `tags` places count
abbrev pub tag_in : Settings → ℕ → Tag
tag_in s i = record { address = get_or s.addr i 0; width = get_or s.width i 0; sign = get_or s.sign i 0; ttl = get_or s.ttl i 0; strict = get_or s.strict i 0 }

pub record ValidSettings (s : Settings) : Type 0 where
  pub least : 100 ≤ s.timeout
  pub most : s.timeout ≤ 60000
  pub joins : (s.join ≡ 0) ⊎ (s.join ≡ 1)
  pub few : s.tags ≤ 256
  pub each : (i : ℕ) → i < s.tags → RightTag (tag_in s i)
  pub ascend : (i : ℕ) → i + 1 < s.tags → Above (get_or s.addr i 0) (get_or s.width i 0) (get_or s.addr (i + 1) 0)

-- the digits are the number n in decimal, without leading zeros
pub data Decimal : (digits : List ℕ) (n : ℕ) → Type 0 where
  one : (d : ℕ) → d ≤ 9 → Decimal ((48 + d) ∷ []) d
  more : {ds : List ℕ} {n : ℕ} (d : ℕ) → Decimal ds n → 1 ≤ n → d ≤ 9 → Decimal (ds ++ ((48 + d) ∷ [])) (10 * n + d)

-- the bytes of a line: its key, '=', a decimal without leading zeros, LF
pub record IsLine (key : List ℕ) (n : ℕ) (bytes : List ℕ) : Type 0 where
  pub digits : List ℕ
  pub decimal : Decimal digits n
  pub spells : bytes ≡ key ++ (61 ∷ digits ++ (10 ∷ []))

-- how many lines each tag has, by the version, which is the number of line 1: two in version 1, and one more in each later version
abbrev pub lines_of_tag : (above : List ℕ) → ℕ
lines_of_tag ns = get_or ns 0 0 + 1

-- above the address line of the tag i, counted from 0, the tag before ends below n; the first tag may have any address
abbrev pub FreeFrom : (above : List ℕ) (i n : ℕ) → Type 0
FreeFrom ns i n = (j : ℕ) → i ≡ j + 1 → Above (get_or ns (4 + j * lines_of_tag ns) 0) (get_or ns (4 + j * lines_of_tag ns + 1) 0) n

-- where the lines above have these numbers, a line with this key and the number n is right. A tag's lines come behind the four before the tags, for as many tags as line 4 says;
-- sign lines are of version 2 and later, ttl lines of version 3 and later, strict lines of version 4
pub data Right : (above key : List ℕ) (n : ℕ) → Type 0 where
  version : {n : ℕ} → 1 ≤ n → n ≤ 4 → Right [] version_key n
  timeout : {v n : ℕ} → 100 ≤ n → n ≤ 60000 → Right (v ∷ []) timeout_key n
  join : {v t n : ℕ} → (n ≡ 0) ⊎ (n ≡ 1) → Right (v ∷ t ∷ []) join_key n
  tags : {v t j n : ℕ} → n ≤ 256 → Right (v ∷ t ∷ j ∷ []) tags_key n
  addr : {ns : List ℕ} {n : ℕ} (i : ℕ) → i < get_or ns 3 0 → length ns ≡ 4 + i * lines_of_tag ns → n ≤ 65535 → FreeFrom ns i n → Right ns addr_key n
  width : {ns : List ℕ} {n : ℕ} (i : ℕ) → i < get_or ns 3 0 → length ns ≡ 4 + i * lines_of_tag ns + 1
      → (n ≡ 16) ⊎ ((n ≡ 32) × (get_or ns (4 + i * lines_of_tag ns) 0 < 65535)) → Right ns width_key n
  sign : {ns : List ℕ} {n : ℕ} (i : ℕ) → i < get_or ns 3 0 → 2 ≤ get_or ns 0 0 → length ns ≡ 4 + i * lines_of_tag ns + 2
      → (n ≡ 0) ⊎ ((n ≡ 1) × (get_or ns (4 + i * lines_of_tag ns + 1) 0 ≡ 16)) → Right ns sign_key n
  ttl : {ns : List ℕ} {n : ℕ} (i : ℕ) → i < get_or ns 3 0 → 3 ≤ get_or ns 0 0 → length ns ≡ 4 + i * lines_of_tag ns + 3 → n ≤ 60000 → Right ns ttl_key n
  strict : {ns : List ℕ} {n : ℕ} (i : ℕ) → i < get_or ns 3 0 → 4 ≤ get_or ns 0 0 → length ns ≡ 4 + i * lines_of_tag ns + 4 → n ≤ 1 → Right ns strict_key n

-- a right line stands first in r, below lines with these numbers
abbrev pub Next : (above r : List ℕ) → Type 0
Next ns r = (key : List ℕ) × (n : ℕ) × (line : List ℕ) × (rest : List ℕ) × (r ≡ line ++ rest) × IsLine key n line × Right ns key n

-- below lines with the numbers `above`, the text is right lines with the numbers ns, and `rest` behind them
pub data Lines : (above text ns rest : List ℕ) → Type 0 where
  none : {above text : List ℕ} → Lines above text [] text
  more : {above text line behind ns rest key : List ℕ} {n : ℕ} → text ≡ line ++ behind → IsLine key n line → Right above key n → Lines (above ++ (n ∷ [])) behind ns rest
      → Lines above text (n ∷ ns) rest

-- these are all the lines that a text has
abbrev pub AllLines : List ℕ → Type 0
AllLines ns = (4 ≤ length ns) × (length ns ≡ 4 + get_or ns 3 0 * lines_of_tag ns)

-- the value that lines with these numbers tell: line 2 its timeout, line 3 join, line 4 how many tags, and behind them a tag's address, its width, from version 2 on its sign, from
-- version 3 on its ttl and from version 4 on whether it is strict; in a version before that these are 0
pub record Reads (ns : List ℕ) (v : Value) : Type 0 where
  pub timeout : v.timeout ≡ get_or ns 1 0
  pub join : v.join ≡ get_or ns 2 0
  pub many : length v.tags ≡ get_or ns 3 0
  pub address : (i : ℕ) (d : Tag) → i < get_or ns 3 0 → (get_or v.tags i d).address ≡ get_or ns (4 + i * lines_of_tag ns) 0
  pub width : (i : ℕ) (d : Tag) → i < get_or ns 3 0 → (get_or v.tags i d).width ≡ get_or ns (4 + i * lines_of_tag ns + 1) 0
  pub unsigned : get_or ns 0 0 ≡ 1 → (i : ℕ) (d : Tag) → i < get_or ns 3 0 → (get_or v.tags i d).sign ≡ 0
  pub signed : 2 ≤ get_or ns 0 0 → (i : ℕ) (d : Tag) → i < get_or ns 3 0 → (get_or v.tags i d).sign ≡ get_or ns (4 + i * lines_of_tag ns + 2) 0
  pub uncached : get_or ns 0 0 < 3 → (i : ℕ) (d : Tag) → i < get_or ns 3 0 → (get_or v.tags i d).ttl ≡ 0
  pub cached : 3 ≤ get_or ns 0 0 → (i : ℕ) (d : Tag) → i < get_or ns 3 0 → (get_or v.tags i d).ttl ≡ get_or ns (4 + i * lines_of_tag ns + 3) 0
  pub lenient : get_or ns 0 0 < 4 → (i : ℕ) (d : Tag) → i < get_or ns 3 0 → (get_or v.tags i d).strict ≡ 0
  pub strict : 4 ≤ get_or ns 0 0 → (i : ℕ) (d : Tag) → i < get_or ns 3 0 → (get_or v.tags i d).strict ≡ get_or ns (4 + i * lines_of_tag ns + 4) 0

-- the same of the struct that a host gets, zb_settings, whole: it has 256 places for each number of a tag, and 0 in those that no tag uses
pub record ReadsTo (ns : List ℕ) (s : Settings) : Type 0 where
  pub timeout : s.timeout ≡ get_or ns 1 0
  pub join : s.join ≡ get_or ns 2 0
  pub tags : s.tags ≡ get_or ns 3 0
  pub address : (i : ℕ) → i < get_or ns 3 0 → get_or s.addr i 0 ≡ get_or ns (4 + i * lines_of_tag ns) 0
  pub width : (i : ℕ) → i < get_or ns 3 0 → get_or s.width i 0 ≡ get_or ns (4 + i * lines_of_tag ns + 1) 0
  pub unsigned : get_or ns 0 0 ≡ 1 → (i : ℕ) → i < get_or ns 3 0 → get_or s.sign i 0 ≡ 0
  pub signed : 2 ≤ get_or ns 0 0 → (i : ℕ) → i < get_or ns 3 0 → get_or s.sign i 0 ≡ get_or ns (4 + i * lines_of_tag ns + 2) 0
  pub uncached : get_or ns 0 0 < 3 → (i : ℕ) → i < get_or ns 3 0 → get_or s.ttl i 0 ≡ 0
  pub cached : 3 ≤ get_or ns 0 0 → (i : ℕ) → i < get_or ns 3 0 → get_or s.ttl i 0 ≡ get_or ns (4 + i * lines_of_tag ns + 3) 0
  pub lenient : get_or ns 0 0 < 4 → (i : ℕ) → i < get_or ns 3 0 → get_or s.strict i 0 ≡ 0
  pub strict : 4 ≤ get_or ns 0 0 → (i : ℕ) → i < get_or ns 3 0 → get_or s.strict i 0 ≡ get_or ns (4 + i * lines_of_tag ns + 4) 0
  pub unused : (i : ℕ) → get_or ns 3 0 ≤ i → (get_or s.addr i 0 ≡ 0) × (get_or s.width i 0 ≡ 0) × (get_or s.sign i 0 ≡ 0) × (get_or s.ttl i 0 ≡ 0) × (get_or s.strict i 0 ≡ 0)
  pub places : (length s.addr ≡ 256) × (length s.width ≡ 256) × (length s.sign ≡ 256) × (length s.ttl ≡ 256) × (length s.strict ≡ 256)

-- k is the number of the first wrong line of t: the lines 1 to k − 1 are each right, and line k is not, or is an extra byte behind the last line
pub record FirstWrong (t : List ℕ) (k : ℕ) : Type 0 where
  pub numbers : List ℕ
  pub rest : List ℕ
  pub above : Lines [] t numbers rest
  pub at : k ≡ length numbers + 1
  pub wrong : Next numbers rest → ⊥
  pub left : AllLines numbers → rest ≡ [] → ⊥

-- a tag has one of the two widths, and a sign only with the first
abbrev pub Wide : Tag → Type 0
Wide t = ((t.width ≡ 16) × (t.sign ≡ 0)) ⊎ ((t.width ≡ 32) × (t.sign ≡ 0)) ⊎ ((t.width ≡ 16) × (t.sign ≡ 1))

-- document 01's bounds on a value's numbers
pub record Bounds (v : Value) : Type 0 where
  pub least : least_timeout ≤ v.timeout
  pub most : v.timeout ≤ most_timeout
  pub joins : v.join ≤ 1
  pub few : length v.tags ≤ most_tags
  pub wide : (i : ℕ) (d : Tag) → i < length v.tags → Wide (get_or v.tags i d)

-- a line's number, and what is behind the line
abbrev pub numbered : ℕ → List ℕ → Numbered
numbered n r = record { number = n; rest = r }

-- the version line of a text, and the version
pub record Versioned (t : List ℕ) (y : Numbered) (x : Version) : Type 0 where
  pub line : line_in version_key t ≡ some y
  pub listed : Memᴰ x versions
  pub number : x.number ≡ y.number

-- the tag not strict; without its ttl besides; and without sign besides
abbrev pub lenient : Tag → Tag
lenient t = record { address = t.address; width = t.width; sign = t.sign; ttl = t.ttl; strict = 0 }

abbrev pub uncached : Tag → Tag
uncached t = record { address = t.address; width = t.width; sign = t.sign; ttl = 0; strict = 0 }

abbrev pub unsigned : Tag → Tag
unsigned t = record { address = t.address; width = t.width; sign = 0; ttl = 0; strict = 0 }

-- a valid value whose text is the longest, in each version
unfoldable pub full : Value
full = record { timeout = 60000; join = 1; tags = tab 256 (λ k. record { address = 10000 + k; width = 16; sign = 1; ttl = 60000; strict = 1 }) }
