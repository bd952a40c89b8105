-- The settings text: the lines of a version, the rule of each line given the lines before it, the text of a value, and what a text is read to.
-- Assumes nothing.
use Rattle.std.specs.Prelude.{ℕ, zero, suc, ◌+◌, ◌*◌, Bool, true, false, cond, ◌&&◌, ◌||◌, length, get_or, take, eqb, ltb, leb}
use Rattle.std.proofs.Math.Option.{Option, some, none}
use mathlib.Core.List.{List, [], ◌∷◌, ◌++◌, map, flat_map}
use Rattle.numbers.specs.Numbers.{most_tags, least_timeout, most_timeout, addresses, most_ttl, newest_version}
use Rattle.settings.specs.Lines.{Numbered, line_of, line_in}
use Rattle.settings.specs.declared.Tag.{Tag as CodeTag}

-- a tag is the code's: its address, width, sign, ttl and strict
abbrev pub Tag : Type 0
Tag = CodeTag

-- a settings value: timeout, join, and its tags in their order
pub record Value : Type 0 where
  pub timeout : ℕ
  pub join : ℕ
  pub tags : List Tag

-- the numbers of a value's lines behind the version line, and of a tag's lines, in the newest version; an older version has the first of a tag's lines, and the others' numbers are 0
abbrev pub head_numbers : Value → List ℕ
head_numbers v = v.timeout ∷ v.join ∷ length v.tags ∷ []

abbrev pub tag_numbers : Tag → List ℕ
tag_numbers t = t.address ∷ t.width ∷ t.sign ∷ t.ttl ∷ t.strict ∷ []

abbrev pub tag_from : List ℕ → Tag
tag_from ns = record { address = get_or ns 0 0; width = get_or ns 1 0; sign = get_or ns 2 0; ttl = get_or ns 3 0; strict = get_or ns 4 0 }

abbrev pub value_from : List ℕ → List Tag → Value
value_from ns ts = record { timeout = get_or ns 0 0; join = get_or ns 1 0; tags = ts }

-- a line has a key, and a rule for its number: given the numbers of the tag before, and of the lines above it in the same tag
pub record Line : Type 0 where
  pub key : List ℕ
  pub right : List ℕ → List ℕ → ℕ → Bool

abbrev pub line : List ℕ → (List ℕ → List ℕ → ℕ → Bool) → Line
line k r = record { key = k; right = r }

-- the last register of a tag; the address of a tag must be above that of the tag before, if there is one
abbrev pub last_register : List ℕ → ℕ
last_register tag = cond (eqb (get_or tag 1 0) 32) (get_or tag 0 0 + 1) (get_or tag 0 0)

unfoldable pub ascends : List ℕ → ℕ → Bool
ascends [] n = true
ascends (a ∷ ns) n = ltb (last_register (a ∷ ns)) n

-- "version", "timeout", "join", "tags", "addr", "width", "sign", "ttl", "strict"
abbrev pub version_key : List ℕ
version_key = 118 ∷ 101 ∷ 114 ∷ 115 ∷ 105 ∷ 111 ∷ 110 ∷ []

abbrev pub timeout_key : List ℕ
timeout_key = 116 ∷ 105 ∷ 109 ∷ 101 ∷ 111 ∷ 117 ∷ 116 ∷ []

abbrev pub join_key : List ℕ
join_key = 106 ∷ 111 ∷ 105 ∷ 110 ∷ []

abbrev pub tags_key : List ℕ
tags_key = 116 ∷ 97 ∷ 103 ∷ 115 ∷ []

abbrev pub addr_key : List ℕ
addr_key = 97 ∷ 100 ∷ 100 ∷ 114 ∷ []

abbrev pub width_key : List ℕ
width_key = 119 ∷ 105 ∷ 100 ∷ 116 ∷ 104 ∷ []

abbrev pub sign_key : List ℕ
sign_key = 115 ∷ 105 ∷ 103 ∷ 110 ∷ []

abbrev pub ttl_key : List ℕ
ttl_key = 116 ∷ 116 ∷ 108 ∷ []

abbrev pub strict_key : List ℕ
strict_key = 115 ∷ 116 ∷ 114 ∷ 105 ∷ 99 ∷ 116 ∷ []

-- the rule of each line
abbrev pub right_timeout : ℕ → Bool
right_timeout n = leb least_timeout n && leb n most_timeout

abbrev pub right_join : ℕ → Bool
right_join n = leb n 1

abbrev pub right_tags : ℕ → Bool
right_tags n = leb n most_tags

abbrev pub right_addr : List ℕ → ℕ → Bool
right_addr prior n = ltb n addresses && ascends prior n

abbrev pub right_width : List ℕ → ℕ → Bool
right_width own n = eqb n 16 || (eqb n 32 && ltb (get_or own 0 0 + 1) addresses)

-- only a tag of width 16 has a sign
abbrev pub right_sign : List ℕ → ℕ → Bool
right_sign own n = eqb n 0 || (eqb n 1 && eqb (get_or own 1 0) 16)

abbrev pub right_ttl : ℕ → Bool
right_ttl n = leb n most_ttl

abbrev pub right_strict : ℕ → Bool
right_strict n = leb n 1

-- the lines before the tags, and the lines of a tag in the order in which the versions brought them: a later line of a tag is one more here
abbrev pub head_lines : List Line
head_lines = line timeout_key (λ prior own n. right_timeout n) ∷ line join_key (λ prior own n. right_join n) ∷ line tags_key (λ prior own n. right_tags n) ∷ []

abbrev pub tag_lines : List Line
tag_lines =
    line addr_key (λ prior own n. right_addr prior n)
    ∷ line width_key (λ prior own n. right_width own n)
    ∷ line sign_key (λ prior own n. right_sign own n)
    ∷ line ttl_key (λ prior own n. right_ttl n)
    ∷ line strict_key (λ prior own n. right_strict n)
    ∷ []

-- a version: its number, its lines behind the version line, and the lines of each tag
pub record Version : Type 0 where
  pub number : ℕ
  pub head : List Line
  pub tag : List Line

-- version 1 has address and width, and each version one line more
abbrev pub version_of : ℕ → Version
version_of n = record { number = n; head = head_lines; tag = take (suc n) tag_lines }

abbrev pub versions : List Version
versions = version_of 1 ∷ version_of 2 ∷ version_of 3 ∷ version_of 4 ∷ []

abbrev pub newest : Version
newest = version_of newest_version

-- the listed version of that number
unfoldable pub version_in : List Version → ℕ → Option Version
version_in [] n = none
version_in (x ∷ xs) n = cond (eqb x.number n) (some x) (version_in xs n)

-- the text of lines with their numbers, and of a value in a version
unfoldable pub text_of_lines : List Line → List ℕ → List ℕ
text_of_lines [] ns = []
text_of_lines (l ∷ ls) [] = []
text_of_lines (l ∷ ls) (n ∷ ns) = line_of l.key n ++ text_of_lines ls ns

-- the numbers of a tag that have a line
abbrev pub numbers_in : List Line → Tag → List ℕ
numbers_in ls t = take (length ls) (tag_numbers t)

unfoldable pub text_in : Version → Value → List ℕ
text_in x v =
    line_of version_key x.number ++ (text_of_lines x.head (head_numbers v) ++ flat_map (λ t. text_of_lines x.tag (numbers_in x.tag t)) v.tags)

-- every number follows the rule of its line
unfoldable pub all_right : List Line → List ℕ → List ℕ → List ℕ → Bool
all_right [] prior own ns = true
all_right (l ∷ ls) prior own [] = false
all_right (l ∷ ls) prior own (n ∷ ns) = l.right prior own n && all_right ls prior (own ++ (n ∷ [])) ns

unfoldable pub tags_right : List Line → List ℕ → List Tag → Bool
tags_right ls prior [] = true
tags_right ls prior (t ∷ ts) = all_right ls prior [] (numbers_in ls t) && tags_right ls (numbers_in ls t) ts

unfoldable pub valid_in : Version → Value → Bool
valid_in x v = all_right x.head [] [] (head_numbers v) && tags_right x.tag [] v.tags

abbrev pub valid : Value → Bool
valid v = valid_in newest v

-- what a version's text tells of a value: the numbers of the lines that it has, and 0 for the others
unfoldable pub told_by_version : Version → Value → Value
told_by_version x v = record { timeout = v.timeout; join = v.join; tags = map (λ (t : Tag). tag_from (numbers_in x.tag t)) v.tags }

-- a line whose number follows a rule
unfoldable pub ruled : (ℕ → Bool) → Option Numbered → Option Numbered
ruled rule none = none
ruled rule (some x) = cond (rule x.number) (some x) none

-- what reading comes to: what was read with the text behind it, or the number of the first wrong line
pub data Read (A : Type 0) : Type 0 where
  got : A → List ℕ → Read A
  wrong : ℕ → Read A

-- lines read one by one, from the line number `at` on
unfoldable pub read_lines : ℕ → List Line → List ℕ → List ℕ → List ℕ → Read (List ℕ)
read_lines at [] prior own t = got own t
read_lines at (l ∷ ls) prior own t =
    elim (line_in l.key t) [
      | none ↦ wrong at
      | some x ↦ elim (l.right prior own x.number) [ true ↦ read_lines (suc at) ls prior (own ++ (x.number ∷ [])) x.rest | false ↦ wrong at ]
    ]

-- so many tags
unfoldable pub read_tags : ℕ → ℕ → List Line → List ℕ → List ℕ → Read (List Tag)
read_tags zero at ls prior t = got [] t
read_tags (suc n) at ls prior t =
    elim (read_lines at ls prior [] t) [
      | wrong k ↦ wrong k
      | got own r ↦ elim (read_tags n (at + length ls) ls own r) [ wrong k ↦ wrong k | got ts q ↦ got (tag_from own ∷ ts) q ]
    ]

-- what is read behind the head lines, whose numbers are ns; where all has been read, an extra byte is wrong at the next number
unfoldable pub read_behind : Version → List ℕ → List ℕ → Read Value
read_behind x ns t =
    elim (read_tags (get_or ns 2 0) (2 + length x.head) x.tag [] t) [
      | wrong k ↦ wrong k
      | got ts q ↦ cond (eqb (length q) 0) (got (value_from ns ts) []) (wrong (2 + length x.head + length x.tag * length ts))
    ]

-- the lines of a version, from the line behind the version line on
unfoldable pub read_in : Version → List ℕ → Read Value
read_in x t = elim (read_lines 2 x.head [] [] t) [ wrong k ↦ wrong k | got ns r ↦ read_behind x ns r ]

-- a text: the version line, then the lines of that version
unfoldable pub read_text : List ℕ → Read Value
read_text t =
    elim (line_in version_key t) [
      | none ↦ wrong 1
      | some x ↦ elim (version_in versions x.number) [ none ↦ wrong 1 | some v ↦ read_in v x.rest ]
    ]
