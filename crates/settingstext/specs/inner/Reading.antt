-- What each function of the reader answers for a text: the number of the line that it begins with, or a tag's numbers, with the text behind.
-- Assumes nothing.
use Rattle.std.specs.Prelude.{ℕ, ◌+◌, ◌≤◌, min, ◌≡◌, Bool, ◌&&◌, cond, List, [], ◌∷◌, ltb, leb, Option, Some, None, Result, Ok, Err}
use Rattle.std.specs.Borrow.{Bor}
use Rattle.std.proofs.Math.Option as math
use Rattle.numbers.specs.Numbers.{most_tags, newest_version}
use Rattle.settings.specs.Lines.{Numbered, behind, number_in}
use Rattle.settings.specs.Grammar.{Tag, Value, Read, version_of, last_register, tag_from, read_behind, ruled}
use Rattle.settings.specs.Grammar.Read.{got, wrong}
use Rattle.settings.specs.Values.{settings}
use Rattle.settings.specs.declared.Settings.{Settings}
use Rattle.settingstext.specs.TextRead.{reported}
use Rattle.settingstext.specs.declared.reading.WrongLine.{WrongLine}
use Rattle.settingstext.specs.declared.reading.Head.{Head}

-- the code's numbers stay here: above every number that a line may have
abbrev pub ceiling : ℕ
ceiling = 1000000

unfoldable pub capped : math.Option Numbered → math.Option Numbered
capped math.none = math.none
capped (math.some x) = math.some (record { number = min x.number ceiling; rest = x.rest })

-- the number behind a beginning
unfoldable pub line_behind : List ℕ → List ℕ → math.Option Numbered
line_behind key t = elim (behind key t) [ math.none ↦ math.none | math.some r ↦ number_in r ]

-- a rule that is a range
abbrev pub within : ℕ → ℕ → ℕ → Bool
within least most n = leb least n && leb n most

-- the lowest address behind a tag, if there is one
unfoldable pub lowest : List ℕ → ℕ
lowest [] = 0
lowest (a ∷ ns) = last_register (a ∷ ns) + 1

-- what the code tells of a line: its number and the text behind it, or nothing where the line is wrong
abbrev pub numbered : Option (ℕ × Bor (List ℕ)) → math.Option Numbered
numbered None = math.none
numbered (Some x) = math.some (record { number = x.0; rest = x.1.now })

-- what it tells of a tag: the tag and the text behind it, or a wrong line; and the tag that lines tell
abbrev pub told : Result (Tag × Bor (List ℕ)) WrongLine → Read Tag
told (Ok x) = got x.0 x.1.now
told (Err e) = wrong e.0

unfoldable pub tag_read : Read (List ℕ) → Read Tag
tag_read (wrong k) = wrong k
tag_read (got ns r) = got (tag_from ns) r

abbrev pub wrong_at : ℕ → WrongLine
wrong_at k = record { 0 = k }

-- a line of a tag, with a number of at most `most`, that there is since a version: an older one has no line for it, and the number is 0
unfoldable pub later_read : (version since : ℕ) (text key : List ℕ) (most : ℕ) → math.Option Numbered
later_read version since text key most = cond (ltb version since) (math.some (record { number = 0; rest = text })) (ruled (within 0 most) (line_behind key text))

-- the numbers of right lines before the tags are in their ranges
pub record HeadRight (h : Head) : Type 0 where
  pub few : h.tags ≤ most_tags
  pub listed : (1 ≤ h.version) × (h.version ≤ newest_version)

-- what is read behind them
abbrev pub behind_head : Head → Read Value
behind_head h = read_behind (version_of h.version) (h.timeout ∷ h.join ∷ h.tags ∷ []) h.rest.now

-- what the lines before the tags say of reading: the numbers, and the rest of the text; or the first wrong line
unfoldable pub Headed : Read Value → Result Head WrongLine → Type 0
Headed whole (Ok h) = (whole ≡ behind_head h) × HeadRight h
Headed whole (Err e) = whole ≡ wrong e.0

-- what the lines of the tags say of it: the columns of the value, or the first wrong line
unfoldable pub TagsRead : Head → Result Unit WrongLine → Settings → Type 0
TagsRead h (Ok u) s = record { line = 0; settings = settings h.timeout h.join h.tags s.addr s.width s.sign s.ttl s.strict } ≡ reported (behind_head h)
TagsRead h (Err e) s = behind_head h ≡ wrong e.0

-- what all lines say: the value, or the first wrong line
unfoldable pub ReadInto : Read Value → Result Unit WrongLine → Settings → Type 0
ReadInto whole (Ok u) s = record { line = 0; settings = s } ≡ reported whole
ReadInto whole (Err e) s = whole ≡ wrong e.0
