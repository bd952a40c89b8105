-- Document 01's settings text, one of each later version with the values that they are the text of, and texts that a rule refuses with the number of the wrong line.
-- Assumes nothing.
use Rattle.std.specs.Prelude.{ℕ, List, [], ◌∷◌, ◌++◌, replicate}
use Rattle.settings.specs.Lines.{equals, line_of}
use Rattle.settings.specs.Grammar.{Value, Tag, version_key, timeout_key, join_key, tags_key, addr_key, width_key, sign_key, ttl_key, strict_key}

abbrev pub shown : List ℕ
shown =
    118 ∷ 101 ∷ 114 ∷ 115 ∷ 105 ∷ 111 ∷ 110 ∷ 61 ∷ 49 ∷ 10 ∷ 116 ∷ 105 ∷ 109 ∷ 101 ∷ 111 ∷ 117 ∷ 116 ∷ 61 ∷ 51 ∷ 48 ∷ 48 ∷ 48 ∷ 10 ∷ 106 ∷ 111 ∷ 105 ∷ 110 ∷ 61 ∷ 49 ∷ 10 ∷ 116 ∷ 97 ∷ 103 ∷ 115 ∷ 61 ∷ 50 ∷ 10 ∷ 97 ∷ 100 ∷ 100 ∷ 114 ∷ 61 ∷ 49 ∷ 48 ∷ 50 ∷ 52 ∷ 10 ∷ 119 ∷ 105 ∷ 100 ∷ 116 ∷ 104 ∷ 61 ∷ 49 ∷ 54 ∷ 10 ∷ 97 ∷ 100 ∷ 100 ∷ 114 ∷ 61 ∷ 49 ∷ 48 ∷ 50 ∷ 54 ∷ 10 ∷ 119 ∷ 105 ∷ 100 ∷ 116 ∷ 104 ∷ 61 ∷ 51 ∷ 50 ∷ 10 ∷ []

abbrev pub tag : ℕ → ℕ → ℕ → ℕ → ℕ → Tag
tag a w s l m = record { address = a; width = w; sign = s; ttl = l; strict = m }

abbrev pub meant : Value
meant = record { timeout = 3000; join = 1; tags = tag 1024 16 0 0 0 ∷ tag 1026 32 0 0 0 ∷ [] }

-- in version 2, with a tag that has a sign
abbrev pub signed_tag : Value
signed_tag = record { timeout = 3000; join = 1; tags = tag 1024 16 1 0 0 ∷ tag 1026 32 0 0 0 ∷ [] }

abbrev pub shown2 : List ℕ
shown2 =
    118 ∷ 101 ∷ 114 ∷ 115 ∷ 105 ∷ 111 ∷ 110 ∷ 61 ∷ 50 ∷ 10 ∷ 116 ∷ 105 ∷ 109 ∷ 101 ∷ 111 ∷ 117 ∷ 116 ∷ 61 ∷ 51 ∷ 48 ∷ 48 ∷ 48 ∷ 10 ∷ 106 ∷ 111 ∷ 105 ∷ 110 ∷ 61 ∷ 49 ∷ 10 ∷ 116 ∷ 97 ∷ 103 ∷ 115 ∷ 61 ∷ 50 ∷ 10 ∷ 97 ∷ 100 ∷ 100 ∷ 114 ∷ 61 ∷ 49 ∷ 48 ∷ 50 ∷ 52 ∷ 10 ∷ 119 ∷ 105 ∷ 100 ∷ 116 ∷ 104 ∷ 61 ∷ 49 ∷ 54 ∷ 10 ∷ 115 ∷ 105 ∷ 103 ∷ 110 ∷ 61 ∷ 49 ∷ 10 ∷ 97 ∷ 100 ∷ 100 ∷ 114 ∷ 61 ∷ 49 ∷ 48 ∷ 50 ∷ 54 ∷ 10 ∷ 119 ∷ 105 ∷ 100 ∷ 116 ∷ 104 ∷ 61 ∷ 51 ∷ 50 ∷ 10 ∷ 115 ∷ 105 ∷ 103 ∷ 110 ∷ 61 ∷ 48 ∷ 10 ∷ []

-- in version 3, with tags whose values are kept for half a second and for a minute
abbrev pub cached_tags : Value
cached_tags = record { timeout = 3000; join = 1; tags = tag 1024 16 1 500 0 ∷ tag 1026 32 0 60000 0 ∷ [] }

abbrev pub shown3 : List ℕ
shown3 =
    118 ∷ 101 ∷ 114 ∷ 115 ∷ 105 ∷ 111 ∷ 110 ∷ 61 ∷ 51 ∷ 10 ∷ 116 ∷ 105 ∷ 109 ∷ 101 ∷ 111 ∷ 117 ∷ 116 ∷ 61 ∷ 51 ∷ 48 ∷ 48 ∷ 48 ∷ 10 ∷ 106 ∷ 111 ∷ 105 ∷ 110 ∷ 61 ∷ 49 ∷ 10 ∷ 116 ∷ 97 ∷ 103 ∷ 115 ∷ 61 ∷ 50 ∷ 10 ∷ 97 ∷ 100 ∷ 100 ∷ 114 ∷ 61 ∷ 49 ∷ 48 ∷ 50 ∷ 52 ∷ 10 ∷ 119 ∷ 105 ∷ 100 ∷ 116 ∷ 104 ∷ 61 ∷ 49 ∷ 54 ∷ 10 ∷ 115 ∷ 105 ∷ 103 ∷ 110 ∷ 61 ∷ 49 ∷ 10 ∷ 116 ∷ 116 ∷ 108 ∷ 61 ∷ 53 ∷ 48 ∷ 48 ∷ 10 ∷ 97 ∷ 100 ∷ 100 ∷ 114 ∷ 61 ∷ 49 ∷ 48 ∷ 50 ∷ 54 ∷ 10 ∷ 119 ∷ 105 ∷ 100 ∷ 116 ∷ 104 ∷ 61 ∷ 51 ∷ 50 ∷ 10 ∷ 115 ∷ 105 ∷ 103 ∷ 110 ∷ 61 ∷ 48 ∷ 10 ∷ 116 ∷ 116 ∷ 108 ∷ 61 ∷ 54 ∷ 48 ∷ 48 ∷ 48 ∷ 48 ∷ 10 ∷ []

-- in version 4, with a tag that is strict
abbrev pub strict_tag : Value
strict_tag = record { timeout = 3000; join = 1; tags = tag 1024 16 1 500 1 ∷ tag 1026 32 0 60000 0 ∷ [] }

abbrev pub shown4 : List ℕ
shown4 =
    118 ∷ 101 ∷ 114 ∷ 115 ∷ 105 ∷ 111 ∷ 110 ∷ 61 ∷ 52 ∷ 10 ∷ 116 ∷ 105 ∷ 109 ∷ 101 ∷ 111 ∷ 117 ∷ 116 ∷ 61 ∷ 51 ∷ 48 ∷ 48 ∷ 48 ∷ 10 ∷ 106 ∷ 111 ∷ 105 ∷ 110 ∷ 61 ∷ 49 ∷ 10 ∷ 116 ∷ 97 ∷ 103 ∷ 115 ∷ 61 ∷ 50 ∷ 10 ∷ 97 ∷ 100 ∷ 100 ∷ 114 ∷ 61 ∷ 49 ∷ 48 ∷ 50 ∷ 52 ∷ 10 ∷ 119 ∷ 105 ∷ 100 ∷ 116 ∷ 104 ∷ 61 ∷ 49 ∷ 54 ∷ 10 ∷ 115 ∷ 105 ∷ 103 ∷ 110 ∷ 61 ∷ 49 ∷ 10 ∷ 116 ∷ 116 ∷ 108 ∷ 61 ∷ 53 ∷ 48 ∷ 48 ∷ 10 ∷ 115 ∷ 116 ∷ 114 ∷ 105 ∷ 99 ∷ 116 ∷ 61 ∷ 49 ∷ 10 ∷ 97 ∷ 100 ∷ 100 ∷ 114 ∷ 61 ∷ 49 ∷ 48 ∷ 50 ∷ 54 ∷ 10 ∷ 119 ∷ 105 ∷ 100 ∷ 116 ∷ 104 ∷ 61 ∷ 51 ∷ 50 ∷ 10 ∷ 115 ∷ 105 ∷ 103 ∷ 110 ∷ 61 ∷ 48 ∷ 10 ∷ 116 ∷ 116 ∷ 108 ∷ 61 ∷ 54 ∷ 48 ∷ 48 ∷ 48 ∷ 48 ∷ 10 ∷ 115 ∷ 116 ∷ 114 ∷ 105 ∷ 99 ∷ 116 ∷ 61 ∷ 48 ∷ 10 ∷ []

-- texts with something wrong, by lines, and the number of the wrong line
abbrev pub joined : List (List ℕ) → List ℕ
joined [] = []
joined (l ∷ ls) = l ++ joined ls

abbrev version1 : List ℕ
version1 = line_of version_key 1

abbrev version2 : List ℕ
version2 = line_of version_key 2

abbrev version3 : List ℕ
version3 = line_of version_key 3

abbrev version4 : List ℕ
version4 = line_of version_key 4

abbrev timeout : ℕ → List ℕ
timeout n = line_of timeout_key n

abbrev join : ℕ → List ℕ
join n = line_of join_key n

abbrev tags : ℕ → List ℕ
tags n = line_of tags_key n

abbrev addr : ℕ → List ℕ
addr n = line_of addr_key n

abbrev width : ℕ → List ℕ
width n = line_of width_key n

abbrev sign : ℕ → List ℕ
sign n = line_of sign_key n

abbrev ttl : ℕ → List ℕ
ttl n = line_of ttl_key n

abbrev strict : ℕ → List ℕ
strict n = line_of strict_key n

-- "version=1" with CR LF; "timeout=03000"; a number of 30 digits; a line without LF
abbrev carriage : List ℕ
carriage = version_key ++ (equals ∷ 49 ∷ 13 ∷ 10 ∷ [])

abbrev zeroed : List ℕ
zeroed = timeout_key ++ (equals ∷ 48 ∷ 51 ∷ 48 ∷ 48 ∷ 48 ∷ 10 ∷ [])

abbrev long : List ℕ
long = timeout_key ++ (equals ∷ replicate 30 51 ++ (10 ∷ []))

abbrev unended : List ℕ
unended = width_key ++ (equals ∷ 51 ∷ 50 ∷ [])

pub record Damage : Type 0 where
  pub lines : List (List ℕ)
  pub wrong_line : ℕ

abbrev damage : List (List ℕ) → ℕ → Damage
damage ls k = record { lines = ls; wrong_line = k }

abbrev pub damages : List Damage
damages =
    damage [] 1
    ∷ damage (line_of version_key 0 ∷ timeout 3000 ∷ join 1 ∷ tags 0 ∷ []) 1
    ∷ damage (line_of version_key 5 ∷ timeout 3000 ∷ join 1 ∷ tags 0 ∷ []) 1
    ∷ damage (carriage ∷ timeout 3000 ∷ join 1 ∷ tags 0 ∷ []) 1
    ∷ damage (version1 ∷ zeroed ∷ join 1 ∷ tags 0 ∷ []) 2
    ∷ damage (version1 ∷ long ∷ join 1 ∷ tags 0 ∷ []) 2
    ∷ damage (version1 ∷ timeout 99 ∷ join 1 ∷ tags 0 ∷ []) 2
    ∷ damage (version1 ∷ timeout 60001 ∷ join 1 ∷ tags 0 ∷ []) 2
    ∷ damage (version1 ∷ join 1 ∷ tags 0 ∷ []) 2
    ∷ damage (version1 ∷ timeout 3000 ∷ tags 0 ∷ []) 3
    ∷ damage (version1 ∷ timeout 3000 ∷ join 2 ∷ tags 0 ∷ []) 3
    ∷ damage (version1 ∷ timeout 3000 ∷ join 1 ∷ tags 257 ∷ []) 4
    ∷ damage (version1 ∷ timeout 3000 ∷ join 1 ∷ tags 0 ∷ (10 ∷ []) ∷ []) 5
    ∷ damage (version1 ∷ timeout 3000 ∷ join 1 ∷ tags 1 ∷ addr 65536 ∷ width 16 ∷ []) 5
    ∷ damage (version1 ∷ timeout 3000 ∷ join 1 ∷ tags 1 ∷ addr 65535 ∷ width 32 ∷ []) 6
    ∷ damage (version1 ∷ timeout 3000 ∷ join 1 ∷ tags 1 ∷ addr 1024 ∷ width 17 ∷ []) 6
    ∷ damage (version1 ∷ timeout 3000 ∷ join 1 ∷ tags 2 ∷ addr 1024 ∷ width 16 ∷ addr 1024 ∷ width 16 ∷ []) 7
    ∷ damage (version1 ∷ timeout 3000 ∷ join 1 ∷ tags 2 ∷ addr 1024 ∷ width 32 ∷ addr 1025 ∷ width 16 ∷ []) 7
    ∷ damage (version1 ∷ timeout 3000 ∷ join 1 ∷ tags 2 ∷ addr 1024 ∷ width 16 ∷ addr 1025 ∷ unended ∷ []) 8
    ∷ damage (version1 ∷ timeout 3000 ∷ join 1 ∷ tags 3 ∷ addr 1024 ∷ width 16 ∷ addr 1026 ∷ width 32 ∷ []) 9
    ∷ damage (version1 ∷ timeout 3000 ∷ join 1 ∷ tags 2 ∷ addr 1024 ∷ width 16 ∷ addr 1026 ∷ width 32 ∷ (48 ∷ []) ∷ []) 9
    ∷ damage (version1 ∷ timeout 3000 ∷ join 1 ∷ tags 2 ∷ addr 1024 ∷ width 16 ∷ sign 0 ∷ addr 1026 ∷ width 32 ∷ sign 0 ∷ []) 7
    ∷ damage (version2 ∷ timeout 3000 ∷ join 2 ∷ tags 0 ∷ []) 3
    ∷ damage (version2 ∷ timeout 3000 ∷ join 1 ∷ tags 0 ∷ (10 ∷ []) ∷ []) 5
    ∷ damage (version2 ∷ timeout 3000 ∷ join 1 ∷ tags 1 ∷ addr 1024 ∷ width 17 ∷ sign 0 ∷ []) 6
    ∷ damage (version2 ∷ timeout 3000 ∷ join 1 ∷ tags 1 ∷ addr 1024 ∷ width 16 ∷ []) 7
    ∷ damage (version2 ∷ timeout 3000 ∷ join 1 ∷ tags 1 ∷ addr 1024 ∷ width 16 ∷ sign 2 ∷ []) 7
    ∷ damage (version2 ∷ timeout 3000 ∷ join 1 ∷ tags 1 ∷ addr 1024 ∷ width 32 ∷ sign 1 ∷ []) 7
    ∷ damage (version2 ∷ timeout 3000 ∷ join 1 ∷ tags 2 ∷ addr 1024 ∷ width 16 ∷ addr 1026 ∷ width 32 ∷ []) 7
    ∷ damage (version2 ∷ timeout 3000 ∷ join 1 ∷ tags 2 ∷ addr 1024 ∷ width 32 ∷ sign 0 ∷ addr 1025 ∷ width 16 ∷ sign 0 ∷ []) 8
    ∷ damage (version2 ∷ timeout 3000 ∷ join 1 ∷ tags 2 ∷ addr 1024 ∷ width 16 ∷ sign 1 ∷ addr 1026 ∷ width 32 ∷ sign 1 ∷ []) 10
    ∷ damage (version2 ∷ timeout 3000 ∷ join 1 ∷ tags 2 ∷ addr 1024 ∷ width 16 ∷ sign 1 ∷ addr 1026 ∷ width 32 ∷ sign 0 ∷ (48 ∷ []) ∷ []) 11
    ∷ damage (version2 ∷ timeout 3000 ∷ join 1 ∷ tags 1 ∷ addr 1024 ∷ width 16 ∷ sign 0 ∷ ttl 0 ∷ []) 8
    ∷ damage (version3 ∷ timeout 3000 ∷ join 1 ∷ tags 0 ∷ (10 ∷ []) ∷ []) 5
    ∷ damage (version3 ∷ timeout 3000 ∷ join 1 ∷ tags 1 ∷ addr 1024 ∷ width 32 ∷ sign 1 ∷ ttl 0 ∷ []) 7
    ∷ damage (version3 ∷ timeout 3000 ∷ join 1 ∷ tags 1 ∷ addr 1024 ∷ width 16 ∷ sign 0 ∷ []) 8
    ∷ damage (version3 ∷ timeout 3000 ∷ join 1 ∷ tags 1 ∷ addr 1024 ∷ width 16 ∷ sign 0 ∷ ttl 60001 ∷ []) 8
    ∷ damage (version3 ∷ timeout 3000 ∷ join 1 ∷ tags 2 ∷ addr 1024 ∷ width 16 ∷ sign 0 ∷ ttl 0 ∷ addr 1024 ∷ width 16 ∷ sign 0 ∷ ttl 0 ∷ []) 9
    ∷ damage (version3 ∷ timeout 3000 ∷ join 1 ∷ tags 2 ∷ addr 1024 ∷ width 16 ∷ sign 0 ∷ ttl 60000 ∷ addr 1026 ∷ width 32 ∷ sign 0 ∷ ttl 60000 ∷ (48 ∷ []) ∷ []) 13
    ∷ damage (version3 ∷ timeout 3000 ∷ join 1 ∷ tags 1 ∷ addr 1024 ∷ width 16 ∷ sign 0 ∷ ttl 0 ∷ strict 0 ∷ []) 9
    ∷ damage (version4 ∷ timeout 3000 ∷ join 1 ∷ tags 0 ∷ (10 ∷ []) ∷ []) 5
    ∷ damage (version4 ∷ timeout 3000 ∷ join 1 ∷ tags 1 ∷ addr 1024 ∷ width 16 ∷ sign 0 ∷ ttl 60001 ∷ strict 0 ∷ []) 8
    ∷ damage (version4 ∷ timeout 3000 ∷ join 1 ∷ tags 1 ∷ addr 1024 ∷ width 16 ∷ sign 0 ∷ ttl 0 ∷ []) 9
    ∷ damage (version4 ∷ timeout 3000 ∷ join 1 ∷ tags 1 ∷ addr 1024 ∷ width 16 ∷ sign 0 ∷ ttl 0 ∷ strict 2 ∷ []) 9
    ∷ damage (version4 ∷ timeout 3000 ∷ join 1 ∷ tags 2 ∷ addr 1024 ∷ width 16 ∷ sign 0 ∷ ttl 0 ∷ addr 1026 ∷ width 16 ∷ sign 0 ∷ ttl 0 ∷ []) 9
    ∷ damage (version4 ∷ timeout 3000 ∷ join 1 ∷ tags 2 ∷ addr 1024 ∷ width 16 ∷ sign 0 ∷ ttl 0 ∷ strict 1 ∷ addr 1024 ∷ width 16 ∷ sign 0 ∷ ttl 0 ∷ strict 1 ∷ []) 10
    ∷ damage (version4 ∷ timeout 3000 ∷ join 1 ∷ tags 2 ∷ addr 1024 ∷ width 16 ∷ sign 0 ∷ ttl 0 ∷ strict 0 ∷ addr 1026 ∷ width 32 ∷ sign 0 ∷ ttl 0 ∷ strict 1 ∷ (48 ∷ []) ∷ []) 15
    ∷ []
