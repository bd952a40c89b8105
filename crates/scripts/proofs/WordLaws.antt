-- Laws on the letter that tells a call, and on the settings in it.
-- Assumes nothing.
use Prim.Native.Nat.{ℕ, ◌+◌, ◌%◌}
use mathlib.Core.Path.{◌≡◌}
use mathlib.Core.List.{List}
use lib.ListN.{get_or, set}
use borrow.Author.Tests.{eq-eqb, ne_eqb}
use Rattle.settings.specs.declared.Settings.{Settings}
use Rattle.settings.specs.Values.{settings_of}
use Rattle.scripts.specs.Words.{letter_of, document, short_number, tag_number, settings_in}

-- the letter of a call that begins with 'r', and of any other
pub letter_third : (call : List ℕ) → get_or call 0 0 ≡ 114 → letter_of call ≡ get_or call 2 0 % 32 + 64
letter_third call e = rw (eq-eqb (get_or call 0 0) 114 e)

pub letter_first : (call : List ℕ) → (get_or call 0 0 ≡ 114 → ⊥) → letter_of call ≡ get_or call 0 0
letter_first call e = rw (ne_eqb (get_or call 0 0) 114 e)

-- the numbers of a call over document 01's settings
pub settings-made : (call : List ℕ) (s : Settings) (timeout join tags first second third fourth fifth sixth : ℕ)
    → s ≡ settings_of document
    → timeout ≡ short_number call 2 s.timeout
    → join ≡ short_number call 4 s.join
    → tags ≡ short_number call 6 s.tags
    → first ≡ tag_number call 8
    → second ≡ tag_number call 9
    → third ≡ tag_number call 11
    → fourth ≡ tag_number call 12
    → fifth ≡ tag_number call 14
    → sixth ≡ tag_number call 15
    → ◌≡◌ {A = Settings} (record { timeout = timeout; join = join; tags = tags; addr = s.addr; width = s.width; sign = set (set s.sign 0 first) 1 second; ttl = set (set s.ttl 0 third) 1 fourth; strict = set (set s.strict 0 fifth) 1 sixth }) (settings_in call)
unfolding settings_in settings_of
settings-made call s timeout join tags first second third fourth fifth sixth e a b d x y z w u v = rw (a, b, d, x, y, z, w, u, v, e)
