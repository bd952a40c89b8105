-- The word that the state keeps of a tag: its address in the lowest 16 bits, its kind's number in the 8 above them, its ttl in bits 32 to 47, strict in bit 48. The other bits are 0, those from 24
-- to 31 too, so that address and kind are the lowest 32 bits, which a loop over the tags can compare at once; bit 49 of the first word is a mark of the whole list.
-- Assumes nothing.
use Rattle.std.specs.Prelude.{ℕ, ◌+◌, ◌*◌, ◌-◌, ◌/◌, ◌%◌, ◌<◌, ◌≤◌, Bool, false, cond, ◌||◌, List, [], ◌∷◌, map, eqb}
use Rattle.numbers.specs.Numbers.{addresses}
use Rattle.bcd.specs.declared.Kind.{Kind}
use Rattle.bcd.specs.declared.Kind.TheVariants.{Width16, Width32, Signed16}
use Rattle.bcd.specs.Bcd.{registers}
use Rattle.settings.specs.Grammar.{Tag}

-- a tag's kind, and a kind's width and sign
unfoldable pub kind_of : Tag → Kind
kind_of t = cond (eqb t.width 32) Width32 (cond (eqb t.sign 1) Signed16 Width16)

unfoldable pub width_of : Kind → ℕ
width_of Width16 = 16
width_of Width32 = 32
width_of Signed16 = 16

unfoldable pub sign_of : Kind → ℕ
sign_of Width16 = 0
sign_of Width32 = 0
sign_of Signed16 = 1

-- the kinds' numbers in a word
unfoldable pub kind_number : Kind → ℕ
kind_number Width16 = 0
kind_number Width32 = 1
kind_number Signed16 = 2

unfoldable pub kind_from : ℕ → Kind
kind_from n = cond (eqb n 1) Width32 (cond (eqb n 2) Signed16 Width16)

-- a tag's word; and the tag of any word
unfoldable pub tag_word : Tag → ℕ
tag_word t = t.address + addresses * kind_number (kind_of t) + 4294967296 * t.ttl + 281474976710656 * t.strict

abbrev pub tag_of_kind : ℕ → Kind → ℕ → ℕ → Tag
tag_of_kind a k l s = record { address = a; width = width_of k; sign = sign_of k; ttl = l; strict = s }

unfoldable pub tag_of : ℕ → Tag
tag_of word = tag_of_kind (word % addresses) (kind_from (word / addresses % 256)) (word / 4294967296 % 65536) (word / 281474976710656 % 2)

-- bit 49 of the first word tells that some tag is strict, so that a write to a device without one costs one test; and the words of a list of tags
abbrev pub strict_mark : ℕ
strict_mark = 562949953421312

unfoldable pub some_strict : List Tag → Bool
some_strict [] = false
some_strict (t ∷ ts) = eqb t.strict 1 || some_strict ts

unfoldable pub tag_words : List Tag → List ℕ
tag_words [] = []
tag_words (t ∷ ts) = (tag_word t + cond (some_strict (t ∷ ts)) strict_mark 0) ∷ map tag_word ts

-- the last register of a tag
abbrev pub last_of : Tag → ℕ
last_of t = t.address + registers (kind_of t) - 1

-- every tag lies within the addresses, and above the last register of the tag before it, which may be any below `from`
unfoldable pub Ascending : ℕ → List Tag → Type 0
Ascending from [] = Unit {0}
Ascending from (t ∷ ts) = (from ≤ t.address) × (last_of t < addresses) × Ascending (last_of t + 1) ts
