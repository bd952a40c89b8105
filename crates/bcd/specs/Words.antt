-- A tag's registers as one number, and that number's words: the register at the tag's address is the lowest 16 bits.
-- Assumes nothing.
use Rattle.std.specs.Prelude.{ℕ, List}
use Rattle.laws.specs.Digits.{digits, value}
use Rattle.bcd.specs.declared.Kind.{Kind}
use Rattle.bcd.specs.Bcd.{registers}

-- a number's words in the registers of a tag of this kind, the one at the address first
unfoldable pub words_of : Kind → ℕ → List ℕ
words_of k w = digits 65536 (registers k) w

-- the number that the words are
unfoldable pub number_of : List ℕ → ℕ
number_of ws = value 65536 ws
