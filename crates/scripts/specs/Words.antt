-- The letter that tells a call, and the lengths and settings in it.
-- Assumes nothing.
use Rattle.std.specs.Prelude.{ℕ, ◌+◌, ◌%◌, ◌^◌, min, Bool, cond, ◌||◌, List, [], ◌∷◌, get_or, set, eqb}
use Rattle.numbers.specs.Numbers.{usual_timeout}
use Rattle.settings.specs.declared.Settings.{Settings}
use Rattle.settings.specs.Grammar.{Value}
use Rattle.settings.specs.Values.{settings_of}
use Rattle.parts.specs.Texts.{rest_of, field_of, number_of}

-- a call's first letter; of request, reply and read, which begin with 'r', the third, in upper case
abbrev pub letter_of : List ℕ → ℕ
letter_of call = cond (eqb (get_or call 0 0) 114) (get_or call 2 0 % 32 + 64) (get_or call 0 0)

-- cursor, split, read and write leave the state: 'c', 's', 'A', 'w'
abbrev pub leaves_state : List ℕ → Bool
leaves_state call = eqb (letter_of call) 99 || (eqb (letter_of call) 115 || (eqb (letter_of call) 65 || eqb (letter_of call) 119))

-- document 01's settings
abbrev pub document : Value
document = record { timeout = usual_timeout; join = 1; tags = record { address = 1024; width = 16; sign = 0; ttl = 0; strict = 0 } ∷ record { address = 1026; width = 32; sign = 0; ttl = 0; strict = 0 } ∷ [] }

-- the k-th word of a call as a number of 32 bits, the other one where there is none
abbrev pub short_number : List ℕ → ℕ → ℕ → ℕ
short_number call k other = number_of (field_of 32 k call) other % 2 ^ 32

-- and as a tag's sign or ttl or as whether it is strict, of 16 bits, 0 where there is none
abbrev pub tag_number : List ℕ → ℕ → ℕ
tag_number call k = short_number call k 0 % 2 ^ 16

-- the same with the numbers of a call: timeout, join and tags are its words 2, 4 and 6, the signs of the two tags its words 8 and 9, their ttls its words 11 and 12, and whether they are strict its words 14 and 15
unfoldable pub settings_in : List ℕ → Settings
settings_in call =
    record {
      timeout = short_number call 2 document.timeout;
      join = short_number call 4 document.join;
      tags = short_number call 6 2;
      addr = (settings_of document).addr;
      width = (settings_of document).width;
      sign = set (set (settings_of document).sign 0 (tag_number call 8)) 1 (tag_number call 9);
      ttl = set (set (settings_of document).ttl 0 (tag_number call 11)) 1 (tag_number call 12);
      strict = set (set (settings_of document).strict 0 (tag_number call 14)) 1 (tag_number call 15);
    }

-- a length behind the comma, by a letter that no other word there has
unfoldable pub length_in : List ℕ → ℕ → ℕ → ℕ → ℕ
length_in call letter usual most = min (number_of (field_of 32 1 (rest_of letter (rest_of 44 call))) usual) most
