-- Words read and sent as each kind: a table of examples, and what the definitions make of one.
-- Assumes nothing.
use Rattle.std.specs.Prelude.{ℕ, List, [], ◌∷◌, Option, Some, None}
use Rattle.bcd.specs.Bcd.{encoded, decoded}
use Rattle.bcd.specs.Words.{words_of, number_of}
use Rattle.bcd.specs.declared.Kind.{Kind}
use Rattle.bcd.specs.declared.Kind.TheVariants.{Width16, Width32, Signed16}

-- a tag is read, towards binary, or sent, towards BCD
pub data Way : Type 0 where
  read : Way
  sent : Way

-- and becomes a number with its words, or passes raw for one of two reasons
pub data Outcome : Type 0 where
  becomes : ℕ → List ℕ → Outcome
  out_of_range : Outcome
  no_number : Outcome

-- an example: the kind, the words that came with the number that they are, and what becomes of them
pub data Example : Type 0 where
  example : Way → Kind → List ℕ → ℕ → Outcome → Example

unfoldable pub of_decoded : Kind → Option ℕ → Outcome
of_decoded k (Some v) = becomes v (words_of k v)
of_decoded k None = no_number

unfoldable pub of_encoded : Kind → Option ℕ → Outcome
of_encoded k (Some w) = becomes w (words_of k w)
of_encoded k None = out_of_range

unfoldable pub outcome : Way → Kind → ℕ → Outcome
outcome read k w = of_decoded k (decoded k w)
outcome sent k v = of_encoded k (encoded k v)

-- the example with its number and its outcome as the definitions give them for its words
unfoldable pub computed : Example → Example
computed (example way kind words number o) = example way kind words (number_of words) (outcome way kind (number_of words))

unfoldable pub examples : List Example
examples =
    -- read
    example read Width16 (0x1234 ∷ []) 0x1234 (becomes 1234 (0x04D2 ∷ [])) ∷
    example read Width32 (0x1234 ∷ 0x5678 ∷ []) 0x56781234 (becomes 56781234 (0x69B2 ∷ 0x0362 ∷ [])) ∷
    -- sent
    example sent Width32 (0x614E ∷ 0x00BC ∷ []) 12345678 (becomes 0x12345678 (0x5678 ∷ 0x1234 ∷ [])) ∷
    example sent Width16 (0x270F ∷ []) 9999 (becomes 0x9999 (0x9999 ∷ [])) ∷
    example sent Width16 (0x2710 ∷ []) 10000 out_of_range ∷
    -- a nibble above 9
    example read Width16 (0x00AB ∷ []) 0x00AB no_number ∷
    -- the last in range, and one more
    example sent Width32 (0xE0FF ∷ 0x05F5 ∷ []) 99999999 (becomes 0x99999999 (0x9999 ∷ 0x9999 ∷ [])) ∷
    example sent Width32 (0xE100 ∷ 0x05F5 ∷ []) 100000000 out_of_range ∷
    -- a sign and three digits, sent: 0, the ends at plus and at minus, one beyond each, the least word of all, −1
    example sent Signed16 (0x0000 ∷ []) 0 (becomes 0x0000 (0x0000 ∷ [])) ∷
    example sent Signed16 (0x03E7 ∷ []) 999 (becomes 0x0999 (0x0999 ∷ [])) ∷
    example sent Signed16 (0x03E8 ∷ []) 1000 out_of_range ∷
    example sent Signed16 (0xFC19 ∷ []) 0xFC19 (becomes 0xF999 (0xF999 ∷ [])) ∷
    example sent Signed16 (0xFC18 ∷ []) 0xFC18 out_of_range ∷
    example sent Signed16 (0x8000 ∷ []) 0x8000 out_of_range ∷
    example sent Signed16 (0xFFFF ∷ []) 0xFFFF (becomes 0xF001 (0xF001 ∷ [])) ∷
    -- read: the same back; minus 0, other signs and a digit above 9 are no numbers
    example read Signed16 (0x0000 ∷ []) 0x0000 (becomes 0 (0x0000 ∷ [])) ∷
    example read Signed16 (0x0999 ∷ []) 0x0999 (becomes 999 (0x03E7 ∷ [])) ∷
    example read Signed16 (0xF999 ∷ []) 0xF999 (becomes 0xFC19 (0xFC19 ∷ [])) ∷
    example read Signed16 (0xF001 ∷ []) 0xF001 (becomes 0xFFFF (0xFFFF ∷ [])) ∷
    example read Signed16 (0xF000 ∷ []) 0xF000 no_number ∷
    example read Signed16 (0x1000 ∷ []) 0x1000 no_number ∷
    example read Signed16 (0xE999 ∷ []) 0xE999 no_number ∷
    example read Signed16 (0x0A00 ∷ []) 0x0A00 no_number ∷
    []
