-- A frame: its header, what is refused of it, an id laid over it, and the exception frame.
-- Assumes nothing.
use Rattle.std.specs.Prelude.{ℕ, ◌+◌, ◌-◌, ◌%◌, Bool, not, ◌||◌, List, [], ◌∷◌, ◌++◌, length, get_or, drop, eqb, ltb}
use Rattle.numbers.specs.Numbers.{least_frame, most_frame, uncounted, unit_at, header_size, exception_bit, exception_length}
use Rattle.laws.specs.Bytes.{pair_at, pair_of}

-- the header, big-endian: id 2, protocol 2, length 2, unit 1; the length counts unit and PDU
abbrev pub id_of : List ℕ → ℕ
id_of f = pair_at f 0

abbrev pub protocol_of : List ℕ → ℕ
protocol_of f = pair_at f 2

abbrev pub length_of : List ℕ → ℕ
length_of f = pair_at f 4

abbrev pub unit_of : List ℕ → ℕ
unit_of f = get_or f unit_at 0

-- the PDU: its function, and its size
abbrev pub function_of : List ℕ → ℕ
function_of f = get_or f header_size 0

abbrev pub pdu_size : List ℕ → ℕ
pdu_size f = length f - header_size

-- refusal 4 of a request or a reply: size not 8 to 260, protocol not 0, or length field not size − 6
unfoldable pub misframed : List ℕ → Bool
misframed f =
    ltb (length f) least_frame || (ltb most_frame (length f) || (not (eqb (protocol_of f) 0) || not (eqb (length_of f + uncounted) (length f))))

-- an id laid over bytes 0 and 1
abbrev pub laid : ℕ → List ℕ → List ℕ
laid id f = pair_of id ++ drop 2 f

-- an exception: 9 bytes, length 3, function + 128 (a byte), code
unfoldable pub exception : (id unit function code : ℕ) → List ℕ
exception id unit function code = pair_of id ++ (0 ∷ 0 ∷ 0 ∷ exception_length ∷ unit ∷ (function + exception_bit) % 256 ∷ code ∷ [])
