-- What answers a request: a reply frame held against what was asked. The replies stand in the same sections of MAP V1.1b3 as the requests.
-- Assumes nothing.
use Rattle.std.specs.Prelude.{ℕ, ◌+◌, Bool, true, ◌&&◌, ◌||◌, List, get_or, eqb}
use Rattle.numbers.specs.Numbers.{short_pdu, mask_pdu, exception_pdu, exception_bit}
use Rattle.wire.specs.Frame.{unit_of, function_of, pdu_size}
use Rattle.pdu.specs.Requests.{start_of, quantity_of, value_of, and_mask_of, or_mask_of, bytes_for}
use Rattle.pdu.specs.declared.Table.TheVariants.{Bits, Registers}
use Rattle.pdu.specs.declared.Asked.{Asked}
use Rattle.pdu.specs.declared.Asked.TheVariants.{Read, SingleWrite, MultipleWrite, MaskWrite, ReadWrite, Other}
use Rattle.pdu.specs.declared.What.{What}

-- what a live entry keeps of its request: a unit, a function and what was asked
abbrev pub what : ℕ → ℕ → Asked → What
what u f a = record { unit = u; function = f; asked = a }

-- a reply's byte count to 01 to 04 and to 23
abbrev pub reply_count_of : List ℕ → ℕ
reply_count_of f = get_or f 8 0

-- the shape of a reply of the same function. 01 to 04: byte count that of the quantity, PDU 2 + byte count; 05: 5 bytes, same address and value; 06: 5 bytes, same address; 15, 16:
-- 5 bytes, same start and quantity; 22: 7 bytes, same address and masks; 23: byte count that of the quantity read, PDU 2 + byte count; other: anything
unfoldable pub shaped : Asked → List ℕ → Bool
shaped (Read t s q) f = eqb (reply_count_of f) (bytes_for t q) && eqb (pdu_size f) (2 + bytes_for t q)
shaped (SingleWrite Bits a v) f = eqb (pdu_size f) short_pdu && (eqb (start_of f) a && eqb (value_of f) v)
shaped (SingleWrite Registers a v) f = eqb (pdu_size f) short_pdu && eqb (start_of f) a
shaped (MultipleWrite t s q) f = eqb (pdu_size f) short_pdu && (eqb (start_of f) s && eqb (quantity_of f) q)
shaped (MaskWrite a x y) f = eqb (pdu_size f) mask_pdu && (eqb (start_of f) a && (eqb (and_mask_of f) x && eqb (or_mask_of f) y))
shaped (ReadWrite s q u p) f = eqb (reply_count_of f) (bytes_for Registers q) && eqb (pdu_size f) (2 + bytes_for Registers q)
shaped Other f = true

-- an exception reply: function + 128 with a PDU of 2 bytes
abbrev pub excepts : ℕ → List ℕ → Bool
excepts function f = eqb (function_of f) (function + exception_bit) && eqb (pdu_size f) exception_pdu

-- the unit is equal, and the frame is an exception reply, or the function is equal and the shape is right
unfoldable pub answering : What → List ℕ → Bool
answering w f =
    eqb (unit_of f) w.unit
    && (excepts w.function f || (eqb (function_of f) w.function && shaped w.asked f))
