-- What a request frame asks, and what is refused or excepted of it, by the class of its function. MAP V1.1b3 has the functions in 6.1 Read Coils (01), 6.2 Read Discrete Inputs (02),
-- 6.3 Read Holding Registers (03), 6.4 Read Input Registers (04), 6.5 Write Single Coil (05), 6.6 Write Single Register (06), 6.11 Write Multiple Coils (15), 6.12 Write Multiple
-- Registers (16), 6.16 Mask Write Register (22) and 6.17 Read/Write Multiple Registers (23).
-- Assumes nothing.
use Rattle.std.specs.Prelude.{ℕ, ◌+◌, ◌*◌, ◌/◌, Bool, false, cond, not, ◌||◌, List, get_or, eqb, ltb, Result, Ok, Err}
use Rattle.numbers.specs.Numbers.{read_coils, read_discrete, read_holding, read_input, write_coil, write_single, write_coils, write_multiple, mask_write, read_write, last_function, most_read, most_written, most_read_written, most_bits_read, most_bits_written, coil_off, coil_on, short_pdu, multiple_pdu, mask_pdu, read_write_pdu, addresses, illegal_address, illegal_value}
use Rattle.laws.specs.Bytes.{pair_at}
use Rattle.wire.specs.Frame.{function_of, pdu_size}
use Rattle.pdu.specs.declared.Table.{Table}
use Rattle.pdu.specs.declared.Table.TheVariants.{Bits, Registers}
use Rattle.pdu.specs.declared.Class.{Class}
use Rattle.pdu.specs.declared.Class.TheVariants.{Reads, WritesOne, WritesMany, Masks, ReadsWrites, Others}
use Rattle.pdu.specs.declared.Asked.{Asked}
use Rattle.pdu.specs.declared.Asked.TheVariants.{Read, SingleWrite, MultipleWrite, MaskWrite, ReadWrite, Other}
use Rattle.pdu.specs.declared.Fault.{Fault}
use Rattle.pdu.specs.declared.Fault.TheVariants.{BadFunction, BadLength, Excepted}

-- the class of a function: 01 and 02, 03 and 04, 05, 06, 15, 16, 22, 23, and every other
unfoldable pub class_of : ℕ → Class
class_of n =
    cond (eqb n read_coils || eqb n read_discrete) (Reads Bits)
    (cond (eqb n read_holding || eqb n read_input) (Reads Registers)
    (cond (eqb n write_coil) (WritesOne Bits)
    (cond (eqb n write_single) (WritesOne Registers)
    (cond (eqb n write_coils) (WritesMany Bits)
    (cond (eqb n write_multiple) (WritesMany Registers)
    (cond (eqb n mask_write) Masks
    (cond (eqb n read_write) ReadsWrites
    Others)))))))

-- behind the function: the start (05, 06, 22: the address), the quantity (05, 06: the value), and the byte count of 15 and 16
abbrev pub start_of : List ℕ → ℕ
start_of f = pair_at f 8

abbrev pub quantity_of : List ℕ → ℕ
quantity_of f = pair_at f 10

abbrev pub value_of : List ℕ → ℕ
value_of f = pair_at f 10

abbrev pub byte_count_of : List ℕ → ℕ
byte_count_of f = get_or f 12 0

-- 22 has an AND mask and an OR mask behind its address
abbrev pub and_mask_of : List ℕ → ℕ
and_mask_of f = pair_at f 10

abbrev pub or_mask_of : List ℕ → ℕ
or_mask_of f = pair_at f 12

-- 23 has behind the start and the quantity that it reads those that it writes, and the byte count of what it writes
abbrev pub write_start_of : List ℕ → ℕ
write_start_of f = pair_at f 12

abbrev pub write_quantity_of : List ℕ → ℕ
write_quantity_of f = pair_at f 14

abbrev pub write_count_of : List ℕ → ℕ
write_count_of f = get_or f 16 0

-- the bytes that q bits or registers take: the quantity over eight, rounded up; two for each register
abbrev pub bytes_for : Table → ℕ → ℕ
bytes_for Bits q = (q + 7) / 8
bytes_for Registers q = 2 * q

-- the most that one request may read, and the most that one may write
abbrev pub most_read_of : Table → ℕ
most_read_of Bits = most_bits_read
most_read_of Registers = most_read

abbrev pub most_written_of : Table → ℕ
most_written_of Bits = most_bits_written
most_written_of Registers = most_written

-- refusal 5: function 0 or 128 to 255
unfoldable pub bad_function : ℕ → Bool
bad_function n = eqb n 0 || ltb last_function n

-- refusal 6: the PDU has 5 bytes for 01 to 06; for 15 and 16 at least 6 and 6 + byte count; 7 for 22; for 23 at least 10 and 10 + byte count
unfoldable pub bad_length : Class → List ℕ → Bool
bad_length (Reads t) f = not (eqb (pdu_size f) short_pdu)
bad_length (WritesOne t) f = not (eqb (pdu_size f) short_pdu)
bad_length (WritesMany t) f = ltb (pdu_size f) multiple_pdu || not (eqb (pdu_size f) (multiple_pdu + byte_count_of f))
bad_length Masks f = not (eqb (pdu_size f) mask_pdu)
bad_length ReadsWrites f = ltb (pdu_size f) read_write_pdu || not (eqb (pdu_size f) (read_write_pdu + write_count_of f))
bad_length Others f = false

-- exception 03: the quantity is 0 or above the most; for 05 the value is neither 0x0000 nor 0xFF00; for 15 and 16 also the byte count is not that of the quantity; for 23 the same of either
-- quantity, and of the byte count of what it writes
unfoldable pub bad_value : Class → List ℕ → Bool
bad_value (Reads t) f = eqb (quantity_of f) 0 || ltb (most_read_of t) (quantity_of f)
bad_value (WritesOne Bits) f = not (eqb (value_of f) coil_off || eqb (value_of f) coil_on)
bad_value (WritesOne Registers) f = false
bad_value (WritesMany t) f = eqb (quantity_of f) 0 || (ltb (most_written_of t) (quantity_of f) || not (eqb (byte_count_of f) (bytes_for t (quantity_of f))))
bad_value Masks f = false
bad_value ReadsWrites f =
    eqb (quantity_of f) 0
    || (ltb most_read (quantity_of f) || (eqb (write_quantity_of f) 0 || (ltb most_read_written (write_quantity_of f) || not (eqb (write_count_of f) (bytes_for Registers (write_quantity_of f))))))
bad_value Others f = false

-- exception 02: start + quantity above 65,536; for 23 of either range
unfoldable pub bad_address : Class → List ℕ → Bool
bad_address (Reads t) f = ltb addresses (start_of f + quantity_of f)
bad_address (WritesOne t) f = false
bad_address (WritesMany t) f = ltb addresses (start_of f + quantity_of f)
bad_address Masks f = false
bad_address ReadsWrites f = ltb addresses (start_of f + quantity_of f) || ltb addresses (write_start_of f + write_quantity_of f)
bad_address Others f = false

-- what is kept of a request
unfoldable pub asked_by : Class → List ℕ → Asked
asked_by (Reads t) f = Read t (start_of f) (quantity_of f)
asked_by (WritesOne t) f = SingleWrite t (start_of f) (value_of f)
asked_by (WritesMany t) f = MultipleWrite t (start_of f) (quantity_of f)
asked_by Masks f = MaskWrite (start_of f) (and_mask_of f) (or_mask_of f)
asked_by ReadsWrites f = ReadWrite (start_of f) (quantity_of f) (write_start_of f) (write_quantity_of f)
asked_by Others f = Other

abbrev pub asked_of : List ℕ → Asked
asked_of f = asked_by (class_of (function_of f)) f

-- the exception's code for a request that passed the refusals, and 0 where there is none: 03 before 02
abbrev pub fault_by : Class → List ℕ → ℕ
fault_by c f = cond (bad_value c f) illegal_value (cond (bad_address c f) illegal_address 0)

unfoldable pub fault_of : List ℕ → ℕ
fault_of f = fault_by (class_of (function_of f)) f

-- what the check of a request comes to: what it asks, or why it is not forwarded
abbrev pub Checked : Type 0
Checked = Result Asked Fault

-- a request of a function that is not refused: refusal 6, exception 03, exception 02, legal
unfoldable pub checked_by : Class → List ℕ → Checked
checked_by c f = cond (bad_length c f) (Err BadLength) (cond (eqb (fault_by c f) 0) (Ok (asked_by c f)) (Err (Excepted (fault_by c f))))

-- a request of any bytes: refusal 5 before these
unfoldable pub checked_of : List ℕ → Checked
checked_of f = cond (bad_function (function_of f)) (Err BadFunction) (checked_by (class_of (function_of f)) f)
