-- The sizes, bounds and codes of documents 01 and 02, once and by name. The code has them as constants of the same names; only the number of ids, which 16 bits do not hold, is the last
-- id there, and the distance of ids, digits to a register and the nibble of minus are words of the definitions alone. A refusal's number is its name in document 01, and a width that of a kind of tag: they stand where they
-- are given. Refusals: the rows of machine/specs/Refusals.antt, proxy/specs/Gates.antt for those told before a frame is looked into and for a fresh state, and the reports of the
-- calls that need no device.
-- Assumes nothing.
use Rattle.std.specs.Prelude.{ℕ, ◌+◌, ◌*◌, ◌-◌, ◌^◌}

-- "Numbers"
abbrev pub clients : ℕ
clients = 32

abbrev pub places : ℕ
places = 256

abbrev pub room : ℕ
room = 32

abbrev pub party_places : ℕ
party_places = places * room

abbrev pub most_tags : ℕ
most_tags = 256

abbrev pub least_timeout : ℕ
least_timeout = 100

abbrev pub most_timeout : ℕ
most_timeout = 60000

abbrev pub usual_timeout : ℕ
usual_timeout = 3000

abbrev pub latest_time : ℕ
latest_time = 2 ^ 63 - 1

abbrev pub least_frame : ℕ
least_frame = 8

abbrev pub most_frame : ℕ
most_frame = 260

-- a frame buffer has at least so many bytes, a fan-out list so many numbers: a pair for each party
abbrev pub frame_buffer : ℕ
frame_buffer = most_frame

abbrev pub list_buffer : ℕ
list_buffer = 2 * room

-- request #107's cache: its places; the numbers that are kept of them, three a place and a bound, and the bytes, 256 a place
abbrev pub cache_places : ℕ
cache_places = 64

abbrev pub cache_numbers : ℕ
cache_numbers = 3 * cache_places + 1

abbrev pub cache_bytes : ℕ
cache_bytes = 256 * cache_places

-- ids of 16 bits, and register addresses
abbrev pub ids : ℕ
ids = 65536

abbrev pub addresses : ℕ
addresses = 65536

-- between two issues of one id at least so many others are issued
abbrev pub distance : ℕ
distance = 65280

-- "A frame": the bytes that the length field does not count, the byte at which the unit stands, the bytes before the PDU, and what the length field may say
abbrev pub uncounted : ℕ
uncounted = 6

abbrev pub unit_at : ℕ
unit_at = 6

abbrev pub header_size : ℕ
header_size = 7

abbrev pub least_length : ℕ
least_length = 2

abbrev pub most_length : ℕ
most_length = 254

-- "A request" and request #101: the functions that are looked into, and how many registers or bits each may ask for
abbrev pub read_coils : ℕ
read_coils = 1

abbrev pub read_discrete : ℕ
read_discrete = 2

abbrev pub read_holding : ℕ
read_holding = 3

abbrev pub read_input : ℕ
read_input = 4

abbrev pub write_coil : ℕ
write_coil = 5

abbrev pub write_single : ℕ
write_single = 6

abbrev pub write_coils : ℕ
write_coils = 15

abbrev pub write_multiple : ℕ
write_multiple = 16

-- request #109: one register written by masks, and registers written and read together
abbrev pub mask_write : ℕ
mask_write = 22

abbrev pub read_write : ℕ
read_write = 23

abbrev pub last_function : ℕ
last_function = 127

abbrev pub most_read : ℕ
most_read = 125

abbrev pub most_written : ℕ
most_written = 123

-- the most that 23 writes; it reads as many as 03
abbrev pub most_read_written : ℕ
most_read_written = 121

abbrev pub most_bits_read : ℕ
most_bits_read = 2000

abbrev pub most_bits_written : ℕ
most_bits_written = 1968

-- the values that one coil is written with
abbrev pub coil_off : ℕ
coil_off = 0

abbrev pub coil_on : ℕ
coil_on = 65280

-- PDU lengths: of 01 to 06, and of 15 and 16 before their bits and registers; of 22, and of 23 before its registers; of an exception
abbrev pub short_pdu : ℕ
short_pdu = 5

abbrev pub multiple_pdu : ℕ
multiple_pdu = 6

abbrev pub mask_pdu : ℕ
mask_pdu = 7

abbrev pub read_write_pdu : ℕ
read_write_pdu = 10

abbrev pub exception_pdu : ℕ
exception_pdu = 2

-- exceptions: added to the function, the codes, the length field and the whole frame's size
abbrev pub exception_bit : ℕ
exception_bit = 128

abbrev pub illegal_address : ℕ
illegal_address = 2

abbrev pub illegal_value : ℕ
illegal_value = 3

abbrev pub device_failure : ℕ
device_failure = 4

abbrev pub no_response : ℕ
no_response = 11

abbrev pub exception_length : ℕ
exception_length = 3

abbrev pub exception_frame : ℕ
exception_frame = 9

-- "BCD words": decimal digits to a register; and, by request #105, to one whose top nibble is a sign, with the nibble of minus
abbrev pub digits_per_register : ℕ
digits_per_register = 4

abbrev pub signed_digits : ℕ
signed_digits = 3

abbrev pub minus : ℕ
minus = 15

-- "Settings text": the largest ttl of request #107, in milliseconds; the version that is written, and the most bytes that a right text has
abbrev pub most_ttl : ℕ
most_ttl = 60000

abbrev pub newest_version : ℕ
newest_version = 4

abbrev pub most_text : ℕ
most_text = 11816
