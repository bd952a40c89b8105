-- The sizes, bounds and codes of the documents, number by number.
-- Assumes nothing.
use Rattle.std.specs.Prelude.{◌≡◌}
use Rattle.numbers.specs.Numbers.{clients, places, room, party_places, most_tags, least_timeout, most_timeout, usual_timeout, latest_time, least_frame, most_frame, frame_buffer, list_buffer, cache_places, cache_numbers, cache_bytes, ids, addresses, distance, uncounted, unit_at, header_size, least_length, most_length, read_coils, read_discrete, read_holding, read_input, write_coil, write_single, write_coils, write_multiple, mask_write, read_write, last_function, most_read, most_written, most_read_written, most_bits_read, most_bits_written, coil_off, coil_on, short_pdu, multiple_pdu, mask_pdu, read_write_pdu, exception_pdu, exception_bit, illegal_address, illegal_value, device_failure, no_response, exception_length, exception_frame, digits_per_register, signed_digits, minus, most_ttl, newest_version, most_text}

-- the numbers, in the documents' order
pub record Documents : Type 0 where
  -- "Numbers": clients 0 to 31, tags 0 to 256, timeout 100 to 60,000 ms, 3,000 usual, time to 2^63 − 1, frame 8 to 260 bytes, frame buffer at least 260
  pub clients_are : clients ≡ 32
  pub tags_are_at_most : most_tags ≡ 256
  pub timeout_is_at_least : least_timeout ≡ 100
  pub timeout_is_at_most : most_timeout ≡ 60000
  pub timeout_is_usually : usual_timeout ≡ 3000
  pub time_is_at_most : latest_time ≡ 9223372036854775807
  pub frame_is_at_least : least_frame ≡ 8
  pub frame_is_at_most : most_frame ≡ 260
  pub frame_buffer_is_at_least : frame_buffer ≡ 260
  -- #104: 256 live, 32 parties each, so 8,192 party places; a fan-out list of at least 64 numbers; an id returns after 65,280 others
  pub live_are_at_most : places ≡ 256
  pub parties_are_at_most : room ≡ 32
  pub party_places_are : party_places ≡ 8192
  pub list_is_at_least : list_buffer ≡ 64
  pub others_between_are : distance ≡ 65280
  -- #107: 64 places, and what is kept of them: 193 numbers, 16,384 bytes
  pub cache_places_are : cache_places ≡ 64
  pub cache_numbers_are : cache_numbers ≡ 193
  pub cache_bytes_are : cache_bytes ≡ 16384
  -- ids and addresses of 16 bits
  pub ids_are : ids ≡ 65536
  pub addresses_are : addresses ≡ 65536
  -- "A frame": length counts unit and PDU, 2 to 254; six bytes stand before what it counts, so that the unit is byte 6, and seven before the PDU
  pub bytes_not_counted_are : uncounted ≡ 6
  pub unit_stands_at : unit_at ≡ 6
  pub bytes_before_the_pdu_are : header_size ≡ 7
  pub length_is_at_least : least_length ≡ 2
  pub length_is_at_most : most_length ≡ 254
  -- "A request", and #101: 01 to 06, 15 and 16; functions to 127; 125 registers read and 123 written, 2,000 bits read and 1,968 written; a coil is written 0x0000 or 0xFF00
  pub coils_are_read_by : read_coils ≡ 1
  pub discrete_inputs_are_read_by : read_discrete ≡ 2
  pub holding_registers_are_read_by : read_holding ≡ 3
  pub input_registers_are_read_by : read_input ≡ 4
  pub a_coil_is_written_by : write_coil ≡ 5
  pub a_register_is_written_by : write_single ≡ 6
  pub coils_are_written_by : write_coils ≡ 15
  pub registers_are_written_by : write_multiple ≡ 16
  pub function_is_at_most : last_function ≡ 127
  pub registers_read_are_at_most : most_read ≡ 125
  pub registers_written_are_at_most : most_written ≡ 123
  pub bits_read_are_at_most : most_bits_read ≡ 2000
  pub bits_written_are_at_most : most_bits_written ≡ 1968
  pub off_is : coil_off ≡ 0x0000
  pub on_is : coil_on ≡ 0xff00
  -- #109: 22 and 23; 121 registers written by 23; PDU lengths 7, and 10 before the bytes of 23
  pub a_register_is_masked_by : mask_write ≡ 22
  pub registers_are_written_and_read_by : read_write ≡ 23
  pub registers_written_and_read_are_at_most : most_read_written ≡ 121
  pub mask_pdu_is : mask_pdu ≡ 7
  pub read_write_pdu_is : read_write_pdu ≡ 10
  -- PDU lengths: 5, and 6 before the bytes of 15 and 16; 2 for an exception reply
  pub short_pdu_is : short_pdu ≡ 5
  pub multiple_pdu_is : multiple_pdu ≡ 6
  pub exception_pdu_is : exception_pdu ≡ 2
  -- exceptions: 9 bytes, length 3, function + 128, codes 02, 03, 04, and 0B of a tick
  pub exception_frame_is : exception_frame ≡ 9
  pub exception_length_is : exception_length ≡ 3
  pub exception_adds : exception_bit ≡ 128
  pub illegal_address_is : illegal_address ≡ 2
  pub illegal_value_is : illegal_value ≡ 3
  pub device_failure_is : device_failure ≡ 4
  pub no_response_is : no_response ≡ 0x0b
  -- "BCD words", and #105: four digits to a register; three behind a sign, whose nibble is F for minus
  pub digits_are : digits_per_register ≡ 4
  pub signed_digits_are : signed_digits ≡ 3
  pub minus_is : minus ≡ 0xf
  -- "Settings text", #107 and #108: a ttl of 0 to 60,000 ms; version 4 is written, in at most 11,816 bytes
  pub ttl_is_at_most : most_ttl ≡ 60000
  pub version_written_is : newest_version ≡ 4
  pub text_is_at_most : most_text ≡ 11816
