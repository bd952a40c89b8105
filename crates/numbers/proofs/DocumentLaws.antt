-- Every number of document 01, and of the requests of document 02 that have landed, as a literal: elsewhere definitions and code have it by name alone.
-- Assumes nothing.
use mathlib.Core.Path.{refl}
use Rattle.numbers.specs.Documents.{Documents}

-- What definitions and code call by name are these numbers.
pub the_numbers_of_the_documents : Documents
the_numbers_of_the_documents =
    record {
      clients_are = refl;
      tags_are_at_most = refl;
      timeout_is_at_least = refl;
      timeout_is_at_most = refl;
      timeout_is_usually = refl;
      time_is_at_most = refl;
      frame_is_at_least = refl;
      frame_is_at_most = refl;
      frame_buffer_is_at_least = refl;
      live_are_at_most = refl;
      parties_are_at_most = refl;
      party_places_are = refl;
      list_is_at_least = refl;
      others_between_are = refl;
      cache_places_are = refl;
      cache_numbers_are = refl;
      cache_bytes_are = refl;
      ids_are = refl;
      addresses_are = refl;
      bytes_not_counted_are = refl;
      unit_stands_at = refl;
      bytes_before_the_pdu_are = refl;
      length_is_at_least = refl;
      length_is_at_most = refl;
      coils_are_read_by = refl;
      discrete_inputs_are_read_by = refl;
      holding_registers_are_read_by = refl;
      input_registers_are_read_by = refl;
      a_coil_is_written_by = refl;
      a_register_is_written_by = refl;
      coils_are_written_by = refl;
      registers_are_written_by = refl;
      function_is_at_most = refl;
      registers_read_are_at_most = refl;
      registers_written_are_at_most = refl;
      bits_read_are_at_most = refl;
      bits_written_are_at_most = refl;
      off_is = refl;
      on_is = refl;
      a_register_is_masked_by = refl;
      registers_are_written_and_read_by = refl;
      registers_written_and_read_are_at_most = refl;
      mask_pdu_is = refl;
      read_write_pdu_is = refl;
      short_pdu_is = refl;
      multiple_pdu_is = refl;
      exception_pdu_is = refl;
      exception_frame_is = refl;
      exception_length_is = refl;
      exception_adds = refl;
      illegal_address_is = refl;
      illegal_value_is = refl;
      device_failure_is = refl;
      no_response_is = refl;
      digits_are = refl;
      signed_digits_are = refl;
      minus_is = refl;
      ttl_is_at_most = refl;
      version_written_is = refl;
      text_is_at_most = refl;
    }
