-- Words read and sent as each kind, one list of data, computed by the definitions: in range, at its end, beyond it, with a nibble above 9, with each sign and with none. Document 01's examples are in machine/proofs/Examples.antt.
-- Assumes nothing.
use mathlib.Core.Path.{◌≡◌, refl}
use mathlib.Core.List.{map}
use Rattle.laws.specs.Digits.{digits, value, below}
use Rattle.bcd.specs.Bcd.{packed, unpacked, decimal, encoded_digits, decoded_digits, complement, is_plus, is_minus, encoded_signed, decoded_signed, registers, encoded, decoded}
use Rattle.bcd.specs.Words.{words_of, number_of}
use Rattle.bcd.specs.Examples.{of_decoded, of_encoded, outcome, computed, examples}

-- Every example is what the definitions compute.
pub examples_hold : map computed examples ≡ examples
unfolding examples computed outcome of_decoded of_encoded digits value below packed unpacked decimal encoded_digits decoded_digits complement is_plus is_minus encoded_signed decoded_signed registers encoded decoded words_of number_of
examples_hold = refl
