-- Document 01's settings text of 75 bytes is the text of its value in version 1 and reads to it, texts of the later versions likewise, and each rule refuses a text at its line: shown by computing.
-- Assumes nothing.
use mathlib.Core.Path.{◌≡◌, refl}
use mathlib.Core.List.{[], map, flat_map}
use lib.ListN.{length}
use Rattle.settings.specs.Lines.{line_in, line_of, behind, number_in, leading, trailing, plain, number_from, decimal_of}
use Rattle.settings.specs.Grammar.{version_of, newest, text_in, read_text, read_in, read_behind, read_lines, read_tags, version_in, ascends, text_of_lines}
use Rattle.settings.specs.Grammar.Read.{got, wrong}
use Rattle.settings.specs.Examples.{shown, meant, signed_tag, shown2, cached_tags, shown3, strict_tag, shown4, joined, Damage, damages}

pub shown-size : length shown ≡ 75
shown-size = refl

pub shown_read : read_text shown ≡ got meant []
unfolding read_text read_in read_behind read_lines read_tags version_in ascends line_in behind number_in leading trailing plain number_from
shown_read = refl

pub shown_written : text_in (version_of 1) meant ≡ shown
unfolding text_in text_of_lines line_of decimal_of flat_map
shown_written = refl

pub shown2_read : read_text shown2 ≡ got signed_tag []
unfolding read_text read_in read_behind read_lines read_tags version_in ascends line_in behind number_in leading trailing plain number_from
shown2_read = refl

pub shown2_written : text_in (version_of 2) signed_tag ≡ shown2
unfolding text_in text_of_lines line_of decimal_of flat_map
shown2_written = refl

pub shown3_read : read_text shown3 ≡ got cached_tags []
unfolding read_text read_in read_behind read_lines read_tags version_in ascends line_in behind number_in leading trailing plain number_from
shown3_read = refl

pub shown3_written : text_in (version_of 3) cached_tags ≡ shown3
unfolding text_in text_of_lines line_of decimal_of flat_map
shown3_written = refl

pub shown4_read : read_text shown4 ≡ got strict_tag []
unfolding read_text read_in read_behind read_lines read_tags version_in ascends line_in behind number_in leading trailing plain number_from
shown4_read = refl

pub shown4_written : text_in newest strict_tag ≡ shown4
unfolding text_in text_of_lines line_of decimal_of flat_map
shown4_written = refl

pub damaged : map (λ (d : Damage). read_text (joined d.lines)) damages ≡ map (λ (d : Damage). wrong d.wrong_line) damages
unfolding read_text read_in read_behind read_lines read_tags version_in ascends line_in behind number_in leading trailing plain number_from line_of decimal_of
damaged = refl
