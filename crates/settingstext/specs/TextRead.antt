-- What reading a text reports.
-- Assumes nothing.
use Rattle.settings.specs.Grammar.{Value, Read}
use Rattle.settings.specs.Grammar.Read.{got, wrong}
use Rattle.settings.specs.Values.{settings_of, usual}
use Rattle.settingstext.specs.declared.reading.ReadText.{ReadText}

-- the value with line 0, or the first wrong line with the usual value
unfoldable pub reported : Read Value → ReadText
reported (got v r) = record { line = 0; settings = settings_of v }
reported (wrong k) = record { line = k; settings = settings_of usual }
