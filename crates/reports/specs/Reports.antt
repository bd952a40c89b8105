-- What is reported of splitting, and of settings read and written; what the exported calls promise of it.
-- Assumes nothing.
use Rattle.std.specs.Prelude.{ℕ, ◌≡◌, cond, List, length, eqb, Result, Ok, Err}
use Rattle.wire.specs.Splitting.{standing_of, first_frame}
use Rattle.wire.specs.Splitting.{Standing}
use Rattle.wire.specs.Splitting.Standing.{Frame, MoreNeeded, Refused}
use Rattle.settings.specs.Grammar.{Value, Read, read_text}
use Rattle.settings.specs.Grammar.Read.{got, wrong}
use Rattle.settings.specs.Values.{value_of, settings_of, usual}
use Rattle.settings.specs.declared.Settings.{Settings}
use Rattle.settingstext.specs.declared.writing.WriteError.{WriteError}
use Rattle.settingstext.specs.declared.writing.WriteError.TheVariants.{TooShort, Invalid}
use Rattle.settingstext.specs.TextWritten.{Writing, written_to}
use Rattle.machine.specs.Numbers.{is_done}
use Rattle.machine.specs.declared.Report.{Report}
use Rattle.reports.specs.declared.SettingsRead.{SettingsRead}

-- the outcomes' numbers beside the machine's: ZB_FRAME and ZB_MORE
abbrev pub is_frame : ℕ
is_frame = 8

abbrev pub is_more : ℕ
is_more = 9

-- a report that speaks of these four, and has 0 elsewhere
abbrev pub short_report : (refusal line outcome length : ℕ) → Report
short_report r k o n = record { refusal = r; line = k; outcome = o; length = n; parties = 0; partial = 0; value = 0; set = 0; id = 0; code = 0 }

-- splitting, with the first frame's length
unfoldable pub split_told : Standing → ℕ → Report
split_told Frame n = short_report 0 0 is_frame n
split_told MoreNeeded n = short_report 0 0 is_more 0
split_told Refused n = short_report 4 0 0 0

-- a text with this first wrong line, or with none
abbrev pub line_told : ℕ → Report
line_told line = cond (eqb line 0) (short_report 0 0 is_done 0) (short_report 10 line 0 0)

-- reading: the value, or refusal 10 with the first wrong line beside the usual value
abbrev pub settings_read : Report → Settings → SettingsRead
settings_read r s = record { answer = r; settings = s }

unfoldable pub told_by_read : Read Value → SettingsRead
told_by_read (got v rest) = settings_read (short_report 0 0 is_done 0) (settings_of v)
told_by_read (wrong k) = settings_read (short_report 10 k 0 0) (settings_of usual)

-- writing: the report, and the buffer afterwards
pub record TextSeen : Type 0 where
  pub says : Report
  pub buffer : List ℕ

abbrev pub text_seen : Report → List ℕ → TextSeen
text_seen r b = record { says = r; buffer = b }

unfoldable pub wrote_told : Result ℕ WriteError → Report
wrote_told (Ok n) = short_report 0 0 is_done n
wrote_told (Err TooShort) = short_report 1 0 0 0
wrote_told (Err Invalid) = short_report 10 0 0 0

abbrev pub write_told : Writing → TextSeen
write_told w = text_seen (wrote_told w.says) w.buffer

-- what zb_split promises of a run, zb_settings_read of a text, and zb_settings_write of lent settings and a buffer b, which is b' afterwards
abbrev pub SplitPromised : List ℕ → Report → Type 0
SplitPromised run r = r ≡ split_told (standing_of run) (length (first_frame run))

abbrev pub ReadPromised : List ℕ → SettingsRead → Type 0
ReadPromised t r = r ≡ told_by_read (read_text t)

abbrev pub WritePromised : Settings → (b : List ℕ) → Report → (b' : List ℕ) → Type 0
WritePromised from b r b' = text_seen r b' ≡ write_told (written_to (value_of from) b)
