-- The plain words of the theorems on the calls without a device: what zb_split, zb_settings_write and zb_settings_read report, all ten numbers of it, for any run, value, buffer and text.
-- Assumes nothing.
use Rattle.std.specs.Prelude.{ℕ, ◌+◌, ◌*◌, ◌≤◌, ◌<◌, ◌≡◌, ◌↔◌, ◌⊎◌, List, [], ◌++◌, length, get_or, drop, replicate}
use Rattle.settings.specs.Grammar.{newest, text_in}
use Rattle.settings.specs.Plain.{ValidSettings, Lines, AllLines, ReadsTo, FirstWrong}
use Rattle.settings.specs.Values.{value_of}
use Rattle.settings.specs.declared.Settings.{Settings}
use Rattle.machine.specs.Numbers.{ten}
use Rattle.machine.specs.declared.Report.{Report}
use Rattle.reports.specs.declared.SettingsRead.{SettingsRead}

-- the protocol and the length field of a run's header: the numbers in bytes 2 and 3, and in bytes 4 and 5
abbrev pub protocol_in : List ℕ → ℕ
protocol_in run = 256 * get_or run 2 0 + get_or run 3 0

abbrev pub length_in : List ℕ → ℕ
length_in run = 256 * get_or run 4 0 + get_or run 5 0

-- six bytes are there, and the protocol is not 0 or the length not 2 to 254
abbrev pub WrongHeader : List ℕ → Type 0
WrongHeader run = (6 ≤ length run) × ((protocol_in run ≡ 0 → ⊥) ⊎ ((length_in run < 2) ⊎ (254 < length_in run)))

-- the header is right, and all that it counts is there
abbrev pub FrameFirst : List ℕ → Type 0
FrameFirst run = (protocol_in run ≡ 0) × (2 ≤ length_in run) × (length_in run ≤ 254) × (6 + length_in run ≤ length run)

-- zb_split: refusal 4, ZB_FRAME with the frame's length, or ZB_MORE
pub record SplitSays (run : List ℕ) (r : Report) : Type 0 where
  pub refused : (r ≡ ten 4 0 0 0 0 0 0 0 0 0) ↔ WrongHeader run
  pub frame : (n : ℕ) → (r ≡ ten 0 0 8 n 0 0 0 0 0 0) ↔ (FrameFirst run × (n ≡ 6 + length_in run))
  pub more : (r ≡ ten 0 0 9 0 0 0 0 0 0 0) ↔ ((WrongHeader run → ⊥) × (FrameFirst run → ⊥))

-- the text of the settings that are lent
abbrev pub text_for : Settings → List ℕ
text_for from = text_in newest (value_of from)

-- zb_settings_write over a buffer b, which is b' afterwards: refusal 10 with line 0 for an invalid value whatever the buffer, else refusal 1 where the text does not fit, else ZB_DONE with
-- its length; a refusal leaves the buffer, and otherwise the text stands over its start
pub record WriteSays (from : Settings) (b : List ℕ) (r : Report) (b' : List ℕ) : Type 0 where
  pub invalid : (r ≡ ten 10 0 0 0 0 0 0 0 0 0) ↔ (ValidSettings from → ⊥)
  pub short : (r ≡ ten 1 0 0 0 0 0 0 0 0 0) ↔ (ValidSettings from × (length b < length (text_for from)))
  pub done : (n : ℕ) → (r ≡ ten 0 0 1 n 0 0 0 0 0 0) ↔ (ValidSettings from × (n ≡ length (text_for from)) × (n ≤ length b))
  pub untouched : (r.refusal ≡ 0 → ⊥) → b' ≡ b
  pub written : r.refusal ≡ 0 → b' ≡ text_for from ++ drop (length (text_for from)) b

-- zb_settings_read: refusal 10 with the first wrong line, beside timeout 3000, join 1 and no tags; or, of a text that is right lines, all of them, and nothing besides, ZB_DONE with the
-- valid settings that the lines' numbers tell. Every text is one of the two.
pub record ReadSays (t : List ℕ) (r : SettingsRead) : Type 0 where
  pub wrong : (k : ℕ) → (r.answer ≡ ten 10 k 0 0 0 0 0 0 0 0) ↔ FirstWrong t k
  pub usual : (k : ℕ) → FirstWrong t k
      → r.settings ≡ record { timeout = 3000; join = 1; tags = 0; addr = replicate 256 0; width = replicate 256 0; sign = replicate 256 0; ttl = replicate 256 0; strict = replicate 256 0 }
  pub right : (ns : List ℕ) → Lines [] t ns [] → AllLines ns → (r.answer ≡ ten 0 0 1 0 0 0 0 0 0 0) × ValidSettings r.settings × ReadsTo ns r.settings
  pub either : ((k : ℕ) × FirstWrong t k) ⊎ ((ns : List ℕ) × Lines [] t ns [] × AllLines ns)
