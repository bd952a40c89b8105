-- `settingstext::reading::read_text` meets its contract: the value that was read, or a usual one beside the wrong line.
use Prim.Native.Nat.{ℕ}
use mathlib.Core.Path.{◌≡◌, ap, sym, ◌∙◌}
use Rattle.settings.specs.declared.Settings.{Settings}
use Rattle.settingstext.specs.declared.reading.ReadText.{ReadText}
use Rattle.settingstext.specs.TextRead.{reported}
use Rattle.settingstext.specs.inner.Reading.{ReadInto}
use Rattle.settingstext.proofs.reading.read_text.Goals as goal

pub returns-in-Err : goal.returns-in-Err
unfolding ReadInto reported
returns-in-Err c = c.usual_read-read-in-Err.ensures ∙ ap reported (sym c.in-Err.ensures)

pub returns-in_default : goal.returns-in_default
unfolding ReadInto
returns-in_default c =
    let s : Settings = c.read_into.new.into in
    let line : c.usual_read-read.result.line ≡ 0 = ap (λ (r : ReadText). r.line) c.usual_read-read.ensures in
    ap (λ (n : ℕ). right n s) line ∙ c.in_default.ensures
  where
    right : ℕ → Settings → ReadText
    right n s = record { line = n; settings = s }
