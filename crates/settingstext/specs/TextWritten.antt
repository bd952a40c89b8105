-- What writing a text reports, and the buffer afterwards.
-- Assumes nothing.
use Rattle.std.specs.Prelude.{ℕ, cond, not, List, length, ltb, Result, Ok, Err}
use Rattle.laws.specs.Bytes.{over}
use Rattle.settings.specs.Grammar.{Value, newest, text_in, valid}
use Rattle.settingstext.specs.declared.writing.WriteError.{WriteError}
use Rattle.settingstext.specs.declared.writing.WriteError.TheVariants.{TooShort, Invalid}

-- writing: refusal 10 for an invalid value whatever the buffer's length, refusal 1 if the text does not fit; the buffer afterwards
pub record Writing : Type 0 where
  pub says : Result ℕ WriteError
  pub buffer : List ℕ

abbrev pub writing : Result ℕ WriteError → List ℕ → Writing
writing w b = record { says = w; buffer = b }

unfoldable pub written_to : Value → List ℕ → Writing
written_to v b =
    cond (not (valid v)) (writing (Err Invalid) b)
    (cond (ltb (length b) (length (text_in newest v))) (writing (Err TooShort) b)
    (writing (Ok (length (text_in newest v))) (over (text_in newest v) b)))
