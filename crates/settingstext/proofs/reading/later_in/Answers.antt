-- `settingstext::reading::later_in` meets its contract: an older version has no line, and from the version on it is asked for.
use mathlib.Core.Path.{sym, ◌∙◌}
use Rattle.settingstext.proofs.AnswerLaws.{later_older, later_asked}
use Rattle.settingstext.proofs.reading.later_in.Goals as goal

pub returns-then-version-since : goal.returns-then-version-since
returns-then-version-since c = sym (later_older _ _ _ _ _ c.if-version-since.true)

pub returns : goal.returns
returns c = c.line_in.ensures ∙ sym (later_asked _ _ _ _ _ c.if-version-since.false)
