-- `settingstext::reading::read_head` meets its contract: the version line, and the lines behind it.
use Rattle.std.specs.Prelude.{Err}
use mathlib.Core.Path.{◌≡◌}
use borrow.Author.Rules.{rules}
use Rattle.settingstext.specs.inner.Reading.{wrong_at, Headed}
use Rattle.settingstext.proofs.AnswerLaws.{line_err, line_ok}
use Rattle.settingstext.proofs.HeadLaws.{version_stop, version_read, version_bounds}
use Rattle.settingstext.proofs.reading.read_head.Goals as goal

pub returns-in_err-version : goal.returns-in_err-version
unfolding Headed
returns-in_err-version c =
    let e : c.from_residual.result ≡ Err (wrong_at 1) = search rules in
    rw e (version_stop _ (line_err c.line_in.result _ c.line_in.ensures c.ok_or.ensures.value c.in_err-version.was))

pub read_in-requires : goal.read_in-requires
read_in-requires c = version_bounds _ _ _ (line_ok c.line_in.result _ c.line_in.ensures c.ok_or.ensures.value c.in_ok-version.was)

pub returns : goal.returns
returns c = rw (version_read _ _ _ (line_ok c.line_in.result _ c.line_in.ensures c.ok_or.ensures.value c.in_ok-version.was)) c.read_in.ensures
