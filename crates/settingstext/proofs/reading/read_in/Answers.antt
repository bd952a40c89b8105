-- `settingstext::reading::read_in` meets its contract: each answer of its three lines is a step of reading the text.
use Rattle.std.specs.Prelude.{Err}
use mathlib.Core.Path.{◌≡◌}
use borrow.Author.Rules.{rules}
use Rattle.settingstext.specs.inner.Reading.{wrong_at, Headed}
use Rattle.settingstext.proofs.AnswerLaws.{line_err, line_ok, ruled_most}
use Rattle.settingstext.proofs.HeadLaws.{timeout-stop, join-stop, tags-stop, head_read}
use Rattle.settingstext.proofs.reading.read_in.Goals as goal

pub returns-in_err-timeout : goal.returns-in_err-timeout
unfolding Headed
returns-in_err-timeout c =
    let e : c.from_residual.result ≡ Err (wrong_at 2) = search rules in
    rw e (timeout-stop _ _ (line_err c.line_in.result _ c.line_in.ensures c.ok_or.ensures.value c.in_err-timeout.was))

pub returns-in_err-join : goal.returns-in_err-join
unfolding Headed
returns-in_err-join c =
    let e : c.from_residual-in_err-join.result ≡ Err (wrong_at 3) = search rules in
    rw e (join-stop _ _ _ _ (line_ok c.line_in.result _ c.line_in.ensures c.ok_or.ensures.value c.in_ok-timeout.was) (line_err c.line_in-2.result _ c.line_in-2.ensures c.ok_or-2.ensures.value c.in_err-join.was))

pub returns-in_err-tags : goal.returns-in_err-tags
unfolding Headed
returns-in_err-tags c =
    let e : c.from_residual-in_err-tags.result ≡ Err (wrong_at 4) = search rules in
    rw e (tags-stop _ _ _ _ (line_ok c.line_in.result _ c.line_in.ensures c.ok_or.ensures.value c.in_ok-timeout.was) _ _ (line_ok c.line_in-2.result _ c.line_in-2.ensures c.ok_or-2.ensures.value c.in_ok-join.was) (line_err c.line_in-3.result _ c.line_in-3.ensures c.ok_or-3.ensures.value c.in_err-tags.was))

pub returns : goal.returns
unfolding Headed
returns c =
    let tags = line_ok c.line_in-3.result _ c.line_in-3.ensures c.ok_or-3.ensures.value c.in_ok-tags.was in (
      head_read _ _ _ _ (line_ok c.line_in.result _ c.line_in.ensures c.ok_or.ensures.value c.in_ok-timeout.was) _ _ (line_ok c.line_in-2.result _ c.line_in-2.ensures c.ok_or-2.ensures.value c.in_ok-join.was) _ _ tags,
      record { few = ruled_most _ _ _ _ tags; listed = c.requires },
    )
