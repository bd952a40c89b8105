-- `settingstext::reading::line_in` meets its contract: the key, the number, and the rule that cannot tell a number that was capped.
use Rattle.std.specs.Prelude.{None}
use borrow.Author.Rules.{rules}
use mathlib.Core.Path.{◌≡◌, ap, sym, ◌∙◌}
use mathlib.Core.Option.{some}
use Rattle.settingstext.proofs.AnswerLaws.{line_unkeyed, line_unnumbered, line_kept, line-left}
use Rattle.settingstext.proofs.PlaceLaws.{stripped, unstripped}
use Rattle.settingstext.proofs.reading.line_in.Goals as goal

pub returns-in_err-strip_prefix : goal.returns-in_err-strip_prefix
returns-in_err-strip_prefix c =
    let e : c.from_residual.result ≡ None = search rules in
    rw e (line_unkeyed _ _ c.args.least _ c.requires (unstripped _ _ c.in_err-strip_prefix.ensures.cases))

pub returns-in_err-number : goal.returns-in_err-number
returns-in_err-number c =
    let e : c.from_residual-in_err-number.result ≡ None = search rules in
    let k = c.in_ok-strip_prefix.ensures.cases in
    rw e (line_unnumbered _ _ c.args.least _ c.requires _ (stripped _ _ k.0 ∙ ap some (sym k.1)) c.in_err-number.ensures)

pub returns-then-least-number : goal.returns-then-least-number
returns-then-least-number c =
    let k = c.in_ok-strip_prefix.ensures.cases in
    line_kept _ _ _ _ c.requires _ (stripped _ _ k.0 ∙ ap some (sym k.1)) _ c.in_ok-number.ensures c.if-least-number.true

pub returns-else-least-number : goal.returns-else-least-number
returns-else-least-number c =
    let k = c.in_ok-strip_prefix.ensures.cases in
    line-left _ _ _ _ c.requires _ (stripped _ _ k.0 ∙ ap some (sym k.1)) _ c.in_ok-number.ensures c.if-least-number.false
