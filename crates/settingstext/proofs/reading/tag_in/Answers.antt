-- `settingstext::reading::tag_in` meets its contract: each answer of its lines is one of the outcomes of reading a tag.
use Rattle.std.specs.Prelude.{Err}
use Prim.Native.Nat.{◌+◌}
use mathlib.Core.Path.{◌≡◌}
use native.Mathlib.Omega.{arith}
use borrow.Author.Rules.{rules}
use Rattle.settingstext.specs.inner.Reading.{wrong_at}
use Rattle.settingstext.proofs.AnswerLaws.{line_err, line_ok, ruled_most, later_most, sign_small, tag_unaddressed, tag_unwidthed, tag_unfit, tag-unsigned, tag_untimed, tag_unmarked, tag_fit}
use Rattle.settingstext.proofs.reading.tag_in.Goals as goal

pub returns-in_err-address : goal.returns-in_err-address
returns-in_err-address c prior low =
    let p = c.requires in
    let e : c.from_residual.result ≡ Err (wrong_at c.args.line) = search rules in
    rw e
    (tag_unaddressed _ _ _ prior low _ p.0 (line_err c.line_in.result _ c.line_in.ensures c.ok_or.ensures.value c.in_err-address.was))

pub returns-in_err-width : goal.returns-in_err-width
returns-in_err-width c prior low =
    let p = c.requires in
    let e : c.from_residual-in_err-width.result ≡ Err (wrong_at (c.args.line + 1)) = search rules in
    rw e
    (tag_unwidthed _ _ _ prior low _ _ (line_ok c.line_in.result _ c.line_in.ensures c.ok_or.ensures.value c.in_ok-address.was) _ p.0 (line_err c.line_in-2.result _ c.line_in-2.ensures c.ok_or-2.ensures.value c.in_err-width.was))

pub overflow_add-address : goal.overflow_add-address
overflow_add-address c = omega (arith, ruled_most _ _ _ _ (line_ok c.line_in.result _ c.line_in.ensures c.ok_or.ensures.value c.in_ok-address.was))

pub returns-then-not-width-address : goal.returns-then-not-width-address
returns-then-not-width-address c prior low =
    let p = c.requires in
    tag_unfit _ _ _ prior low _ _ (line_ok c.line_in.result _ c.line_in.ensures c.ok_or.ensures.value c.in_ok-address.was) _ _ (line_ok c.line_in-2.result _ c.line_in-2.ensures c.ok_or-2.ensures.value c.in_ok-width.was) _ p.0 c.if-not-width-address.true

pub later_in-requires : goal.later_in-requires
later_in-requires c = omega (arith, c.most_sign-most.ensures, sign_small c.in_ok-width.width)

pub returns-in_err-sign : goal.returns-in_err-sign
returns-in_err-sign c prior low =
    let p = c.requires in
    let e : c.from_residual-in_err-sign.result ≡ Err (wrong_at (c.args.line + 2)) = search rules in
    rw e
    (tag-unsigned _ _ _ prior low _ _ (line_ok c.line_in.result _ c.line_in.ensures c.ok_or.ensures.value c.in_ok-address.was) _ _ (line_ok c.line_in-2.result _ c.line_in-2.ensures c.ok_or-2.ensures.value c.in_ok-width.was) c.if-not-width-address.false _ p.0 (line_err c.later_in.result _ (rw c.most_sign-most.ensures at c.later_in.ensures) c.ok_or-3.ensures.value c.in_err-sign.was))

pub returns-in_err-ttl : goal.returns-in_err-ttl
returns-in_err-ttl c prior low =
    let p = c.requires in
    let e : c.from_residual-in_err-ttl.result ≡ Err (wrong_at (c.args.line + 3)) = search rules in
    rw e
    (tag_untimed _ _ _ prior low _ _ (line_ok c.line_in.result _ c.line_in.ensures c.ok_or.ensures.value c.in_ok-address.was) _ _ (line_ok c.line_in-2.result _ c.line_in-2.ensures c.ok_or-2.ensures.value c.in_ok-width.was) c.if-not-width-address.false _ _ _ p.0 (line_ok c.later_in.result _ (rw c.most_sign-most.ensures at c.later_in.ensures) c.ok_or-3.ensures.value c.in_ok-sign.was) (line_err c.later_in-2.result _ c.later_in-2.ensures c.ok_or-4.ensures.value c.in_err-ttl.was))

pub returns-in_err-strict : goal.returns-in_err-strict
returns-in_err-strict c prior low =
    let p = c.requires in
    let e : c.from_residual-in_err-strict.result ≡ Err (wrong_at (c.args.line + 4)) = search rules in
    rw e
    (tag_unmarked _ _ _ prior low _ _ (line_ok c.line_in.result _ c.line_in.ensures c.ok_or.ensures.value c.in_ok-address.was) _ _ (line_ok c.line_in-2.result _ c.line_in-2.ensures c.ok_or-2.ensures.value c.in_ok-width.was) c.if-not-width-address.false _ _ _ _ _ p.0 (line_ok c.later_in.result _ (rw c.most_sign-most.ensures at c.later_in.ensures) c.ok_or-3.ensures.value c.in_ok-sign.was) (line_ok c.later_in-2.result _ c.later_in-2.ensures c.ok_or-4.ensures.value c.in_ok-ttl.was) (line_err c.later_in-3.result _ c.later_in-3.ensures c.ok_or-5.ensures.value c.in_err-strict.was))

pub overflow_cast-tag : goal.overflow_cast-tag
overflow_cast-tag c = omega (arith, ruled_most _ _ _ _ (line_ok c.line_in.result _ c.line_in.ensures c.ok_or.ensures.value c.in_ok-address.was))

pub overflow_cast-tag-3 : goal.overflow_cast-tag-3
overflow_cast-tag-3 c = omega (arith, later_most _ _ _ _ _ _ _ (line_ok c.later_in.result _ c.later_in.ensures c.ok_or-3.ensures.value c.in_ok-sign.was), c.most_sign-most.ensures, sign_small c.in_ok-width.width)

pub overflow_cast-tag-4 : goal.overflow_cast-tag-4
overflow_cast-tag-4 c = omega (arith, later_most _ _ _ _ _ _ _ (line_ok c.later_in-2.result _ c.later_in-2.ensures c.ok_or-4.ensures.value c.in_ok-ttl.was))

pub overflow_cast-tag-5 : goal.overflow_cast-tag-5
overflow_cast-tag-5 c = omega (arith, later_most _ _ _ _ _ _ _ (line_ok c.later_in-3.result _ c.later_in-3.ensures c.ok_or-5.ensures.value c.in_ok-strict.was))

pub returns : goal.returns
returns c prior low =
    let p = c.requires in
    tag_fit _ _ _ prior low _ _ (line_ok c.line_in.result _ c.line_in.ensures c.ok_or.ensures.value c.in_ok-address.was) _ _ (line_ok c.line_in-2.result _ c.line_in-2.ensures c.ok_or-2.ensures.value c.in_ok-width.was) c.if-not-width-address.false _ _ _ _ _ _ _ p.0 (line_ok c.later_in.result _ (rw c.most_sign-most.ensures at c.later_in.ensures) c.ok_or-3.ensures.value c.in_ok-sign.was) (line_ok c.later_in-2.result _ c.later_in-2.ensures c.ok_or-4.ensures.value c.in_ok-ttl.was) (line_ok c.later_in-3.result _ c.later_in-3.ensures c.ok_or-5.ensures.value c.in_ok-strict.was)
