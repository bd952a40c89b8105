-- `settingstext::writing::write_text` meets its contract: refusal 10, refusal 1, or the one text and nothing beyond it.
use mathlib.Core.Path.{sym, ◌∙◌}
use native.Mathlib.Omega.{arith}
use borrow.Author.Rules.{rules}
use Rattle.settings.specs.Values.{value_of}
use Rattle.settings.proofs.ValueLaws.{valid_few}
use Rattle.settingstext.proofs.WritingLaws.{length_text, lays_text, wrote_invalid, wrote_short, wrote_text_lem}
use Rattle.settingstext.proofs.writing.write_text.Goals as goal

pub returns-then-not-is_valid : goal.returns-then-not-is_valid
returns-then-not-is_valid c = wrote_invalid _ _ c.is_valid.ensures c.if-not-is_valid.true

pub text_length-requires : goal.text_length-requires
text_length-requires c = valid_few _ (sym c.is_valid.ensures ∙ c.if-not-is_valid.false)

pub returns-then-text-text_length : goal.returns-then-text-text_length
returns-then-text-text_length c =
    wrote_short _ _ c.is_valid.ensures c.if-not-is_valid.false c.text_length.ensures c.if-text-text_length.true

pub head-requires : goal.head-requires
head-requires c = omega (arith, c.text_length.ensures ∙ length_text c.args.s.now, c.if-text-text_length.false)

pub tags-requires : goal.tags-requires
unfolding value_of
tags-requires c =
    (valid_few _ (sym c.is_valid.ensures ∙ c.if-not-is_valid.false), omega (arith, c.text_length.ensures ∙ length_text c.args.s.now, c.if-text-text_length.false))

-- the buffer behind the writer is the one that was lent
pub returns : goal.returns
unfolding value_of
returns c =
    let w = lays_text c.args.s.now (omega arith) c.head.ensures c.tags.ensures in
    let same = sym w.same in
    wrote_text_lem _ c.is_valid.ensures c.if-not-is_valid.false c.text_length.ensures c.if-text-text_length.false w.laid (search rules)
