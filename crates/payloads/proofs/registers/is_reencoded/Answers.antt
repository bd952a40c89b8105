-- `payloads::registers::is_reencoded` meets its contract: the first tag that does not end before the address decides.
use mathlib.Core.Path.{ap, sym, ◌∙◌}
use Rattle.bcd.specs.declared.Kind.{Kind}
use Rattle.bcd.specs.Bcd.{in_range}
use Rattle.rewrite.proofs.ReencodedLaws.{word_none, word_other, word_here}
use Rattle.payloads.proofs.registers.is_reencoded.Goals as goal

pub returns-in_default : goal.returns-in_default
returns-in_default c =
    let a = c.args in
    word_none a.tags.words.now a.tags.listed a.address a.value _ c.first_from.ensures c.in_default.ensures.lookup.3

pub returns-then-tag_address-at : goal.returns-then-tag_address-at
returns-then-tag_address-at c =
    let a = c.args in
    word_other a.tags.words.now a.tags.listed a.address a.value _ c.first_from.ensures
    (rw (c.last_of.ensures, c.tag_address.ensures, c.in-Some.ensures.lookup.3.1 0) at c.if-tag_address-at.true)

-- the tag there is that register alone, so that its range decides
pub returns : goal.returns
returns c =
    let a = c.args in
    let there = c.in-Some.ensures.lookup.3 in
    c.is_in_range.ensures ∙ ap (λ (k : Kind). in_range k a.value) (rw (there.1 0) at c.tag_kind.ensures)
    ∙ sym
    (word_here a.tags.words.now a.tags.listed a.address a.value _ c.first_from.ensures there.0 (rw (c.last_of.ensures, c.tag_address.ensures, there.1 0) at c.if-tag_address-at.false))
