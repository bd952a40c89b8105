-- `payloads::registers::whole_word` meets its contract: the register's number decides.
use mathlib.Core.Path.{sym, ap, ◌∙◌}
use Rattle.rewrite.specs.Rewriting.{with_counts}
use Rattle.rewrite.specs.inner.Lent.{whole_laid}
use Rattle.rewrite.proofs.TagLaws.{number_one, lay_one}
use Rattle.payloads.proofs.registers.whole_word.Goals as goal

pub returns-in_default : goal.returns-in_default
unfolding whole_laid
returns-in_default c =
    let a = c.args in
    let number = c.register_at.ensures.0 ∙ number_one a.kind a.k a.d.now c.requires.0 in
    rw (rw number at (sym c.turn.ensures ∙ c.in_default.is), whole_laid)

pub returns : goal.returns
unfolding whole_laid
returns c =
    let a = c.args in
    let number = c.register_at.ensures.0 ∙ number_one a.kind a.k a.d.now c.requires.0 in
    rw (rw number at (sym c.turn.ensures ∙ c.in-Some.is), whole_laid)
    (ap (with_counts 0 0) (c.put_at.ensures ∙ lay_one a.kind a.k a.d.now _ c.requires.0))
