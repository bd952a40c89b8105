-- `payloads::registers::whole_pair` meets its contract: the number of the two registers decides, the low word first.
use mathlib.Core.Path.{refl, sym, ap, ◌∙◌}
use borrow.Author.Rules.{rules}
use Rattle.bcd.specs.declared.Kind.TheVariants.{Width32}
use Rattle.bcd.specs.Bcd.{registers}
use Rattle.rewrite.specs.Rewriting.{with_counts}
use Rattle.rewrite.specs.inner.Lent.{whole_laid}
use Rattle.rewrite.proofs.TagLaws.{number_two, lay_two}
use Rattle.payloads.proofs.registers.whole_pair.Goals as goal

pub returns-in_default : goal.returns-in_default
unfolding whole_laid registers
returns-in_default c =
    let a = c.args in
    let number = number_two Width32 a.k a.d.now refl in
    rw (rw (c.register_at-low.ensures.0, c.register_at-high.ensures.0, number) at (sym c.turn.ensures ∙ c.in_default.is), whole_laid)

pub returns : goal.returns
unfolding whole_laid registers
returns c =
    let a = c.args in
    let number = number_two Width32 a.k a.d.now refl in
    rw (rw (c.register_at-low.ensures.0, c.register_at-high.ensures.0, number) at (sym c.turn.ensures ∙ c.in-Some.is), whole_laid)
    (ap (with_counts 0 0) (c.put_at-2.ensures ∙ rw c.put_at.ensures (lay_two Width32 a.k a.d.now _ refl (search rules))))
