-- `scripts::naming::letter` meets its contract: the third letter behind an r, else the first.
use mathlib.Core.Path.{sym, ◌∙◌}
use Rattle.scripts.proofs.WordLaws.{letter_third, letter_first}
use Rattle.scripts.proofs.naming.letter.Goals as goal

pub returns-then-first-eq114 : goal.returns-then-first-eq114
returns-then-first-eq114 c = rw (letter_third c.args.call.now (sym c.byte_at-first.ensures ∙ c.if-first-eq114.true), c.byte_at.ensures)

pub returns-else-first-eq114 : goal.returns-else-first-eq114
returns-else-first-eq114 c =
    let e = c.byte_at-first.ensures in
    e ∙ sym (letter_first c.args.call.now (λ z. c.if-first-eq114.false (e ∙ z)))
