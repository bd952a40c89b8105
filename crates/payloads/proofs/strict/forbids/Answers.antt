-- `payloads::strict::forbids` meets its contract: a strict tag forbids where it stays raw, and another never.
use mathlib.Core.Path.{sym, ◌∙◌}
use Rattle.rewrite.specs.Legal.{forbids}
use Rattle.payloads.proofs.strict.forbids.Goals as goal

pub returns-then-tag_is_strict : goal.returns-then-tag_is_strict
unfolding forbids
returns-then-tag_is_strict c = rw (sym c.tag_is_strict.ensures ∙ c.if-tag_is_strict.true) c.is_raw.ensures

pub returns : goal.returns
unfolding forbids
returns c = rw (sym c.tag_is_strict.ensures ∙ c.if-tag_is_strict.false)
