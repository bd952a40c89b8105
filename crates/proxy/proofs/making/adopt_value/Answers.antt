-- `proxy::making::adopt_value` meets its contract: a valid value is adopted, and the usual one beside refusal 10.
use mathlib.Core.Path.{sym, ◌∙◌}
use Rattle.proxy.proofs.MakingLaws.{kept_usual, adopts_valid, adopts_usual, takes}
use Rattle.proxy.proofs.making.adopt_value.Goals as goal

pub adopt-requires : goal.adopt-requires
adopt-requires c = sym c.is_valid.ensures ∙ c.if-is_valid.true

pub returns-then-is_valid : goal.returns-then-is_valid
returns-then-is_valid c =
    takes _ (adopts_valid _ (sym c.is_valid.ensures ∙ c.if-is_valid.true)) (c.adopt.ensures.kept, c.adopt.ensures.settled)

pub returns : goal.returns
returns c = rw c.from.ensures (takes _ (adopts_usual _ (sym c.is_valid.ensures ∙ c.if-is_valid.false)) kept_usual)
