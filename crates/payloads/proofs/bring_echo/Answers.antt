-- `payloads::bring_echo` meets its contract: where the request was re-encoded the register is rewritten, else nothing is.
use mathlib.Core.Path.{sym, ◌∙◌}
use Rattle.rewrite.specs.Frames.{returned_by}
use Rattle.payloads.proofs.bring_echo.Goals as goal

pub returns-then-is_reencoded : goal.returns-then-is_reencoded
unfolding returned_by
returns-then-is_reencoded c = rw (sym c.is_reencoded.ensures ∙ c.if-is_reencoded.true) c.rewrite.ensures

pub returns : goal.returns
unfolding returned_by
returns c = rw (c.default.ensures.0, c.default.ensures.1, sym c.is_reencoded.ensures ∙ c.if-is_reencoded.false)
