-- `requesting::gate` meets its contract: its tests come in the order of the table.
use mathlib.Core.Path.{sym, ◌∙◌}
use Rattle.requesting.proofs.GateLaws.{gate_short, gate_stranger, gate_untimely, gate_misframed, gate_open}
use Rattle.requesting.proofs.gate.Goals as goal

pub returns-then-out-lt-FRAME_BUFFER : goal.returns-then-out-lt-FRAME_BUFFER
returns-then-out-lt-FRAME_BUFFER c = gate_short _ _ _ _ _ _ c.if-out-lt-FRAME_BUFFER.true

pub returns-then-is_stranger : goal.returns-then-is_stranger
returns-then-is_stranger c = gate_stranger _ _ _ _ _ _ c.if-out-lt-FRAME_BUFFER.false (sym c.is_stranger.ensures ∙ c.if-is_stranger.true)

pub returns-then-is_untimely : goal.returns-then-is_untimely
returns-then-is_untimely c =
    gate_untimely _ _ _ _ _ _ c.if-out-lt-FRAME_BUFFER.false (sym c.is_stranger.ensures ∙ c.if-is_stranger.false) (sym c.is_untimely.ensures ∙ c.if-is_untimely.true)

pub returns-then-is_misframed : goal.returns-then-is_misframed
returns-then-is_misframed c =
    gate_misframed _ _ _ _ _ _ c.if-out-lt-FRAME_BUFFER.false (sym c.is_stranger.ensures ∙ c.if-is_stranger.false) (sym c.is_untimely.ensures ∙ c.if-is_untimely.false) (sym c.is_misframed.ensures ∙ c.if-is_misframed.true)

pub returns : goal.returns
returns c =
    gate_open _ _ _ _ _ _ c.if-out-lt-FRAME_BUFFER.false (sym c.is_stranger.ensures ∙ c.if-is_stranger.false) (sym c.is_untimely.ensures ∙ c.if-is_untimely.false) (sym c.is_misframed.ensures ∙ c.if-is_misframed.false)
