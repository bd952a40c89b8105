-- The refusals that are told before a frame is looked into, and the settings and the answer of a fresh state.
-- Assumes nothing.
use Rattle.std.specs.Prelude.{ℕ, cond, ◌||◌, List, [], ◌∷◌, ltb}
use Rattle.numbers.specs.Numbers.{frame_buffer, list_buffer}
use Rattle.wire.specs.Frame.{misframed}
use Rattle.settings.specs.Grammar.{Value, valid}
use Rattle.settings.specs.Values.{usual}
use Rattle.machine.specs.Refusals.{row, lowest, is_strange_to, is_untimely_at}
use Rattle.machine.specs.declared.Answer.{Answer}
use Rattle.machine.specs.declared.Answer.TheVariants.{Refused, Done}

-- 1 to 4 of a request: the buffer's length, the client, the set of attached clients, the time, the clock, the frame
unfoldable pub request_gate : (out client attached time clock : ℕ) → List ℕ → ℕ
request_gate out client attached time clock f =
    lowest
    (row 1 (ltb out frame_buffer)
    ∷ row 2 (is_strange_to attached client)
    ∷ row 3 (is_untimely_at clock time)
    ∷ row 4 (misframed f)
    ∷ [])

-- 1 and 3 of a tick: the buffers' lengths, the time, the clock
unfoldable pub tick_gate : (out list time clock : ℕ) → ℕ
tick_gate out list time clock = lowest (row 1 (ltb out frame_buffer || ltb list list_buffer) ∷ row 3 (is_untimely_at clock time) ∷ [])

-- 1, 3 and 4 of a reply
unfoldable pub reply_gate : (out list time clock : ℕ) → List ℕ → ℕ
reply_gate out list time clock f =
    lowest (row 1 (ltb out frame_buffer || ltb list list_buffer) ∷ row 3 (is_untimely_at clock time) ∷ row 4 (misframed f) ∷ [])

-- a fresh state is made from a valid value, and else from timeout 3000, join 1 and no tags
unfoldable pub adopted : Value → Value
adopted v = cond (valid v) v usual

-- done for a valid value, refusal 10 beside the fresh state for an invalid one
unfoldable pub making_answer : Value → Answer
making_answer v = cond (valid v) Done (Refused 10)
