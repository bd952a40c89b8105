-- What a call on a state by value does: the machine's outcome, and a state that the calls made.
-- Assumes nothing.
use Rattle.std.specs.Prelude.{ℕ, ◌≡◌, List}
use Rattle.settings.specs.declared.Settings.{Settings}
use Rattle.settings.specs.Values.{value_of}
use Rattle.machine.specs.Machine.{made}
use Rattle.machine.specs.Calls.{Call, done}
use Rattle.machine.specs.Outcomes.{outcome}
use Rattle.proxy.specs.State.{machine_of}
use Rattle.proxy.specs.Gates.{adopted, making_answer}
use Rattle.state_by_value.specs.declared.State.{State}
use Rattle.state_by_value.specs.States.{state_of, MadeState}
use Rattle.state_by_value.specs.declared.calls.Stepped.{Stepped}

-- from the state s by value a call comes to this answer, this state and these buffers, as document 01 says, and these calls made the state
abbrev pub ServedByValue : State → Call → Stepped → (written listed : List ℕ) → Type 0
ServedByValue s x r w l = (done r.answer (machine_of (state_of r.state)) w l ≡ outcome (machine_of (state_of s)) x) × MadeState r.state

-- a fresh state: the machine that document 01 makes from the value, or from the usual one beside refusal 10
abbrev pub FreshlyByValue : Settings → Stepped → Type 0
FreshlyByValue from r =
    (r.answer ≡ making_answer (value_of from)) × (machine_of (state_of r.state) ≡ made (adopted (value_of from))) × MadeState r.state
