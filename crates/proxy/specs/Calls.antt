-- That a call on a state does what the document says to the state and the lent buffers and keeps the state sound, and that a refusal leaves every place of it as it was;
-- the same in the C host's numbers.
-- Assumes nothing.
use Rattle.std.specs.Prelude.{◌≡◌, ℕ, List}
use Rattle.settings.specs.declared.Settings.{Settings}
use Rattle.settings.specs.Values.{value_of}
use Rattle.machine.specs.Machine.{made}
use Rattle.machine.specs.Calls.{Call, done}
use Rattle.machine.specs.Numbers.{numbers, reported, numbered}
use Rattle.machine.specs.Outcomes.{outcome}
use Rattle.machine.specs.declared.Answer.{Answer}
use Rattle.machine.specs.declared.Report.{Report}
use Rattle.proxy.specs.State.{KeptSettings, State, value_in, machine_of, Settled, SoundState}
use Rattle.proxy.specs.Gates.{adopted, making_answer}

-- a refusal leaves every column and every number as it was, also where the machine would not show it
abbrev pub Untouched : Answer → State → State → Type 0
Untouched a s s' = ((numbers a).refusal ≡ 0 → ⊥) → s' ≡ s

-- from the state s the call comes to the answer, the state s' and these buffers, as document 01 says, and these calls made the state s'
abbrev pub Does : State → Call → Answer → State → (written listed : List ℕ) → Type 0
Does s x answer s' w l = (done answer (machine_of s') w l ≡ outcome (machine_of s) x) × SoundState s' × Untouched answer s s'

-- the same with the report for a C host in place of the answer
abbrev pub Told : State → Call → Report → State → (written listed : List ℕ) → Type 0
Told s x r s' w l = (reported r (machine_of s') w l ≡ numbered (outcome (machine_of s) x)) × SoundState s' × ((r.refusal ≡ 0 → ⊥) → s' ≡ s)

-- what is kept of a value: itself, or the usual one beside refusal 10
abbrev pub Adopts : Settings → Answer → KeptSettings → Type 0
Adopts from answer k = (answer ≡ making_answer (value_of from)) × (value_in k ≡ adopted (value_of from)) × Settled k

-- a fresh state: the machine that document 01 makes from the value, or from the usual one beside refusal 10
abbrev pub Freshened : Settings → Answer → State → Type 0
Freshened from answer s = (answer ≡ making_answer (value_of from)) × (machine_of s ≡ made (adopted (value_of from))) × SoundState s

-- the same with the report for a C host in place of the answer
abbrev pub FreshlyTold : Settings → Report → State → Type 0
FreshlyTold from r s = (r ≡ numbers (making_answer (value_of from))) × (machine_of s ≡ made (adopted (value_of from))) × SoundState s
