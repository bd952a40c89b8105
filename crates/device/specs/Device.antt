-- What every device has that these calls made, and what an entry point does to it.
-- Assumes nothing.
use Rattle.std.specs.Prelude.{ℕ, ◌≡◌, List}
use Rattle.settings.specs.declared.Settings.{Settings}
use Rattle.machine.specs.Calls.{Call}
use Rattle.machine.specs.declared.Report.{Report}
use Rattle.machine.specs.declared.NextDeadline.{NextDeadline}
use Rattle.machine.specs.Waiting.{next_deadline}
use Rattle.proxy.specs.State.{machine_of, state_of, SoundState}
use Rattle.proxy.specs.Calls.{Told, FreshlyTold}
use Rattle.proxy.specs.declared.Device.{Device}

-- every device that these calls made
abbrev pub MadeDevice : Device → Type 0
MadeDevice d = SoundState (state_of d)

-- from the device d a call comes to this report, this device and these buffers, as document 01 says, and these calls made the device; a refusal leaves every field of the
-- device as it was (a state has the fields of its device: `same-device`)
abbrev pub Served : Device → Call → Report → Device → (written listed : List ℕ) → Type 0
Served d x r d' w l = Told (state_of d) x r (state_of d') w l

-- a fresh device: the machine that document 01 makes from the value, or from the usual one beside refusal 10
abbrev pub Freshly : Settings → Report → Device → Type 0
Freshly from r d = FreshlyTold from r (state_of d)

-- when the host has to tick next, as the machine has it
abbrev pub Awaited : Device → NextDeadline → Type 0
Awaited d n = n ≡ next_deadline (machine_of (state_of d))
