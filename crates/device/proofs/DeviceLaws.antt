-- A device that these calls made has what the cores of detach and of the next deadline ask for, and what the latter finds in its columns is the machine's; and a device of all zeros is such a device, with nobody attached.
-- Assumes nothing.
use prog.Memory.{size}
use Prim.Native.Nat.{ℕ, ◌≤◌}
use mathlib.Core.Path.{◌≡◌, refl, ap, ◌∙◌}
use mathlib.Core.Bool.{false}
use lib.ListN.{get_or}
use Rattle.numbers.specs.Numbers.{places}
use Rattle.laws.specs.Bits.{has}
use Rattle.laws.specs.Search.{least, count}
use Rattle.machine.specs.Waiting.{no_deadline}
use Rattle.machine.specs.declared.NextDeadline.{NextDeadline}
use Rattle.table.specs.inner.Changes.{Runs}
use Rattle.table.specs.inner.Places.{is_taken}
use Rattle.table.proofs.EntryLaws.{runs_of}
use Rattle.table.proofs.FindLaws.{next_time, next_live}
use Rattle.proxy.specs.State.{State, state_of, value_in, machine_of}
use Rattle.proxy.specs.declared.Device.{Device}
use Rattle.proxy.proofs.MakingLaws.{zeros_sound}
use Rattle.device.specs.Fields.{device, zeros, state_size}
use Rattle.device.specs.Device.{MadeDevice, Awaited}
use Rattle.proxy.proofs.Device.TheLaws.{mir}

pub may_detach : (d : Device) → MadeDevice d → Runs d.table.counts d.table.clients d.table.originals × (d.table.top ≤ places)
may_detach d made = (runs_of (state_of d).table made.table, made.table.within)

pub may_await : (d : Device) → MadeDevice d → d.table.top ≤ places
may_await d made = made.table.within

-- The least deadline of the live places, and how many they are, are when the host has to tick next.
pub awaited : (d : Device) → MadeDevice d → {n : NextDeadline}
    → (n.time ≡ least (is_taken d.table.ids) (λ k. get_or d.table.deadlines k 0) no_deadline d.table.top) × (n.live ≡ count (is_taken d.table.ids) d.table.top)
    → Awaited d n
awaited d made found =
    let s = state_of d in
    let v = value_in s.settings in
    let h = (machine_of s).cache in
    rw (found.0 ∙ next_time v _ s.cursor s.clock made.table s.attached h, found.1 ∙ next_live v _ s.cursor s.clock made.table s.attached h)

-- A host that forgets to make its device fresh has a sound one, to which nobody is attached.
pub zeros-made : MadeDevice zeros × ((client : ℕ) → has zeros.attached client ≡ false)
zeros-made = zeros_sound

-- A device in memory has 50,224 bytes, and that is the size that a host is told.
pub state-size : (size mir ≡ 50224) × (state_size ≡ 50224)
state-size = (refl, refl)

-- the device whose state it is: state_of read backwards
abbrev device_of : State → Device
device_of s =
    let t = s.table in
    let k = s.settings in
    device t.ids t.asked t.callers t.deadlines t.counts t.clients t.originals t.top s.cursor s.attached s.clock k.timeout k.join
    k.tag_count k.tag_words s.cache s.shown

-- Two devices of one state are one device, field by field.
pub same-device : (d e : Device) → state_of d ≡ state_of e → d ≡ e
same-device d e h = ap device_of h
