-- A device's life: the calls that a host makes of it, one after the other, each with what the host sees of it afterwards; what the host can write down of them; what the life has in common
-- with the machine's; and which places of a device are live.
-- Assumes nothing.
use Rattle.std.specs.Prelude.{ℕ, ◌+◌, ◌≡◌, cond, List, [], ◌∷◌, ◌++◌, map, get_or, eqb}
use Rattle.settings.specs.declared.Settings.{Settings}
use Rattle.settings.specs.Grammar.{Value}
use Rattle.settings.specs.Values.{value_of}
use Rattle.pdu.specs.declared.What.{What}
use Rattle.pdu.specs.Words.{what_of}
use Rattle.book.specs.Book.{Event}
use Rattle.book.specs.Ledger.{Ledger, empty, posts}
use Rattle.machine.specs.Machine.{Machine}
use Rattle.machine.specs.Calls.{Call, Outcome, done}
use Rattle.machine.specs.Histories.{Seen, events, seen_of, after_calls, told_by}
use Rattle.machine.specs.Outcomes.{outcome}
use Rattle.machine.specs.Granted.{granted_calls}
use Rattle.machine.specs.declared.Answer.{Answer}
use Rattle.machine.specs.declared.Answer.TheVariants as answer
use Rattle.machine.specs.declared.Report.{Report}
use Rattle.proxy.specs.State.{machine_of}
use Rattle.proxy.specs.Gates.{adopted}
use Rattle.proxy.specs.declared.Device.{Device}
use Rattle.proxy.specs.State.{state_of}
use Rattle.device.specs.Device.{Served, MadeDevice}

-- the settings in force on a device that is made fresh from a value
abbrev pub in_force : Settings → Value
in_force from = adopted (value_of from)

-- the machine that a device is
unfoldable pub machine_in : Device → Machine
machine_in d = machine_of (state_of d)

-- of the device d the call comes to what the host saw, as its exported function promises, and leaves the device e
abbrev pub Called : Device → Call → Seen → Device → Type 0
Called d x saw e = Served d x saw.report e saw.frame saw.list

-- one line of it: the call with all that is given to it; the report and both lent buffers as they are afterwards
pub record Line : Type 0 where
  pub call : Call
  pub saw : Seen

abbrev pub calls_of : List Line → List Call
calls_of ls = map (λ (x : Line). x.call) ls

-- from the device d these lines came, each as its exported function promises and each from the device that the one before left, and the last left d'
pub data Lived : Device → List Line → Device → Type 0 where
  none : {d : Device} → Lived d [] d
  then : {d e d' : Device} {x : Line} {ls : List Line} → Called d x.call x.saw e → Lived e ls d' → Lived d (x ∷ ls) d'

-- the calls of these lines that were not refused, in their order
unfoldable pub granted_in : List Line → List Call
granted_in [] = []
granted_in (x ∷ ls) = cond (eqb x.saw.report.refusal 0) (x.call ∷ granted_in ls) (granted_in ls)

-- what these lines tell a ledger, from what the host gave and saw alone, where the settings are v; and the ledger that the host keeps from them
unfoldable pub told_in : Value → List Line → List (Event What)
told_in v [] = []
told_in v (x ∷ ls) = events v x.call x.saw ++ told_in v ls

abbrev pub ledger_in : Value → List Line → Ledger What
ledger_in v ls = posts empty (told_in v ls)

-- what a device's life has in common with the machine's, made with the settings v
pub record AsTheMachine (v : Value) (ls : List Line) (d' : Device) : Type 0 where
  -- the device is the machine after those calls
  pub after : machine_in d' ≡ after_calls v (calls_of ls)
  -- each line's report and lent buffers are those of the machine's outcome at that place of the history
  pub saw : (xs : List Line) (x : Line) (ys : List Line) → ls ≡ xs ++ (x ∷ ys) → x.saw ≡ seen_of (outcome (after_calls v (calls_of xs)) x.call)
  -- what the host could write down from its own calls and what it saw is what the machine's history tells
  pub told : told_in v ls ≡ told_by v (calls_of ls)
  -- and the calls that it saw not refused are those that the machine did not refuse
  pub granted : granted_in ls ≡ granted_calls v (calls_of ls)
  -- and any call may come next
  pub next : MadeDevice d'

-- what a host saw, as an outcome of the machine: the answer that the report tells, the machine that the device is afterwards, and both lent buffers
abbrev pub outcome_in : Answer → Seen → Device → Outcome
outcome_in a saw e = done a (machine_in e) saw.frame saw.list

-- the answers that the report of a hit, an issue, a join and an exception tells
abbrev pub hit_in : Report → Answer
hit_in r = answer.Hit r.length r.partial r.value

abbrev pub issue_in : Report → Answer
issue_in r = answer.Issued (record { 0 = r.id }) r.length r.partial r.value

abbrev pub join_in : Report → Answer
join_in r = answer.Joined (record { 0 = r.id })

abbrev pub exception_in : Report → Answer
exception_in r = answer.Excepted r.code

-- a place of the device is live under the id: its word asks w, it was issued for the client c and is due at u
abbrev pub LiveIn : Device → ℕ → What → ℕ → ℕ → Type 0
LiveIn d id w c u = (k : ℕ) × (get_or d.table.ids k 0 ≡ id + 1) × (what_of (get_or d.table.asked k 0) ≡ w) × (get_or d.table.callers k 0 ≡ c) × (get_or d.table.deadlines k 0 ≡ u)
