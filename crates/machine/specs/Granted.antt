-- The calls of a history that were not refused, and which of them say whether a client is attached.
-- Assumes nothing.
use Rattle.std.specs.Prelude.{ℕ, Bool, true, false, cond, List, [], ◌∷◌, eqb}
use Rattle.settings.specs.Grammar.{Value}
use Rattle.machine.specs.Machine.{Machine, made}
use Rattle.machine.specs.Calls.{Call}
use Rattle.machine.specs.Calls.Call.{attach, detach, request, reply, tick, link_lost}
use Rattle.machine.specs.Refusals.{refusal}
use Rattle.machine.specs.Outcomes.{outcome}

-- of calls that are made one after another, from the machine m and from a fresh one, those that are not refused, in their order
unfoldable pub granted_from : Machine → List Call → List Call
granted_from m [] = []
granted_from m (x ∷ xs) = cond (eqb (refusal m x) 0) (x ∷ granted_from (outcome m x).after xs) (granted_from (outcome m x).after xs)

abbrev pub granted_calls : Value → List Call → List Call
granted_calls v xs = granted_from (made v) xs

-- the call is the client's attach, its detach, or link lost
abbrev pub concerns : ℕ → Call → Bool
concerns c (attach d) = eqb d c
concerns c (detach d) = eqb d c
concerns c (request d t f o) = false
concerns c (reply t f o l) = false
concerns c (tick t o l) = false
concerns c link_lost = true
