-- The calls with all that a host gives: any client number, any time, any bytes, buffers of any length; and the whole outcome of a call.
-- Assumes nothing.
use Rattle.std.specs.Prelude.{ℕ, List, []}
use Rattle.std.proofs.Math.Option.{Option, some, none}
use Rattle.machine.specs.Machine.{Machine}
use Rattle.machine.specs.declared.Answer.{Answer}

pub data Call : Type 0 where
  attach : (client : ℕ) → Call
  detach : (client : ℕ) → Call
  request : (client time : ℕ) (frame out : List ℕ) → Call
  reply : (time : ℕ) (frame out list : List ℕ) → Call
  tick : (time : ℕ) (out list : List ℕ) → Call
  link_lost : Call

-- the time that a call carries
abbrev pub time_of : Call → Option ℕ
time_of (attach c) = none
time_of (detach c) = none
time_of (request c t f o) = some t
time_of (reply t f o l) = some t
time_of (tick t o l) = some t
time_of link_lost = none

-- the lent frame buffer and the lent list, as they came
unfoldable pub out_of : Call → List ℕ
out_of (attach c) = []
out_of (detach c) = []
out_of (request c t f o) = o
out_of (reply t f o l) = o
out_of (tick t o l) = o
out_of link_lost = []

unfoldable pub list_of : Call → List ℕ
list_of (attach c) = []
list_of (detach c) = []
list_of (request c t f o) = []
list_of (reply t f o l) = l
list_of (tick t o l) = l
list_of link_lost = []

-- the whole outcome: what is said, the machine afterwards, and every byte and number of the lent buffers
pub record Outcome : Type 0 where
  pub says : Answer
  pub after : Machine
  pub written : List ℕ
  pub listed : List ℕ

abbrev pub done : Answer → Machine → List ℕ → List ℕ → Outcome
done a m w l = record { says = a; after = m; written = w; listed = l }
