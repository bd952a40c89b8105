-- What the parts of the request call hand on: what is known of a request once it is legal, and what a part of the call came to.
-- Assumes nothing.
use Rattle.std.specs.Prelude.{ℕ, ◌≤◌, ◌<◌, ◌≡◌, List, [], length, Ok}
use Rattle.numbers.specs.Numbers.{ids, clients, latest_time, least_frame, most_frame, frame_buffer}
use Rattle.pdu.specs.Requests.{checked_of}
use Rattle.pdu.specs.Words.{word_of, Proper}
use Rattle.pdu.specs.declared.Asked.{Asked}
use Rattle.machine.specs.Machine.{Machine}
use Rattle.machine.specs.Calls.{Outcome, done}
use Rattle.machine.specs.Requests.{wanted}
use Rattle.machine.specs.declared.Answer.{Answer}
use Rattle.caching.specs.Kept.{SoundCache}
use Rattle.table.specs.Columns.{Columns, columns_of, SoundTable}
use Rattle.proxy.specs.State.{state, machine_of}
use Rattle.proxy.specs.declared.KeptSettings.{KeptSettings}
use Rattle.proxy.specs.declared.Device.{Device}

-- what the gate and the check have shown of a request
pub record Admitted (client time : ℕ) (f out : List ℕ) (a : Asked) : Type 0 where
  pub numbered : client < clients
  pub timed : time ≤ latest_time
  pub roomy : frame_buffer ≤ length out
  pub least : least_frame ≤ length f
  pub most : length f ≤ most_frame
  pub legal : checked_of f ≡ Ok a

-- the word is that of what the request asks, and what it asks may stand in a live entry
pub record Asks (f : List ℕ) (word : ℕ) : Type 0 where
  pub same : word ≡ word_of (wanted f)
  pub proper : Proper (wanted f)

-- the machine of such columns, with that cursor and that cache, at the time t under the settings k, came to what `step` says of the machine that it was, whoever is attached;
-- and the columns are sound and the cursor an id
pub record Came (r : Answer) (k : KeptSettings) (t : ℕ) (shown : List ℕ) (c' : Columns) (x' : ℕ) (h' o' : List ℕ) (step : Machine → Outcome) (c : Columns) (x : ℕ) (h : List ℕ) : Type 0 where
  pub outcome : (s : ℕ) → done r (machine_of (state c' x' s t k h' shown)) o' [] ≡ step (machine_of (state c x s t k h shown))
  pub table : SoundTable c'
  pub cache : SoundCache h' shown
  pub cursor : x < ids → x' < ids

-- the device d came to d' and what was written to o', as `step` says of the machine: of d only its table, its cursor and the numbers of its cache may have changed
pub record Comes (r : Answer) (d d' : Device) (o' : List ℕ) (step : Machine → Outcome) : Type 0 where
  pub came : Came r d.settings d.clock d.cache.shown (columns_of d'.table) d'.table.cursor d'.cache.numbers o' step (columns_of d.table) d.table.cursor d.cache.numbers
  pub attached : d'.attached ≡ d.attached
  pub clock : d'.clock ≡ d.clock
  pub settings : d'.settings ≡ d.settings
  pub shown : d'.cache.shown ≡ d.cache.shown
