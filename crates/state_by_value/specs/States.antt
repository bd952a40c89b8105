-- The columns that a state by value is, and the state by value that a device is.
-- Assumes nothing.
use Rattle.std.specs.Prelude.{ℕ, map, get_or, Option}
use Rattle.numbers.specs.Numbers.{places}
use Rattle.laws.specs.Lists.{tab}
use Rattle.table.specs.Columns.{columns}
use Rattle.proxy.specs.State.{State as Columned, state, SoundState}
use Rattle.proxy.specs.declared.Device.{Device}
use Rattle.state_by_value.specs.declared.Place.{Place}
use Rattle.state_by_value.specs.declared.State.{State}
use Rattle.state_by_value.specs.Places.{place_of, number_of, word_in, caller_of, deadline_of, count_of}

-- the columns and numbers that a state by value is
abbrev pub state_of : State → Columned
state_of s =
    state
    (columns (map number_of s.entries) (map word_in s.entries) (map caller_of s.entries) (map deadline_of s.entries) (map count_of s.entries) s.clients s.originals s.top)
    s.cursor.0 s.attached s.clock s.settings s.cache.numbers s.cache.shown

-- every state by value that the calls made
abbrev pub MadeState : State → Type 0
MadeState s = SoundState (state_of s)

-- the place k of the columns
abbrev pub row_at : Device → ℕ → Option Place
row_at d k =
    place_of (get_or d.table.ids k 0) (get_or d.table.asked k 0) (get_or d.table.callers k 0) (get_or d.table.deadlines k 0) (get_or d.table.counts k 0)

-- the state by value that a device is
abbrev pub gathered : Device → State
gathered d =
    record {
      entries = tab places (row_at d);
      clients = d.table.clients;
      originals = d.table.originals;
      top = d.table.top;
      cursor = record { 0 = d.table.cursor };
      attached = d.attached;
      clock = d.clock;
      settings = d.settings;
      cache = d.cache;
    }
