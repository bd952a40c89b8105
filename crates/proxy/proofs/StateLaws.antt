-- A state with another sound table, set and clock is sound; at a later time it is the machine at that time; and what the settings in a state give the rewriter.
-- Assumes nothing.
use Prim.Native.Nat.{ℕ, ◌≤◌, ◌<◌, ◌^◌}
use mathlib.Core.Path.{◌≡◌}
use native.Mathlib.Nat.{max-eq_right}
use Rattle.numbers.specs.Numbers.{clients}
use Rattle.rewrite.specs.inner.Lent.{TagWords}
use Rattle.machine.specs.Machine.{clocked}
use Rattle.table.specs.Columns.{Columns, SoundTable}
use Rattle.proxy.specs.State.{KeptSettings, State, seated, machine_of, Settled, SoundState}

-- A sound table and a set of clients keep the state sound, at any time.
pub still_sound : (s : State) → SoundState s → {c : Columns} {a t : ℕ} → SoundTable c → a < 2 ^ clients → SoundState (seated s c a t)
still_sound s sounds c h = record { table = c; cursor = sounds.cursor; attached = h; settings = sounds.settings; cache = sounds.cache }

-- the state at another time
abbrev pub timed : State → ℕ → State
timed s t = seated s s.table s.attached t

-- The machine at a later time is that of the state at that time.
pub clock_is : (s : State) (t : ℕ) → s.clock ≤ t → clocked (machine_of s) t ≡ machine_of (timed s t)
clock_is s t h = rw (max-eq_right h)

-- Another time keeps the state sound.
pub timed_sound : (s : State) (t : ℕ) → SoundState s → SoundState (timed s t)
timed_sound s t d = still_sound s d d.table d.attached

-- the settings in the state as the rewriter asks for them
pub tag_words_lem : (k : KeptSettings) → Settled k → TagWords k.tag_count k.tag_words
tag_words_lem k d = record { places = d.long; few = d.few; ascending = d.ascending }
