-- The machine that a state's columns and numbers are, and what every state has that these calls made.
-- Assumes nothing.
use Rattle.std.specs.Prelude.{ℕ, ◌≤◌, ◌<◌, ◌^◌, ◌≡◌, false, List, map, length, take, get_or}
use Rattle.numbers.specs.Numbers.{ids, clients, most_tags, most_timeout}
use Rattle.settings.specs.Grammar.{Value}
use Rattle.settings.specs.TagWords.{tag_of, Ascending, strict_mark, some_strict}
use Rattle.machine.specs.Machine.{Machine, machine}
use Rattle.caching.specs.Kept.{cache_of, SoundCache}
use Rattle.table.specs.Columns.{Columns, columns, columns_of, book_of, SoundTable}
use Rattle.proxy.specs.declared.Device.{Device}
pub use Rattle.proxy.specs.declared.KeptSettings.{KeptSettings}

-- the settings inside the state, of their parts
abbrev pub kept_settings : ℕ → ℕ → ℕ → List ℕ → KeptSettings
kept_settings w j n g = record { timeout = w; join = j; tag_count = n; tag_words = g }

unfoldable pub value_in : KeptSettings → Value
value_in s = record { timeout = s.timeout; join = s.join; tags = map tag_of (take s.tag_count s.tag_words) }

-- a state: the live table, the cursor, the set of attached clients, the clock, the settings, and the two columns of the cache
pub record State : Type 0 where
  pub table : Columns
  pub cursor : ℕ
  pub attached : ℕ
  pub clock : ℕ
  pub settings : KeptSettings
  pub cache : List ℕ
  pub shown : List ℕ

abbrev pub state : Columns → (cursor attached clock : ℕ) → KeptSettings → (cache shown : List ℕ) → State
state c x s t k h b = record { table = c; cursor = x; attached = s; clock = t; settings = k; cache = h; shown = b }

-- the state that a device is
abbrev pub state_of : Device → State
state_of d = state (columns_of d.table) d.table.cursor d.attached d.clock d.settings d.cache.numbers d.cache.shown

-- the state s with another table, another set of attached clients and another clock
abbrev pub seated : State → Columns → (attached clock : ℕ) → State
seated s c a t = state c s.cursor a t s.settings s.cache s.shown

-- the state that some lent fields are, beside what else the state s has: the set alone; the parties; the ids and the numbers of the cache; the table and the clock; these, the settings and the cache
abbrev pub lent_set : State → (attached : ℕ) → State
lent_set s a = seated s s.table a s.clock

abbrev pub lent_parties : State → (counts clients originals : List ℕ) (top attached : ℕ) → State
lent_parties s counts clients originals top a =
    let c = s.table in
    seated s (columns c.ids c.asked c.callers c.deadlines counts clients originals top) a s.clock

abbrev pub lent_ids : State → (ids : List ℕ) (top attached : ℕ) (cache : List ℕ) → State
lent_ids s ids top a cache =
    let c = s.table in
    state (columns ids c.asked c.callers c.deadlines c.counts c.clients c.originals top) s.cursor a s.clock s.settings cache s.shown

abbrev pub lent_table : State → (ids asked callers deadlines counts clients originals : List ℕ) (top clock : ℕ) → State
lent_table s ids asked callers deadlines counts clients originals top clock = seated s (columns ids asked callers deadlines counts clients originals top) s.attached clock

abbrev pub lent_kept : State → (ids asked callers deadlines counts clients originals : List ℕ) (top clock timeout join tag_count : ℕ) (tag_words cache shown : List ℕ) → State
lent_kept s ids asked callers deadlines counts clients originals top clock timeout join tag_count tag_words cache shown =
    state (columns ids asked callers deadlines counts clients originals top) s.cursor s.attached clock (kept_settings timeout join tag_count tag_words) cache shown

-- the machine that it is
abbrev pub machine_of : State → Machine
machine_of s = machine (book_of (value_in s.settings) s.table s.cursor s.clock) s.attached (cache_of s.cache s.shown)

-- what every state has that these calls made: a sound table, an id as cursor, a set of clients, settings that a value gave, and a sound cache
pub record Settled (k : KeptSettings) : Type 0 where
  pub timeout : k.timeout ≤ most_timeout
  pub few : k.tag_count ≤ most_tags
  pub long : length k.tag_words ≡ most_tags
  pub ascending : Ascending 0 (map tag_of (take k.tag_count k.tag_words))
  -- where the first word has no mark, no tag is strict
  pub unmarked : get_or k.tag_words 0 0 < strict_mark → some_strict (map tag_of (take k.tag_count k.tag_words)) ≡ false

pub record SoundState (s : State) : Type 0 where
  pub table : SoundTable s.table
  pub cursor : s.cursor < ids
  pub attached : s.attached < 2 ^ clients
  pub settings : Settled s.settings
  pub cache : SoundCache s.cache s.shown
