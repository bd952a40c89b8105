-- What a request that is not refused comes to, in plain numbers and bytes: what it may join, and that it is a hit, is issued, joins, or gets an exception; and where one that is accepted stands.
-- Assumes nothing.
use Rattle.std.specs.Prelude.{ℕ, ◌<◌, ◌+◌, ◌-◌, ◌/◌, ◌%◌, ◌≤◌, ◌≡◌, ◌⊎◌, ◌↔◌, false, true, List, [], ◌∷◌, ◌++◌, length, get_or, drop, Err}
use Rattle.std.proofs.Math.Option.{some, none, map}
use Rattle.numbers.specs.Numbers.{ids, room}
use Rattle.laws.specs.Circle.{turn}
use Rattle.laws.specs.Bytes.{over}
use Rattle.wire.specs.Frame.{id_of, laid}
use Rattle.pdu.specs.declared.What.{What}
use Rattle.pdu.specs.Spoiling.{spoils}
use Rattle.rewrite.specs.Plain.{Rewrites}
use Rattle.rewrite.specs.Strict.{Carries}
use Rattle.rewrite.specs.Frames.{forwarded}
use Rattle.rewrite.specs.Legal.{checked_under, legal}
use Rattle.rewrite.specs.declared.Way.TheVariants.{ToBcd}
use Rattle.cache.specs.Cache.{Cached, in_cache}
use Rattle.book.specs.Book.{Live, at, Next, marked, Party}
use Rattle.machine.specs.Machine.{Machine, Note, settings, opened, rules, Live_book}
use Rattle.machine.specs.Calls.{Outcome}
use Rattle.machine.specs.Requests.{closing}
use Rattle.machine.specs.Numbers.{ten, numbers}
use Rattle.machine.specs.Spelled.{asking, asker}
use Rattle.machine.specs.Cached.{NoHit}
use Rattle.machine.specs.Answered.{showing}
use Rattle.machine.specs.declared.Answer.TheVariants as answer
use Rattle.machine.specs.declared.Answer.{Answer}
use Rattle.pdu.specs.declared.Fault.TheVariants as check

-- the entry may be joined by the request f at the time t: joining is on, f is a read (01 to 04), the entry is not closed, asks what f asks, has room for one more party, and is due
-- later; when an entry is closed is said of the history in ClosedLaws
pub record MayJoin (m : Machine) (t : ℕ) (f : List ℕ) (e : Live What Note) : Type 0 where
  pub on : (settings m).join ≡ 1
  pub reads : ((get_or f 7 0 ≡ 1) ⊎ (get_or f 7 0 ≡ 2)) ⊎ ((get_or f 7 0 ≡ 3) ⊎ (get_or f 7 0 ≡ 4))
  pub unclosed : e.note.closed ≡ false
  pub same : e.what ≡ asking f
  pub fewer : length e.parties < room
  pub later : t < e.deadline

-- no live entry may be joined
abbrev pub NoneToJoin : Machine → ℕ → List ℕ → Type 0
NoneToJoin m t f = (k : ℕ) (e : Live What Note) → at m.book k ≡ some e → MayJoin m t f e → ⊥

-- A request that hits. It is legal, and the cache has a reply to what it asks that is younger than its life.
pub record Hits (m : Machine) (c t : ℕ) (f o : List ℕ) (d : Outcome) : Type 0 where
  pub is_legal : legal (settings m) f ≡ true
  pub place : ℕ
  pub cached : Cached
  pub there : in_cache m.cache place ≡ some cached
  pub same : cached.what ≡ asking f
  pub young : t - cached.filled < cached.life
  -- the answer: the cached frame's length and the counts of the reply that filled the place; and all ten numbers of its report
  pub says : d.says ≡ answer.Hit (length cached.bytes) cached.partial cached.value
  pub report : numbers d.says ≡ ten 0 0 10 (length cached.bytes) 0 cached.partial cached.value 0 0 0
  -- the buffer: the caller's own id, the cached frame behind it, and behind that what was there
  pub high : ((k : ℕ) → get_or f k 0 < 256) → get_or d.written 0 0 ≡ get_or f 0 0
  pub low : ((k : ℕ) → get_or f k 0 < 256) → get_or d.written 1 0 ≡ get_or f 1 0
  pub bytes : (k : ℕ) → 2 ≤ k → k < length cached.bytes → get_or d.written k 0 ≡ get_or cached.bytes k 0
  pub behind : (k : ℕ) → length cached.bytes ≤ k → get_or d.written k 0 ≡ get_or o k 0
  pub size : length d.written ≡ length o
  -- all of it at once
  pub frame : d.written ≡ over (laid (id_of f) cached.bytes) o
  pub listed : d.listed ≡ []
  -- the machine: only the clock is set
  pub after : d.after ≡ showing m t

-- A request that goes out. It is legal, hits nothing, and nothing is there that it may join.
pub record Issues (m : Machine) (c t : ℕ) (f o : List ℕ) (d : Outcome) : Type 0 where
  pub is_legal : legal (settings m) f ≡ true
  pub no_hit : NoHit m t f
  pub alone : NoneToJoin m t f
  -- the answer: the first id from the cursor on that is not live, the frame's length, and how many tags stay raw for partial cover and for value
  pub id : ℕ
  pub partial : ℕ
  pub value : ℕ
  pub next : Next rules m.book id
  pub says : d.says ≡ answer.Issued (record { 0 = id }) (length f) partial value
  -- the buffer: the id, the frame with its registers rewritten, and behind it what was there
  pub high : get_or d.written 0 0 ≡ id / 256
  pub low : get_or d.written 1 0 ≡ id % 256
  pub rewritten : (base start quantity : ℕ) → Carries (asking f).asked base start quantity → Rewrites ToBcd (settings m).tags f d.written partial value base start quantity
  pub unchanged : ((base start quantity : ℕ) → Carries (asking f).asked base start quantity → ⊥)
      → ((k : ℕ) → 2 ≤ k → k < length f → get_or d.written k 0 ≡ get_or f k 0) × (partial ≡ 0) × (value ≡ 0)
  pub behind : (k : ℕ) → length f ≤ k → get_or d.written k 0 ≡ get_or o k 0
  pub size : length d.written ≡ length o
  -- all of it at once, by the definition of what is forwarded
  pub frame : d.written ≡ over (laid id (forwarded (settings m).tags (asking f).asked f).bytes) o
  pub listed : d.listed ≡ []
  -- the machine: a place that was free holds the request, which is open, every other place has what it had, but that a read which the request spoils is closed, the cursor stands
  -- behind the id, and what is cached stays there unless the request spoils it
  pub place : ℕ
  pub free : at m.book place ≡ none
  pub entered : at d.after.book place ≡ some (record { id = id; what = asking f; by = c; note = opened; deadline = t + (settings m).timeout; parties = asker c f ∷ [] })
  pub others : (k : ℕ) → (k ≡ place → ⊥) → at d.after.book k ≡ map (marked (closing (asking f))) (at m.book k)
  pub cached : (k : ℕ) (e : Cached) → (in_cache d.after.cache k ≡ some e) ↔ ((in_cache m.cache k ≡ some e) × (spoils (asking f) e.what ≡ false))
  pub cursor : d.after.book.cursor ≡ turn ids (id + 1)
  pub clock : d.after.book.clock ≡ t
  pub attached : d.after.attached ≡ m.attached
  pub rule : settings d.after ≡ settings m

-- A request that joins. It is legal, hits nothing, and the entry has the smallest id of those that it may join.
pub record Joins (m : Machine) (c t : ℕ) (f o : List ℕ) (d : Outcome) : Type 0 where
  pub is_legal : legal (settings m) f ≡ true
  pub no_hit : NoHit m t f
  pub place : ℕ
  pub entry : Live What Note
  pub there : at m.book place ≡ some entry
  pub may : MayJoin m t f entry
  pub smallest : (k : ℕ) (e : Live What Note) → at m.book k ≡ some e → MayJoin m t f e → entry.id ≤ e.id
  -- the answer is that id, and the buffer is as it came
  pub says : d.says ≡ answer.Joined (record { 0 = entry.id })
  pub written : d.written ≡ o
  pub listed : d.listed ≡ []
  -- the machine: the entry has one party more, the last
  pub added : at d.after.book place
      ≡ some (record { id = entry.id; what = entry.what; by = entry.by; note = entry.note; deadline = entry.deadline; parties = entry.parties ++ (asker c f ∷ []) })
  pub others : (k : ℕ) → (k ≡ place → ⊥) → at d.after.book k ≡ at m.book k
  pub cache : d.after.cache ≡ m.cache
  pub cursor : d.after.book.cursor ≡ m.book.cursor
  pub clock : d.after.book.clock ≡ t
  pub attached : d.after.attached ≡ m.attached
  pub rule : settings d.after ≡ settings m

-- A request that gets an exception: 02 or 03, which the check of its bytes and of the tags gives, or 04.
pub record Excepts (m : Machine) (t : ℕ) (f o : List ℕ) (d : Outcome) : Type 0 where
  pub code : ℕ
  pub codes : (code ≡ 2) ⊎ ((code ≡ 3) ⊎ (code ≡ 4))
  pub checked : (code ≡ 4 → ⊥) → checked_under (settings m).tags f ≡ Err (check.Excepted code)
  pub says : d.says ≡ answer.Excepted code
  -- the buffer: nine bytes for the caller, under its own id, and behind them what was there
  pub frame : ((k : ℕ) → get_or f k 0 < 256) → d.written ≡ (get_or f 0 0 ∷ get_or f 1 0 ∷ 0 ∷ 0 ∷ 0 ∷ 3 ∷ get_or f 6 0 ∷ (get_or f 7 0 + 128) ∷ code ∷ drop 9 o)
  pub size : length d.written ≡ length o
  pub listed : d.listed ≡ []
  -- the machine: only the clock is set
  pub places : d.after.book.places ≡ m.book.places
  pub cache : d.after.cache ≡ m.cache
  pub cursor : d.after.book.cursor ≡ m.book.cursor
  pub clock : d.after.book.clock ≡ t
  pub attached : d.after.attached ≡ m.attached
  pub rule : settings d.after ≡ settings m

-- a live entry under that id asks w and has the party as its latest
pub record Stands (b : Live_book) (id : ℕ) (w : What) (p : Party) : Type 0 where
  pub place : ℕ
  pub entry : Live What Note
  pub before : List Party
  pub there : at b place ≡ some entry
  pub same : entry.id ≡ id
  pub asks : entry.what ≡ w
  pub latest : entry.parties ≡ before ++ (p ∷ [])

-- the id under which an answer says that a request was accepted
unfoldable pub Accepts : Answer → ℕ → Type 0
Accepts (answer.Refused n) id = ⊥
Accepts answer.Done id = ⊥
Accepts (answer.Issued i n p v) id = i.0 ≡ id
Accepts (answer.Joined i) id = i.0 ≡ id
Accepts (answer.Excepted c) id = ⊥
Accepts (answer.Answered i n k p v) id = ⊥
Accepts (answer.TimedOut i k) id = ⊥
Accepts answer.NothingDue id = ⊥
Accepts (answer.Lost s) id = ⊥
Accepts (answer.Hit n p v) id = ⊥
