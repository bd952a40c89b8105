-- The words of the claims on the cache (#107): which request hits nothing, which reply fills, which call leaves a place as it is; the last reply that filled for a read in a history, and what a hit
-- shows of it.
-- Assumes nothing.
use Rattle.std.specs.Prelude.{ℕ, ◌-◌, ◌≤◌, ◌<◌, ◌≡◌, false, List, ◌∷◌, ◌++◌, length, get_or}
use Rattle.std.proofs.Math.Option.{some}
use Rattle.pdu.specs.declared.What.{What}
use Rattle.pdu.specs.Spoiling.{spoils}
use Rattle.pdu.specs.declared.ProxyId.{ProxyId}
use Rattle.pdu.specs.declared.Table.TheVariants.{Registers}
use Rattle.pdu.specs.declared.Asked.TheVariants.{Read}
use Rattle.settings.specs.Grammar.{Tag}
use Rattle.cache.specs.Cache.{Cached, Cache, in_cache}
use Rattle.cache.specs.Plain.{Takes, Cacheable, Life}
use Rattle.book.specs.Book.{Live, Event, at}
use Rattle.machine.specs.Machine.{Machine, Note, settings}
use Rattle.machine.specs.Calls.{Call, Outcome}
use Rattle.machine.specs.Calls.Call.{request, reply, link_lost}
use Rattle.machine.specs.Refusals.{refusal}
use Rattle.machine.specs.Outcomes.{outcome}
use Rattle.machine.specs.Spelled.{asking}
use Rattle.machine.specs.Closed.{Unspoiled, number_at}
use Rattle.machine.specs.declared.Answer.TheVariants as answer

-- no place of the cache has a reply to what the request f asks that is younger than its life at the time t
abbrev pub NoHit : Machine → ℕ → List ℕ → Type 0
NoHit m t f = (k : ℕ) (e : Cached) → in_cache m.cache k ≡ some e → e.what ≡ asking f → t - e.filled < e.life → ⊥

-- the call x of the machine m, to which the lines vs led, is a reply that fills the cache for the read r
pub record Fills (m : Machine) (vs : List (Event What)) (x : Call) (r : What) : Type 0 where
  pub time : ℕ
  pub frame : List ℕ
  pub out : List ℕ
  pub list : List ℕ
  pub is : x ≡ reply time frame out list
  -- it is not refused, answers a live entry under its id that asked r, and is no exception: its byte 7 is the function that was asked
  pub granted : refusal m x ≡ 0
  pub seat : ℕ
  pub entry : Live What Note
  pub there : at m.book seat ≡ some entry
  pub named : entry.id ≡ number_at frame 0
  pub asked : entry.what ≡ r
  pub plain : get_or frame 7 0 ≡ r.function
  -- that entry is not closed (#102): nothing that spoils r was issued since its issue
  pub unclosed : Unspoiled vs entry.id r entry.deadline
  -- r reads registers, each of which lies in some tag that is wholly inside the range and has a ttl
  pub start : ℕ
  pub quantity : ℕ
  pub reads : r.asked ≡ Read Registers start quantity
  pub covered : Cacheable (settings m).tags start quantity

-- a cached reply came at that time and lives for the smallest ttl of the tags in the range of q registers from s on
pub record KeptFor (tags : List Tag) (s q time : ℕ) (e : Cached) : Type 0 where
  pub came : e.filled ≡ time
  pub lives : Life tags s q e.life

-- the cache c has become c' by a reply to the read r that took the place p: that place has it, and every other place is as it was
pub record Put (tags : List Tag) (s q time : ℕ) (r : What) (p : ℕ) (c c' : Cache) : Type 0 where
  pub entry : Cached
  pub there : in_cache c' p ≡ some entry
  pub asks : entry.what ≡ r
  pub kept : KeptFor tags s q time entry
  pub others : (k : ℕ) → (k ≡ p → ⊥) → in_cache c' k ≡ in_cache c k

-- the call y of the machine m, to which the lines vs led, leaves a reply to the read r where it is, in the place p
pub record Spares (m : Machine) (vs : List (Event What)) (y : Call) (r : What) (p : ℕ) : Type 0 where
  -- it issues nothing that spoils r, the link is not lost, and it is no reply that takes the place
  pub issues : (c t : ℕ) (g o : List ℕ) (i : ProxyId) (n a b : ℕ) → y ≡ request c t g o → (outcome m y).says ≡ answer.Issued i n a b → spoils (asking g) r ≡ false
  pub link : y ≡ link_lost → ⊥
  pub place : (w : What) (f : Fills m vs y w) → Takes f.time w m.cache p → ⊥

-- of a history: the machine after some calls, and the lines that they tell
module _ (after : List Call → Machine) (told : List Call → List (Event What)) where
  -- the reply among the calls xs that filled a place for the read r, is younger than its life at the time t, and was left there since
  pub record LastReply (xs : List Call) (t : ℕ) (r : What) : Type 0 where
    pub before : List Call
    pub call : Call
    pub later : List Call
    pub split : xs ≡ before ++ call ∷ later
    pub fills : Fills (after before) (told before) call r
    pub place : ℕ
    pub low : place < 64
    pub takes : Takes fills.time r (after before).cache place
    -- its life is the smallest ttl of the tags in the range, and less than that has gone by since it came
    pub life : ℕ
    pub smallest : Life (settings (after before)).tags fills.start fills.quantity life
    pub young : t - fills.time < life
    -- each call since left it in its place
    pub spared : (mid : List Call) (y : Call) (rest : List Call) → later ≡ mid ++ y ∷ rest → Spares (after (before ++ call ∷ mid)) (told (before ++ call ∷ mid)) y r place

  -- and no other reply filled for that read since
  abbrev pub Latest : (xs : List Call) (t : ℕ) (r : What) → LastReply xs t r → Type 0
  Latest xs t r s = (mid : List Call) (y : Call) (rest : List Call) → s.later ≡ mid ++ y ∷ rest → Fills (after (s.before ++ s.call ∷ mid)) (told (s.before ++ s.call ∷ mid)) y r → ⊥

-- the outcome d of the request f, to which the buffer o was lent, is a hit that shows the reply whose outcome is e
pub record Shows (f o : List ℕ) (d e : Outcome) : Type 0 where
  pub id : ProxyId
  pub size : ℕ
  pub parties : ℕ
  pub partial : ℕ
  pub value : ℕ
  -- the hit says the length and the counts that the reply said
  pub replied : e.says ≡ answer.Answered id size parties partial value
  pub says : d.says ≡ answer.Hit size partial value
  -- bytes 0 and 1 are the caller's own id, those from 2 to the end of the frame are the reply's, and behind the frame stands what was there
  pub high : ((k : ℕ) → get_or f k 0 < 256) → get_or d.written 0 0 ≡ get_or f 0 0
  pub low : ((k : ℕ) → get_or f k 0 < 256) → get_or d.written 1 0 ≡ get_or f 1 0
  pub bytes : (k : ℕ) → 2 ≤ k → k < size → get_or d.written k 0 ≡ get_or e.written k 0
  pub behind : (k : ℕ) → size ≤ k → get_or d.written k 0 ≡ get_or o k 0
  pub long : length d.written ≡ length o
