-- The words of the claims on the cache (#107) in a host's own lines: which line is a reply that fills, which line leaves a place as it is; the last line that filled for a read, and what a hit shows
-- of it.
-- Assumes nothing.
use Rattle.std.specs.Prelude.{ℕ, ◌-◌, ◌≤◌, ◌<◌, ◌≡◌, false, List, [], ◌∷◌, ◌++◌, length, get_or}
use Rattle.settings.specs.Grammar.{Value}
use Rattle.pdu.specs.declared.What.{What}
use Rattle.pdu.specs.Spoiling.{spoils}
use Rattle.pdu.specs.declared.Table.TheVariants.{Registers}
use Rattle.pdu.specs.declared.Asked.TheVariants.{Read}
use Rattle.cache.specs.Cache.{Cache}
use Rattle.cache.specs.Plain.{Takes, Cacheable, Life}
use Rattle.caching.specs.Kept.{cache_of}
use Rattle.book.specs.Traced.{Outstanding}
use Rattle.machine.specs.Calls.Call.{request, reply, link_lost}
use Rattle.machine.specs.Numbers.{ten, is_issued}
use Rattle.machine.specs.Spelled.{asking}
use Rattle.machine.specs.Histories.{Seen}
use Rattle.machine.specs.Closed.{Unspoiled, number_at}
use Rattle.proxy.specs.declared.Device.{Device}
use Rattle.zilborteka.specs.Lives.{Line, Lived, told_in}

-- the cache that a device's own fields are
abbrev pub cache_in : Device → Cache
cache_in d = cache_of d.cache.numbers d.cache.shown

-- behind the lines ks, where the settings are v, the line x is a reply that fills the cache for the read r
pub record FillsIn (v : Value) (ks : List Line) (x : Line) (r : What) : Type 0 where
  pub time : ℕ
  pub frame : List ℕ
  pub out : List ℕ
  pub list : List ℕ
  pub is : x.call ≡ reply time frame out list
  -- it is not refused, and is no exception: its byte 7 is the function that was asked
  pub granted : x.saw.report.refusal ≡ 0
  pub plain : get_or frame 7 0 ≡ r.function
  -- by these lines its id is outstanding and asked r, and is not closed (#102): nothing that spoils r was issued since
  pub client : ℕ
  pub deadline : ℕ
  pub outstanding : Outstanding (told_in v ks) (number_at frame 0) r client deadline
  pub unclosed : Unspoiled (told_in v ks) (number_at frame 0) r deadline
  -- r reads registers, each of which lies in some tag that is wholly inside the range and has a ttl
  pub start : ℕ
  pub quantity : ℕ
  pub reads : r.asked ≡ Read Registers start quantity
  pub covered : Cacheable v.tags start quantity

-- behind the lines ks, which left the device e, the line y leaves a reply to the read r where it is, in the place p
pub record SparesIn (v : Value) (ks : List Line) (e : Device) (y : Line) (r : What) (p : ℕ) : Type 0 where
  -- it issues nothing that spoils r, the link is not lost, and it is no reply that takes the place
  pub issues : (c t : ℕ) (g o : List ℕ) → y.call ≡ request c t g o → y.saw.report.outcome ≡ is_issued → spoils (asking g) r ≡ false
  pub link : y.call ≡ link_lost → ⊥
  pub place : (w : What) (f : FillsIn v ks y w) → Takes f.time w (cache_in e) p → ⊥

-- from the device d the lines ls came: the line among them that filled a place for the read r, is younger than its life at the time t, and was left there since
pub record LastReplyIn (v : Value) (d : Device) (ls : List Line) (t : ℕ) (r : What) : Type 0 where
  pub before : List Line
  pub line : Line
  pub later : List Line
  pub split : ls ≡ before ++ line ∷ later
  pub fills : FillsIn v before line r
  pub place : ℕ
  pub low : place < 64
  pub takes : (e : Device) → Lived d before e → Takes fills.time r (cache_in e) place
  -- its life is the smallest ttl of the tags in the range, and less than that has gone by since it came
  pub life : ℕ
  pub smallest : Life v.tags fills.start fills.quantity life
  pub young : t - fills.time < life
  -- each line since left it in its place
  pub spared : (mid : List Line) (y : Line) (rest : List Line) → later ≡ mid ++ y ∷ rest → (e : Device) → Lived d (before ++ line ∷ mid) e → SparesIn v (before ++ line ∷ mid) e y r place

-- and no other reply filled for that read since
abbrev pub LatestIn : (v : Value) (d : Device) (ls : List Line) (t : ℕ) (r : What) → LastReplyIn v d ls t r → Type 0
LatestIn v d ls t r s = (mid : List Line) (y : Line) (rest : List Line) → s.later ≡ mid ++ y ∷ rest → FillsIn v (s.before ++ s.line ∷ mid) y r → ⊥

-- what the host saw of the request f, to which the buffer o was lent, is a hit that shows the reply of which it saw `was`
pub record ShowsIn (f o : List ℕ) (saw was : Seen) : Type 0 where
  -- all ten numbers: the length and the counts are the reply's
  pub report : saw.report ≡ ten 0 0 10 was.report.length 0 was.report.partial was.report.value 0 0 0
  -- bytes 0 and 1 are the caller's own id, those from 2 to the end of the frame are the reply's, and behind the frame stands what was there
  pub high : ((k : ℕ) → get_or f k 0 < 256) → get_or saw.frame 0 0 ≡ get_or f 0 0
  pub low : ((k : ℕ) → get_or f k 0 < 256) → get_or saw.frame 1 0 ≡ get_or f 1 0
  pub bytes : (k : ℕ) → 2 ≤ k → k < was.report.length → get_or saw.frame k 0 ≡ get_or was.frame k 0
  pub behind : (k : ℕ) → was.report.length ≤ k → get_or saw.frame k 0 ≡ get_or o k 0
  pub long : length saw.frame ≡ length o
  pub list : saw.list ≡ []
