-- The book of live requests: what the proxy keeps of each request that it sent to the controller under a proxy id, what can happen to it, and what of that can be
-- seen from outside. It knows nothing of frames: `R` is the settings, `W` what a request asks, `N` what else is kept of it.
-- Assumes nothing.
use Rattle.std.specs.Prelude.{ℕ, ◌+◌, ◌≤◌, ◌<◌, max, ◌≡◌, Bool, true, false, not, ◌||◌, List, [], ◌∷◌, ◌++◌, map, length, get_or, set, replicate, eqb}
use Rattle.std.proofs.Math.Option
use Rattle.std.proofs.Math.Option.{Option, some, none}
use Rattle.laws.specs.Lists.{filter}
use Rattle.laws.specs.Circle.{turn}

-- how many proxy ids, places for live requests and parties to a live request there are, and how long a request waits under the settings
pub record Rules (R : Type 0) : Type 0 where
  pub ids : ℕ
  pub places : ℕ
  pub room : ℕ
  pub wait : R → ℕ
  pub fewer : places < ids
  pub roomy : 0 < room

-- who waits: a client, and the transaction id that it gave its request
pub record Party : Type 0 where
  pub client : ℕ
  pub original : ℕ

-- a live entry: its proxy id, what was asked, the client that it was issued for, what else is kept of it, when it is due, and its parties in joining order
pub record Live (W N : Type 0) : Type 0 where
  pub id : ℕ
  pub what : W
  pub by : ℕ
  pub note : N
  pub deadline : ℕ
  pub parties : List Party

-- the settings in force, the places with their live entries, the cursor and the clock
pub record Book (R W N : Type 0) : Type 0 where
  pub rule : R
  pub places : List (Option (Live W N))
  pub cursor : ℕ
  pub clock : ℕ

-- why a call changes no entry
pub data Why : Type 0 where
  -- a request can join nothing and may not be issued, or every place is live
  full : Why
  -- a reply's id is not live
  unknown : Why
  -- a reply's id is live, but it does not answer that request
  mismatched : Why
  -- a tick finds nothing due
  idle : Why
  -- new settings, while something is live: for later requests, no call of the base says it
  busy : Why

-- what can happen to the book
pub data Move (R W N : Type 0) : Type 0 where
  -- nothing at all
  rest : Why → Move R W N
  -- time goes on to t
  pass : (t : ℕ) → Move R W N
  -- a request that asks w joins the entry e at place k
  join : (k : ℕ) (e : Live W N) (w : W) (p : Party) → Move R W N
  -- a request that asks w is issued under a proxy id into place k, with n kept of it, due at d
  issue : (k id : ℕ) (w : W) (n : N) (d : ℕ) (p : Party) → Move R W N
  -- the entry e at place k is answered by a reply, and ends
  reply : (k : ℕ) (e : Live W N) → Move R W N
  -- the entry e at place k is answered by timeout, and ends
  expire : (k : ℕ) (e : Live W N) → Move R W N
  -- a client leaves, and is struck out of every entry
  strike : (c : ℕ) → Move R W N
  -- the link is lost, and every entry ends
  wipe : Move R W N
  -- what else is kept of each entry changes
  mark : (W → N → N) → Move R W N
  -- other settings are in force: for later requests, no call does this yet
  adopt : R → Move R W N

-- what is seen of a call and its outcome
pub data Event (W : Type 0) : Type 0 where
  -- the clock is at t or later
  passed : (t : ℕ) → Event W
  -- a party's request joined the entry under that id
  joined : (id : ℕ) (w : W) (p : Party) → Event W
  -- a party's request was issued under that id, due at d
  issued : (id : ℕ) (w : W) (d : ℕ) (p : Party) → Event W
  -- a reply under that id was handed to these parties
  replied : (id : ℕ) (ps : List Party) → Event W
  -- a timeout of that id was handed to these parties
  expired : (id : ℕ) (ps : List Party) → Event W
  -- a client left
  left : (c : ℕ) → Event W
  -- the link was lost
  lost : Event W

-- a party of that client
abbrev pub is_of : ℕ → Party → Bool
is_of c p = eqb p.client c

-- the elements that do not pass, in their order
abbrev pub without : {A : Type 0} → (A → Bool) → List A → List A
without p xs = filter (λ x. not (p x)) xs

module _ {W N : Type 0} where
  abbrev pub entry : ℕ → W → ℕ → N → ℕ → List Party → Live W N
  entry i w c n d ps = record { id = i; what = w; by = c; note = n; deadline = d; parties = ps }

  -- what is issued: it is its first party's, which waits alone
  abbrev pub new_entry : ℕ → W → N → ℕ → Party → Live W N
  new_entry i w n d p = entry i w p.client n d (p ∷ [])

  -- the place is live under that id
  abbrev pub has_id : ℕ → Option (Live W N) → Bool
  has_id id none = false
  has_id id (some e) = eqb e.id id

  -- and some place is
  unfoldable pub live_in : List (Option (Live W N)) → ℕ → Bool
  live_in [] id = false
  live_in (o ∷ os) id = has_id id o || live_in os id

  -- one more party joined it
  abbrev pub added : Party → Live W N → Live W N
  added p e = entry e.id e.what e.by e.note e.deadline (e.parties ++ (p ∷ []))

  -- a client's parties are struck out; the order of the rest stays
  abbrev pub struck : ℕ → Live W N → Live W N
  struck c e = entry e.id e.what e.by e.note e.deadline (without (is_of c) e.parties)

  -- what else is kept of it changes
  abbrev pub marked : (W → N → N) → Live W N → Live W N
  marked f e = entry e.id e.what e.by (f e.what e.note) e.deadline e.parties

module _ {R W N : Type 0} where
  -- what stands at place k
  abbrev pub at : Book R W N → ℕ → Option (Live W N)
  at b k = get_or b.places k none

  abbrev pub book : R → List (Option (Live W N)) → ℕ → ℕ → Book R W N
  book x l c t = record { rule = x; places = l; cursor = c; clock = t }

  -- the book made with the settings x
  abbrev pub fresh : Rules R → R → Book R W N
  fresh r x = book x (replicate r.places none) 0 0

  -- what a move makes of the book
  abbrev pub apply : Rules R → Book R W N → Move R W N → Book R W N
  apply r b (rest y) = b
  apply r b (pass t) = book b.rule b.places b.cursor (max b.clock t)
  apply r b (join k e w p) = book b.rule (set b.places k (some (added p e))) b.cursor b.clock
  apply r b (issue k id w n d p) = book b.rule (set b.places k (some (new_entry id w n d p))) (turn r.ids (id + 1)) b.clock
  apply r b (reply k e) = book b.rule (set b.places k none) b.cursor b.clock
  apply r b (expire k e) = book b.rule (set b.places k none) b.cursor b.clock
  apply r b (strike c) = book b.rule (map (Option.map (struck c)) b.places) b.cursor b.clock
  apply r b wipe = book b.rule (replicate r.places none) b.cursor b.clock
  apply r b (mark f) = book b.rule (map (Option.map (marked f)) b.places) b.cursor b.clock
  apply r b (adopt x) = book x b.places b.cursor b.clock

  -- what is seen of a move
  abbrev pub tell : Move R W N → List (Event W)
  tell (rest y) = []
  tell (pass t) = passed t ∷ []
  tell (join k e w p) = joined e.id w p ∷ []
  tell (issue k id w n d p) = issued id w d p ∷ []
  tell (reply k e) = replied e.id e.parties ∷ []
  tell (expire k e) = expired e.id e.parties ∷ []
  tell (strike c) = left c ∷ []
  tell wipe = lost ∷ []
  tell (mark f) = []
  tell (adopt x) = []

  -- the id is the first one that is not live, from the cursor upward and past the last to 0
  pub record Next (r : Rules R) (b : Book R W N) (id : ℕ) : Type 0 where
    pub steps : ℕ
    pub near : steps < r.ids
    pub here : id ≡ turn r.ids (b.cursor + steps)
    pub passed : (j : ℕ) → j < steps → live_in b.places (turn r.ids (b.cursor + j)) ≡ true
    pub free : live_in b.places id ≡ false

  -- no place is live
  abbrev pub Quiet : Book R W N → Type 0
  Quiet b = (k : ℕ) (e : Live W N) → at b k ≡ some e → ⊥

  -- no live entry is due
  abbrev pub NothingDue : Book R W N → Type 0
  NothingDue b = (k : ℕ) (e : Live W N) → at b k ≡ some e → b.clock < e.deadline

  -- when a move may be made: this is all that the theorems ask of whoever chooses the moves
  abbrev pub Fits : Rules R → Book R W N → Move R W N → Type 0
  Fits r b (rest y) = Unit {0}
  Fits r b (pass t) = Unit {0}
  Fits r b (join k e w p) = (at b k ≡ some e) × (length e.parties < r.room) × (b.clock < e.deadline) × (w ≡ e.what)
  Fits r b (issue k id w n d p) = (k < r.places) × (at b k ≡ none) × Next r b id × (d ≡ b.clock + r.wait b.rule)
  Fits r b (reply k e) = at b k ≡ some e
  Fits r b (expire k e) = (at b k ≡ some e) × (e.deadline ≤ b.clock)
  Fits r b (strike c) = Unit {0}
  Fits r b wipe = Unit {0}
  Fits r b (mark f) = Unit {0}
  Fits r b (adopt x) = Quiet b

  -- what every book keeps: the number of its places, a cursor and live ids that are ids, no more parties than there is room for, and live ids that differ
  pub record Good (r : Rules R) (b : Book R W N) : Type 0 where
    pub long : length b.places ≡ r.places
    pub turned : b.cursor < r.ids
    pub low : (k : ℕ) (e : Live W N) → at b k ≡ some e → e.id < r.ids
    pub room : (k : ℕ) (e : Live W N) → at b k ≡ some e → length e.parties ≤ r.room
    pub differ : (i j : ℕ) (d e : Live W N) → at b i ≡ some d → at b j ≡ some e → d.id ≡ e.id → i ≡ j
