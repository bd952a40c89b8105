-- The ledger: what the calls and their outcomes say of every request that the proxy accepted, and in which of five groups it stands: answered by a reply, answered by
-- timeout, dropped because its client left, dropped because the link was lost, or waiting. It reads nothing of the book.
-- Assumes nothing.
use Rattle.std.specs.Prelude.{ℕ, ◌+◌, ◌≤◌, ◌<◌, max, ◌≡◌, ◌⊎◌, Bool, cond, length, get_or, eqb}
use Rattle.std.proofs.Math.Option.{Option, some, none}
use mathlib.Core.List.{List, [], ◌∷◌, ◌++◌, map, Memᴰ}
use Rattle.laws.specs.Lists.{filter}
use Rattle.book.specs.Book.{Party, Event, is_of, without}
use Rattle.book.specs.Book.Event.{passed, joined, issued, replied, expired, left, lost}

-- an accepted request: its number among the accepted, who made it, what it asked, the proxy id that it was issued or joined under, and when
pub record Ticket (W : Type 0) : Type 0 where
  pub serial : ℕ
  pub party : Party
  pub what : W
  pub id : ℕ
  pub time : ℕ

-- what the history so far says
pub record Ledger (W : Type 0) : Type 0 where
  pub now : ℕ
  -- all that were accepted, and the five groups
  pub accepted : List (Ticket W)
  pub replied : List (Ticket W)
  pub timed_out : List (Ticket W)
  pub left : List (Ticket W)
  pub lost : List (Ticket W)
  pub waiting : List (Ticket W)
  -- the proxy ids that were issued, in their order
  pub issues : List ℕ
  -- of the latest issue of each id: when it was made, when it is due, what it asked
  pub opened : ℕ → ℕ
  pub due : ℕ → ℕ
  pub asked : ℕ → Option W

-- the distance of ids, in the order in which they were issued: of two issues of one id at least n others are between
abbrev pub Apart : ℕ → List ℕ → Type 0
Apart n is = (a c : ℕ) → a < c → c < length is → get_or is a 0 ≡ get_or is c 0 → a + n < c

-- any two issues that are at most n apart are of different ids
abbrev pub Differing : ℕ → List ℕ → Type 0
Differing n is = (i j : ℕ) → i < j → j ≤ i + n → j < length is → get_or is i 0 ≡ get_or is j 0 → ⊥

module _ {W : Type 0} where
  abbrev pub ledger : (now : ℕ) (accepted replied timed_out left lost waiting : List (Ticket W)) (issues : List ℕ) (opened due : ℕ → ℕ) (asked : ℕ → Option W) → Ledger W
  ledger n a r t f o w i u d k = record { now = n; accepted = a; replied = r; timed_out = t; left = f; lost = o; waiting = w; issues = i; opened = u; due = d; asked = k }

  abbrev pub empty : Ledger W
  empty = ledger 0 [] [] [] [] [] [] [] (λ id. 0) (λ id. 0) (λ id. none)

  -- under that proxy id
  abbrev pub under : ℕ → Ticket W → Bool
  under id t = eqb t.id id

  -- of a kind of party, as of those of one client
  abbrev pub whose : (Party → Bool) → Ticket W → Bool
  whose q t = q t.party

  -- the request number s
  abbrev pub numbered : ℕ → Ticket W → Bool
  numbered s t = eqb t.serial s

  -- who made them
  abbrev pub parties_of : List (Ticket W) → List Party
  parties_of = map (λ (t : Ticket W). t.party)

  -- how many of a list pass
  abbrev pub many : (Ticket W → Bool) → List (Ticket W) → ℕ
  many q ts = length (filter q ts)

  -- the next accepted request
  abbrev pub next : Ledger W → ℕ → W → Party → Ticket W
  next l id w p = record { serial = length l.accepted; party = p; what = w; id = id; time = l.now }

  -- the five groups anew
  abbrev pub groups : Ledger W → (replied timed_out left lost waiting : List (Ticket W)) → Ledger W
  groups l r t f o w = ledger l.now l.accepted r t f o w l.issues l.opened l.due l.asked

  -- what an event makes of the ledger
  abbrev pub post : Ledger W → Event W → Ledger W
  post l (passed t) = ledger (max l.now t) l.accepted l.replied l.timed_out l.left l.lost l.waiting l.issues l.opened l.due l.asked
  post l (joined id w p) =
      ledger l.now (l.accepted ++ (next l id w p ∷ [])) l.replied l.timed_out l.left l.lost (l.waiting ++ (next l id w p ∷ []))
      l.issues l.opened l.due l.asked
  post l (issued id w d p) =
      ledger l.now (l.accepted ++ (next l id w p ∷ [])) l.replied l.timed_out l.left l.lost (l.waiting ++ (next l id w p ∷ []))
      (l.issues ++ (id ∷ [])) (λ x. cond (eqb x id) l.now (l.opened x)) (λ x. cond (eqb x id) d (l.due x)) (λ x. cond (eqb x id) (some w) (l.asked x))
  post l (replied id ps) = groups l (l.replied ++ filter (under id) l.waiting) l.timed_out l.left l.lost (without (under id) l.waiting)
  post l (expired id ps) = groups l l.replied (l.timed_out ++ filter (under id) l.waiting) l.left l.lost (without (under id) l.waiting)
  post l (left c) = groups l l.replied l.timed_out (l.left ++ filter (whose (is_of c)) l.waiting) l.lost (without (whose (is_of c)) l.waiting)
  post l lost = groups l l.replied l.timed_out l.left (l.lost ++ l.waiting) []

  -- and what events do, one after another
  unfoldable pub posts : Ledger W → List (Event W) → Ledger W
  posts l [] = l
  posts l (v ∷ vs) = posts (post l v) vs

  -- whoever waits under the id asked exactly what was issued under it
  abbrev pub Alike : Ledger W → ℕ → Type 0
  Alike l id = (t : Ticket W) → Memᴰ t (filter (under id) l.waiting) → l.asked id ≡ some t.what

  -- what must be true of an event. An answer goes to those that wait under its id, each to its own client under its own id, in the order in which they were accepted, and
  -- all of them asked what was issued; a timeout has its deadline behind it; an entry that is joined has it still to come, and asks the same; nobody waits under an id that is issued
  abbrev pub Fair : Ledger W → Event W → Type 0
  Fair l (passed t) = Unit {0}
  Fair l (joined id w p) = (l.now < l.due id) × (l.asked id ≡ some w)
  Fair l (issued id w d p) = filter (under id) l.waiting ≡ []
  Fair l (replied id ps) = (ps ≡ parties_of (filter (under id) l.waiting)) × Alike l id
  Fair l (expired id ps) = (ps ≡ parties_of (filter (under id) l.waiting)) × Alike l id × (l.due id ≤ l.now)
  Fair l (left c) = Unit {0}
  Fair l lost = Unit {0}

  -- and of every event of a history
  unfoldable pub AllFair : Ledger W → List (Event W) → Type 0
  AllFair l [] = Unit {0}
  AllFair l (v ∷ vs) = Fair l v × AllFair (post l v) vs

  -- what an event counts for, with no ledger: a request accepted, those that a reply's list answers, those that a timeout's does
  abbrev pub accepts : Event W → ℕ
  accepts (passed t) = 0
  accepts (joined id w p) = 1
  accepts (issued id w d p) = 1
  accepts (replied id ps) = 0
  accepts (expired id ps) = 0
  accepts (left c) = 0
  accepts lost = 0

  abbrev pub replies : Event W → ℕ
  replies (passed t) = 0
  replies (joined id w p) = 0
  replies (issued id w d p) = 0
  replies (replied id ps) = length ps
  replies (expired id ps) = 0
  replies (left c) = 0
  replies lost = 0

  abbrev pub timeouts : Event W → ℕ
  timeouts (passed t) = 0
  timeouts (joined id w p) = 0
  timeouts (issued id w d p) = 0
  timeouts (replied id ps) = 0
  timeouts (expired id ps) = length ps
  timeouts (left c) = 0
  timeouts lost = 0

  -- the sum over a history
  unfoldable pub tally : (Event W → ℕ) → List (Event W) → ℕ
  tally f [] = 0
  tally f (v ∷ vs) = f v + tally f vs

  -- the requests that wait in l and do not in m, in the order in which they were accepted
  abbrev pub gone : Ledger W → Ledger W → List (Ticket W)
  gone l m = filter (λ t. eqb (many (numbered t.serial) m.waiting) 0) l.waiting

  -- what an event between the ledgers l and m does to the groups: what it takes out of waiting goes into its own group, and into no other; the list of an answer is exactly
  -- the parties of that, in order; those that a leaving takes are of the client that left
  abbrev pub Moved : Ledger W → Event W → Ledger W → Type 0
  Moved l (passed t) m = (m.replied ≡ l.replied) × (m.timed_out ≡ l.timed_out) × (m.left ≡ l.left) × (m.lost ≡ l.lost)
  Moved l (joined id w p) m = (m.replied ≡ l.replied) × (m.timed_out ≡ l.timed_out) × (m.left ≡ l.left) × (m.lost ≡ l.lost)
  Moved l (issued id w d p) m = (m.replied ≡ l.replied) × (m.timed_out ≡ l.timed_out) × (m.left ≡ l.left) × (m.lost ≡ l.lost)
  Moved l (replied id ps) m = (m.replied ≡ l.replied ++ gone l m) × (m.timed_out ≡ l.timed_out) × (m.left ≡ l.left) × (m.lost ≡ l.lost) × (ps ≡ parties_of (gone l m))
  Moved l (expired id ps) m = (m.replied ≡ l.replied) × (m.timed_out ≡ l.timed_out ++ gone l m) × (m.left ≡ l.left) × (m.lost ≡ l.lost) × (ps ≡ parties_of (gone l m))
  Moved l (left c) m = (m.replied ≡ l.replied) × (m.timed_out ≡ l.timed_out) × (m.left ≡ l.left ++ gone l m) × (m.lost ≡ l.lost) × (gone l m ≡ filter (whose (is_of c)) l.waiting)
  Moved l lost m = (m.replied ≡ l.replied) × (m.timed_out ≡ l.timed_out) × (m.left ≡ l.left) × (m.lost ≡ l.lost ++ gone l m) × (gone l m ≡ l.waiting)

  -- between the ledgers l and m the client c was answered nothing but what was accepted after l
  pub record Anew (c : ℕ) (l m : Ledger W) : Type 0 where
    pub replied : (t : Ticket W) → Memᴰ t m.replied → t.party.client ≡ c → Memᴰ t l.replied ⊎ (length l.accepted ≤ t.serial)
    pub timed_out : (t : Ticket W) → Memᴰ t m.timed_out → t.party.client ≡ c → Memᴰ t l.timed_out ⊎ (length l.accepted ≤ t.serial)
