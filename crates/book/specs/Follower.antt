-- A machine whose calls make fitting moves on a book and tell what they did, and what the history of such a machine must be: every accepted request accounted for.
-- Assumes nothing.
use Rattle.std.specs.Prelude.{ℕ, ◌+◌, ◌<◌, ◌≡◌, Bool, length}
use Rattle.std.proofs.Math.Option.{some}
use mathlib.Core.List.{List, [], ◌∷◌, ◌++◌, Memᴰ}
use Rattle.laws.specs.Lists.{filter}
use Rattle.book.specs.Book.{Rules, Party, Live, Book, Event, Move, Good, Fits, NothingDue, at, apply, tell, fresh}
use Rattle.book.specs.Ledger.{Ticket, Ledger, empty, AllFair, many, whose, numbered, under, parties_of, tally, accepts, replies, timeouts}
use Rattle.book.specs.Kept.{Kept, held, held_by}

module _ {R W N : Type 0} where
  unfoldable pub tells : List (Move R W N) → List (Event W)
  tells [] = []
  tells (m ∷ ms) = tell m ++ tells ms

  unfoldable pub applies : Rules R → Book R W N → List (Move R W N) → Book R W N
  applies r b [] = b
  applies r b (m ∷ ms) = applies r (apply r b m) ms

  unfoldable pub AllFit : Rules R → Book R W N → List (Move R W N) → Type 0
  AllFit r b [] = Unit {0}
  AllFit r b (m ∷ ms) = Fits r b m × AllFit r (apply r b m) ms

-- what comes of calls that are made one after another, each of which leaves next of the state: the state after them, and the lines that they say, where each says those
module _ {O S : Type 0} (next : S → O → S) where
  unfoldable pub state_after : S → List O → S
  state_after s [] = s
  state_after s (o ∷ os) = state_after (next s o) os

  unfoldable pub lines_of : {W : Type 0} → (S → O → List (Event W)) → S → List O → List (Event W)
  lines_of says s [] = []
  lines_of says s (o ∷ os) = says s o ++ lines_of says (next s o) os

-- W: what was asked; N: what else is kept of it; O: the calls; A: the answers to each call; S: the states
pub record Follower {R : Type 0} (r : Rules R) (W N O : Type 0) (A : O → Type 0) (S : Type 0) : Type 1 where
  -- the settings that it was made with
  pub made : R
  pub start : S
  pub next : S → O → S
  pub answer : S → (o : O) → A o
  -- what a call and its answer say, for the ledger
  pub seen : (o : O) → A o → List (Event W)
  -- what the states are known to be, the book that a state holds, and the moves that a call makes
  pub Sound : S → Type 0
  pub book_of : S → Book R W N
  pub moves : S → O → List (Move R W N)
  pub sound_start : Sound start
  pub sound_next : (s : S) (o : O) (l : Ledger W) → Sound s → Good r (book_of s) → Kept r (book_of s) l → Sound (next s o)
  pub begins : book_of start ≡ fresh r made
  -- a call leaves the book as its moves do, the moves fit, and the answer says what they tell
  pub follows : (s : S) (o : O) → Sound s → Good r (book_of s) → book_of (next s o) ≡ applies r (book_of s) (moves s o)
  pub fits : (s : S) (o : O) → Sound s → Good r (book_of s) → AllFit r (book_of s) (moves s o)
  pub honest : (s : S) (o : O) → Sound s → Good r (book_of s) → seen o (answer s o) ≡ tells (moves s o)

module _ {R : Type 0} {r : Rules R} {W N O : Type 0} {A : O → Type 0} {S : Type 0} (M : Follower r W N O A S) where
  -- the state after some calls
  abbrev pub after : S → List O → S
  after s os = state_after M.next s os

  -- what those calls and their answers say
  abbrev pub history : S → List O → List (Event W)
  history s os = lines_of M.next (λ t o. M.seen o (M.answer t o)) s os

-- the book b and the history vs of a machine agree, for the ledger l of that history
pub record Accounted {R W N : Type 0} (r : Rules R) (b : Book R W N) (vs : List (Event W)) (l : Ledger W) : Type 0 where
  -- accepted = answered by a reply + answered by timeout + dropped by a leaving + dropped by a lost link + held in the places; the first three counted from the lines of the history alone
  pub tallies : tally accepts vs ≡ tally replies vs + tally timeouts vs + length l.left + length l.lost + held r b
  -- the same of the ledger's groups
  pub balance : length l.accepted ≡ length l.replied + length l.timed_out + length l.left + length l.lost + held r b
  -- the same for any kind of party, as for those of one client
  pub balances : (q : Party → Bool)
      → many (whose q) l.accepted ≡ many (whose q) l.replied + many (whose q) l.timed_out + many (whose q) l.left + many (whose q) l.lost + held_by r b q
  -- the request number s is in one of the groups, and there once
  pub once : (s : ℕ) → s < length l.accepted
      → many (numbered s) l.replied + many (numbered s) l.timed_out + many (numbered s) l.left + many (numbered s) l.lost + many (numbered s) l.waiting ≡ 1
  -- the places hold the waiting requests, entry by entry and in order
  pub entries : (k : ℕ) (e : Live W N) → at b k ≡ some e → e.parties ≡ parties_of (filter (under e.id) l.waiting)
  -- every live entry is due the wait of the rule in force after the latest issue of its id
  pub deadlines : (k : ℕ) (e : Live W N) → at b k ≡ some e → e.deadline ≡ l.opened e.id + r.wait b.rule
  -- and every waiting request stands in an entry under its id with that deadline
  pub waits : (t : Ticket W) → Memᴰ t l.waiting → (k : ℕ) × (e : Live W N) × (at b k ≡ some e) × (e.id ≡ t.id) × (e.deadline ≡ l.opened t.id + r.wait b.rule)
  -- whoever waits under an entry's id, and so whoever a reply to it or its timeout answers, asked exactly what it holds
  pub asked : (k : ℕ) (e : Live W N) → at b k ≡ some e → (t : Ticket W) → Memᴰ t l.waiting → t.id ≡ e.id → t.what ≡ e.what
  -- each answer went to those that waited under its id, to its own client under its own id, and a timeout after its deadline
  pub answers : AllFair empty vs
  -- live ids differ, and the book keeps its lengths and bounds
  pub good : Good r b
  -- where nothing is due, every waiting request was accepted less than the wait of the rule in force ago: a rule changes only where nothing is live
  pub drained : NothingDue b → (t : Ticket W) → Memᴰ t l.waiting → b.clock < t.time + r.wait b.rule
