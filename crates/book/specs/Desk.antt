-- The desk: the calls on a book, and the move that document 01 makes of each: which entry a request joins, under which id and into which place it is issued, which entry
-- a reply answers and which a tick ends. The machine's definitions use the choices of places and ids; `choose` puts them together for the theorems of this crate.
-- Assumes nothing.
use Rattle.std.specs.Prelude.{ℕ, zero, suc, ◌+◌, ◌<◌, ◌≡◌, Bool, true, false, cond, not, ◌&&◌, ◌||◌, length, eqb, ltb, leb}
use Rattle.std.proofs.Math.Option.{Option, some, none}
use Rattle.laws.specs.Search.{best, first}
use Rattle.laws.specs.Circle.{turn}
use Rattle.book.specs.Book.{Rules, Party, Live, Book, Move, at, has_id, live_in, apply}
use Rattle.book.specs.Book.Why.{full, unknown, mismatched, idle, busy}
use Rattle.book.specs.Book.Move.{rest, pass, join, issue, reply, expire, strike, wipe, mark, adopt}

-- a request: what it asks, which live requests it may join, by what these ask and what else is kept of them (none but those that ask the same), whether it may be issued for
-- all that its client has outstanding, what else is kept of it, and for whom
pub record Asking (W N : Type 0) : Type 0 where
  pub what : W
  pub joins : W → N → Bool
  pub exact : (v : W) (n : N) → joins v n ≡ true → what ≡ v
  pub may : Bool
  pub note : N
  pub party : Party

-- the calls
pub data Op (R W N : Type 0) : Type 0 where
  -- time goes on to t
  time : (t : ℕ) → Op R W N
  -- a request
  enter : Asking W N → Op R W N
  -- a reply under an id, and which requests it answers
  answer : (id : ℕ) (answers : W → Bool) → Op R W N
  -- a tick
  tick : Op R W N
  -- a client leaves
  leave : (c : ℕ) → Op R W N
  -- the link is lost
  lose : Op R W N
  -- what else is kept of each entry changes, and new settings: for later requests, no call of the base is one of these
  note : (W → N → N) → Op R W N
  settle : R → Op R W N

module _ {W N : Type 0} where
  -- the request there may be joined: by what it asks and what else is kept of it, and it has room for one more, and its deadline is later than now
  abbrev pub is_open : ℕ → ℕ → (W → N → Bool) → Option (Live W N) → Bool
  is_open room now joins none = false
  is_open room now joins (some e) = joins e.what e.note && (ltb (length e.parties) room && ltb now e.deadline)

  abbrev pub is_live : Option (Live W N) → Bool
  is_live none = false
  is_live (some e) = true

  -- its deadline is at or before now
  abbrev pub is_due : ℕ → Option (Live W N) → Bool
  is_due now none = false
  is_due now (some e) = leb e.deadline now

  -- a smaller id
  abbrev pub lower_id : Option (Live W N) → Option (Live W N) → Bool
  lower_id none b = false
  lower_id (some a) none = false
  lower_id (some a) (some b) = ltb a.id b.id

  -- an earlier deadline, and of equal deadlines a smaller id
  abbrev pub sooner : Option (Live W N) → Option (Live W N) → Bool
  sooner none b = false
  sooner (some a) none = false
  sooner (some a) (some b) = ltb a.deadline b.deadline || (eqb a.deadline b.deadline && ltb a.id b.id)

module _ {R W N : Type 0} where
  -- the places; `r.places` where there is none

  -- of the entries that may be joined, the one with the smallest id
  abbrev pub join_place : Rules R → Book R W N → (W → N → Bool) → ℕ
  join_place r b joins = best (λ k. is_open r.room b.clock joins (at b k)) (λ j k. lower_id (at b j) (at b k)) r.places r.places

  -- the lowest free place
  abbrev pub free_place : Rules R → Book R W N → ℕ
  free_place r b = best (λ k. not (is_live (at b k))) (λ j k. false) r.places r.places

  -- of the entries that are due, the earliest, ties to the smallest id
  abbrev pub due_place : Rules R → Book R W N → ℕ
  due_place r b = best (λ k. is_due b.clock (at b k)) (λ j k. sooner (at b j) (at b k)) r.places r.places

  -- the entry that is live under an id
  abbrev pub id_place : Rules R → Book R W N → ℕ → ℕ
  id_place r b id = best (λ k. has_id id (at b k)) (λ j k. false) r.places r.places

  -- an entry that is live
  abbrev pub live_place : Rules R → Book R W N → ℕ
  live_place r b = best (λ k. is_live (at b k)) (λ j k. false) r.places r.places

  -- the first id that is not live, from the cursor upward and past the last to 0: after as many live ids as there are places comes one that is not
  abbrev pub free_id : Rules R → Book R W N → ℕ
  free_id r b = turn r.ids (b.cursor + first (λ j. not (live_in b.places (turn r.ids (b.cursor + j)))) r.places)

  abbrev pub join_at : ℕ → Option (Live W N) → Asking W N → Move R W N
  join_at k none a = rest full
  join_at k (some e) a = join k e a.what a.party

  abbrev pub answer_at : ℕ → Option (Live W N) → (W → Bool) → Move R W N
  answer_at k none answers = rest unknown
  answer_at k (some e) answers = cond (answers e.what) (reply k e) (rest mismatched)

  abbrev pub expire_at : ℕ → Option (Live W N) → Move R W N
  expire_at k none = rest idle
  expire_at k (some e) = expire k e

  -- the move that is made of a call
  abbrev pub choose : Rules R → Book R W N → Op R W N → Move R W N
  choose r b (time t) = pass t
  choose r b (enter a) =
      cond (ltb (join_place r b a.joins) r.places) (join_at (join_place r b a.joins) (at b (join_place r b a.joins)) a)
      (cond (a.may && ltb (free_place r b) r.places) (issue (free_place r b) (free_id r b) a.what a.note (b.clock + r.wait b.rule) a.party) (rest full))
  choose r b (answer id answers) = answer_at (id_place r b id) (at b (id_place r b id)) answers
  choose r b tick = expire_at (due_place r b) (at b (due_place r b))
  choose r b (leave c) = strike c
  choose r b lose = wipe
  choose r b (note f) = mark f
  choose r b (settle x) = cond (ltb (live_place r b) r.places) (rest busy) (adopt x)

  -- n ticks at one time
  unfoldable pub ticks : Rules R → ℕ → Book R W N → Book R W N
  ticks r zero b = b
  ticks r (suc n) b = ticks r n (apply r b (choose r b tick))

  -- what the choices are for, said of entries and not of tests

  -- the entry may be joined
  abbrev pub Open : Rules R → Book R W N → (W → N → Bool) → Live W N → Type 0
  Open r b joins e = (joins e.what e.note ≡ true) × (length e.parties < r.room) × (b.clock < e.deadline)

  -- no live entry may be joined
  abbrev pub NoneOpen : Rules R → Book R W N → (W → N → Bool) → Type 0
  NoneOpen r b joins = (k : ℕ) (e : Live W N) → at b k ≡ some e → Open r b joins e → ⊥

  -- every place is live
  abbrev pub AllLive : Rules R → Book R W N → Type 0
  AllLive r b = (k : ℕ) → k < r.places → (e : Live W N) × (at b k ≡ some e)
