-- What ties the ledger of a history to the book: the parties in the book's places are the requests that wait in the ledger.
-- Assumes nothing.
use Rattle.std.specs.Prelude.{ℕ, ◌+◌, ◌≤◌, ◌≡◌, Bool, true, length}
use Rattle.std.proofs.Math.Option.{Option, some, none}
use mathlib.Core.List.{List, [], Memᴰ}
use Rattle.laws.specs.Lists.{filter}
use Rattle.laws.specs.Search.{total}
use Rattle.book.specs.Book.{Rules, Party, Live, Book, at, live_in}
use Rattle.book.specs.Ledger.{Ticket, Ledger, under, parties_of}

module _ {W N : Type 0} where
  -- the deadline of an entry and what it asks are those of the latest issue of its id, and the deadline is the time of that issue, which is past, plus the wait n
  abbrev pub Latest : ℕ → Ledger W → Live W N → Type 0
  Latest n l e = (e.deadline ≡ l.due e.id) × (l.asked e.id ≡ some e.what) × (e.deadline ≡ l.opened e.id + n) × (l.opened e.id ≤ l.now)

  -- a request that waits stands under a live id, asked what was issued under it, and was accepted no earlier than that
  abbrev pub Waits : List (Option (Live W N)) → Ledger W → Ticket W → Type 0
  Waits ps l t = (live_in ps t.id ≡ true) × (l.asked t.id ≡ some t.what) × (l.opened t.id ≤ t.time)

  abbrev pub parties_at : Option (Live W N) → List Party
  parties_at none = []
  parties_at (some e) = e.parties

module _ {R W N : Type 0} where
  pub record Kept (r : Rules R) (b : Book R W N) (l : Ledger W) : Type 0 where
    pub clocks : l.now ≡ b.clock
    -- the parties of an entry are those of the waiting requests under its id, in the order in which they were accepted
    pub parties : (k : ℕ) (e : Live W N) → at b k ≡ some e → e.parties ≡ parties_of (filter (under e.id) l.waiting)
    pub latest : (k : ℕ) (e : Live W N) → at b k ≡ some e → Latest (r.wait b.rule) l e
    pub waits : (t : Ticket W) → Memᴰ t l.waiting → Waits b.places l t

  -- how many parties the places hold; and of a kind of party, as of one client
  abbrev pub held : Rules R → Book R W N → ℕ
  held r b = total (λ k. length (parties_at (at b k))) r.places

  abbrev pub held_by : Rules R → Book R W N → (Party → Bool) → ℕ
  held_by r b q = total (λ k. length (filter q (parties_at (at b k)))) r.places
