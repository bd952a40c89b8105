-- What the lines of a history say by themselves of an id and of the cursor: whether the id is live, what it holds, for whom and until when, and where the search for
-- the next one begins.
-- Assumes nothing.
use Rattle.std.specs.Prelude.{ℕ, ◌+◌, ◌≡◌, ◌↔◌, Bool, true, false, cond, List, eqb}
use Rattle.std.proofs.Math.Option.{Option, some, none}
use Rattle.laws.specs.Lists.{last_given, last_of}
use Rattle.book.specs.Book.{Rules, Party, Live, Book, Event, at}
use Rattle.book.specs.Book.Event.{passed, joined, issued, replied, expired, left, lost}

-- of n ids, the one behind the last that was issued: 0 behind the last of all, and where none was issued
abbrev pub behind : ℕ → Option ℕ → ℕ
behind n none = 0
behind n (some id) = cond (eqb (id + 1) n) 0 (id + 1)

module _ {W : Type 0} where
  -- the event begins or ends a life of that id: its issue, its reply, its timeout, or a lost link; a leaving does not
  abbrev pub touches : ℕ → Event W → Bool
  touches id (passed t) = false
  touches id (joined i w p) = false
  touches id (issued i w d p) = eqb i id
  touches id (replied i ps) = eqb i id
  touches id (expired i ps) = eqb i id
  touches id (left c) = false
  touches id lost = true

  -- the id that the event issues
  abbrev pub issued_id : Event W → Option ℕ
  issued_id (passed t) = none
  issued_id (joined i w p) = none
  issued_id (issued i w d p) = some i
  issued_id (replied i ps) = none
  issued_id (expired i ps) = none
  issued_id (left c) = none
  issued_id lost = none

  -- the last that befell the id is its issue: it asked w for the client c and is due at d, and since then the id was neither answered nor timed out nor lost with the link
  abbrev pub Outstanding : List (Event W) → ℕ → W → ℕ → ℕ → Type 0
  Outstanding vs id w c d = (p : Party) × (p.client ≡ c) × (last_of (touches id) vs ≡ some (issued id w d p))

module _ {R W N : Type 0} where
  -- a live entry under the id asks w, was issued for the client c and is due at d
  abbrev pub Holds : Book R W N → ℕ → W → ℕ → ℕ → Type 0
  Holds b id w c d = (k : ℕ) × (e : Live W N) × (at b k ≡ some e) × (e.id ≡ id) × (e.what ≡ w) × (e.by ≡ c) × (e.deadline ≡ d)

  -- the book b is what the history vs says
  pub record Traced (r : Rules R) (b : Book R W N) (vs : List (Event W)) : Type 0 where
    -- an id is live, with what it holds, exactly if the history says so
    pub lives : (id : ℕ) (w : W) (c d : ℕ) → Holds b id w c d ↔ Outstanding vs id w c d
    -- the cursor is behind the last id that was issued, and 0 where none was
    pub cursor : b.cursor ≡ behind r.ids (last_given issued_id vs)
