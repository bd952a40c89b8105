-- Whose frame is whose: the frame that each party of an answer is handed, under its own id.
-- Assumes nothing.
use Rattle.std.specs.Prelude.{ℕ, ◌+◌, ◌/◌, ◌%◌, ◌≡◌, ◌⊎◌, true, false, get_or, take}
use mathlib.Core.List.{List, Memᴰ}
use Rattle.laws.specs.Lists.{filter}
use Rattle.wire.specs.Frame.{misframed, laid}
use Rattle.pdu.specs.Replies.{answering}
use Rattle.pdu.specs.declared.What.{What}
use Rattle.book.specs.Book.{Party}
use Rattle.book.specs.Ledger.{Ticket, Ledger, under}
use Rattle.machine.specs.Histories.{Seen}

-- g is a frame for the party p, which asked w: it is not refused as a frame, carries the party's id, comes from the unit that it asked and is of the function that it asked, or
-- that + 128, and answers what it asked
pub record PartysFrame (w : What) (p : Party) (g : List ℕ) : Type 0 where
  pub framed : misframed g ≡ false
  pub high : get_or g 0 0 ≡ p.original / 256
  pub low : get_or g 1 0 ≡ p.original % 256
  pub unit : get_or g 6 0 ≡ w.unit
  pub function : (get_or g 7 0 ≡ w.function) ⊎ (get_or g 7 0 ≡ w.function + 128)
  pub answers : answering w g ≡ true

-- what a host makes of what it sees for a party: as many bytes as the report says, with the party's id laid over bytes 0 and 1
abbrev pub frame_for : Party → Seen → List ℕ
frame_for p s = laid p.original (take s.report.length s.frame)

-- that is a frame for each request which waits under the id that the report names
abbrev pub EachItsFrame : Ledger What → Seen → Type 0
EachItsFrame l s = (k : Ticket What) → Memᴰ k (filter (under s.report.id) l.waiting) → PartysFrame k.what k.party (frame_for k.party s)
