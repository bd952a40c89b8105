-- The live table in columns: what stands at each place, the book that the columns are, and what every call keeps of them.
-- Assumes nothing.
use Rattle.std.specs.Prelude.{ℕ, ◌+◌, ◌*◌, ◌-◌, ◌≤◌, ◌≡◌, cond, List, length, get_or, eqb}
use Rattle.std.proofs.Math.Option.{Option, some, none}
use Rattle.numbers.specs.Numbers.{ids, places, room, party_places}
use Rattle.laws.specs.Lists.{tab}
use Rattle.laws.specs.Bits.{with}
use Rattle.settings.specs.Grammar.{Value}
use Rattle.pdu.specs.declared.What.{What}
use Rattle.pdu.specs.Words.{word_of, what_of, closed_bit, closed_in, Proper}
use Rattle.book.specs.Book.{Party, Live, book, entry}
use Rattle.machine.specs.Machine.{Note, Live_book}
use Rattle.table.specs.declared.LiveTable.{LiveTable}

-- 0 in `ids` is a free place, else the proxy id + 1; `asked` is what was asked as one word, with bit 32 where it is a read that is closed; `callers` is the client that it was issued for; the parties of place k
-- stand from k × room on, `counts` of them; no place from `top` on is live
pub record Columns : Type 0 where
  pub ids : List ℕ
  pub asked : List ℕ
  pub callers : List ℕ
  pub deadlines : List ℕ
  pub counts : List ℕ
  pub clients : List ℕ
  pub originals : List ℕ
  pub top : ℕ

abbrev pub columns : (ids asked callers deadlines counts clients originals : List ℕ) → ℕ → Columns
columns i a n d k c o t = record { ids = i; asked = a; callers = n; deadlines = d; counts = k; clients = c; originals = o; top = t }

-- the columns that a table of the code has; the next id to try is not one of them
abbrev pub columns_of : LiveTable → Columns
columns_of t = columns t.ids t.asked t.callers t.deadlines t.counts t.clients t.originals t.top

abbrev pub party : ℕ → ℕ → Party
party c o = record { client = c; original = o }

-- the n parties that stand from `base` on; the parties of the place k
abbrev pub run : List ℕ → List ℕ → ℕ → ℕ → List Party
run cs os base n = tab n (λ j. party (get_or cs (base + j) 0) (get_or os (base + j) 0))

abbrev pub parties_at : (counts clients originals : List ℕ) → ℕ → List Party
parties_at ns cs os k = run cs os (k * room) (get_or ns k 0)

-- what a word says besides what was asked: whether it is a read that is closed, by bit 32; and the word that a live place has
unfoldable pub note_of : ℕ → Note
note_of n = record { closed = closed_in n }

unfoldable pub place_word : What → Note → ℕ
place_word w n = cond n.closed (with (word_of w) closed_bit) (word_of w)

-- what stands at the place k
abbrev pub entry_at : Columns → ℕ → Option (Live What Note)
entry_at c k =
    cond (eqb (get_or c.ids k 0) 0) none
    (some (entry (get_or c.ids k 0 - 1) (what_of (get_or c.asked k 0)) (get_or c.callers k 0) (note_of (get_or c.asked k 0)) (get_or c.deadlines k 0) (parties_at c.counts c.clients c.originals k)))

-- the table, place by place; and the book that it is, with the settings, the cursor and the clock
unfoldable pub table_of : Columns → List (Option (Live What Note))
table_of c = tab places (entry_at c)

abbrev pub book_of : Value → Columns → (cursor clock : ℕ) → Live_book
book_of v c x t = book v (table_of c) x t

-- what every call keeps: the columns have their lengths, ids are ids, no place from top on is live, no place has more parties than there is room for, and a live
-- place's word is that of something that may be asked, with bit 32 where it is a read that is closed and no other bit besides
pub record SoundTable (c : Columns) : Type 0 where
  pub ids-long : length c.ids ≡ places
  pub asked_long : length c.asked ≡ places
  pub callers_long : length c.callers ≡ places
  pub deadlines_long : length c.deadlines ≡ places
  pub counts_long : length c.counts ≡ places
  pub clients-long : length c.clients ≡ party_places
  pub originals_long : length c.originals ≡ party_places
  pub within : c.top ≤ places
  pub low : (k : ℕ) → get_or c.ids k 0 ≤ ids
  pub above : (k : ℕ) → c.top ≤ k → get_or c.ids k 0 ≡ 0
  pub roomy : (k : ℕ) → get_or c.counts k 0 ≤ room
  pub proper : (k : ℕ) → (get_or c.ids k 0 ≡ 0 → ⊥) → Proper (what_of (get_or c.asked k 0)) × (place_word (what_of (get_or c.asked k 0)) (note_of (get_or c.asked k 0)) ≡ get_or c.asked k 0)
