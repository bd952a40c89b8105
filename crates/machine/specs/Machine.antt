-- The machine: the book of live requests with the settings in force, its cursor and its clock, the set of attached clients, and the cache of replies to reads.
-- Assumes nothing.
use Rattle.std.specs.Prelude.{ℕ, Bool, false}
use Rattle.std.proofs.Common.{lit<}
use Rattle.numbers.specs.Numbers.{ids, places, room}
use Rattle.settings.specs.Grammar.{Value}
use Rattle.pdu.specs.declared.What.{What}
use Rattle.cache.specs.Cache.{Cache, emptied}
use Rattle.book.specs.Book.{Rules, Book, Move, fresh, apply}
use Rattle.book.specs.Book.Move.{pass}

-- what else is kept of a live request: whether it is closed, so that nothing joins it any more; it is issued open
pub record Note : Type 0 where
  pub closed : Bool

abbrev pub opened : Note
opened = record { closed = false }

abbrev pub Live_book : Type 0
Live_book = Book Value What Note

-- 65,536 ids, 256 places, 32 parties to a place; a request waits for the timeout
abbrev pub rules : Rules Value
rules = record { ids = ids; places = places; room = room; wait = λ v. v.timeout; fewer = lit< tt; roomy = lit< tt }

pub record Machine : Type 0 where
  pub book : Live_book
  pub attached : ℕ
  pub cache : Cache

abbrev pub machine : Live_book → ℕ → Cache → Machine
machine b s c = record { book = b; attached = s; cache = c }

-- a fresh state: cursor and clock 0, nobody attached, nothing live, nothing cached
abbrev pub made : Value → Machine
made v = machine (fresh rules v) 0 emptied

abbrev pub settings : Machine → Value
settings m = m.book.rule

-- the machine whose clock is set to t, and whose book has moved
abbrev pub clocked : Machine → ℕ → Machine
clocked m t = machine (apply rules m.book (pass t)) m.attached m.cache

abbrev pub moved : Machine → Move Value What Note → Machine
moved m x = machine (apply rules m.book x) m.attached m.cache

-- the machine with another cache
abbrev pub caching : Machine → Cache → Machine
caching m c = machine m.book m.attached c
