-- A place of the table by value, as the numbers that it has in the columns, and back.
-- Assumes nothing.
use Rattle.std.specs.Prelude.{ℕ, ◌+◌, ◌-◌, ◌%◌, cond, eqb, Option, Some, None}
use Rattle.numbers.specs.Numbers.{ids}
use Rattle.pdu.specs.declared.ProxyId.{ProxyId}
use Rattle.pdu.specs.Words.{what_in, entry_of}
use Rattle.table.specs.Columns.{note_of, place_word}
use Rattle.state_by_value.specs.declared.Place.{Place}

-- in the column of ids a free place is 0, a live one its proxy id + 1
unfoldable pub number_of : Option Place → ℕ
number_of None = 0
number_of (Some p) = p.entry.id.0 + 1

-- what was asked, as one word, with bit 32 where that is closed, as only a read can be; 0 of a free place, as every number below
unfoldable pub word_in : Option Place → ℕ
word_in None = 0
word_in (Some p) = place_word (what_in p.entry) (record { closed = p.closed })

abbrev pub caller_of : Option Place → ℕ
caller_of None = 0
caller_of (Some p) = p.caller

abbrev pub deadline_of : Option Place → ℕ
deadline_of None = 0
deadline_of (Some p) = p.entry.deadline

abbrev pub count_of : Option Place → ℕ
count_of None = 0
count_of (Some p) = p.count

-- the id that a number in the column of ids stands for; 0 for a free place
unfoldable pub id_in : ℕ → ProxyId
id_in n = record { 0 = (n - 1) % ids }

-- the place that its numbers in the columns are
unfoldable pub place_of : (number word caller deadline count : ℕ) → Option Place
place_of n w c d k = cond (eqb n 0) None (Some (record { entry = entry_of (id_in n) w d; closed = (note_of w).closed; caller = c; count = k }))
