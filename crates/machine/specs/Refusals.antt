-- The refusals of each call, in the order of document 01's table, and the lowest that applies.
-- Assumes nothing.
use Rattle.std.specs.Prelude.{ℕ, Bool, true, false, cond, not, ◌||◌, List, [], ◌∷◌, length, ltb, leb}
use Rattle.std.proofs.Math.Option.{Option, some, none}
use Rattle.numbers.specs.Numbers.{clients, latest_time, frame_buffer, list_buffer}
use Rattle.laws.specs.Bits.{has}
use Rattle.wire.specs.Frame.{misframed, function_of, id_of}
use Rattle.pdu.specs.Requests.{class_of, bad_function, bad_length}
use Rattle.pdu.specs.Replies.{answering}
use Rattle.pdu.specs.declared.What.{What}
use Rattle.book.specs.Book.{Live, at}
use Rattle.book.specs.Desk.{id_place}
use Rattle.machine.specs.Machine.{Machine, Note, rules}
use Rattle.machine.specs.Calls.{Call}
use Rattle.machine.specs.Calls.Call.{attach, detach, request, reply, tick, link_lost}

-- 1: a lent output buffer is shorter than stated
abbrev pub short_frame : List ℕ → Bool
short_frame o = ltb (length o) frame_buffer

abbrev pub short_list : List ℕ → Bool
short_list l = ltb (length l) list_buffer

-- 2: client number above 31, or not attached (attach: only above 31)
abbrev pub above_last : ℕ → Bool
above_last c = leb clients c

abbrev pub is_strange_to : (attached c : ℕ) → Bool
is_strange_to attached c = above_last c || not (has attached c)

abbrev pub is_stranger : Machine → ℕ → Bool
is_stranger m c = is_strange_to m.attached c

-- 3: time above 2^63 − 1, or below the state's clock
abbrev pub is_untimely_at : (clock t : ℕ) → Bool
is_untimely_at clock t = ltb latest_time t || ltb t clock

abbrev pub is_untimely : Machine → ℕ → Bool
is_untimely m t = is_untimely_at m.book.clock t

-- 7: the reply's id is not live; 8: it is live but the reply does not answer that request
abbrev pub is_dead : Option (Live What Note) → Bool
is_dead none = true
is_dead (some e) = false

abbrev pub is_mismatched : List ℕ → Option (Live What Note) → Bool
is_mismatched f none = false
is_mismatched f (some e) = not (answering e.what f)

abbrev pub entry_for : Machine → List ℕ → Option (Live What Note)
entry_for m f = at m.book (id_place rules m.book (id_of f))

-- a refusal's number, and whether it applies
pub record Row : Type 0 where
  pub number : ℕ
  pub applies : Bool

abbrev pub row : ℕ → Bool → Row
row n t = record { number = n; applies = t }

-- the refusals that a call knows, from the lowest number on; 4: misframed; 5: request function; 6: PDU length; 9: attach of an attached client
unfoldable pub rows : Machine → Call → List Row
rows m (attach c) = row 2 (above_last c) ∷ row 9 (has m.attached c) ∷ []
rows m (detach c) = row 2 (is_stranger m c) ∷ []
rows m (request c t f o) =
    row 1 (short_frame o)
    ∷ row 2 (is_stranger m c)
    ∷ row 3 (is_untimely m t)
    ∷ row 4 (misframed f)
    ∷ row 5 (bad_function (function_of f))
    ∷ row 6 (bad_length (class_of (function_of f)) f)
    ∷ []
rows m (reply t f o l) =
    row 1 (short_frame o || short_list l)
    ∷ row 3 (is_untimely m t)
    ∷ row 4 (misframed f)
    ∷ row 7 (is_dead (entry_for m f))
    ∷ row 8 (is_mismatched f (entry_for m f))
    ∷ []
rows m (tick t o l) = row 1 (short_frame o || short_list l) ∷ row 3 (is_untimely m t) ∷ []
rows m link_lost = []

-- the lowest number that applies, and 0 where none does
unfoldable pub lowest : List Row → ℕ
lowest [] = 0
lowest (r ∷ rs) = cond r.applies r.number (lowest rs)

abbrev pub refusal : Machine → Call → ℕ
refusal m x = lowest (rows m x)
