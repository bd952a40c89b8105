-- Document 01's table of refusals in plain words: for each call the rows that it knows, and when row n applies.
-- Assumes nothing.
use Rattle.std.specs.Prelude.{ℕ, ◌+◌, ◌≤◌, ◌<◌, ◌≡◌, ◌⊎◌, true, false, List, [], ◌∷◌, length}
use Rattle.std.proofs.Math.Option.{some}
use Rattle.numbers.specs.Numbers.{clients, latest_time, least_frame, most_frame, uncounted, frame_buffer, list_buffer, last_function}
use Rattle.laws.specs.Bits.{has}
use Rattle.wire.specs.Frame.{unit_of, function_of, id_of, protocol_of, length_of}
use Rattle.pdu.specs.Requests.{class_of}
use Rattle.pdu.specs.declared.What.{What}
use Rattle.pdu.specs.Plain.{Sized, Exception, Shaped}
use Rattle.book.specs.Book.{Live, at}
use Rattle.machine.specs.Machine.{Machine, Note}
use Rattle.machine.specs.Calls.{Call}
use Rattle.machine.specs.Calls.Call.{attach, detach, request, reply, tick, link_lost}

-- a row in plain words: its number, and what must hold for it
pub record Plain : Type 1 where
  pub number : ℕ
  pub holds : Type 0

abbrev pub says : ℕ → Type 0 → Plain
says n p = record { number = n; holds = p }

-- size not 8 to 260, protocol not 0, or length field not size − 6
abbrev pub Misframed : List ℕ → Type 0
Misframed f = (length f < least_frame) ⊎ ((most_frame < length f) ⊎ ((protocol_of f ≡ 0 → ⊥) ⊎ (length_of f + uncounted ≡ length f → ⊥)))

-- time above 2^63 − 1, or below the state's clock
abbrev pub Untimely : Machine → ℕ → Type 0
Untimely m t = (latest_time < t) ⊎ (t < m.book.clock)

-- client number above 31, or not attached
abbrev pub Stranger : Machine → ℕ → Type 0
Stranger m c = (clients ≤ c) ⊎ (has m.attached c ≡ false)

-- the reply answers what was asked: the unit is equal, and it is an exception reply, or the function is equal and the shape is right
abbrev pub Fitting : What → List ℕ → Type 0
Fitting w f = (unit_of f ≡ w.unit) × (Exception w.function f ⊎ ((function_of f ≡ w.function) × Shaped w.asked f))

-- no live entry has the reply's id; one has it, but the reply does not answer its request
abbrev pub NotLive : Machine → List ℕ → Type 0
NotLive m f = (k : ℕ) (e : Live What Note) → at m.book k ≡ some e → e.id ≡ id_of f → ⊥

abbrev pub NoAnswer : Machine → List ℕ → Type 0
NoAnswer m f = (k : ℕ) × (e : Live What Note) × (at m.book k ≡ some e) × (e.id ≡ id_of f) × (Fitting e.what f → ⊥)

-- the table, for each call the rows that it knows
abbrev pub table : Machine → Call → List Plain
table m (attach c) = says 2 (clients ≤ c) ∷ says 9 (has m.attached c ≡ true) ∷ []
table m (detach c) = says 2 (Stranger m c) ∷ []
table m (request c t f o) =
    says 1 (length o < frame_buffer)
    ∷ says 2 (Stranger m c)
    ∷ says 3 (Untimely m t)
    ∷ says 4 (Misframed f)
    ∷ says 5 ((function_of f ≡ 0) ⊎ (last_function < function_of f))
    ∷ says 6 (Sized (class_of (function_of f)) f → ⊥)
    ∷ []
table m (reply t f o l) =
    says 1 ((length o < frame_buffer) ⊎ (length l < list_buffer)) ∷ says 3 (Untimely m t) ∷ says 4 (Misframed f) ∷ says 7 (NotLive m f) ∷ says 8 (NoAnswer m f) ∷ []
table m (tick t o l) = says 1 ((length o < frame_buffer) ⊎ (length l < list_buffer)) ∷ says 3 (Untimely m t) ∷ []
table m link_lost = []

-- row n is in the table and applies
unfoldable pub Applies : List Plain → ℕ → Type 0
Applies [] n = ⊥
Applies (p ∷ ps) n = ((n ≡ p.number) × p.holds) ⊎ Applies ps n
