-- What the lines of a history say of a live read: whether anything was issued since its issue that spoils it, and so whether a request may still join it.
-- Assumes nothing.
use Rattle.std.specs.Prelude.{ℕ, ◌+◌, ◌*◌, ◌≤◌, ◌<◌, ◌≡◌, ◌⊎◌, Bool, false, ◌||◌, List, length, get_or}
use Rattle.std.proofs.Math.Option.{some}
use Rattle.numbers.specs.Numbers.{room}
use Rattle.laws.specs.Lists.{last_of}
use Rattle.pdu.specs.declared.What.{What}
use Rattle.pdu.specs.Spoiling.{spoils}
use Rattle.book.specs.Book.{Party, Live, Event, at}
use Rattle.book.specs.Book.Event.{passed, joined, issued, replied, expired, left, lost}
use Rattle.book.specs.Traced.{touches}
use Rattle.machine.specs.Machine.{Note, Live_book}
use Rattle.machine.specs.Spelled.{asking}

-- the line is the issue of a request that spoils r
abbrev pub closes : What → Event What → Bool
closes r (passed t) = false
closes r (joined i w p) = false
closes r (issued i w d p) = spoils w r
closes r (replied i ps) = false
closes r (expired i ps) = false
closes r (left c) = false
closes r lost = false

-- the line begins or ends a life of the id, or closes r
abbrev pub concerns_read : ℕ → What → Event What → Bool
concerns_read id r e = touches id e || closes r e

-- of the lines that begin or end the id's life or close r, the last is the id's issue, which asked r and is due at d: nothing that spoils r was issued since
abbrev pub Unspoiled : List (Event What) → ℕ → What → ℕ → Type 0
Unspoiled vs id r d = (p : Party) × (last_of (concerns_read id r) vs ≡ some (issued id r d p))

-- the request f may at the time t join the id: a live entry under it asks what f asks, has fewer parties than there is room for, is due later, and by the lines of the history
-- nothing that spoils it was issued since its issue
pub record Joinable (b : Live_book) (vs : List (Event What)) (t : ℕ) (f : List ℕ) (id : ℕ) : Type 0 where
  pub place : ℕ
  pub entry : Live What Note
  pub there : at b place ≡ some entry
  pub named : entry.id ≡ id
  pub same : entry.what ≡ asking f
  pub fewer : length entry.parties < room
  pub later : t < entry.deadline
  pub unspoiled : Unspoiled vs id (asking f) entry.deadline

-- #102 IN BYTES

-- the number in bytes k and k + 1; and the address x is one of those that a frame asks for, as many as the number at byte 10 says from the one at byte 8 on
abbrev pub number_at : List ℕ → ℕ → ℕ
number_at f k = 256 * get_or f k 0 + get_or f (k + 1) 0

abbrev pub AsksFor : List ℕ → ℕ → Type 0
AsksFor f x = (number_at f 8 ≤ x) × (x < number_at f 8 + number_at f 10)

-- the address x is one of those that a frame of 23 writes, as many as the number at byte 14 says from the one at byte 12 on
abbrev pub WritesTo : List ℕ → ℕ → Type 0
WritesTo f x = (number_at f 12 ≤ x) × (x < number_at f 12 + number_at f 14)

-- byte 7 says that a frame reads coils or discrete inputs; that it reads registers
abbrev pub ReadsBits : List ℕ → Type 0
ReadsBits f = (get_or f 7 0 ≡ 1) ⊎ (get_or f 7 0 ≡ 2)

abbrev pub ReadsRegisters : List ℕ → Type 0
ReadsRegisters f = (get_or f 7 0 ≡ 3) ⊎ (get_or f 7 0 ≡ 4)

-- none of the functions that are looked into
abbrev pub IsOther : List ℕ → Type 0
IsOther g =
    (get_or g 7 0 ≡ 1 → ⊥) × (get_or g 7 0 ≡ 2 → ⊥) × (get_or g 7 0 ≡ 3 → ⊥) × (get_or g 7 0 ≡ 4 → ⊥) × (get_or g 7 0 ≡ 5 → ⊥) × (get_or g 7 0 ≡ 6 → ⊥) × (get_or g 7 0 ≡ 15 → ⊥)
    × (get_or g 7 0 ≡ 16 → ⊥) × (get_or g 7 0 ≡ 22 → ⊥) × (get_or g 7 0 ≡ 23 → ⊥)

-- what the frame g, once it is issued, makes of the read f: 05 and 15 meet reads of bits, 06, 16 and 22 reads of registers, if some address is in both; 23 those that read an address that it
-- writes; any other function but the reads meets every read
pub data Meets (g f : List ℕ) : Type 0 where
  coil : get_or g 7 0 ≡ 5 → ReadsBits f → AsksFor f (number_at g 8) → Meets g f
  coils : get_or g 7 0 ≡ 15 → ReadsBits f → (x : ℕ) → AsksFor g x → AsksFor f x → Meets g f
  register : get_or g 7 0 ≡ 6 → ReadsRegisters f → AsksFor f (number_at g 8) → Meets g f
  registers : get_or g 7 0 ≡ 16 → ReadsRegisters f → (x : ℕ) → AsksFor g x → AsksFor f x → Meets g f
  mask : get_or g 7 0 ≡ 22 → ReadsRegisters f → AsksFor f (number_at g 8) → Meets g f
  written_and_read : get_or g 7 0 ≡ 23 → ReadsRegisters f → (x : ℕ) → WritesTo g x → AsksFor f x → Meets g f
  other : IsOther g → ReadsBits f ⊎ ReadsRegisters f → Meets g f
