-- Requests, replies and what spoils a read, in plain words: which function, size, quantity, value and range is right, which reply answers, and which requests meet.
-- Assumes nothing.
use Rattle.std.specs.Prelude.{ℕ, ◌+◌, ◌≤◌, ◌<◌, ◌≡◌, ◌⊎◌, List, get_or, Ok, Err}
use Rattle.numbers.specs.Numbers.{last_function, coil_off, coil_on, short_pdu, multiple_pdu, mask_pdu, read_write_pdu, most_read, most_read_written, addresses}
use Rattle.laws.specs.Bytes.{pair_at}
use Rattle.wire.specs.Frame.{function_of, pdu_size}
use Rattle.pdu.specs.Requests.{class_of, bytes_for, most_read_of, most_written_of, asked_of, Checked}
use Rattle.pdu.specs.declared.What.{What}
use Rattle.pdu.specs.declared.Table.TheVariants.{Bits, Registers}
use Rattle.pdu.specs.declared.Class.{Class}
use Rattle.pdu.specs.declared.Class.TheVariants.{Reads, WritesOne, WritesMany, Masks, ReadsWrites, Others}
use Rattle.pdu.specs.declared.Asked.{Asked}
use Rattle.pdu.specs.declared.Asked.TheVariants.{Read, SingleWrite, MultipleWrite, MaskWrite, ReadWrite, Other}
use Rattle.pdu.specs.declared.Table.{Table}
use Rattle.pdu.specs.declared.Fault.TheVariants.{BadFunction, BadLength, Excepted}

-- a function that is not refused is 1 to 127
abbrev pub Known : ℕ → Type 0
Known n = (1 ≤ n) × (n ≤ last_function)

-- the PDU's size is right; the byte count is byte 12 of 15 and 16, and byte 16 of 23
abbrev pub Sized : Class → List ℕ → Type 0
Sized (Reads t) f = pdu_size f ≡ short_pdu
Sized (WritesOne t) f = pdu_size f ≡ short_pdu
Sized (WritesMany t) f = (multiple_pdu ≤ pdu_size f) × (pdu_size f ≡ multiple_pdu + get_or f 12 0)
Sized Masks f = pdu_size f ≡ mask_pdu
Sized ReadsWrites f = (read_write_pdu ≤ pdu_size f) × (pdu_size f ≡ read_write_pdu + get_or f 16 0)
Sized Others f = Unit {0}

-- the quantity is right, in bytes 10 and 11, of 23 both are, the one to write in bytes 14 and 15; 05's value is 0x0000 or 0xFF00, and the byte count of 15, 16 and 23 is that of the quantity written
abbrev pub Valued : Class → List ℕ → Type 0
Valued (Reads t) f = (1 ≤ pair_at f 10) × (pair_at f 10 ≤ most_read_of t)
Valued (WritesOne Bits) f = (pair_at f 10 ≡ coil_off) ⊎ (pair_at f 10 ≡ coil_on)
Valued (WritesOne Registers) f = Unit {0}
Valued (WritesMany t) f = (1 ≤ pair_at f 10) × ((pair_at f 10 ≤ most_written_of t) × (get_or f 12 0 ≡ bytes_for t (pair_at f 10)))
Valued Masks f = Unit {0}
Valued ReadsWrites f =
    (1 ≤ pair_at f 10) × ((pair_at f 10 ≤ most_read) × ((1 ≤ pair_at f 14) × ((pair_at f 14 ≤ most_read_written) × (get_or f 16 0 ≡ bytes_for Registers (pair_at f 14)))))
Valued Others f = Unit {0}

-- the range ends within the addresses, its start in bytes 8 and 9, of 23 both do, the one to write from bytes 12 and 13 on
abbrev pub Ranged : Class → List ℕ → Type 0
Ranged (Reads t) f = pair_at f 8 + pair_at f 10 ≤ addresses
Ranged (WritesOne t) f = Unit {0}
Ranged (WritesMany t) f = pair_at f 8 + pair_at f 10 ≤ addresses
Ranged Masks f = Unit {0}
Ranged ReadsWrites f = (pair_at f 8 + pair_at f 10 ≤ addresses) × (pair_at f 12 + pair_at f 14 ≤ addresses)
Ranged Others f = Unit {0}

-- what the check of a request comes to, and when
abbrev pub class_in : List ℕ → Class
class_in f = class_of (function_of f)

pub data Outcome (f : List ℕ) : Checked → Type 0 where
  unknown : (Known (function_of f) → ⊥) → Outcome f (Err BadFunction)
  missized : Known (function_of f) → (Sized (class_in f) f → ⊥) → Outcome f (Err BadLength)
  misvalued : Known (function_of f) → Sized (class_in f) f → (Valued (class_in f) f → ⊥) → Outcome f (Err (Excepted 3))
  misranged : Known (function_of f) → Sized (class_in f) f → Valued (class_in f) f → (Ranged (class_in f) f → ⊥) → Outcome f (Err (Excepted 2))
  fine : Known (function_of f) → Sized (class_in f) f → Valued (class_in f) f → Ranged (class_in f) f → Outcome f (Ok (asked_of f))

-- an exception reply: function + 128, and a PDU of 2 bytes
abbrev pub Exception : ℕ → List ℕ → Type 0
Exception n f = (function_of f ≡ n + 128) × (pdu_size f ≡ 2)

-- the shape of a reply of the same function
abbrev pub Shaped : Asked → List ℕ → Type 0
Shaped (Read t s q) f = (get_or f 8 0 ≡ bytes_for t q) × (pdu_size f ≡ 2 + bytes_for t q)
Shaped (SingleWrite Bits a v) f = (pdu_size f ≡ short_pdu) × ((pair_at f 8 ≡ a) × (pair_at f 10 ≡ v))
Shaped (SingleWrite Registers a v) f = (pdu_size f ≡ short_pdu) × (pair_at f 8 ≡ a)
Shaped (MultipleWrite t s q) f = (pdu_size f ≡ short_pdu) × ((pair_at f 8 ≡ s) × (pair_at f 10 ≡ q))
Shaped (MaskWrite a x y) f = (pdu_size f ≡ mask_pdu) × ((pair_at f 8 ≡ a) × ((pair_at f 10 ≡ x) × (pair_at f 12 ≡ y)))
Shaped (ReadWrite s q u p) f = (get_or f 8 0 ≡ bytes_for Registers q) × (pdu_size f ≡ 2 + bytes_for Registers q)
Shaped Other f = Unit {0}

-- the functions that only read bits and registers, those that write them, 23 among these, and those of which neither is known
abbrev pub Reading : Table → ℕ → Type 0
Reading Bits n = (n ≡ 1) ⊎ (n ≡ 2)
Reading Registers n = (n ≡ 3) ⊎ (n ≡ 4)

abbrev pub Writing : Table → ℕ → Type 0
Writing Bits n = (n ≡ 5) ⊎ (n ≡ 15)
Writing Registers n = (n ≡ 6) ⊎ ((n ≡ 16) ⊎ ((n ≡ 22) ⊎ (n ≡ 23)))

abbrev pub Neither : ℕ → Type 0
Neither n =
    (n ≡ 1 → ⊥) × (n ≡ 2 → ⊥) × (n ≡ 3 → ⊥) × (n ≡ 4 → ⊥) × (n ≡ 5 → ⊥) × (n ≡ 6 → ⊥) × (n ≡ 15 → ⊥) × (n ≡ 16 → ⊥) × (n ≡ 22 → ⊥) × (n ≡ 23 → ⊥)

-- the address x is asked for: the address of 05, 06 and 22; of 23 those that it writes; of the others as many as the quantity from the start on
abbrev pub Covers : Asked → ℕ → Type 0
Covers (Read t s q) x = (s ≤ x) × (x < s + q)
Covers (SingleWrite t a v) x = x ≡ a
Covers (MultipleWrite t s q) x = (s ≤ x) × (x < s + q)
Covers (MaskWrite a v w) x = x ≡ a
Covers (ReadWrite s q u p) x = (u ≤ x) × (x < u + p)
Covers Other x = ⊥

-- both ask for some address
abbrev pub Common : Asked → Asked → Type 0
Common a b = (x : ℕ) × Covers a x × Covers b x

-- r reads bits or registers, and w is "other", or writes those and has an address in common with r
abbrev pub Meeting : What → What → Type 0
Meeting w r = (t : Table) × Reading t r.function × (Neither w.function ⊎ (Writing t w.function × Common w.asked r.asked))

-- the class that asks such a thing
abbrev pub sort_of : Asked → Class
sort_of (Read t s q) = Reads t
sort_of (SingleWrite t a v) = WritesOne t
sort_of (MultipleWrite t s q) = WritesMany t
sort_of (MaskWrite a x y) = Masks
sort_of (ReadWrite s q u p) = ReadsWrites
sort_of Other = Others

-- where there is a quantity, it is not 0; of 23 neither is
abbrev pub NotEmpty : Asked → Type 0
NotEmpty (Read t s q) = 1 ≤ q
NotEmpty (SingleWrite t a v) = Unit {0}
NotEmpty (MultipleWrite t s q) = 1 ≤ q
NotEmpty (MaskWrite a x y) = Unit {0}
NotEmpty (ReadWrite s q u p) = (1 ≤ q) × (1 ≤ p)
NotEmpty Other = Unit {0}

-- what is asked is what the function's class asks, of one address or more
pub record Ranging (w : What) : Type 0 where
  pub class : class_of w.function ≡ sort_of w.asked
  pub some : NotEmpty w.asked
