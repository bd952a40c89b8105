-- What was asked as one word: unit and function in the highest 16 bits, and 48 bits for what the function's class keeps: all of them for 22, its address and both masks; 46 for 23, two
-- starts and two quantities, which are below 128; the others 32. A read looks at no other, so that bit 32 of its word is free: the live table has it for a read
-- that is closed. In the word of any other function that bit says nothing of the kind.
-- Assumes nothing.
use Rattle.std.specs.Prelude.{ℕ, ◌+◌, ◌*◌, ◌/◌, ◌%◌, ◌≤◌, ◌<◌, ◌≡◌, ◌⊎◌, Bool, false, ◌&&◌}
use Rattle.numbers.specs.Numbers.{most_read, most_read_written, coil_off, coil_on, addresses}
use Rattle.laws.specs.Bits.{has}
use Rattle.pdu.specs.Requests.{class_of, most_read_of, most_written_of, bad_function}
use Rattle.pdu.specs.declared.Table.TheVariants.{Bits, Registers}
use Rattle.pdu.specs.declared.Class.{Class}
use Rattle.pdu.specs.declared.Class.TheVariants.{Reads, WritesOne, WritesMany, Masks, ReadsWrites, Others}
use Rattle.pdu.specs.Replies.{what}
use Rattle.pdu.specs.declared.What.{What}
use Rattle.pdu.specs.Reads.{is_read}
use Rattle.pdu.specs.declared.Asked.{Asked}
use Rattle.pdu.specs.declared.Asked.TheVariants.{Read, SingleWrite, MultipleWrite, MaskWrite, ReadWrite, Other}
use Rattle.pdu.specs.declared.ProxyId.{ProxyId}
use Rattle.pdu.specs.declared.Entry.{Entry}

-- what a class keeps, in 48 bits; and back, with the table of the class
unfoldable pub asked_bits : Asked → ℕ
asked_bits (Read t s q) = s * 65536 + q
asked_bits (SingleWrite t a v) = a * 65536 + v
asked_bits (MultipleWrite t s q) = s * 65536 + q
asked_bits (MaskWrite a x y) = (a * 65536 + x) * 65536 + y
asked_bits (ReadWrite s q u p) = ((s * 128 + q) * 65536 + u) * 128 + p
asked_bits Other = 0

unfoldable pub asked_from : Class → ℕ → Asked
asked_from (Reads t) n = Read t (n / 65536 % 65536) (n % 65536)
asked_from (WritesOne t) n = SingleWrite t (n / 65536 % 65536) (n % 65536)
asked_from (WritesMany t) n = MultipleWrite t (n / 65536 % 65536) (n % 65536)
asked_from Masks n = MaskWrite (n / 65536 / 65536 % 65536) (n / 65536 % 65536) (n % 65536)
asked_from ReadsWrites n = ReadWrite (n / 128 / 65536 / 128 % 65536) (n / 128 / 65536 % 128) (n / 128 % 65536) (n % 128)
asked_from Others n = Other

unfoldable pub word_of : What → ℕ
word_of w = (w.unit * 256 + w.function) * 281474976710656 + asked_bits w.asked

unfoldable pub what_of : ℕ → What
what_of n =
    what (n / 281474976710656 / 256 % 256) (n / 281474976710656 % 256) (asked_from (class_of (n / 281474976710656 % 256)) (n % 281474976710656))

-- the bit of a live place's word that says, where the word is a read's, that the read is closed
abbrev pub closed_bit : ℕ
closed_bit = 32

-- the word is a read's, and has bit 32: it is closed; in the word of any other function that bit may be a part of what is kept
unfoldable pub closed_in : ℕ → Bool
closed_in n = is_read (what_of n).asked && has n closed_bit

-- what an entry keeps of its request, and the entry that a word makes with an id and a deadline
abbrev pub what_in : Entry → What
what_in e = e.what

unfoldable pub entry_of : ProxyId → ℕ → ℕ → Entry
entry_of id n d = record { id = id; what = what_of n; deadline = d }

-- what a legal request asks: quantities, values and ranges within the bounds
unfoldable pub Lawful : Asked → Type 0
Lawful (Read t s q) = (1 ≤ q) × (q ≤ most_read_of t) × (s + q ≤ addresses)
Lawful (SingleWrite Bits a v) = (a < addresses) × ((v ≡ coil_off) ⊎ (v ≡ coil_on))
Lawful (SingleWrite Registers a v) = (a < addresses) × (v < 65536)
Lawful (MultipleWrite t s q) = (1 ≤ q) × (q ≤ most_written_of t) × (s + q ≤ addresses)
Lawful (MaskWrite a x y) = (a < addresses) × (x < 65536) × (y < 65536)
Lawful (ReadWrite s q u p) = ((1 ≤ q) × (q ≤ most_read) × (s + q ≤ addresses)) × ((1 ≤ p) × (p ≤ most_read_written) × (u + p ≤ addresses))
Lawful Other = Unit {0}

-- what a live entry may hold: a unit, a function that is not refused, and what that function's class keeps, within the bounds
pub record Proper (w : What) : Type 0 where
  pub unit : w.unit < 256
  pub function : bad_function w.function ≡ false
  pub class : asked_from (class_of w.function) (asked_bits w.asked) ≡ w.asked
  pub lawful : Lawful w.asked
