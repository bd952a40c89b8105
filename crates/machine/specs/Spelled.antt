-- Who asks what, spelled from the bytes of a request: nothing of the machine's own reading of a frame is used here, so that the ledger's lines say what a client sent.
-- Assumes nothing.
use Rattle.std.specs.Prelude.{ℕ, ◌+◌, ◌*◌, ◌≡◌, ◌⊎◌, cond, ◌||◌, List, get_or, eqb}
use Rattle.pdu.specs.Replies.{what}
use Rattle.pdu.specs.declared.What.{What}
use Rattle.pdu.specs.declared.Table.TheVariants.{Bits, Registers}
use Rattle.pdu.specs.declared.Asked.{Asked}
use Rattle.pdu.specs.declared.Asked.TheVariants.{Read, SingleWrite, MultipleWrite, MaskWrite, ReadWrite, Other}
use Rattle.book.specs.Book.{Party}

-- client c asks, under the id that bytes 0 and 1 are
unfoldable pub asker : ℕ → List ℕ → Party
asker c f = record { client = c; original = 256 * get_or f 0 0 + get_or f 1 0 }

-- 01 to 04, 15 and 16 have a start and a quantity, 05 and 06 an address and a value, 22 an address and two masks, 23 the start and the quantity that it reads and those that it writes,
-- every other function nothing more; 01, 02, 05 and 15 are of bits
unfoldable pub spelled : (function first second third fourth : ℕ) → Asked
spelled n a b c d =
    cond (eqb n 1 || eqb n 2) (Read Bits a b)
    (cond (eqb n 3 || eqb n 4) (Read Registers a b)
    (cond (eqb n 5) (SingleWrite Bits a b)
    (cond (eqb n 6) (SingleWrite Registers a b)
    (cond (eqb n 15) (MultipleWrite Bits a b)
    (cond (eqb n 16) (MultipleWrite Registers a b)
    (cond (eqb n 22) (MaskWrite a b c)
    (cond (eqb n 23) (ReadWrite a b c d)
    Other)))))))

-- byte 6 is the unit, byte 7 the function; the numbers at bytes 8, 10, 12 and 14 are what is behind it
unfoldable pub asking : List ℕ → What
asking f = what (get_or f 6 0) (get_or f 7 0) (spelled (get_or f 7 0) (256 * get_or f 8 0 + get_or f 9 0) (256 * get_or f 10 0 + get_or f 11 0) (256 * get_or f 12 0 + get_or f 13 0) (256 * get_or f 14 0 + get_or f 15 0))

-- who asks what, in numbers: client c under the id that it sent; the unit, the function, and what is behind it
pub record AskedBy (c : ℕ) (f : List ℕ) (p : Party) (w : What) : Type 0 where
  pub client : p.client ≡ c
  pub original : p.original ≡ 256 * get_or f 0 0 + get_or f 1 0
  pub unit : w.unit ≡ get_or f 6 0
  pub function : w.function ≡ get_or f 7 0
  pub reads_bits : (get_or f 7 0 ≡ 1) ⊎ (get_or f 7 0 ≡ 2) → w.asked ≡ Read Bits (256 * get_or f 8 0 + get_or f 9 0) (256 * get_or f 10 0 + get_or f 11 0)
  pub reads : (get_or f 7 0 ≡ 3) ⊎ (get_or f 7 0 ≡ 4) → w.asked ≡ Read Registers (256 * get_or f 8 0 + get_or f 9 0) (256 * get_or f 10 0 + get_or f 11 0)
  pub writes_coil : get_or f 7 0 ≡ 5 → w.asked ≡ SingleWrite Bits (256 * get_or f 8 0 + get_or f 9 0) (256 * get_or f 10 0 + get_or f 11 0)
  pub writes_one : get_or f 7 0 ≡ 6 → w.asked ≡ SingleWrite Registers (256 * get_or f 8 0 + get_or f 9 0) (256 * get_or f 10 0 + get_or f 11 0)
  pub writes_coils : get_or f 7 0 ≡ 15 → w.asked ≡ MultipleWrite Bits (256 * get_or f 8 0 + get_or f 9 0) (256 * get_or f 10 0 + get_or f 11 0)
  pub writes_many : get_or f 7 0 ≡ 16 → w.asked ≡ MultipleWrite Registers (256 * get_or f 8 0 + get_or f 9 0) (256 * get_or f 10 0 + get_or f 11 0)
  pub masks : get_or f 7 0 ≡ 22 → w.asked ≡ MaskWrite (256 * get_or f 8 0 + get_or f 9 0) (256 * get_or f 10 0 + get_or f 11 0) (256 * get_or f 12 0 + get_or f 13 0)
  pub reads_and_writes : get_or f 7 0 ≡ 23 → w.asked ≡ ReadWrite (256 * get_or f 8 0 + get_or f 9 0) (256 * get_or f 10 0 + get_or f 11 0) (256 * get_or f 12 0 + get_or f 13 0) (256 * get_or f 14 0 + get_or f 15 0)
  pub other : (get_or f 7 0 ≡ 1 → ⊥) → (get_or f 7 0 ≡ 2 → ⊥) → (get_or f 7 0 ≡ 3 → ⊥) → (get_or f 7 0 ≡ 4 → ⊥) → (get_or f 7 0 ≡ 5 → ⊥) → (get_or f 7 0 ≡ 6 → ⊥) → (get_or f 7 0 ≡ 15 → ⊥) → (get_or f 7 0 ≡ 16 → ⊥)
      → (get_or f 7 0 ≡ 22 → ⊥) → (get_or f 7 0 ≡ 23 → ⊥)
      → w.asked ≡ Other
