-- Which read a frame spoils once it is issued, the bytes of both say: byte 6, byte 7 and the two ranges.
-- Assumes nothing.
use Prim.Native.Nat.{ℕ}
use mathlib.Core.Path.{◌≡◌, refl, sym, ◌∙◌}
use mathlib.Core.Logic.Iff
use mathlib.Core.Logic.{◌⊎◌, inl, inr, ◌↔◌}
use mathlib.Core.Bool.{true}
use mathlib.Core.List.{List}
use lib.ListN.{get_or}
use Rattle.settings.specs.Grammar.{Value}
use Rattle.pdu.specs.Requests.{asked_of}
use Rattle.pdu.specs.declared.What.{What}
use Rattle.pdu.specs.Spoiling.{spoils}
use Rattle.pdu.specs.declared.Table.{Table}
use Rattle.pdu.specs.declared.Table.TheVariants.{Bits, Registers}
use Rattle.pdu.specs.Plain.{Reading, Writing, Neither, Common, Meeting, Ranging}
use Rattle.pdu.proofs.SpoilingLaws.{legal_ranges, spoils_exactly}
use Rattle.rewrite.specs.Legal.{legal}
use Rattle.rewrite.proofs.LegalLaws.{legal_checked}
use Rattle.book.specs.Book.{Party}
use Rattle.machine.specs.Spelled.{asking, AskedBy}
use Rattle.machine.specs.Closed.{number_at, Meets}
use Rattle.machine.specs.Closed.Meets.{coil, coils, register, registers, mask, written_and_read, other}
use Rattle.machine.proofs.SpelledLaws.{asking-says, wanted-spelled}

module _ {c c' : ℕ} {g f : List ℕ} {p p' : Party} {w r : What} (a : AskedBy c g p w) (b : AskedBy c' f p' r) where
  -- 05, 06, 15, 16, 22 and 23 by their ranges, and "other"
  met_in_bytes : (t : Table) → Reading t (get_or f 7 0) → Neither (get_or g 7 0) ⊎ (Writing t (get_or g 7 0) × Common w.asked r.asked) → Meets g f
  met_in_bytes Bits h (inl n) = other n (inl h)
  met_in_bytes Bits h (inr (inl e, (x, i, j))) = coil e h (rw (rw (a.writes_coil e) at i) at (rw (b.reads_bits h) at j))
  met_in_bytes Bits h (inr (inr e, (x, i, j))) = coils e h x (rw (a.writes_coils e) at i) (rw (b.reads_bits h) at j)
  met_in_bytes Registers h (inl n) = other n (inr h)
  met_in_bytes Registers h (inr (inl e, (x, i, j))) = register e h (rw (rw (a.writes_one e) at i) at (rw (b.reads h) at j))
  met_in_bytes Registers h (inr (inr (inl e), (x, i, j))) = registers e h x (rw (a.writes_many e) at i) (rw (b.reads h) at j)
  met_in_bytes Registers h (inr (inr (inr (inl e)), (x, i, j))) = mask e h (rw (rw (a.masks e) at i) at (rw (b.reads h) at j))
  met_in_bytes Registers h (inr (inr (inr (inr e)), (x, i, j))) = written_and_read e h x (rw (a.reads_and_writes e) at i) (rw (b.reads h) at j)

  bytes_met : Meets g f → (t : Table) × Reading t (get_or f 7 0) × (Neither (get_or g 7 0) ⊎ (Writing t (get_or g 7 0) × Common w.asked r.asked))
  bytes_met (coil e h j) = (Bits, h, inr (inl e, (number_at g 8, rw (a.writes_coil e) refl, rw (b.reads_bits h) j)))
  bytes_met (coils e h x i j) = (Bits, h, inr (inr e, (x, rw (a.writes_coils e) i, rw (b.reads_bits h) j)))
  bytes_met (register e h j) = (Registers, h, inr (inl e, (number_at g 8, rw (a.writes_one e) refl, rw (b.reads h) j)))
  bytes_met (registers e h x i j) = (Registers, h, inr (inr (inl e), (x, rw (a.writes_many e) i, rw (b.reads h) j)))
  bytes_met (mask e h j) = (Registers, h, inr (inr (inr (inl e)), (number_at g 8, rw (a.masks e) refl, rw (b.reads h) j)))
  bytes_met (written_and_read e h x i j) = (Registers, h, inr (inr (inr (inr e)), (x, rw (a.reads_and_writes e) i, rw (b.reads h) j)))
  bytes_met (other n (inl h)) = (Bits, h, inl n)
  bytes_met (other n (inr h)) = (Registers, h, inl n)

  meeting_in_bytes : Meeting w r ↔ Meets g f
  meeting_in_bytes = rw (a.function, b.function) (λ m. met_in_bytes m.0 m.1 m.2, bytes_met)

-- where a legal frame asks for a quantity, that is not 0
asking_ranges : (s : Value) (f : List ℕ) → legal s f ≡ true → Ranging (asking f)
asking_ranges s f l = rw (wanted-spelled f) at (legal_ranges f (asked_of f) ((legal_checked s f).0 l).1)

-- Of two legal frames one spoils the other exactly where byte 6 is equal, and by byte 7 and the ranges it meets the other. Nothing is asked of the bytes besides.
pub spoils_in_bytes : (s s' : Value) (g f : List ℕ) → legal s g ≡ true → legal s' f ≡ true → (spoils (asking g) (asking f) ≡ true) ↔ ((get_or g 6 0 ≡ get_or f 6 0) × Meets g f)
spoils_in_bytes s s' g f l l' =
    let a = asking-says 0 g in
    let b = asking-says 0 f in
    Iff.trans (spoils_exactly (asking g) (asking f) (asking_ranges s g l) (asking_ranges s' f l')) (
      λ e. (sym a.unit ∙ e.0 ∙ b.unit, (meeting_in_bytes a b).0 e.1),
      λ e. (a.unit ∙ e.0 ∙ sym b.unit, (meeting_in_bytes a b).1 e.1),
    )
