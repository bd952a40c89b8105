-- What answers a request, exactly, by what was asked; the bytes that such a reply has; and that the proxy's own exceptions answer.
-- Assumes nothing.
use Prim.Native.Nat.{ℕ, ◌+◌, ◌≤◌}
use mathlib.Core.Path.{◌≡◌, refl, sym, ◌∙◌}
use mathlib.Core.Logic.{◌↔◌, ⊎_elim, ◌⊎◌, inl}
use mathlib.Core.Bool.{true, false, true≢false, ◌&&◌}
use mathlib.Core.List.{List}
use native.Mathlib.Omega.{arith}
use lib.ListN.{length}
use lib.Dec.{eqb}
use Rattle.numbers.specs.Numbers.{last_function, short_pdu, mask_pdu}
use Rattle.wire.specs.Frame.{unit_of, function_of, pdu_size, exception}
use Rattle.wire.proofs.FrameLaws.{exception_function}
use Rattle.pdu.specs.Requests.{start_of, quantity_of, and_mask_of, or_mask_of, bytes_for}
use Rattle.pdu.specs.Replies.{reply_count_of, shaped, excepts, answering}
use Rattle.pdu.specs.declared.What.{What}
use Rattle.pdu.specs.Words.{Proper}
use Rattle.pdu.specs.declared.Table.TheVariants.{Bits, Registers}
use Rattle.pdu.specs.declared.Asked.{Asked}
use Rattle.pdu.specs.declared.Asked.TheVariants.{Read, SingleWrite, MultipleWrite, MaskWrite, ReadWrite, Other}
use Rattle.laws.proofs.TestLaws.{holds_eq, holds_and, holds_or, holds_always}
use Rattle.pdu.specs.Plain.{Exception, Shaped}
use Rattle.pdu.proofs.RequestLaws.{known}

-- A frame is an exception reply exactly where it is function + 128 with a PDU of 2 bytes.
pub excepts_exact : (n : ℕ) (f : List ℕ) → (excepts n f ≡ true) ↔ Exception n f
excepts_exact n f = holds_and (eqb (function_of f) (n + 128)) (eqb (pdu_size f) 2) (holds_eq (function_of f) (n + 128)) (holds_eq (pdu_size f) 2)

-- a PDU of 5 bytes with two numbers
short_two : (a b : ℕ) (f : List ℕ) → (eqb (pdu_size f) short_pdu && (eqb (start_of f) a && eqb (quantity_of f) b) ≡ true) ↔ ((pdu_size f ≡ short_pdu) × ((start_of f ≡ a) × (quantity_of f ≡ b)))
short_two a b f =
    holds_and (eqb (pdu_size f) short_pdu) (eqb (start_of f) a && eqb (quantity_of f) b) (holds_eq (pdu_size f) short_pdu)
    (holds_and (eqb (start_of f) a) (eqb (quantity_of f) b) (holds_eq (start_of f) a) (holds_eq (quantity_of f) b))

-- a PDU of n bytes behind its function and its byte count n
counted : (n : ℕ) (f : List ℕ) → (eqb (reply_count_of f) n && eqb (pdu_size f) (2 + n) ≡ true) ↔ ((reply_count_of f ≡ n) × (pdu_size f ≡ 2 + n))
counted n f = holds_and (eqb (reply_count_of f) n) (eqb (pdu_size f) (2 + n)) (holds_eq (reply_count_of f) n) (holds_eq (pdu_size f) (2 + n))

-- A reply is shaped exactly as what was asked calls for.
pub shaped_exact : (a : Asked) (f : List ℕ) → (shaped a f ≡ true) ↔ Shaped a f
unfolding shaped
shaped_exact (Read t s q) f = counted (bytes_for t q) f
shaped_exact (SingleWrite Bits a v) f = short_two a v f
shaped_exact (SingleWrite Registers a v) f = holds_and (eqb (pdu_size f) short_pdu) (eqb (start_of f) a) (holds_eq (pdu_size f) short_pdu) (holds_eq (start_of f) a)
shaped_exact (MultipleWrite t s q) f = short_two s q f
shaped_exact (MaskWrite a x y) f =
    holds_and (eqb (pdu_size f) mask_pdu) _ (holds_eq (pdu_size f) mask_pdu)
    (holds_and (eqb (start_of f) a) _ (holds_eq (start_of f) a) (holds_and (eqb (and_mask_of f) x) (eqb (or_mask_of f) y) (holds_eq (and_mask_of f) x) (holds_eq (or_mask_of f) y)))
shaped_exact (ReadWrite s q u p) f = counted (bytes_for Registers q) f
shaped_exact Other f = holds_always

-- A reply answers exactly where the unit is equal, and it is an exception reply, or the function is equal and the shape is right.
pub answers_exact : (w : What) (f : List ℕ) → (answering w f ≡ true) ↔ ((unit_of f ≡ w.unit) × (Exception w.function f ⊎ ((function_of f ≡ w.function) × Shaped w.asked f)))
unfolding answering
answers_exact w f =
    holds_and (eqb (unit_of f) w.unit) _ (holds_eq (unit_of f) w.unit)
    (holds_or (excepts w.function f) _ (excepts_exact w.function f)
    (holds_and (eqb (function_of f) w.function) (shaped w.asked f) (holds_eq (function_of f) w.function) (shaped_exact w.asked f)))

-- the bytes that a reply has which is no exception
abbrev pub ReplyRoom : Asked → List ℕ → Type 0
ReplyRoom (Read t s q) f = 9 + bytes_for t q ≡ length f
ReplyRoom (SingleWrite t a v) f = 12 ≡ length f
ReplyRoom (MultipleWrite t s q) f = 12 ≡ length f
ReplyRoom (MaskWrite a x y) f = 14 ≡ length f
ReplyRoom (ReadWrite s q u p) f = 9 + bytes_for Registers q ≡ length f
ReplyRoom Other f = Unit {0}

room_of : (a : Asked) (f : List ℕ) → Shaped a f → ReplyRoom a f
room_of (Read t s q) f h = omega (arith, h)
room_of (SingleWrite Bits a v) f h = omega (arith, h)
room_of (SingleWrite Registers a v) f h = omega (arith, h)
room_of (MultipleWrite t s q) f h = omega (arith, h)
room_of (MaskWrite a x y) f h = omega (arith, h)
room_of (ReadWrite s q u p) f h = omega (arith, h)
room_of Other f h = tt

-- A reply that answers and is no exception has exactly the bytes that what was asked calls for.
pub answering-room : (w : What) (f : List ℕ) → answering w f ≡ true → excepts w.function f ≡ false → ReplyRoom w.asked f
answering-room w f e x =
    ⊎_elim
    (λ y. absurd (true≢false (sym ((excepts_exact w.function f).1 y) ∙ x)))
    (λ y. room_of w.asked f y.1)
    ((answers_exact w f).0 e).1

-- An exception frame for a function of a request is an exception reply to it.
pub exception-excepts : (id unit n code : ℕ) → n ≤ last_function → excepts n (exception id unit n code) ≡ true
unfolding exception
exception-excepts id unit n code h = (excepts_exact n (exception id unit n code)).1 (exception_function id unit n code h, refl)

-- An exception frame for what was asked answers it, under any id and with any code.
pub exception_answers : (w : What) (id code : ℕ) → Proper w → answering w (exception id w.unit w.function code) ≡ true
unfolding exception
exception_answers w id code p =
    let f = exception id w.unit w.function code in
    (answers_exact w f).1 (refl, inl ((excepts_exact w.function f).0 (exception-excepts id w.unit w.function code ((known w.function).0 p.function).1)))
