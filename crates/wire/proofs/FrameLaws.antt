-- Frames that are not refused, an id laid over a frame, and exception frames.
-- Assumes nothing.
use Prim.Native.Nat.{ℕ, ◌+◌, ◌/◌, ◌%◌, ◌≤◌, ◌<◌}
use mathlib.Core.Path.{◌≡◌, refl}
use mathlib.Core.Bool.{false, not}
use mathlib.Core.List.{List, [], ◌∷◌}
use native.Mathlib.Omega.{arith}
use lib.ListN.{length}
use lib.Dec.{eqb, ltb}
use borrow.Author.Tests.{ltb-false, le-ltb, eqb-true, eq-eqb, not-false}
use Rattle.numbers.specs.Numbers.{least_frame, most_frame, uncounted, ids, last_function, exception_frame, exception_bit}
use Rattle.laws.specs.Bytes.{put_at}
use Rattle.laws.proofs.Choice.{or_left, or_right}
use Rattle.wire.specs.Frame.{id_of, protocol_of, length_of, function_of, misframed, laid, exception}
use Rattle.wire.specs.Plain.{Framed}

-- a frame that is not refused has its size, protocol and length field in order
pub framed : (f : List ℕ) → misframed f ≡ false → Framed f
unfolding misframed
framed f e =
    let a = or_right (ltb (length f) least_frame) _ e in
    let b = or_right (ltb most_frame (length f)) _ a in
    record {
      least = ltb-false (length f) least_frame (or_left (ltb (length f) least_frame) _ e);
      most = ltb-false most_frame (length f) (or_left (ltb most_frame (length f)) _ a);
      protocol = eqb-true (protocol_of f) 0 (not-false _ (or_left (not (eqb (protocol_of f) 0)) _ b));
      counted = eqb-true (length_of f + uncounted) (length f) (not-false _ (or_right (not (eqb (protocol_of f) 0)) _ b));
    }

-- a frame with its size, protocol and length field in order is not refused
pub not-misframed : (f : List ℕ) → Framed f → misframed f ≡ false
unfolding misframed
not-misframed f h =
    rw (le-ltb (length f) least_frame h.least, le-ltb most_frame (length f) h.most, eq-eqb (protocol_of f) 0 h.protocol, eq-eqb (length_of f + uncounted) (length f) h.counted)

-- the bytes of an exception frame: the id, protocol 0, length 3, the unit, the function + 128 as a byte, and the code
pub exception_bytes : (id unit function code : ℕ)
    → exception id unit function code ≡ id / 256 ∷ id % 256 ∷ 0 ∷ 0 ∷ 0 ∷ 3 ∷ unit ∷ (function + 128) % 256 ∷ code ∷ []
unfolding exception
exception_bytes id unit function code = refl

-- an exception frame has 9 bytes
pub length-exception : (id unit function code : ℕ) → length (exception id unit function code) ≡ exception_frame
unfolding exception
length-exception id unit function code = refl

-- an exception frame is never refused
pub exception-framed : (id unit function code : ℕ) → misframed (exception id unit function code) ≡ false
unfolding exception misframed
exception-framed id unit function code = refl

-- an exception frame carries the id that it was made with
pub exception_id : (id unit function code : ℕ) → id < ids → id_of (exception id unit function code) ≡ id
unfolding exception
exception_id id unit function code h = omega arith

-- a function of a request stands in an exception frame as its number + 128
pub exception_function : (id unit function code : ℕ) → function ≤ last_function → function_of (exception id unit function code) ≡ function + exception_bit
unfolding exception
exception_function id unit function code h = omega arith

-- an id laid over a frame keeps its size
pub length-laid : (id : ℕ) (f : List ℕ) → 2 ≤ length f → length (laid id f) ≡ length f
length-laid id [] h = absurd (omega arith)
length-laid id (a ∷ []) h = absurd (omega arith)
length-laid id (a ∷ b ∷ f) h = refl

-- an id laid over a frame neither makes nor mends a refusal
pub laid-framed : (id : ℕ) (f : List ℕ) → 2 ≤ length f → misframed (laid id f) ≡ misframed f
unfolding misframed
laid-framed id [] h = absurd (omega arith)
laid-framed id (a ∷ []) h = absurd (omega arith)
laid-framed id (a ∷ b ∷ f) h = refl

-- a frame with an id laid over it carries that id
pub laid_id : (id : ℕ) (f : List ℕ) → id < ids → id_of (laid id f) ≡ id
laid_id id f h = omega arith

-- a number put at byte 0 is an id laid over
pub put_laid : (id : ℕ) (f : List ℕ) → 2 ≤ length f → put_at f 0 id ≡ laid id f
put_laid id [] h = absurd (omega arith)
put_laid id (a ∷ []) h = absurd (omega arith)
put_laid id (a ∷ b ∷ f) h = refl
