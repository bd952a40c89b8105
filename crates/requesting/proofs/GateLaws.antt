-- The refusals of a request: from the gate's tests and the outcome of the check to the refusal of the call, and what is known of a request that has none.
-- Assumes nothing.
use Prim.Native.Nat.{ℕ, zero, suc, ◌≤◌, ◌<◌}
use mathlib.Core.Path.{◌≡◌, refl, sym, ◌∙◌}
use mathlib.Core.Bool.{true, false, not}
use mathlib.Core.List.{List, [], ◌∷◌}
use native.Mathlib.Omega.{arith}
use lib.ListN.{length, get_or, take}
use lib.Seq.{get_or-take}
use lib.Dec.{ltb, leb}
use borrow.Author.Tests.{ne_eqb, leb-false, ltb-false, lt-ltb, le-ltb}
use Rattle.numbers.specs.Numbers.{clients, latest_time, least_frame, most_frame, frame_buffer}
use Rattle.laws.specs.Bits.{has}
use Rattle.laws.proofs.Choice.{or_left, or_right}
use Rattle.wire.specs.Frame.{misframed, function_of}
use Rattle.settings.specs.Grammar.{Tag}
use Rattle.settings.specs.TagWords.{strict_mark, some_strict}
use Rattle.pdu.specs.Requests.{class_of, bad_function, bad_length}
use Rattle.pdu.specs.declared.Asked.{Asked}
use Rattle.rewrite.specs.Legal.{checked_under}
use Rattle.rewrite.specs.inner.Lent.{tags_of}
use Rattle.rewrite.proofs.CheckLaws.{under_tests}
use Rattle.machine.specs.declared.Refusal.{Refusal}
use Rattle.machine.specs.declared.Refusal.TheVariants.{Buffer, Client, Time, Frame, Function, Length, Unknown, Mismatch, Attached, Settings}
use Rattle.machine.specs.RefusalNumbers.{number_of}
use Rattle.machine.specs.Machine.{Machine}
use Rattle.machine.specs.Calls.Call.{request}
use Rattle.machine.specs.Refusals.{row, rows, lowest, refusal, short_frame, is_strange_to, is_stranger, is_untimely_at, is_untimely}
use Rattle.machine.proofs.LowestLaws.{applies, passes, none_left, none-applies, split-none, split_more}
use Rattle.proxy.specs.Gates.{request_gate}
use Rattle.requesting.specs.inner.Parts.{Admitted}
use Rattle.pdu.specs.declared.Fault.TheVariants.{BadFunction, BadLength}
use Rattle.std.specs.Prelude.{Ok, Err}

module _ (out client attached time clock : ℕ) (f : List ℕ) where
  -- The gate's tests in their order, each behind those before it.
  pub gate_short : out < frame_buffer → 1 ≡ request_gate out client attached time clock f
  unfolding request_gate
  gate_short h = applies 1 _ (lt-ltb out frame_buffer h)

  module _ (roomy : frame_buffer ≤ out) where
    pub gate_stranger : is_strange_to attached client ≡ true → 2 ≡ request_gate out client attached time clock f
    unfolding request_gate
    gate_stranger h = passes 1 _ (le-ltb out frame_buffer roomy) (applies 2 _ h)

    module _ (known : is_strange_to attached client ≡ false) where
      past_client : {n : ℕ} → n ≡ lowest (row 3 (is_untimely_at clock time) ∷ row 4 (misframed f) ∷ []) → n ≡ request_gate out client attached time clock f
      unfolding request_gate
      past_client e = passes 1 _ (le-ltb out frame_buffer roomy) (passes 2 _ known e)

      pub gate_untimely : is_untimely_at clock time ≡ true → 3 ≡ request_gate out client attached time clock f
      gate_untimely h = past_client (applies 3 _ h)

      module _ (timely : is_untimely_at clock time ≡ false) where
        pub gate_misframed : misframed f ≡ true → 4 ≡ request_gate out client attached time clock f
        gate_misframed h = past_client (passes 3 _ timely (applies 4 _ h))

        pub gate_open : misframed f ≡ false → 0 ≡ request_gate out client attached time clock f
        gate_open h = past_client (passes 3 _ timely (passes 4 [] h none_left))

-- The number of what refuses is not 0.
pub number_not_0 : (r : Refusal) → number_of r ≡ 0 → ⊥
number_not_0 Buffer h = cc
number_not_0 Client h = cc
number_not_0 Time h = cc
number_not_0 Frame h = cc
number_not_0 Function h = cc
number_not_0 Length h = cc
number_not_0 Unknown h = cc
number_not_0 Mismatch h = cc
number_not_0 Attached h = cc
number_not_0 Settings h = cc

-- no refusal from 1 to 4 applies
pub record Open (m : Machine) (c t : ℕ) (f o : List ℕ) : Type 0 where
  pub roomy : short_frame o ≡ false
  pub known : is_stranger m c ≡ false
  pub timely : is_untimely m t ≡ false
  pub framed : misframed f ≡ false

module _ (m : Machine) (c t : ℕ) (f o : List ℕ) (n : ℕ) (e : n ≡ request_gate (length o) c m.attached t m.book.clock f) where
  -- A refusal of the gate is the call's.
  pub gate_refuses : (n ≡ 0 → ⊥) → refusal m (request c t f o) ≡ n
  unfolding request_gate rows
  gate_refuses h =
      split_more 1 _ _ (λ z. omega arith) (split_more 2 _ _ (λ z. omega arith) (split_more 3 _ _ (λ z. omega arith) (split_more 4 (misframed f) [] (λ z. omega arith) split-none)))
      (row 5 (bad_function (function_of f)) ∷ row 6 (bad_length (class_of (function_of f)) f) ∷ [])
      ∙ rw (← e) (rw (ne_eqb n 0 h))

  -- A gate that refuses nothing leaves only 5 and 6.
  pub gate_opens : n ≡ 0 → Open m c t f o
  unfolding request_gate
  gate_opens z =
      let a = none-applies (short_frame o) 1 _ (λ y. omega arith) (sym e ∙ z) in
      let b = none-applies (is_stranger m c) 2 _ (λ y. omega arith) a.1 in
      let d = none-applies (is_untimely m t) 3 _ (λ y. omega arith) b.1 in
      let g = none-applies (misframed f) 4 _ (λ y. omega arith) d.1 in
      record { roomy = a.0; known = b.0; timely = d.0; framed = g.0 }

module _ {m : Machine} {c t : ℕ} {f o : List ℕ} (p : Open m c t f o) where
  behind : (n : ℕ) → n ≡ lowest (row 5 (bad_function (function_of f)) ∷ row 6 (bad_length (class_of (function_of f)) f) ∷ []) → refusal m (request c t f o) ≡ n
  unfolding rows
  behind n e = sym (passes 1 _ p.roomy (passes 2 _ p.known (passes 3 _ p.timely (passes 4 _ p.framed e))))

  -- Behind the gate the check decides, under whatever tags: 5, 6, or no refusal.
  pub check_function : (tags : List Tag) → checked_under tags f ≡ Err BadFunction → refusal m (request c t f o) ≡ 5
  check_function tags e = behind 5 (applies 5 _ (under_tests tags f e))

  pub check_length : (tags : List Tag) → checked_under tags f ≡ Err BadLength → refusal m (request c t f o) ≡ 6
  check_length tags e = let w = under_tests tags f e in behind 6 (passes 5 _ w.0 (applies 6 _ w.1))

  pub check_passes : bad_function (function_of f) ≡ false → bad_length (class_of (function_of f)) f ≡ false → refusal m (request c t f o) ≡ 0
  check_passes a b = behind 0 (passes 5 _ a (passes 6 [] b none_left))

  -- The buffer takes every frame.
  pub has_room : frame_buffer ≤ length o
  has_room = ltb-false (length o) frame_buffer p.roomy

  -- The time is not below the clock.
  pub not-before : m.book.clock ≤ t
  not-before = ltb-false t m.book.clock (or_right (ltb latest_time t) (ltb t m.book.clock) p.timely)

  -- What the gate and the check have shown of a legal request.
  pub admits : (tags : List Tag) {a : Asked} → checked_under tags f ≡ Ok a → Admitted c t f o a
  unfolding misframed
  admits tags e =
      let w = p.framed in
      record {
        numbered = leb-false clients c (or_left (leb clients c) (not (has m.attached c)) p.known);
        timed = ltb-false latest_time t (or_left (ltb latest_time t) (ltb t m.book.clock) p.timely);
        roomy = has_room;
        least = ltb-false (length f) least_frame (or_left (ltb (length f) least_frame) _ w);
        most = ltb-false most_frame (length f) (or_left (ltb most_frame (length f)) _ (or_right (ltb (length f) least_frame) _ w));
        legal = (under_tests tags f e).3;
      }

-- Where no tag of the words that a state keeps is strict unless their first has the mark, so it is of those that count.
pub unmarked_front : (n : ℕ) (words : List ℕ) → (get_or words 0 0 < strict_mark → some_strict (tags_of n words) ≡ false) → get_or (take n words) 0 0 < strict_mark → some_strict (tags_of n words) ≡ false
unfolding some_strict
unmarked_front zero words h l = refl
unmarked_front (suc n) words h l = h (rw (get_or-take (suc n) words 0 0 (omega arith)) at l)
