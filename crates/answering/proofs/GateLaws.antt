-- The gates tell the lowest refusal of a call that needs no look at the table, and what is known of a call behind them.
-- Assumes nothing.
use Prim.Native.Nat.{ℕ, ◌≤◌}
use mathlib.Core.Path.{◌≡◌, refl, sym, ◌∙◌}
use mathlib.Core.Logic.{⊎_elim}
use mathlib.Core.Bool.{Bool, true, false, cond, ◌||◌}
use mathlib.Core.List.{List, [], ◌∷◌}
use native.Mathlib.Omega.{arith}
use lib.ListN.{length}
use lib.Dec.{eqb, ltb}
use borrow.Author.Tests.{eq-eqb, ne_eqb, eqb-true, eqb-false, ltb-false}
use Rattle.numbers.specs.Numbers.{latest_time, frame_buffer, list_buffer}
use Rattle.laws.proofs.Choice.{true_or, or_left, or_right, past}
use Rattle.wire.specs.Frame.{misframed}
use Rattle.wire.specs.Plain.{Framed}
use Rattle.wire.proofs.FrameLaws.{framed}
use Rattle.machine.specs.Machine.{Machine}
use Rattle.machine.specs.Calls.Call.{reply, tick}
use Rattle.machine.specs.Refusals.{Row, row, rows, lowest, refusal, is_untimely_at, is_dead, is_mismatched, entry_for}
use Rattle.machine.specs.RefusalNumbers.{number_of}
use Rattle.machine.specs.declared.Refusal.{Refusal}
use Rattle.machine.specs.declared.Refusal.TheVariants.{Buffer, Client, Time, Frame, Function, Length, Unknown, Mismatch, Attached, Settings}
use Rattle.machine.proofs.LowestLaws.{none-applies, Splits, split-none, split_more}
use Rattle.proxy.specs.Gates.{reply_gate, tick_gate}

-- A refusal has a number.
pub number-positive : (r : Refusal) → number_of r ≡ 0 → ⊥
number-positive Buffer e = omega arith
number-positive Client e = omega arith
number-positive Time e = omega arith
number-positive Frame e = omega arith
number-positive Function e = omega arith
number-positive Length e = omega arith
number-positive Unknown e = omega arith
number-positive Mismatch e = omega arith
number-positive Attached e = omega arith
number-positive Settings e = omega arith

-- the rows of a tick's gate
abbrev early : (out list time clock : ℕ) → List Row
early out list time clock = row 1 (ltb out frame_buffer || ltb list list_buffer) ∷ row 3 (is_untimely_at clock time) ∷ []

split_early : (out list time clock : ℕ) → Splits (early out list time clock)
split_early out list time clock = split_more 1 _ _ (λ z. omega arith) (split_more 3 _ [] (λ z. omega arith) split-none)

-- A tick's gate tells its refusal.
pub tick_gate_lem : (m : Machine) (t : ℕ) (o l : List ℕ) → tick_gate (length o) (length l) t m.book.clock ≡ refusal m (tick t o l)
unfolding tick_gate rows
tick_gate_lem m t o l = refl

module _ (out list time clock : ℕ) (f : List ℕ) (n : ℕ) (e : n ≡ tick_gate out list time clock) where
  -- a reply's gate is a tick's gate, and behind it refusal 4
  split : reply_gate out list time clock f ≡ cond (eqb n 0) (cond (misframed f) 4 0) n
  unfolding reply_gate tick_gate lowest
  split = split_early out list time clock (row 4 (misframed f) ∷ []) ∙ rw (← e)

  -- A reply's gate tells what a tick's gate tells, where that is no 0.
  pub gate_early : (n ≡ 0 → ⊥) → n ≡ reply_gate out list time clock f
  gate_early h = rw (split, ne_eqb n 0 h)

  -- Else it tells whether the frame is misframed.
  pub gate_late : (t : Bool) → n ≡ 0 → t ≡ misframed f → cond t 4 0 ≡ reply_gate out list time clock f
  gate_late t z q = rw (split, eq-eqb n 0 z, q)

module _ (m : Machine) (t : ℕ) (f o l : List ℕ) where
  reply_split : refusal m (reply t f o l)
      ≡ cond (eqb (reply_gate (length o) (length l) t m.book.clock f) 0) (lowest (row 7 (is_dead (entry_for m f)) ∷ row 8 (is_mismatched f (entry_for m f)) ∷ []))
      (reply_gate (length o) (length l) t m.book.clock f)
  unfolding reply_gate rows
  reply_split =
      split_more 1 _ _ (λ z. omega arith) (split_more 3 _ _ (λ z. omega arith) (split_more 4 _ [] (λ z. omega arith) split-none))
      (row 7 (is_dead (entry_for m f)) ∷ row 8 (is_mismatched f (entry_for m f)) ∷ [])

  -- A reply's gate tells its refusal, where it tells one.
  pub reply_gate_lem : (n : ℕ) → n ≡ reply_gate (length o) (length l) t m.book.clock f → (n ≡ 0 → ⊥) → refusal m (reply t f o l) ≡ n
  reply_gate_lem n e h = reply_split ∙ rw (← e) (rw (ne_eqb n 0 h))

  -- Behind it, the refusal is told by the entry under the reply's id.
  pub reply_behind : reply_gate (length o) (length l) t m.book.clock f ≡ 0
      → refusal m (reply t f o l) ≡ cond (is_dead (entry_for m f)) 7 (cond (is_mismatched f (entry_for m f)) 8 0)
  unfolding lowest
  reply_behind z = reply_split ∙ rw (eq-eqb _ 0 z)

-- what is known behind a gate: the buffers are long enough, and time does not go back
pub record Timely (out list time clock : ℕ) : Type 0 where
  pub frames : frame_buffer ≤ out
  pub pairs : list_buffer ≤ list
  pub later : clock ≤ time

-- A tick behind its gate.
pub tick_timely : (out list time clock : ℕ) → tick_gate out list time clock ≡ 0 → Timely out list time clock
unfolding tick_gate
tick_timely out list time clock z =
    let a = none-applies (ltb out frame_buffer || ltb list list_buffer) 1 _ (λ y. omega arith) z in
    let b = none-applies (is_untimely_at clock time) 3 _ (λ y. omega arith) a.1 in
    record {
      frames = ltb-false out frame_buffer (or_left (ltb out frame_buffer) (ltb list list_buffer) a.0);
      pairs = ltb-false list list_buffer (or_right (ltb out frame_buffer) (ltb list list_buffer) a.0);
      later = ltb-false time clock (or_right (ltb latest_time time) (ltb time clock) b.0);
    }

-- where the first of two numbers is told if it is not 0, and else the second, and 0 is told
both : (n q : ℕ) → cond (eqb n 0) q n ≡ 0 → (n ≡ 0) × (q ≡ 0)
both n q e =
    ⊎_elim
    (λ (t : eqb n 0 ≡ true). (eqb-true n 0 t, rw t at e))
    (λ (t : eqb n 0 ≡ false). absurd (eqb-false n 0 t (rw t at e)))
    (true_or (eqb n 0))

-- A reply behind its gate.
pub reply_timely : (out list time clock : ℕ) (f : List ℕ) → reply_gate out list time clock f ≡ 0 → Timely out list time clock × Framed f
reply_timely out list time clock f z =
    let b = both (tick_gate out list time clock) (cond (misframed f) 4 0) (sym (split out list time clock f _ refl) ∙ z) in
    (tick_timely out list time clock b.0, framed f (past (misframed f) 4 0 (λ y. omega arith) b.1).0)

-- Its frame is not refused.
pub reply_framed : (out list time clock : ℕ) (f : List ℕ) → reply_gate out list time clock f ≡ 0 → misframed f ≡ false
reply_framed out list time clock f z =
    (past (misframed f) 4 0 (λ y. omega arith) (both (tick_gate out list time clock) (cond (misframed f) 4 0) (sym (split out list time clock f _ refl) ∙ z)).1).0
