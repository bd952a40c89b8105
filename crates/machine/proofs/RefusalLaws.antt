-- Document 01's table of refusals in plain words: a call says n exactly if row n applies and no lower row does; and a refusal changes nothing.
-- Assumes nothing.
use Prim.Native.Nat.{ℕ, ◌+◌, ◌≤◌, ◌<◌}
use mathlib.Core.Path.{◌≡◌, refl, ap, sym, ◌∙◌}
use mathlib.Core.Logic.{⊎_elim, ◌⊎◌, inl, inr, ◌↔◌}
use mathlib.Core.Bool.{Bool, true, false, not, ◌||◌, false≢true}
use mathlib.Core.Option.{Option, some, none, none-ne-some}
use mathlib.Core.List.{List, [], ◌∷◌}
use native.Mathlib.Omega.{arith}
use lib.ListN.{length}
use lib.Dec.{eqb, ltb, leb}
use borrow.Author.Tests.{eq-eqb, ne_eqb, lt-ltb, ltb-true, le-leb, leb-true, eqb-true, eqb-false, not-true}
use Rattle.numbers.specs.Numbers.{clients, latest_time, least_frame, most_frame, uncounted, frame_buffer, list_buffer, last_function}
use Rattle.laws.specs.Bits.{has}
use Rattle.laws.proofs.Choice.{true_or, lt_or}
use Rattle.wire.specs.Frame.{misframed, function_of, id_of, protocol_of, length_of}
use Rattle.pdu.specs.Requests.{class_of, bad_function, bad_length}
use Rattle.pdu.specs.Replies.{answering}
use Rattle.pdu.specs.declared.What.{What}
use Rattle.pdu.specs.Plain.{Sized}
use Rattle.pdu.proofs.RequestLaws.{sized}
use Rattle.pdu.proofs.ReplyLaws.{answers_exact}
use Rattle.book.specs.Book.{Live, Good, at}
use Rattle.book.specs.Desk.{id_place}
use Rattle.book.proofs.PlaceLaws.{at_low}
use Rattle.book.proofs.DeskLaws.{id_found, id_is}
use Rattle.machine.specs.Machine.{Machine, Note, rules}
use Rattle.machine.specs.Calls.{Call, done, out_of, list_of}
use Rattle.machine.specs.Calls.Call.{attach, detach, request, reply, tick, link_lost}
use Rattle.machine.specs.Refusals.{Row, row, rows, lowest, refusal, entry_for, is_dead, is_mismatched}
use Rattle.machine.specs.Outcomes.{outcome}
use Rattle.machine.specs.declared.Answer.TheVariants.{Refused}
use Rattle.machine.specs.RefusalTable.{Plain, says, Misframed, Untimely, Stranger, NotLive, NoAnswer, table, Applies}

-- the tests of rows decide what the plain rows say, and the numbers ascend from above n
data Decides : ℕ → List Row → List Plain → Type 1 where
  end : {n : ℕ} → Decides n [] []
  next : {n k : ℕ} {t : Bool} {p : Type 0} {rs : List Row} {ps : List Plain} → n < k → (t ≡ true → p) → (p → t ≡ true) → Decides k rs ps → Decides n (row k t ∷ rs) (says k p ∷ ps)

-- what applies has a number above
above : {n : ℕ} {rs : List Row} {ps : List Plain} → Decides n rs ps → (k : ℕ) → Applies ps k → n < k
unfolding Applies
above end k a = absurd a
above (next l f g d) k a = ⊎_elim (λ w. omega (arith, w.0)) (λ w. let z = above d k w in omega arith) a

-- the lowest number is above, if it is not 0
lowest_above : {n : ℕ} {rs : List Row} {ps : List Plain} → Decides n rs ps → (lowest rs ≡ 0 → ⊥) → n < lowest rs
unfolding lowest
lowest_above end h = absurd (h refl)
lowest_above (next {t = true} l f g d) h = l
lowest_above (next {t = false} l f g d) h = let z = lowest_above d h in omega arith

-- the lowest number applies, and is the lowest that does
lowest_right : {n : ℕ} {rs : List Row} {ps : List Plain} → Decides n rs ps → (lowest rs ≡ 0 → ⊥) → Applies ps (lowest rs)
unfolding lowest Applies
lowest_right end h = absurd (h refl)
lowest_right (next {t = true} l f g d) h = inl (refl, f refl)
lowest_right (next {t = false} l f g d) h = inr (lowest_right d h)

lowest-least : {n : ℕ} {rs : List Row} {ps : List Plain} → Decides n rs ps → (k : ℕ) → Applies ps k → (lowest rs ≤ k) × (lowest rs ≡ 0 → ⊥)
unfolding lowest Applies
lowest-least end k a = absurd a
lowest-least (next {t = true} l f g d) k a =
    ⊎_elim (λ w. (omega (arith, w.0), λ z. omega arith)) (λ w. let y = above d k w in (omega arith, λ z. omega arith)) a
lowest-least (next {t = false} l f g d) k a = ⊎_elim (λ w. absurd (false≢true (g w.1))) (λ w. lowest-least d k w) a

either : (s t : Bool) (p q : Type 0) → (s ≡ true → p) → (t ≡ true → q) → (s || t) ≡ true → p ⊎ q
either true t p q f g e = inl (f refl)
either false t p q f g e = inr (g e)

one_of : (s t : Bool) (p q : Type 0) → (p → s ≡ true) → (q → t ≡ true) → p ⊎ q → (s || t) ≡ true
one_of s t p q f g w = ⊎_elim (λ x. rw (f x)) (λ x. go s (g x)) w
  where
    go : (s : Bool) → t ≡ true → (s || t) ≡ true
    go true e = refl
    go false e = e

differs : (a b : ℕ) → not (eqb a b) ≡ true → a ≡ b → ⊥
differs a b e = eqb-false a b (not-true (eqb a b) e)

differ_test : (a b : ℕ) → (a ≡ b → ⊥) → not (eqb a b) ≡ true
differ_test a b h = rw (ne_eqb a b h)

misframed-says : (f : List ℕ) → misframed f ≡ true → Misframed f
unfolding misframed
misframed-says f e =
    either _ _ _ _ (ltb-true (length f) least_frame)
    (either _ _ _ _ (ltb-true most_frame (length f)) (either _ _ _ _ (differs (protocol_of f) 0) (differs (length_of f + uncounted) (length f)))) e

says-misframed : (f : List ℕ) → Misframed f → misframed f ≡ true
unfolding misframed
says-misframed f w =
    one_of _ _ _ _ (lt-ltb (length f) least_frame)
    (one_of _ _ _ _ (lt-ltb most_frame (length f)) (one_of _ _ _ _ (differ_test (protocol_of f) 0) (differ_test (length_of f + uncounted) (length f)))) w

above_says : (c : ℕ) → leb clients c ≡ true → clients ≤ c
above_says c e = leb-true clients c e

says_above : (c : ℕ) → clients ≤ c → leb clients c ≡ true
says_above c h = le-leb clients c h

module _ (m : Machine) where
  stranger_says : (c : ℕ) → (leb clients c || not (has m.attached c)) ≡ true → Stranger m c
  stranger_says c e = either _ _ _ _ (above_says c) (not-true (has m.attached c)) e

  says_stranger : (c : ℕ) → Stranger m c → (leb clients c || not (has m.attached c)) ≡ true
  says_stranger c w = one_of _ _ _ _ (says_above c) (λ z. rw z) w

  untimely_says : (t : ℕ) → (ltb latest_time t || ltb t m.book.clock) ≡ true → Untimely m t
  untimely_says t e = either _ _ _ _ (ltb-true latest_time t) (ltb-true t m.book.clock) e

  says_untimely : (t : ℕ) → Untimely m t → (ltb latest_time t || ltb t m.book.clock) ≡ true
  says_untimely t w = one_of _ _ _ _ (lt-ltb latest_time t) (lt-ltb t m.book.clock) w

  short_says : (o l : List ℕ) → (ltb (length o) frame_buffer || ltb (length l) list_buffer) ≡ true → (length o < frame_buffer) ⊎ (length l < list_buffer)
  short_says o l e = either _ _ _ _ (ltb-true (length o) frame_buffer) (ltb-true (length l) list_buffer) e

  says_short : (o l : List ℕ) → (length o < frame_buffer) ⊎ (length l < list_buffer) → (ltb (length o) frame_buffer || ltb (length l) list_buffer) ≡ true
  says_short o l w = one_of _ _ _ _ (lt-ltb (length o) frame_buffer) (lt-ltb (length l) list_buffer) w

-- refusal 6 in plain words: the size is not right
missized_says : (f : List ℕ) → bad_length (class_of (function_of f)) f ≡ true → Sized (class_of (function_of f)) f → ⊥
missized_says f e z = false≢true (sym ((sized (class_of (function_of f)) f).1 z) ∙ e)

says_missized : (f : List ℕ) → (Sized (class_of (function_of f)) f → ⊥) → bad_length (class_of (function_of f)) f ≡ true
says_missized f h =
    ⊎_elim (λ e. e) (λ (e : bad_length (class_of (function_of f)) f ≡ false). absurd (h ((sized (class_of (function_of f)) f).0 e))) (true_or (bad_length (class_of (function_of f)) f))

-- what the tests say of what the search found, and back
dead_none : (o : Option (Live What Note)) → is_dead o ≡ true → o ≡ none
dead_none none e = refl
dead_none (some x) e = absurd (false≢true e)

alive_some : (o : Option (Live What Note)) → is_dead o ≡ false → (e : Live What Note) × (o ≡ some e)
alive_some none e = absurd (false≢true (sym e))
alive_some (some x) e = (x, refl)

mismatched_some : (f : List ℕ) (o : Option (Live What Note)) → is_mismatched f o ≡ true → (e : Live What Note) × (o ≡ some e) × (answering e.what f ≡ false)
mismatched_some f none e = absurd (false≢true e)
mismatched_some f (some x) e = (x, refl, not-true (answering x.what f) e)

module _ (m : Machine) (g : Good rules m.book) (f : List ℕ) where
  -- an entry that the search found has the reply's id
  found_id : (e : Live What Note) → entry_for m f ≡ some e → (x : Live What Note) × (entry_for m f ≡ some x) × (x.id ≡ id_of f)
  found_id e h = id_found rules m.book g (id_of f) (rw g.long at (at_low m.book.places (id_place rules m.book (id_of f)) e h))

  dead_says : is_dead (entry_for m f) ≡ true → NotLive m f
  dead_says t k e h q =
      none-ne-some e (sym (dead_none (entry_for m f) t) ∙ ap (λ (i : ℕ). at m.book i) (id_is rules m.book g (id_of f) k e h q) ∙ h)

  says_dead : NotLive m f → is_dead (entry_for m f) ≡ true
  says_dead n =
      ⊎_elim (λ t. t)
      (λ (t : is_dead (entry_for m f) ≡ false). let e = alive_some (entry_for m f) t in let w = found_id e.0 e.1 in absurd (n (id_place rules m.book (id_of f)) w.0 w.1 w.2))
      (true_or (is_dead (entry_for m f)))

  mismatched_says : is_mismatched f (entry_for m f) ≡ true → NoAnswer m f
  mismatched_says t =
      let e = mismatched_some f (entry_for m f) t in
      let w = found_id e.0 e.1 in
      let n : not (answering w.0.what f) ≡ true = sym (ap (is_mismatched f) w.1) ∙ t in
      (id_place rules m.book (id_of f), w.0, w.1, w.2, λ z. false≢true (sym (not-true (answering w.0.what f) n) ∙ (answers_exact w.0.what f).1 z))

  says_mismatched : NoAnswer m f → is_mismatched f (entry_for m f) ≡ true
  says_mismatched w =
      let e = w.1 in
      ap (λ (i : ℕ). is_mismatched f (at m.book i)) (id_is rules m.book g (id_of f) w.0 e w.2 w.3)
      ∙ ap (is_mismatched f) w.2
      ∙ ⊎_elim (λ (t : answering e.what f ≡ true). absurd (w.4 ((answers_exact e.what f).0 t))) (λ (t : answering e.what f ≡ false). rw t refl) (true_or (answering e.what f))

bad_function_says : (n : ℕ) → bad_function n ≡ true → (n ≡ 0) ⊎ (last_function < n)
unfolding bad_function
bad_function_says n e = either _ _ _ _ (eqb-true n 0) (ltb-true last_function n) e

says_bad_function : (n : ℕ) → (n ≡ 0) ⊎ (last_function < n) → bad_function n ≡ true
unfolding bad_function
says_bad_function n w = one_of _ _ _ _ (eq-eqb n 0) (lt-ltb last_function n) w

decided : (m : Machine) → Good rules m.book → (x : Call) → Decides 0 (rows m x) (table m x)
unfolding rows
decided m g (attach c) =
    next {n = 0} {k = 2} (omega arith) (above_says c) (says_above c) (next {n = 2} {k = 9} (omega arith) (λ e. e) (λ e. e) end)
decided m g (detach c) = next {n = 0} {k = 2} (omega arith) (stranger_says m c) (says_stranger m c) end
decided m g (request c t f o) =
    next {n = 0} {k = 1} (omega arith) (ltb-true (length o) frame_buffer) (lt-ltb (length o) frame_buffer)
    (next {n = 1} {k = 2} (omega arith) (stranger_says m c) (says_stranger m c)
    (next {n = 2} {k = 3} (omega arith) (untimely_says m t) (says_untimely m t)
    (next {n = 3} {k = 4} (omega arith) (misframed-says f) (says-misframed f)
    (next {n = 4} {k = 5} (omega arith) (bad_function_says (function_of f)) (says_bad_function (function_of f))
    (next {n = 5} {k = 6} (omega arith) (missized_says f) (says_missized f) end)))))
decided m g (reply t f o l) =
    next {n = 0} {k = 1} (omega arith) (short_says m o l) (says_short m o l)
    (next {n = 1} {k = 3} (omega arith) (untimely_says m t) (says_untimely m t)
    (next {n = 3} {k = 4} (omega arith) (misframed-says f) (says-misframed f)
    (next {n = 4} {k = 7} (omega arith) (dead_says m g f) (says_dead m g f)
    (next {n = 7} {k = 8} (omega arith) (mismatched_says m g f) (says_mismatched m g f) end))))
decided m g (tick t o l) =
    next {n = 0} {k = 1} (omega arith) (short_says m o l) (says_short m o l) (next {n = 1} {k = 3} (omega arith) (untimely_says m t) (says_untimely m t) end)
decided m g link_lost = end

-- A call is refused with the number n exactly if row n of document 01's table applies to it and no lower row does.
pub refused_exactly : (m : Machine) → Good rules m.book → (x : Call) (n : ℕ) → (n ≡ 0 → ⊥) → (refusal m x ≡ n) ↔ (Applies (table m x) n × ((k : ℕ) → k < n → Applies (table m x) k → ⊥))
refused_exactly m g x n h = (
  λ e. (rw e at (lowest_right (decided m g x) (λ z. h (sym e ∙ z))), λ k l a. let y = (lowest-least (decided m g x) k a).0 in omega arith),
  λ w.
      let y = lowest-least (decided m g x) n w.0 in
      ⊎_elim
      (λ (l : refusal m x < n). absurd (w.1 (refusal m x) l (lowest_right (decided m g x) y.1)))
      (λ (l : n ≤ refusal m x). let z = y.0 in omega arith)
      (lt_or (refusal m x) n),
)

-- A refusal changes nothing and writes nothing: the machine, the clock with it, and both buffers are as they came.
pub refusal_changes_nothing : (m : Machine) (x : Call) → (refusal m x ≡ 0 → ⊥) → outcome m x ≡ done (Refused (refusal m x)) m (out_of x) (list_of x)
unfolding outcome
refusal_changes_nothing m x h = rw (ne_eqb (refusal m x) 0 h)
