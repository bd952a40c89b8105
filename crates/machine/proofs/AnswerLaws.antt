-- What a reply's parties and a tick's parties get, and when nothing is due.
-- Assumes nothing.
use Prim.Native.Nat.{ℕ, ◌<◌}
use mathlib.Core.Path.{◌≡◌, refl, ap, sym, subst, ◌∙◌}
use mathlib.Core.Logic.{⊎_elim, ◌⊎◌, inl, inr}
use mathlib.Core.Bool.{true, false}
use mathlib.Core.Option.{Option, some, none}
use mathlib.Core.List.{List}
use native.Mathlib.Omega.{arith}
use lib.ListN.{length, get_or, set}
use lib.Seq.{get_or-set_same}
use borrow.Author.Tests.{not-false}
use Rattle.numbers.specs.Numbers.{places, no_response}
use Rattle.laws.specs.Bytes.{over}
use Rattle.laws.proofs.Choice.{eq_or, lt_or}
use Rattle.wire.specs.Frame.{misframed, id_of, laid, exception}
use Rattle.settings.specs.Grammar.{Tag}
use Rattle.pdu.specs.Replies.{answering, excepts}
use Rattle.pdu.specs.declared.What.{What}
use Rattle.pdu.proofs.ReplyLaws.{answering-room}
use Rattle.rewrite.specs.declared.Way.TheVariants.{ToBinary}
use Rattle.rewrite.specs.Rewriting.{Rewritten}
use Rattle.rewrite.specs.Frames.{returned}
use Rattle.rewrite.specs.Plain.{Brings, Rewrites}
use Rattle.rewrite.proofs.FrameLaws.{returned_brings}
use Rattle.rewrite.proofs.RoomLaws.{brings_ends}
use Rattle.rewrite.proofs.TurnedLaws.{stands_rewritten}
use Rattle.book.specs.Book.{Live, Good, NothingDue, at}
use Rattle.book.specs.Book.Move.{pass}
use Rattle.book.specs.Desk.{due_place, id_place}
use Rattle.book.proofs.GoodLaws.{good_move}
use Rattle.book.proofs.DeskLaws.{due_found, due_none, id_found}
use Rattle.book.proofs.PlaceLaws.{at_low}
use Rattle.machine.specs.Machine.{Machine, Note, Live_book, rules, settings, clocked}
use Rattle.machine.specs.Calls.{Outcome, done}
use Rattle.machine.specs.Calls.Call.{reply, tick}
use Rattle.machine.specs.Refusals.{rows, refusal, entry_for, is_mismatched}
use Rattle.machine.specs.Replies.{pairs, answered_to, answered, expired_to, ticked}
use Rattle.machine.specs.Outcomes.{granted, outcome}
use Rattle.machine.specs.declared.Answer.TheVariants as answer
use Rattle.machine.specs.Answered.{Answers, Expires, showing}
use Rattle.machine.proofs.RefusalLaws.{refusal_changes_nothing}
use Rattle.machine.proofs.LowestLaws.{none-applies}
use Rattle.machine.proofs.OutcomeLaws.{granted_is, reply_finds, clocked-at}
use Rattle.machine.proofs.Follows.{same-entry}

-- a reply that is not refused answers the entry that it finds
matched : (f : List ℕ) (q : Option (Live What Note)) (e : Live What Note) → is_mismatched f q ≡ false → q ≡ some e → answering e.what f ≡ true
matched f q e n h = not-false (answering e.what f) (sym (ap (is_mismatched f) h) ∙ n)

-- A reply that is not refused is a frame, and answers the entry under its id.
pub reply_framed : (m : Machine) (t : ℕ) (f o l : List ℕ) → refusal m (reply t f o l) ≡ 0 → misframed f ≡ false
unfolding rows
reply_framed m t f o l h =
    let a = none-applies _ 1 _ (λ z. omega arith) h in
    let b = none-applies _ 3 _ (λ z. omega arith) a.1 in
    (none-applies (misframed f) 4 _ (λ z. omega arith) b.1).0

pub reply_matches : (m : Machine) (t : ℕ) (f o l : List ℕ) → refusal m (reply t f o l) ≡ 0 → (e : Live What Note) → entry_for m f ≡ some e → answering e.what f ≡ true
unfolding rows
reply_matches m t f o l h e there =
    let a = none-applies _ 1 _ (λ z. omega arith) h in
    let b = none-applies _ 3 _ (λ z. omega arith) a.1 in
    let c = none-applies _ 4 _ (λ z. omega arith) b.1 in
    let d = none-applies _ 7 _ (λ z. omega arith) c.1 in
    matched f (entry_for m f) e (none-applies (is_mismatched f (entry_for m f)) 8 _ (λ z. omega arith) d.1).0 there

answered-frame : (m : Machine) (k : ℕ) (f o l : List ℕ) (e : Live What Note)
    → ((answered_to m k f o l (some e)).written ≡ over (laid 0 (returned (settings m).tags e.what f).bytes) o) × ((answered_to m k f o l (some e)).listed ≡ over (pairs e.parties) l)
    × ((answered_to m k f o l (some e)).after.book.places ≡ set m.book.places k none)
    × ((answered_to m k f o l (some e)).says
    ≡ answer.Answered (record { 0 = e.id }) (length f) (length e.parties) (returned (settings m).tags e.what f).partial (returned (settings m).tags e.what f).value)
unfolding answered_to
answered-frame m k f o l e = (refl, refl, refl, refl)

-- the registers that a reply brings, in the frame that is handed on
brought_rewritten : (tags : List Tag) (w : What) (f o : List ℕ) → answering w f ≡ true → (s q : ℕ) → Brings w.asked s q → excepts w.function f ≡ false
    → Rewrites ToBinary tags f (over (laid 0 (returned tags w f).bytes) o) (returned tags w f).partial (returned tags w f).value 9 s q
brought_rewritten tags w f o a s q b x =
    subst (λ (y : Rewritten). Rewrites ToBinary tags f (over (laid 0 y.bytes) o) y.partial y.value 9 s q) (sym (returned_brings tags f w b x))
    (stands_rewritten ToBinary 9 s q tags f 0 o (omega arith) (brings_ends f b (answering-room w f a x)))

-- a place that was emptied holds nothing
emptied : (ps : List (Option (Live What Note))) (k : ℕ) (e : Live What Note) → get_or ps k none ≡ some e → get_or (set ps k none) k none ≡ none
emptied ps k e h = get_or-set_same ps k none none (at_low ps k e h)

-- A reply that is not refused hands the parties of its own entry the definition's rewriting of that reply, which answers what the entry holds.
pub reply_answers : (m : Machine) (t : ℕ) (f o l : List ℕ) → Good rules m.book → refusal m (reply t f o l) ≡ 0 → Answers m f o l (outcome m (reply t f o l))
unfolding granted answered
reply_answers m t f o l g h =
    let e = reply_finds m t f o l h in
    let k = id_place rules m.book (id_of f) in
    let q : outcome m (reply t f o l) ≡ answered_to (clocked m t) k f o l (some e.0) = granted_is m (reply t f o l) h ∙ ap (answered_to (clocked m t) k f o l) e.1 in
    let w = id_found rules m.book g (id_of f) (rw g.long at (at_low m.book.places k e.0 e.1)) in
    let matches = reply_matches m t f o l h e.0 e.1 in
    let frame = ap (λ (y : Outcome). y.written) q ∙ (answered-frame (clocked m t) k f o l e.0).0 in
    record {
      place = k;
      entry = e.0;
      there = e.1;
      same = ap (λ (y : Live What Note). y.id) (same-entry (sym e.1 ∙ w.1)) ∙ w.2;
      matches = matches;
      gone = ap (λ (y : Outcome). at y.after.book k) q ∙ ap (λ ps. get_or ps k none) (answered-frame (clocked m t) k f o l e.0).2 ∙ emptied m.book.places k e.0 e.1;
      says = ap (λ (y : Outcome). y.says) q ∙ (answered-frame (clocked m t) k f o l e.0).3;
      frame = frame;
      rewritten = λ s n y z. rw frame (brought_rewritten (settings m).tags e.0.what f o matches s n y z);
      list = ap (λ (y : Outcome). y.listed) q ∙ (answered-frame (clocked m t) k f o l e.0).1;
    }

expired_says : (m : Machine) (k : ℕ) (o l : List ℕ) (e : Live What Note) → ((expired_to m k o l (some e)).says ≡ answer.NothingDue → ⊥)
    × ((expired_to m k o l (some e)).written ≡ over (exception 0 e.what.unit e.what.function no_response) o) × ((expired_to m k o l (some e)).listed ≡ over (pairs e.parties) l)
    × ((expired_to m k o l (some e)).after.book.places ≡ set m.book.places k none) × ((expired_to m k o l (some e)).says ≡ answer.TimedOut (record { 0 = e.id }) (length e.parties))
unfolding expired_to
expired_says m k o l e = (λ z. let n : ◌≡◌ {A = ℕ} 0 1 = cc in omega arith, refl, refl, refl, refl)

-- the tick's search, once the clock is set
pub ticked_is : (m : Machine) (t : ℕ) (o l : List ℕ) → refusal m (tick t o l) ≡ 0
    → outcome m (tick t o l) ≡ expired_to (clocked m t) (due_place rules (clocked m t).book) o l (at (clocked m t).book (due_place rules (clocked m t).book))
unfolding granted ticked
ticked_is m t o l h = granted_is m (tick t o l) h

spot : (b : Live_book) (k : ℕ) → ((e : Live What Note) × (at b k ≡ some e)) ⊎ (at b k ≡ none)
spot b k = go (at b k) refl
  where
    go : (q : Option (Live What Note)) → at b k ≡ q → ((e : Live What Note) × (at b k ≡ some e)) ⊎ (at b k ≡ none)
    go none h = inr h
    go (some e) h = inl (e, h)

nothing_there : (b : Live_book) → Good rules b → at b (due_place rules b) ≡ none → NothingDue b
nothing_there b g n =
    due_none rules b g (⊎_elim
    (λ (l : due_place rules b < places). let w = due_found rules b g l in absurd (let z : ◌≡◌ {A = ℕ} 0 1 = cc (w.1, n) in omega arith))
    (λ l. l)
    (lt_or (due_place rules b) places))

-- A tick that is not refused and does not say that nothing is due hands exception 0B to the parties of an entry whose deadline has come.
pub tick_expires : (m : Machine) (t : ℕ) (o l : List ℕ) → Good rules m.book → refusal m (tick t o l) ≡ 0 → ((outcome m (tick t o l)).says ≡ answer.NothingDue → ⊥) → Expires m t o l (outcome m (tick t o l))
unfolding expired_to
tick_expires m t o l g h n =
    let b = (clocked m t).book in
    let gb = good_move rules m.book (pass t) g tt in
    let k = due_place rules b in
    ⊎_elim
    (λ (e : (e : Live What Note) × (at b k ≡ some e)).
    let q : outcome m (tick t o l) ≡ expired_to (clocked m t) k o l (some e.0) = ticked_is m t o l h ∙ ap (expired_to (clocked m t) k o l) e.1 in
    let w = due_found rules b gb (rw gb.long at (at_low b.places k e.0 e.1)) in
    record {
      place = k;
      entry = e.0;
      there = e.1;
      due = rw (same-entry (sym w.1 ∙ e.1), clocked-at m (tick t o l) t h refl) at w.2;
      earliest = rw (same-entry (sym w.1 ∙ e.1), clocked-at m (tick t o l) t h refl) at w.3;
      gone = ap (λ (y : Outcome). at y.after.book k) q ∙ ap (λ ps. get_or ps k none) (expired_says (clocked m t) k o l e.0).3 ∙ emptied b.places k e.0 e.1;
      says = ap (λ (y : Outcome). y.says) q ∙ (expired_says (clocked m t) k o l e.0).4;
      frame = ap (λ (y : Outcome). y.written) q ∙ (expired_says (clocked m t) k o l e.0).1;
      list = ap (λ (y : Outcome). y.listed) q ∙ (expired_says (clocked m t) k o l e.0).2;
    })
    (λ (e : at b k ≡ none). absurd (n (ap (λ (y : Outcome). y.says) (ticked_is m t o l h ∙ ap (expired_to (clocked m t) k o l) e))))
    (spot b k)

-- WHERE NOTHING IS DUE

-- no live entry of m is due at t
abbrev pub NoneDue : Machine → ℕ → Type 0
NoneDue m t = (k : ℕ) (e : Live What Note) → at m.book k ≡ some e → t < e.deadline

nothing-found : (b : Live_book) → Good rules b → NothingDue b → at b (due_place rules b) ≡ none
nothing-found b g n =
    ⊎_elim
    (λ (e : (e : Live What Note) × (at b (due_place rules b) ≡ some e)).
    let w = due_found rules b g (rw g.long at (at_low b.places (due_place rules b) e.0 e.1)) in
    absurd (let y = n (due_place rules b) w.0 w.1 in let z = w.2 in omega arith))
    (λ e. e)
    (spot b (due_place rules b))

-- A tick that is not refused and finds nothing due once the clock is set: that is said, the clock is at its time, and buffer and list are as they came.
pub idle_found : (m : Machine) (t : ℕ) (o l : List ℕ) → refusal m (tick t o l) ≡ 0 → Good rules (clocked m t).book → NothingDue (clocked m t).book
    → outcome m (tick t o l) ≡ done answer.NothingDue (showing m t) o l
unfolding expired_to
idle_found m t o l h g n =
    let k = due_place rules (clocked m t).book in
    ticked_is m t o l h ∙ ap (expired_to (clocked m t) k o l) (nothing-found (clocked m t).book g n)
    ∙ ap (λ (c : ℕ). done answer.NothingDue (showing m c) o l) (clocked-at m (tick t o l) t h refl)

-- So it is of a tick that is not refused and at whose time no live entry is due.
pub idle_is : (m : Machine) (t : ℕ) (o l : List ℕ) → Good rules m.book → refusal m (tick t o l) ≡ 0 → NoneDue m t → outcome m (tick t o l) ≡ done answer.NothingDue (showing m t) o l
idle_is m t o l g h n = idle_found m t o l h (good_move rules m.book (pass t) g tt) (rw (clocked-at m (tick t o l) t h refl) n)

-- A tick says that nothing is due only where that is so, and it is not refused.
pub idle_when : (m : Machine) (t : ℕ) (o l : List ℕ) → Good rules m.book → (outcome m (tick t o l)).says ≡ answer.NothingDue → (refusal m (tick t o l) ≡ 0) × NoneDue m t
idle_when m t o l g s =
    let b = (clocked m t).book in
    let k = due_place rules b in
    ⊎_elim
    (λ (h : refusal m (tick t o l) ≡ 0). ⊎_elim
    (λ (e : (e : Live What Note) × (at b k ≡ some e)).
    absurd ((expired_says (clocked m t) k o l e.0).0 (sym (ap (λ (y : Outcome). y.says) (ticked_is m t o l h ∙ ap (expired_to (clocked m t) k o l) e.1)) ∙ s)))
    (λ (e : at b k ≡ none). (h, rw (clocked-at m (tick t o l) t h refl) at (nothing_there b (good_move rules m.book (pass t) g tt) e)))
    (spot b k))
    (λ (h : refusal m (tick t o l) ≡ 0 → ⊥).
    absurd (let z : ◌≡◌ {A = ℕ} 0 1 = cc (sym (ap (λ (y : Outcome). y.says) (refusal_changes_nothing m (tick t o l) h)) ∙ s) in omega arith))
    (eq_or (refusal m (tick t o l)) 0)
