-- Where requests stand: an accepted one stands in the party places afterwards, a mismatched reply leaves its entry, a tick ends at most one, a client that left is nowhere.
-- Assumes nothing.
use Prim.Native.Nat.{ℕ}
use mathlib.Core.Path.{◌≡◌, refl, ap, sym, ◌∙◌}
use mathlib.Core.Logic.{⊎_elim, inl, inr}
use mathlib.Core.Bool.{not, true≢false}
use mathlib.Core.Option.{Option, some, none}
use mathlib.Core.List.{List, [], Memᴰ}
use native.Mathlib.Omega.{arith}
use lib.Seq.{get_or-set_same, get_or-set_other}
use borrow.Author.Tests.{not-true, eq-eqb}
use Rattle.laws.proofs.Choice.{eq_or}
use Rattle.laws.proofs.FilterLaws.{filter_in}
use Rattle.pdu.specs.declared.What.{What}
use Rattle.book.specs.Book.{Party, Live, Good, at, struck, is_of, without, apply}
use Rattle.book.specs.Book.Move.{pass, strike}
use Rattle.book.specs.Desk.{due_place}
use Rattle.book.proofs.GoodLaws.{good_move}
use Rattle.book.proofs.PlaceLaws.{at_low, map_cases}
use Rattle.book.proofs.DeskLaws.{due_found}
use Rattle.machine.specs.Machine.{Machine, Note, rules, clocked}
use Rattle.machine.specs.Calls.{Outcome, done, out_of, list_of}
use Rattle.machine.specs.Calls.Call.{detach, request, reply, tick}
use Rattle.machine.specs.Refusals.{refusal}
use Rattle.machine.specs.Spelled.{asker, asking}
use Rattle.machine.specs.Replies.{expired_to, ticked}
use Rattle.machine.specs.Outcomes.{granted, outcome}
use Rattle.machine.specs.declared.Answer.TheVariants as answer
use Rattle.machine.specs.Requested.{Hits, Issues, Joins, Excepts, Stands, Accepts}
use Rattle.machine.specs.Answered.{Ended}
use Rattle.machine.proofs.RefusalLaws.{refusal_changes_nothing}
use Rattle.machine.proofs.OutcomeLaws.{granted_is, clocked-at}
use Rattle.machine.proofs.Follows.{same-entry}
use Rattle.machine.proofs.AskLaws.{request_comes_to}
use Rattle.machine.proofs.CachedLaws.{Stocked}

-- A request that is joined or issued stands in the party places afterwards, as the latest party of a live entry that asks what it asks.
pub accepted_stands : (m : Machine) (c t : ℕ) (f o : List ℕ) → Good rules m.book → Stocked m.cache → (id : ℕ)
    → Accepts (outcome m (request c t f o)).says id → Stands (outcome m (request c t f o)).after.book id (asking f) (asker c f)
unfolding Accepts
accepted_stands m c t f o g s id a =
    ⊎_elim
    (λ (h : refusal m (request c t f o) ≡ 0). ⊎_elim
    (λ (x : Hits m c t f o (outcome m (request c t f o))). absurd (rw x.says at a))
    (⊎_elim
    (λ (x : Issues m c t f o (outcome m (request c t f o))).
    record { place = x.place; entry = _; before = []; there = x.entered; same = rw x.says at a; asks = refl; latest = refl })
    (⊎_elim
    (λ (x : Joins m c t f o (outcome m (request c t f o))).
    record { place = x.place; entry = _; before = x.entry.parties; there = x.added; same = rw x.says at a; asks = x.may.same; latest = refl })
    (λ (x : Excepts m t f o (outcome m (request c t f o))). absurd (rw x.says at a))))
    (request_comes_to m c t f o g s h))
    (λ (h : refusal m (request c t f o) ≡ 0 → ⊥). absurd (rw (ap (λ (d : Outcome). d.says) (refusal_changes_nothing m (request c t f o) h)) at a))
    (eq_or (refusal m (request c t f o)) 0)

-- A reply that does not answer its entry's request leaves the machine as it was, with that entry live.
pub mismatch_leaves : (m : Machine) (t : ℕ) (f o l : List ℕ) → refusal m (reply t f o l) ≡ 8 → outcome m (reply t f o l) ≡ done (answer.Refused 8) m o l
unfolding out_of list_of
mismatch_leaves m t f o l e = refusal_changes_nothing m (reply t f o l) (λ z. omega arith) ∙ ap (λ (n : ℕ). done (answer.Refused n) m o l) e

none-ended : (t : ℕ) (ps : List (Option (Live What Note))) → Ended t ps ps
none-ended t ps = record { place = 0; others = λ j n. refl; due = inl refl }

expired_ends : (m : Machine) (o l : List ℕ) (q : Option (Live What Note)) → Good rules m.book → at m.book (due_place rules m.book) ≡ q
    → Ended m.book.clock m.book.places (expired_to m (due_place rules m.book) o l q).after.book.places
unfolding expired_to
expired_ends m o l none g h = none-ended m.book.clock m.book.places
expired_ends m o l (some e) g h =
    let k = due_place rules m.book in
    let w = due_found rules m.book g (rw g.long at (at_low m.book.places k e h)) in
    record {
      place = k;
      others = λ j n. get_or-set_other m.book.places k j none none n;
      due = inr (e, h, rw (same-entry (sym w.1 ∙ h)) at w.2, get_or-set_same m.book.places k none none (at_low m.book.places k e h));
    }

ended_at : {u t : ℕ} {ps qs : List (Option (Live What Note))} → u ≡ t → Ended u ps qs → Ended t ps qs
ended_at h e = record { place = e.place; others = e.others; due = ⊎_elim inl (λ w. inr (w.0, w.1, rw h at w.2, w.3)) e.due }

-- A tick ends at most one entry: every other place is as it was, and an entry that it ends has its deadline at or before the tick's time.
pub tick_ends_one : (m : Machine) (t : ℕ) (o l : List ℕ) → Good rules m.book → Ended t m.book.places (outcome m (tick t o l)).after.book.places
unfolding granted ticked
tick_ends_one m t o l g =
    ⊎_elim
    (λ (h : refusal m (tick t o l) ≡ 0).
    rw (granted_is m (tick t o l) h)
    (ended_at (clocked-at m (tick t o l) t h refl) (expired_ends (clocked m t) o l (at (clocked m t).book (due_place rules (clocked m t).book)) (good_move rules m.book (pass t) g tt) refl)))
    (λ (h : refusal m (tick t o l) ≡ 0 → ⊥). rw (refusal_changes_nothing m (tick t o l) h) (none-ended t m.book.places))
    (eq_or (refusal m (tick t o l)) 0)

-- After a client has left, no party is of that client, and each entry's other parties stand in their order.
pub left_is_nowhere : (m : Machine) (c k : ℕ) (e : Live What Note) → refusal m (detach c) ≡ 0 → at (outcome m (detach c)).after.book k ≡ some e
    → (d : Live What Note) × (at m.book k ≡ some d) × (e.parties ≡ without (is_of c) d.parties) × ((p : Party) → Memᴰ p e.parties → p.client ≡ c → ⊥)
unfolding granted
left_is_nowhere m c k e h a =
    let b : at (apply rules m.book (strike c)) k ≡ some e = sym (ap (λ (d : Outcome). at d.after.book k) (granted_is m (detach c) h)) ∙ a in
    let w = map_cases (struck c) m.book.places k e b in
    let s : e.parties ≡ without (is_of c) w.0.parties = ap (λ (x : Live What Note). x.parties) (sym w.2) in (
      w.0,
      w.1,
      s,
      λ p i q.
          let n = not-true (is_of c p) (filter_in (λ x. not (is_of c x)) p w.0.parties (rw s at i)).1 in
          true≢false (sym (eq-eqb p.client c q) ∙ n),
    )
