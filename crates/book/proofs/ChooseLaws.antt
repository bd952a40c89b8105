-- What the desk does of each call, in the words of document 01; and every move that it chooses fits the book.
-- Assumes nothing.
use Prim.Native.Nat.{ℕ, ◌+◌, ◌≤◌, ◌<◌}
use mathlib.Core.Path.{◌≡◌, refl, ap, sym, ◌∙◌, subst}
use mathlib.Core.Logic.{⊎_elim, ◌⊎◌, inl, inr, ◌↔◌}
use mathlib.Core.Bool.{Bool, true, false, and-false, false≢true}
use mathlib.Core.Option.{Option, some, none, none-ne-some}
use native.Mathlib.Omega.{arith}
use lib.ListN.{get_or-eq_default}
use borrow.Author.Tests.{lt-ltb, le-ltb}
use Rattle.laws.proofs.Choice.{true_or, lt_or}
use Rattle.book.specs.Book.{Rules, Live, Book, Move, Good, Fits, NothingDue, at}
use Rattle.book.specs.Book.Why.{full, unknown, mismatched, idle, busy}
use Rattle.book.specs.Book.Move.{rest, pass, join, issue, reply, expire, strike, wipe, mark, adopt}
use Rattle.book.specs.Desk.{Op, Asking, join_place, free_place, due_place, id_place, live_place, free_id, join_at, answer_at, expire_at, choose, NoneOpen, AllLive}
use Rattle.book.specs.Desk.Op.{time, enter, answer, tick, leave, lose, note, settle}
use Rattle.book.proofs.DeskLaws.{join-found, join-none, free-found, free-none, due_found, due_none, id_found, id_is, quiet_found, next-free}

abbrev is_rest : {R W N : Type 0} → Move R W N → Bool
is_rest (rest y) = true
is_rest (pass t) = false
is_rest (join k e w p) = false
is_rest (issue k id w n d p) = false
is_rest (reply k e) = false
is_rest (expire k e) = false
is_rest (strike c) = false
is_rest wipe = false
is_rest (mark f) = false
is_rest (adopt x) = false

module _ {R W N : Type 0} (r : Rules R) (b : Book R W N) where
  -- a request: it joins where an entry may be joined, else it is issued where it may be and a place is free, else it is turned away

  module _ (a : Asking W N) where
    pub enter-joins : join_place r b a.joins < r.places → (e : Live W N) → at b (join_place r b a.joins) ≡ some e
        → choose r b (enter a) ≡ join (join_place r b a.joins) e a.what a.party
    enter-joins z e h =
        rw (lt-ltb (join_place r b a.joins) r.places z) (ap (λ (o : Option (Live W N)). join_at (join_place r b a.joins) o a) h)

    pub enter_issues : r.places ≤ join_place r b a.joins → a.may ≡ true → free_place r b < r.places
        → choose r b (enter a) ≡ issue (free_place r b) (free_id r b) a.what a.note (b.clock + r.wait b.rule) a.party
    enter_issues z m f = rw (le-ltb (join_place r b a.joins) r.places z) (rw (m, lt-ltb (free_place r b) r.places f) refl)

    pub enter-full : r.places ≤ join_place r b a.joins → (a.may ≡ false) ⊎ (r.places ≤ free_place r b) → choose r b (enter a) ≡ rest full
    enter-full z f =
        rw (le-ltb (join_place r b a.joins) r.places z)
        (⊎_elim (λ m. rw m refl) (λ l. rw (le-ltb (free_place r b) r.places l) (rw (and-false a.may) refl)) f)

  module _ (g : Good r b) where
    -- a request is turned away exactly where it can join nothing, and it may not be issued or every place is live
    pub full_exactly : (a : Asking W N) → (choose r b (enter a) ≡ rest full) ↔ (NoneOpen r b a.joins × ((a.may ≡ false) ⊎ AllLive r b))
    full_exactly a =
        let jp = join_place r b a.joins in
        let fp = free_place r b in (
          λ h. ⊎_elim
              (λ (z : jp < r.places).
              let w = join-found r b g a.joins z in
              absurd (false≢true (ap is_rest (sym (enter-joins a z w.0 w.1) ∙ h))))
              (λ (z : r.places ≤ jp). (
                join-none r b g a.joins z,
                ⊎_elim
                    (λ (m : a.may ≡ true). inr (free-none r b (⊎_elim
                    (λ (y : fp < r.places). absurd (false≢true (ap is_rest (sym (enter_issues a z m y) ∙ h))))
                    (λ y. y)
                    (lt_or fp r.places))))
                    inl
                    (true_or a.may),
              ))
              (lt_or jp r.places),
          λ n. enter-full a
              (⊎_elim (λ (z : jp < r.places). let w = join-found r b g a.joins z in absurd (n.0 jp w.0 w.1 w.2)) (λ z. z) (lt_or jp r.places))
              (⊎_elim inl (λ l. inr (⊎_elim (λ (z : fp < r.places). let w = l fp z in absurd (none-ne-some w.0 (sym (free-found r b z).0 ∙ w.1))) (λ z. z) (lt_or fp r.places))) n.1),
        )

    -- past the last place nothing stands
    beyond : (k : ℕ) → r.places ≤ k → at b k ≡ none
    beyond k z = get_or-eq_default b.places none (rw g.long z)

    -- a reply ends the entry under its id exactly where it answers that

    answer_there : (id : ℕ) (answers : W → Bool) (k : ℕ) (e : Live W N) → at b k ≡ some e → e.id ≡ id → choose r b (answer id answers) ≡ answer_at k (some e) answers
    answer_there id answers k e h q = ap (λ (i : ℕ). answer_at i (at b i) answers) (id_is r b g id k e h q) ∙ ap (λ (o : Option (Live W N)). answer_at k o answers) h

    pub answer_matched : (id : ℕ) (answers : W → Bool) (k : ℕ) (e : Live W N) → at b k ≡ some e → e.id ≡ id → answers e.what ≡ true → choose r b (answer id answers) ≡ reply k e
    answer_matched id answers k e h q m = answer_there id answers k e h q ∙ rw m

    pub answer_mismatched : (id : ℕ) (answers : W → Bool) (k : ℕ) (e : Live W N) → at b k ≡ some e → e.id ≡ id → answers e.what ≡ false → choose r b (answer id answers) ≡ rest mismatched
    answer_mismatched id answers k e h q m = answer_there id answers k e h q ∙ rw m

    pub answer_unknown : (id : ℕ) (answers : W → Bool) → ((k : ℕ) (e : Live W N) → at b k ≡ some e → e.id ≡ id → ⊥) → choose r b (answer id answers) ≡ rest unknown
    answer_unknown id answers n =
        ap (λ (o : Option (Live W N)). answer_at (id_place r b id) o answers) (⊎_elim
        (λ (z : id_place r b id < r.places). let w = id_found r b g id z in absurd (n (id_place r b id) w.0 w.1 w.2))
        (beyond (id_place r b id))
        (lt_or (id_place r b id) r.places))

    -- a tick ends the entry that is found, and says that nothing is due exactly where nothing is

    pub tick_expires : (e : Live W N) → at b (due_place r b) ≡ some e → choose r b tick ≡ expire (due_place r b) e
    tick_expires e h = ap (expire_at (due_place r b)) h

    pub idle_exactly : (choose r b tick ≡ rest idle) ↔ NothingDue b
    idle_exactly =
        let dp = due_place r b in (
          λ h. due_none r b g (⊎_elim
              (λ (z : dp < r.places). let w = due_found r b g z in absurd (false≢true (ap is_rest (sym (tick_expires w.0 w.1) ∙ h))))
              (λ z. z)
              (lt_or dp r.places)),
          λ n. ap (expire_at dp) (⊎_elim
              (λ (z : dp < r.places). let w = due_found r b g z in absurd (let l = n dp w.0 w.1 in omega (arith, w.2)))
              (beyond dp)
              (lt_or dp r.places)),
        )

    settle_waits : (x : R) → live_place r b < r.places → choose r b (settle x) ≡ rest busy
    settle_waits x z = rw (lt-ltb (live_place r b) r.places z)

    reply_fits : (answers : W → Bool) (k : ℕ) (o : Option (Live W N)) → at b k ≡ o → Fits r b (answer_at k o answers)
    reply_fits answers k none h = tt
    reply_fits answers k (some e) h = ⊎_elim (λ t. rw t h) (λ t. rw t tt) (true_or (answers e.what))

    pub choose_fits : (o : Op R W N) → Fits r b (choose r b o)
    choose_fits (time t) = tt
    choose_fits (enter a) =
        let jp = join_place r b a.joins in
        let fp = free_place r b in
        ⊎_elim
        (λ (z : jp < r.places).
        let w = join-found r b g a.joins z in
        subst (Fits r b) (sym (enter-joins a z w.0 w.1)) (w.1, w.2.1, w.2.2, a.exact w.0.what w.0.note w.2.0))
        (λ (z : r.places ≤ jp). ⊎_elim
        (λ (m : a.may ≡ true). ⊎_elim
        (λ (y : fp < r.places). subst (Fits r b) (sym (enter_issues a z m y)) (y, (free-found r b y).0, next-free r b g, refl))
        (λ (y : r.places ≤ fp). subst (Fits r b) (sym (enter-full a z (inr y))) tt)
        (lt_or fp r.places))
        (λ (m : a.may ≡ false). subst (Fits r b) (sym (enter-full a z (inl m))) tt)
        (true_or a.may))
        (lt_or jp r.places)
    choose_fits (answer id answers) = reply_fits answers (id_place r b id) (at b (id_place r b id)) refl
    choose_fits tick =
        ⊎_elim
        (λ (z : due_place r b < r.places). let w = due_found r b g z in subst (Fits r b) (sym (tick_expires w.0 w.1)) (w.1, w.2))
        (λ (z : r.places ≤ due_place r b). subst (Fits r b) (sym (idle_exactly.1 (due_none r b g z))) tt)
        (lt_or (due_place r b) r.places)
    choose_fits (leave c) = tt
    choose_fits lose = tt
    choose_fits (note f) = tt
    choose_fits (settle x) =
        ⊎_elim
        (λ (z : live_place r b < r.places). subst (Fits r b) (sym (settle_waits x z)) tt)
        (λ (z : r.places ≤ live_place r b). rw (le-ltb (live_place r b) r.places z) (λ k e h. absurd (quiet_found r b g z k e h)))
        (lt_or (live_place r b) r.places)
