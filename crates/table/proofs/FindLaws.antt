-- What the scans find is what the book chooses.
-- Assumes nothing.
use Prim.Native.Nat.{ℕ, ◌+◌, ◌≤◌, ◌<◌}
use mathlib.Core.Path.{◌≡◌, refl, ap, sym, ◌∙◌}
use mathlib.Core.Logic.{⊎_elim}
use mathlib.Core.Bool.{Bool, true, false, cond, not, not-not}
use mathlib.Core.Option.{Option, some, none}
use lib.ListN.{get_or}
use lib.Dec.{eqb}
use borrow.Author.Tests.{eq-eqb, eqb-true, eqb-false, not-true}
use Rattle.numbers.specs.Numbers.{ids, places, room}
use Rattle.laws.specs.Search.{best, least, count}
use Rattle.laws.specs.Circle.{turn}
use Rattle.laws.proofs.Choice.{true_or, and_left, same_test}
use Rattle.laws.proofs.ListLaws.{length-tab}
use Rattle.laws.proofs.LeastLaws.{least_cut, least_ext}
use Rattle.laws.proofs.CountLaws.{count_cut, count_ext}
use Rattle.laws.proofs.SearchLaws.{best_ext, best-nothing, best_cut, first_ext}
use Rattle.settings.specs.Grammar.{Value}
use Rattle.pdu.specs.declared.What.{What}
use Rattle.pdu.specs.Words.{word_of, what_of, Proper}
use Rattle.cache.specs.Cache.{Cache}
use Rattle.book.specs.Book.{Live, at, has_id}
use Rattle.book.specs.Desk.{is_live, lower_id, sooner, join_place, free_place, due_place, id_place, free_id, is_due as is_due_in, is_open as is_open_in}
use Rattle.machine.specs.Machine.{Note, machine, rules}
use Rattle.machine.specs.Waiting.{no_deadline, deadline_of, next_deadline}
use Rattle.machine.specs.Requests.{alike, joins}
use Rattle.table.specs.Columns.{Columns, note_of, place_word, entry_at, book_of, SoundTable}
use Rattle.table.specs.inner.Places.{is_free, is_taken, holds, is_open, is_due, is_lower, is_sooner, free_id_from}
use Rattle.pdu.proofs.WordLaws.{word_back, word_unclosed}
use Rattle.machine.proofs.JoinLaws.{joins_exact, joins_like, joins-none}
use Rattle.table.proofs.ViewLaws.{at_place, entry_free, free-same, holds_same, due_same, lower_same, sooner-same, live_same}

module _ (v : Value) (c : Columns) (x t : ℕ) (s : SoundTable c) where
  -- A scan up to top by tests on the columns is the book's search over all places by the same tests.
  chosen : (test : ℕ → Bool) (beats : ℕ → ℕ → Bool) (test' : Option (Live What Note) → Bool) (beats' : Option (Live What Note) → Option (Live What Note) → Bool)
      → test' none ≡ false
      → ((k : ℕ) → test k ≡ test' (entry_at c k))
      → ((j k : ℕ) → test j ≡ true → test k ≡ true → beats j k ≡ beats' (entry_at c j) (entry_at c k))
      → best test beats places c.top ≡ best (λ k. test' (at (book_of v c x t) k)) (λ j k. beats' (at (book_of v c x t) j) (at (book_of v c x t) k)) places places
  chosen test beats test' beats' off same wins =
      sym (best_cut test beats places c.top places s.within (λ k h l. same k ∙ ap test' (entry_free c k (s.above k h)) ∙ off))
      ∙ best_ext test (λ k. test' (at (book_of v c x t) k)) beats (λ j k. beats' (at (book_of v c x t) j) (at (book_of v c x t) k)) places places
      (λ k h. same k ∙ ap test' (sym (at_place v c x t k h)))
      (λ j k a b p q. wins j k p q ∙ rw (at_place v c x t j a, at_place v c x t k b))

  -- The place that holds an id is the book's place of that id.
  pub find_place : (id : ℕ) → best (holds c.ids id) (λ j k. false) places c.top ≡ id_place rules (book_of v c x t) id
  find_place id = chosen (holds c.ids id) (λ j k. false) (has_id id) (λ a b. false) refl (holds_same c id) (λ j k p q. refl)

  -- The earliest place that is due is the book's.
  pub due_place_lem : best (is_due c.ids c.deadlines t) (is_sooner c.ids c.deadlines) places c.top ≡ due_place rules (book_of v c x t)
  due_place_lem =
      chosen (is_due c.ids c.deadlines t) (is_sooner c.ids c.deadlines) (is_due_in t) sooner refl (due_same c t)
      (λ j k p q. sooner-same c j k (not-true _ (and_left _ _ p)) (not-true _ (and_left _ _ q)))

  -- A live place is one in the book, with its deadline.
  taken_same : (k : ℕ) → k < places → is_taken c.ids k ≡ is_live (at (book_of v c x t) k)
  taken_same k h = ap not (free-same c k) ∙ not-not (is_live (entry_at c k)) ∙ ap is_live (sym (at_place v c x t k h))

  deadline_same : (k : ℕ) → k < places → is_taken c.ids k ≡ true → get_or c.deadlines k 0 ≡ deadline_of (at (book_of v c x t) k)
  deadline_same k h e = rw (at_place v c x t k h, not-true (eqb (get_or c.ids k 0) 0) e)

  untaken : (k : ℕ) → c.top ≤ k → is_taken c.ids k ≡ false
  untaken k h = rw (s.above k h)

  -- The least deadline of the live places, and how many they are, are the machine's.
  pub next_time : (a : ℕ) (h : Cache) → least (is_taken c.ids) (λ k. get_or c.deadlines k 0) no_deadline c.top ≡ (next_deadline (machine (book_of v c x t) a h)).time
  unfolding next_deadline
  next_time a h =
      sym (least_cut _ _ no_deadline c.top places s.within (λ k h l. untaken k h)) ∙ least_ext _ _ _ _ no_deadline places taken_same deadline_same

  pub next_live : (a : ℕ) (h : Cache) → count (is_taken c.ids) c.top ≡ (next_deadline (machine (book_of v c x t) a h)).live
  unfolding next_deadline
  next_live a h = sym (count_cut _ c.top places s.within (λ k h l. untaken k h)) ∙ count_ext _ _ places taken_same

  -- The lowest free place is the book's.
  pub free-place : best (is_free c.ids) (λ j k. false) places places ≡ free_place rules (book_of v c x t)
  free-place = best_ext _ _ _ _ places places (λ k h. free-same c k ∙ ap (λ o. not (is_live o)) (sym (at_place v c x t k h))) (λ j k a b p q. refl)

  -- The free id is the book's.
  pub free_id_lem : free_id_from c.ids c.top x ≡ free_id rules (book_of v c x t)
  free_id_lem = ap (λ (n : ℕ). turn ids (x + n)) (first_ext _ _ places (λ j. ap not (sym (live_same c s (turn ids (x + j))))))

  module _ (w : What) (proper : Proper w) (may : alike v w w ≡ true) where
    -- At a live place, the word is that of a request exactly where the request joins what stands there: the word of what is closed is that of no request.
    word_same : (k : ℕ) → eqb (get_or c.ids k 0) 0 ≡ false → eqb (get_or c.asked k 0) (word_of w) ≡ joins v w (what_of (get_or c.asked k 0)) (note_of (get_or c.asked k 0))
    unfolding note_of place_word
    word_same k live =
        let n = get_or c.asked k 0 in
        let held = s.proper k (eqb-false _ _ live) in
        same_test _ _
        (λ e. rw (eqb-true n (word_of w) e, word_back w proper) (joins_like v w (note_of (word_of w)) (word_unclosed w proper) may))
        (λ e. let j = joins_exact v w (what_of n) (note_of n) e in eq-eqb n (word_of w) (sym held.1 ∙ rw (j.0, ← j.1)))

    open_same : (k : ℕ) → is_open c.ids c.asked c.deadlines c.counts (word_of w) t k ≡ is_open_in room t (joins v w) (entry_at c k)
    open_same k =
        ⊎_elim
        (λ e. rw e)
        (λ e. rw e (rw (word_same k e, length-tab)))
        (true_or (eqb (get_or c.ids k 0) 0))

    -- The place that a request joins by its word is the book's.
    pub join-place : best (is_open c.ids c.asked c.deadlines c.counts (word_of w) t) (is_lower c.ids) places c.top ≡ join_place rules (book_of v c x t) (joins v w)
    join-place =
        chosen (is_open c.ids c.asked c.deadlines c.counts (word_of w) t) (is_lower c.ids) (is_open_in room t (joins v w)) lower_id refl open_same
        (λ j k p q. lower_same c j k (not-true _ (and_left _ _ p)) (not-true _ (and_left _ _ q)))

  -- Where joining is off, or nothing is read, the book joins nothing.
  pub join-none : (w : What) → alike v w w ≡ false → join_place rules (book_of v c x t) (joins v w) ≡ places
  join-none w off = best-nothing _ _ places places (λ k h. closed k (at (book_of v c x t) k))
    where
      closed : (k : ℕ) (o : Option (Live What Note)) → is_open_in room t (joins v w) o ≡ false
      closed k none = refl
      closed k (some e) = rw (joins-none v w e.what e.note off)

  -- Both in one: the place that a request joins, where it may join at all.
  pub join_seat : (w : What) → Proper w → (joining : Bool) → joining ≡ alike v w w
      → cond joining (best (is_open c.ids c.asked c.deadlines c.counts (word_of w) t) (is_lower c.ids) places c.top) places ≡ join_place rules (book_of v c x t) (joins v w)
  join_seat w p true e = join-place w p (sym e)
  join_seat w p false e = sym (join-none w (sym e))
