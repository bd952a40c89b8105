-- The columns and the book that they are say the same: what stands at each place, and which ids are live.
-- Assumes nothing.
use Prim.Native.Nat.{ℕ, zero, suc, ◌+◌, ◌-◌, ◌≤◌, ◌<◌}
use mathlib.Core.Path.{◌≡◌, refl, sym, ◌∙◌}
use mathlib.Core.Logic.{⊎_elim}
use mathlib.Core.Bool.{true, false, not, ◌||◌, or-false, or_comm, or_assoc}
use mathlib.Core.Option.{Option, none}
use mathlib.Core.List.{List, [], ◌∷◌, ◌++◌}
use native.Mathlib.Omega.{arith}
use lib.ListN.{get_or, get_or-eq_default}
use lib.Dec.{eqb, ltb}
use borrow.Author.Tests.{eq-eqb, ne_eqb, eqb-true, eqb-false}
use Rattle.numbers.specs.Numbers.{places}
use Rattle.laws.specs.Lists.{tab}
use Rattle.laws.proofs.Choice.{true_or, eq_or}
use Rattle.laws.proofs.ListLaws.{length-tab, get_d_tab}
use Rattle.settings.specs.Grammar.{Value}
use Rattle.pdu.specs.declared.What.{What}
use Rattle.book.specs.Book.{Live, at, has_id, live_in}
use Rattle.book.specs.Desk.{is_live, lower_id, sooner, is_due as is_due_in}
use Rattle.machine.specs.Machine.{Note}
use Rattle.table.specs.Columns.{Columns, entry_at, table_of, book_of, SoundTable}
use Rattle.table.specs.inner.Places.{is_free, holds, is_due, is_lower, is_sooner, live_id}
use Rattle.laws.proofs.TestLaws.{eqb_less, ltb_less}

module _ (v : Value) (c : Columns) (x t : ℕ) where
  -- At a place of the book stands what the columns say.
  pub at_place : (k : ℕ) → k < places → at (book_of v c x t) k ≡ entry_at c k
  unfolding table_of
  at_place k h = get_d_tab places (entry_at c) k none h

  -- Beyond the places stands nothing.
  pub at_beyond : (k : ℕ) → places ≤ k → at (book_of v c x t) k ≡ none
  unfolding table_of
  at_beyond k h = get_or-eq_default (table_of c) none (omega (arith, length-tab places (entry_at c)))

module _ (c : Columns) where
  -- A place with id 0 in the column is free.
  pub entry_free : (k : ℕ) → get_or c.ids k 0 ≡ 0 → entry_at c k ≡ none
  entry_free k e = rw (eq-eqb (get_or c.ids k 0) 0 e)

  -- A place is free in the columns where nothing live stands there.
  pub free-same : (k : ℕ) → is_free c.ids k ≡ not (is_live (entry_at c k))
  free-same k = ⊎_elim (λ e. rw e) (λ e. rw e) (true_or (eqb (get_or c.ids k 0) 0))

  -- A place holds an id in the columns where what stands there has it.
  pub holds_same : (id k : ℕ) → holds c.ids id k ≡ has_id id (entry_at c k)
  holds_same id k =
      ⊎_elim
      (λ (e : eqb (get_or c.ids k 0) 0 ≡ true). rw e (ne_eqb (get_or c.ids k 0) (id + 1) (λ z. let n = eqb-true (get_or c.ids k 0) 0 e in omega arith)))
      (λ (e : eqb (get_or c.ids k 0) 0 ≡ false). rw e (eqb_less (get_or c.ids k 0) id (eqb-false _ _ e)))
      (true_or (eqb (get_or c.ids k 0) 0))

  -- A place is due in the columns where what stands there is.
  pub due_same : (time k : ℕ) → is_due c.ids c.deadlines time k ≡ is_due_in time (entry_at c k)
  due_same time k = ⊎_elim (λ e. rw e) (λ e. rw e) (true_or (eqb (get_or c.ids k 0) 0))

  module _ (j k : ℕ) (live-j : eqb (get_or c.ids j 0) 0 ≡ false) (live-k : eqb (get_or c.ids k 0) 0 ≡ false) where
    ids_less : ltb (get_or c.ids j 0) (get_or c.ids k 0) ≡ ltb (get_or c.ids j 0 - 1) (get_or c.ids k 0 - 1)
    ids_less = ltb_less (get_or c.ids j 0) (get_or c.ids k 0) (eqb-false _ _ live-j) (eqb-false _ _ live-k)

    -- Of two live places, one has the smaller id in the columns where it has it in the book.
    pub lower_same : is_lower c.ids j k ≡ lower_id (entry_at c j) (entry_at c k)
    lower_same = rw (live-j, live-k, ids_less)

    -- Of two live places, one is due before the other in the columns where it is in the book.
    pub sooner-same : is_sooner c.ids c.deadlines j k ≡ sooner (entry_at c j) (entry_at c k)
    sooner-same = rw (live-j, live-k, ids_less)

-- An id is live in two lists of places where it is live in one of them.
live_append : (id : ℕ) (xs ys : List (Option (Live What Note))) → live_in (xs ++ ys) id ≡ (live_in xs id || live_in ys id)
unfolding live_in
live_append id [] ys = refl
live_append id (o ∷ os) ys = rw (live_append id os ys) (sym (or_assoc (has_id id o) (live_in os id) (live_in ys id)))

-- An id is live among the first n places of the book where it is in the columns.
live_first : (c : Columns) (id n : ℕ) → live_in (tab n (entry_at c)) id ≡ live_id c.ids n id
unfolding tab live_in live_id
live_first c id zero = refl
live_first c id (suc n) =
    live_append id (tab n (entry_at c)) (entry_at c n ∷ [])
    ∙ rw (or-false (has_id id (entry_at c n)), live_first c id n, holds_same c id n) (or_comm (live_id c.ids n id) (has_id id (entry_at c n)))

-- No id is live from top on.
live_cut : (is : List ℕ) (top id n : ℕ) → top ≤ n → ((k : ℕ) → top ≤ k → get_or is k 0 ≡ 0) → live_id is n id ≡ live_id is top id
unfolding live_id
live_cut is top id zero l a = let e : top ≡ zero = omega arith in rw e
live_cut is top id (suc n) l a =
    ⊎_elim
    (λ (q : top ≡ suc n). rw q)
    (λ (q : top ≡ suc n → ⊥). rw (ne_eqb (get_or is n 0) (id + 1) (λ z. let e = a n (omega (arith, q)) in omega arith)) (live_cut is top id n (omega (arith, q)) a))
    (eq_or top (suc n))

-- An id is live in the book where it is live below top in the columns.
pub live_same : (c : Columns) → SoundTable c → (id : ℕ) → live_in (table_of c) id ≡ live_id c.ids c.top id
unfolding table_of
live_same c s id = live_first c id places ∙ live_cut c.ids c.top id places s.within s.above
