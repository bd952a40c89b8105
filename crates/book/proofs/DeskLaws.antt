-- The desk's choices are document 01's: the place that is found is the right one, and where none is found there is none.
-- Assumes nothing.
use Prim.Native.Nat.{ℕ, ◌+◌, ◌≤◌, ◌<◌}
use mathlib.Core.Path.{◌≡◌, refl, ap, sym, ◌∙◌}
use mathlib.Core.Logic.{⊎_elim, ◌⊎◌, inl, inr}
use mathlib.Core.Bool.{Bool, true, false, not, true≢false, false≢true}
use mathlib.Core.Option.{Option, some, none}
use native.Mathlib.Omega.{arith}
use lib.ListN.{length}
use lib.Dec.{eqb, ltb}
use borrow.Author.Tests.{ltb-true, ltb-false, leb-true, leb-false, eqb-true, lt-ltb, le-ltb, le-leb, eq-eqb, not-true, not-false}
use Rattle.laws.specs.Search.{best, first}
use Rattle.laws.specs.Circle.{turn}
use Rattle.laws.proofs.Choice.{true_or, lt_or, and_left, and_right, or_either}
use Rattle.laws.proofs.SearchLaws.{best-some, best_none, best_right, first_le, first-before, first-here, best-first}
use Rattle.laws.proofs.CountLaws.{count_all}
use Rattle.laws.proofs.CircleLaws.{turn_inj}
use Rattle.book.specs.Book.{Rules, Live, Book, Good, Next, Quiet, NothingDue, at, has_id, live_in}
use Rattle.book.specs.Desk.{is_open, is_live, is_due, lower_id, sooner, join_place, free_place, due_place, id_place, live_place, free_id, Open, NoneOpen, AllLive}
use Rattle.book.proofs.PlaceLaws.{at_low, live_count}

-- the orders of ids and of deadlines

module _ {W N : Type 0} where
  lower_irr : (o : Option (Live W N)) → lower_id o o ≡ false
  lower_irr none = refl
  lower_irr (some e) = le-ltb e.id e.id (omega arith)

  lower_trans : (x y z : Option (Live W N)) → lower_id x y ≡ true → lower_id y z ≡ true → lower_id x z ≡ true
  lower_trans none y z h k = absurd (false≢true h)
  lower_trans (some d) none z h k = absurd (false≢true h)
  lower_trans (some d) (some e) none h k = absurd (false≢true k)
  lower_trans (some d) (some e) (some f) h k = lt-ltb d.id f.id (omega (arith, ltb-true d.id e.id h, ltb-true e.id f.id k))

  Sooner : Live W N → Live W N → Type 0
  Sooner d e = (d.deadline < e.deadline) ⊎ ((d.deadline ≡ e.deadline) × (d.id < e.id))

  sooner_is : (d e : Live W N) → sooner (some d) (some e) ≡ true → Sooner d e
  unfolding Sooner
  sooner_is d e h =
      ⊎_elim
      (λ t. inl (ltb-true d.deadline e.deadline t))
      (λ t. inr (eqb-true d.deadline e.deadline (and_left (eqb d.deadline e.deadline) _ t), ltb-true d.id e.id (and_right (eqb d.deadline e.deadline) _ t)))
      (or_either (ltb d.deadline e.deadline) _ h)

  is_sooner_lem : (d e : Live W N) → Sooner d e → sooner (some d) (some e) ≡ true
  unfolding Sooner
  is_sooner_lem d e (inl h) = rw (lt-ltb d.deadline e.deadline h)
  is_sooner_lem d e (inr h) = rw (le-ltb d.deadline e.deadline (let z = h.0 in omega arith), eq-eqb d.deadline e.deadline h.0) (lt-ltb d.id e.id h.1)

  sooner_irr : (o : Option (Live W N)) → sooner o o ≡ false
  unfolding Sooner
  sooner_irr none = refl
  sooner_irr (some e) = ⊎_elim (λ (t : sooner (some e) (some e) ≡ true). absurd (⊎_elim (λ u. omega arith) (λ u. omega (arith, u.1)) (sooner_is e e t))) (λ t. t) (true_or (sooner (some e) (some e)))

  sooner_trans : (x y z : Option (Live W N)) → sooner x y ≡ true → sooner y z ≡ true → sooner x z ≡ true
  unfolding Sooner
  sooner_trans none y z h k = absurd (false≢true h)
  sooner_trans (some d) none z h k = absurd (false≢true h)
  sooner_trans (some d) (some e) none h k = absurd (false≢true k)
  sooner_trans (some d) (some e) (some f) h k = is_sooner_lem d f (⊎_elim
      (λ p. ⊎_elim (λ q. inl (omega arith)) (λ q. inl (omega (arith, q.0))) (sooner_is e f k))
      (λ p. ⊎_elim (λ q. inl (omega (arith, p.0))) (λ q. inr (p.0 ∙ q.0, omega (arith, p.1, q.1))) (sooner_is e f k))
      (sooner_is d e h))

  -- d is not sooner: e is earlier, or due at the same time under an id that is no larger
  not-sooner : (d e : Live W N) → sooner (some d) (some e) ≡ false → (e.deadline < d.deadline) ⊎ ((e.deadline ≡ d.deadline) × (e.id ≤ d.id))
  unfolding Sooner
  not-sooner d e h =
      let later : Sooner d e → ⊥ = λ s. true≢false (sym (is_sooner_lem d e s) ∙ h) in
      ⊎_elim
      (λ (z : e.deadline < d.deadline). inl z)
      (λ (z : d.deadline ≤ e.deadline). ⊎_elim
      (λ (y : d.deadline < e.deadline). absurd (later (inl y)))
      (λ (y : e.deadline ≤ d.deadline). inr (omega arith, ⊎_elim (λ (x : d.id < e.id). absurd (later (inr (omega arith, x)))) (λ x. x) (lt_or d.id e.id)))
      (lt_or d.deadline e.deadline))
      (lt_or e.deadline d.deadline)

  is_live_lem : (o : Option (Live W N)) → is_live o ≡ true → (e : Live W N) × (o ≡ some e)
  is_live_lem none h = absurd (false≢true h)
  is_live_lem (some e) h = (e, refl)

  not_live : (o : Option (Live W N)) → is_live o ≡ false → o ≡ none
  not_live none h = refl
  not_live (some e) h = absurd (true≢false h)

  -- a test that only entries pass
  passes : (test : Option (Live W N) → Bool) → test none ≡ false → (o : Option (Live W N)) → test o ≡ true → (e : Live W N) × (o ≡ some e) × (test (some e) ≡ true)
  passes test n none h = absurd (false≢true (sym n ∙ h))
  passes test n (some e) h = (e, refl, h)

-- a search over the places of a book
module _ {R W N : Type 0} (r : Rules R) (b : Book R W N) (test : Option (Live W N) → Bool) (beats : ℕ → ℕ → Bool) where
  abbrev spot : ℕ
  spot = best (λ k. test (at b k)) beats r.places r.places

  spot_some : test none ≡ false → spot < r.places → (e : Live W N) × (at b spot ≡ some e) × (test (some e) ≡ true)
  spot_some n z = passes test n (at b spot) (best-some (λ k. test (at b k)) beats r.places z)

  spot_none : Good r b → r.places ≤ spot → (k : ℕ) (e : Live W N) → at b k ≡ some e → test (some e) ≡ false
  spot_none g z k e h = sym (ap test h) ∙ best_none (λ k. test (at b k)) beats r.places z k (rw g.long at (at_low b.places k e h))

  spot_best : Good r b → ((k : ℕ) → beats k k ≡ false) → ((i j k : ℕ) → beats i j ≡ true → beats j k ≡ true → beats i k ≡ true)
      → (k : ℕ) (e : Live W N) → at b k ≡ some e → test (some e) ≡ true → beats k spot ≡ false
  spot_best g irr trans k e h t =
      (best_right (λ k. test (at b k)) beats r.places irr trans r.places (omega arith) k (rw g.long at (at_low b.places k e h)) (ap test h ∙ t)).1

module _ {R W N : Type 0} (r : Rules R) (b : Book R W N) where
  open_is : (joins : W → N → Bool) (e : Live W N) → is_open r.room b.clock joins (some e) ≡ true → Open r b joins e
  open_is joins e t =
      let u = and_right (joins e.what e.note) _ t in
      (and_left (joins e.what e.note) _ t, ltb-true (length e.parties) r.room (and_left (ltb (length e.parties) r.room) _ u), ltb-true b.clock e.deadline (and_right (ltb (length e.parties) r.room) _ u))

  is_open_lem : (joins : W → N → Bool) (e : Live W N) → Open r b joins e → is_open r.room b.clock joins (some e) ≡ true
  is_open_lem joins e o = rw (o.0, lt-ltb (length e.parties) r.room o.1) (lt-ltb b.clock e.deadline o.2)

  -- the lowest free place
  pub free-found : free_place r b < r.places → (at b (free_place r b) ≡ none) × ((j : ℕ) → j < free_place r b → (e : Live W N) × (at b j ≡ some e))
  free-found z = (
    not_live (at b (free_place r b)) (not-true _ (best-some (λ k. not (is_live (at b k))) _ r.places z)),
    λ j h. is_live_lem (at b j) (not-false _ (best-first (λ k. not (is_live (at b k))) r.places r.places (omega arith) j (omega arith) h)),
  )

  pub free-none : r.places ≤ free_place r b → AllLive r b
  free-none z k h = is_live_lem (at b k) (not-false _ (best_none (λ k. not (is_live (at b k))) _ r.places z k h))

  module _ (g : Good r b) where
    -- the entry that a request joins may be joined, and no other that may be has a smaller id
    pub join-found : (joins : W → N → Bool) → join_place r b joins < r.places
        → (e : Live W N) × (at b (join_place r b joins) ≡ some e) × Open r b joins e × ((j : ℕ) (d : Live W N) → at b j ≡ some d → Open r b joins d → e.id ≤ d.id)
    join-found joins z =
        let test : Option (Live W N) → Bool = is_open r.room b.clock joins in
        let w = spot_some r b test (λ j k. lower_id (at b j) (at b k)) refl z in (
          w.0,
          w.1,
          open_is joins w.0 w.2,
          λ j d h o.
              let s = spot_best r b test (λ j k. lower_id (at b j) (at b k)) g (λ k. lower_irr (at b k)) (λ i j k. lower_trans (at b i) (at b j) (at b k)) j d h (is_open_lem joins d o) in
              ltb-false d.id w.0.id (sym (ap (λ (o : Option (Live W N)). lower_id o (some w.0)) h) ∙ sym (ap (lower_id (at b j)) w.1) ∙ s),
        )

    pub join-none : (joins : W → N → Bool) → r.places ≤ join_place r b joins → NoneOpen r b joins
    join-none joins z k e h o = true≢false (sym (is_open_lem joins e o) ∙ spot_none r b (is_open r.room b.clock joins) (λ j k. lower_id (at b j) (at b k)) g z k e h)

    -- the entry that a tick ends is due, and no other that is due is earlier, or of its deadline and with a smaller id
    pub due_found : due_place r b < r.places
        → (e : Live W N) × (at b (due_place r b) ≡ some e) × (e.deadline ≤ b.clock)
        × ((j : ℕ) (d : Live W N) → at b j ≡ some d → d.deadline ≤ b.clock → (e.deadline < d.deadline) ⊎ ((e.deadline ≡ d.deadline) × (e.id ≤ d.id)))
    due_found z =
        let w = spot_some r b (is_due b.clock) (λ j k. sooner (at b j) (at b k)) refl z in (
          w.0,
          w.1,
          leb-true w.0.deadline b.clock w.2,
          λ j d h l.
              let s = spot_best r b (is_due b.clock) (λ j k. sooner (at b j) (at b k)) g (λ k. sooner_irr (at b k)) (λ i j k. sooner_trans (at b i) (at b j) (at b k)) j d h (le-leb d.deadline b.clock l) in
              not-sooner d w.0 (sym (ap (λ (o : Option (Live W N)). sooner o (some w.0)) h) ∙ sym (ap (sooner (at b j)) w.1) ∙ s),
        )

    pub due_none : r.places ≤ due_place r b → NothingDue b
    due_none z k e h = leb-false e.deadline b.clock (spot_none r b (is_due b.clock) (λ j k. sooner (at b j) (at b k)) g z k e h)

    -- the place that holds an id
    pub id_found : (id : ℕ) → id_place r b id < r.places → (e : Live W N) × (at b (id_place r b id) ≡ some e) × (e.id ≡ id)
    id_found id z = let w = spot_some r b (has_id id) (λ j k. false) refl z in (w.0, w.1, eqb-true w.0.id id w.2)

    pub id_none : (id : ℕ) → r.places ≤ id_place r b id → (k : ℕ) (e : Live W N) → at b k ≡ some e → e.id ≡ id → ⊥
    id_none id z k e h q = true≢false (sym (eq-eqb e.id id q) ∙ spot_none r b (has_id id) (λ j k. false) g z k e h)

    pub id_is : (id k : ℕ) (e : Live W N) → at b k ≡ some e → e.id ≡ id → id_place r b id ≡ k
    id_is id k e h q =
        ⊎_elim
        (λ (z : id_place r b id < r.places). let w = id_found id z in g.differ (id_place r b id) k w.0 e w.1 h (w.2 ∙ sym q))
        (λ (z : r.places ≤ id_place r b id). absurd (id_none id z k e h q))
        (lt_or (id_place r b id) r.places)

    -- no live place
    pub quiet_found : r.places ≤ live_place r b → Quiet b
    quiet_found z k e h = true≢false (spot_none r b is_live (λ j k. false) g z k e h)

    -- the search finds an id that is not live: there are more ids than places
    pub next-free : Next r b (free_id r b)
    next-free =
        let live : ℕ → Bool = λ j. live_in b.places (turn r.ids (b.cursor + j)) in
        let s = first (λ j. not (live j)) r.places in
        let le = first_le (λ j. not (live j)) r.places in
        let fe = r.fewer in
        let tu = g.turned in
        let lg = g.long in
        let before : (j : ℕ) → j < s → live j ≡ true = λ j h. not-false (live j) (first-before (λ j. not (live j)) r.places j h) in
        record {
          steps = s;
          near = omega arith;
          here = refl;
          passed = before;
          free = ⊎_elim
              (λ (z : s < r.places). not-true (live s) (first-here (λ j. not (live j)) r.places z))
              (λ (z : r.places ≤ s).
              ⊎_elim
              (λ (y : live s ≡ true).
              let c = live_count b.places (λ j. turn r.ids (b.cursor + j)) (s + 1) (λ i j p q. turn_inj r.ids b.cursor i j tu (omega arith) (omega arith)) in
              let a = count_all live (s + 1) (λ j q. ⊎_elim (before j) (λ (u : s ≤ j). let e : j ≡ s = omega arith in ap live e ∙ y) (lt_or j s)) in
              absurd (omega arith))
              (λ y. y)
              (true_or (live s)))
              (lt_or s r.places);
        }

  sooner-not : (i j : ℕ) (n : Next r b i) (m : Next r b j) → n.steps < m.steps → ⊥
  sooner-not i j n m h = true≢false (sym (m.passed n.steps h) ∙ ap (live_in b.places) (sym n.here) ∙ n.free)

  -- only one id fits: a loop that proves `Next` of its outcome has found `free_id`
  pub next_is : Good r b → (i : ℕ) → Next r b i → i ≡ free_id r b
  next_is g i n =
      let m = next-free g in
      ⊎_elim
      (λ (z : n.steps < m.steps). absurd (sooner-not i (free_id r b) n m z))
      (λ (z : m.steps ≤ n.steps). ⊎_elim
      (λ (y : m.steps < n.steps). absurd (sooner-not (free_id r b) i m n y))
      (λ (y : n.steps ≤ m.steps). n.here ∙ ap (λ (s : ℕ). turn r.ids (b.cursor + s)) (same n.steps m.steps y z) ∙ sym m.here)
      (lt_or m.steps n.steps))
      (lt_or n.steps m.steps)
    where
      same : (x y : ℕ) → x ≤ y → y ≤ x → x ≡ y
      same x y p q = omega arith
