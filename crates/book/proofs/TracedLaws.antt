-- Whatever the calls, the book of a machine that follows its book is what the history says: an id is live exactly since its last issue, until it is answered, times out or is
-- lost with the link, and the cursor is behind the last id that was issued.
-- Assumes nothing.
use Prim.Native.Nat.{ℕ, ◌+◌, ◌<◌}
use mathlib.Core.Path.{◌≡◌, refl, ap, sym, ◌∙◌, subst₂}
use mathlib.Core.Logic.{⊎_elim}
use mathlib.Core.Bool.{true, false}
use mathlib.Core.Option
use mathlib.Core.Option.{Option, some, none, or_else}
use mathlib.Core.List.{List, [], ◌∷◌, ◌++◌, map, append-nil, append_assoc}
use native.Mathlib.Omega.{arith}
use lib.ListN.{length, get_or, set, replicate}
use lib.Seq.{get_or-set_same}
use lib.Dec.{eqb}
use borrow.Author.Tests.{eq-eqb, ne_eqb, lt-ltb, le-ltb}
use Rattle.laws.specs.Lists.{last_given, last_of}
use Rattle.laws.specs.Circle.{turn}
use Rattle.laws.proofs.Choice.{true_or, eq_or, never}
use Rattle.laws.proofs.ListLaws.{grown}
use Rattle.laws.proofs.LastLaws.{last_more, last_yes, last_no}
use Rattle.book.specs.Book.{Rules, Party, Live, Book, Event, Move, Good, Fits, new_entry, has_id, live_in, added, struck, marked, apply, tell}
use Rattle.book.specs.Book.Move.{rest, pass, join, issue, reply, expire, strike, wipe, mark, adopt}
use Rattle.book.specs.Book.Event.{passed, joined, issued, replied, expired, left, lost}
use Rattle.book.specs.Follower.{Follower, tells, applies, AllFit, after, history, state_after, lines_of}
use Rattle.book.specs.Traced.{touches, issued_id, behind, Traced}
use Rattle.book.proofs.PlaceLaws.{at_low, nothing_there, set_each, none_each, map_each, live_here, live_where, live_not, live_set, live_map}
use Rattle.book.proofs.GoodLaws.{good_move}
use Rattle.book.proofs.History.{always, always_sound, after_one, history_one}

-- behind an id on the circle
turn-behind : (n id : ℕ) → id < n → turn n (id + 1) ≡ behind n (some id)
turn-behind n id h =
    ⊎_elim
    (λ (e : id + 1 ≡ n). rw (eq-eqb (id + 1) n e, le-ltb (id + 1) n (omega arith)) (omega arith))
    (λ (e : id + 1 ≡ n → ⊥). rw (ne_eqb (id + 1) n e, lt-ltb (id + 1) n (omega (arith, e))) refl)
    (eq_or (id + 1) n)

module _ {W N : Type 0} where
  -- the last that befell the entry's id is its issue, which it still shows
  abbrev Shows : List (Event W) → Live W N → Type 0
  Shows vs e = (p : Party) × (p.client ≡ e.by) × (last_of (touches e.id) vs ≡ some (issued e.id e.what e.deadline p))

  -- every entry shows its issue, and an id that was issued last is live
  record Trail (ps : List (Option (Live W N))) (vs : List (Event W)) : Type 0 where
    shows : (k : ℕ) (e : Live W N) → get_or ps k none ≡ some e → Shows vs e
    alive : (id : ℕ) (w : W) (d : ℕ) (p : Party) → last_of (touches id) vs ≡ some (issued id w d p) → live_in ps id ≡ true

  module _ (ps : List (Option (Live W N))) (vs : List (Event W)) (t : Trail ps vs) where
    -- an event that touches no id
    untouched : (v : Event W) → ((id : ℕ) → touches id v ≡ false) → Trail ps (vs ++ (v ∷ []))
    untouched v f = record {
      shows = λ k e h. rw (last_no (touches e.id) vs v (f e.id)) (t.shows k e h);
      alive = λ id w d p h. t.alive id w d p (sym (last_no (touches id) vs v (f id)) ∙ h);
    }

    -- every entry changes, and shows its issue as before
    changed : (f : Live W N → Live W N) → ((e : Live W N) → Shows vs e → Shows vs (f e)) → ((e : Live W N) → (f e).id ≡ e.id) → Trail (map (Option.map f) ps) vs
    changed f s i = record {
      shows = map_each (Shows vs) ps f (λ k e h. s e (t.shows k e h));
      alive = λ id w d p h. live_map f ps id i ∙ t.alive id w d p h;
    }

    -- one party more
    joins : (k : ℕ) (e : Live W N) (p : Party) → get_or ps k none ≡ some e → Trail (set ps k (some (added p e))) vs
    joins k e p h = record {
      shows = set_each (Shows vs) ps k (added p e) (at_low ps k e h) (t.shows k e h) (λ j d ne. t.shows j d);
      alive = λ id w d q z. live_set ps k (some (added p e)) id (sym (ap (has_id id) h)) ∙ t.alive id w d q z;
    }

    -- an entry ends by an event that touches its id alone and is no issue
    ends : (k : ℕ) (e : Live W N) → get_or ps k none ≡ some e → ((j : ℕ) (d : Live W N) → get_or ps j none ≡ some d → d.id ≡ e.id → j ≡ k)
        → (v : Event W) → ((id : ℕ) → touches id v ≡ eqb e.id id) → ((id : ℕ) (w : W) (d : ℕ) (p : Party) → some v ≡ some (issued id w d p) → ⊥) → Trail (set ps k none) (vs ++ (v ∷ []))
    ends k e h differ v only end = record {
      shows = none_each (Shows (vs ++ (v ∷ []))) ps k (at_low ps k e h)
          (λ j d ne q. rw (last_no (touches d.id) vs v (only d.id ∙ ne_eqb e.id d.id (λ y. ne (differ j d q (sym y))))) (t.shows j d q));
      alive = λ id w d p z. ⊎_elim
          (λ (y : eqb e.id id ≡ true). absurd (end id w d p (sym (last_yes (touches id) vs v (only id ∙ y)) ∙ z)))
          (λ (y : eqb e.id id ≡ false). live_set ps k none id (sym (ap (has_id id) h ∙ y)) ∙ t.alive id w d p (sym (last_no (touches id) vs v (only id ∙ y)) ∙ z))
          (true_or (eqb e.id id));
    }

    -- an id that is not live is issued into a free place
    issues : (k id : ℕ) (w : W) (n : N) (d : ℕ) (p : Party) → k < length ps → get_or ps k none ≡ none → live_in ps id ≡ false
        → Trail (set ps k (some (new_entry id w n d p))) (vs ++ (issued id w d p ∷ []))
    issues k id w n d p z h free =
        let v = new_entry id w n d p in
        record {
          shows = set_each (Shows (vs ++ (issued id w d p ∷ []))) ps k v z (p, refl, last_yes (touches id) vs (issued id w d p) (eq-eqb id id refl))
              (λ j e ne q. rw (last_no (touches e.id) vs (issued id w d p) (ne_eqb id e.id (λ y. live_not ps j e id free q (sym y)))) (t.shows j e q));
          alive = λ i w' d' p' q. ⊎_elim
              (λ (y : id ≡ i). live_here (set ps k (some v)) k v i (get_or-set_same ps k (some v) none z) y)
              (λ (y : id ≡ i → ⊥).
              live_set ps k (some v) i (ne_eqb id i y ∙ sym (ap (has_id i) h)) ∙ t.alive i w' d' p' (sym (last_no (touches i) vs (issued id w d p) (ne_eqb id i y)) ∙ q))
              (eq_or id i);
        }

  -- nothing stands, and the link was lost
  wiped : (n : ℕ) (vs : List (Event W)) → Trail (replicate n none) (vs ++ (lost ∷ []))
  wiped n vs = record {
    shows = λ k e h. absurd (nothing_there n k e h);
    alive = λ id w d p h. let z = sym (last_yes (touches id) vs lost refl) ∙ h in never (cc);
  }

  begun : (n : ℕ) → Trail (replicate n none) []
  unfolding last_given
  begun n = record { shows = λ k e h. absurd (nothing_there n k e h); alive = λ id w d p h. never (cc) }

module _ {R W N : Type 0} (r : Rules R) where
  trail_move : (b : Book R W N) (vs : List (Event W)) (m : Move R W N) → Good r b → Fits r b m → Trail b.places vs → Trail (apply r b m).places (vs ++ tell m)
  trail_move b vs (rest y) g h t = rw (append-nil vs) t
  trail_move b vs (pass u) g h t = untouched b.places vs t (passed u) (λ id. refl)
  trail_move b vs (join k e w p) g h t = untouched _ vs (joins b.places vs t k e p h.0) (joined e.id w p) (λ id. refl)
  trail_move b vs (issue k id w n d p) g h t = issues b.places vs t k id w n d p (rw g.long h.0) h.1 h.2.free
  trail_move b vs (reply k e) g h t = ends b.places vs t k e h (λ j d q. g.differ j k d e q h) (replied e.id e.parties) (λ id. refl) (λ id w d p z. never (cc))
  trail_move b vs (expire k e) g h t = ends b.places vs t k e h.0 (λ j d q. g.differ j k d e q h.0) (expired e.id e.parties) (λ id. refl) (λ id w d p z. never (cc))
  trail_move b vs (strike c) g h t = untouched _ vs (changed b.places vs t (struck c) (λ e s. s) (λ e. refl)) (left c) (λ id. refl)
  trail_move b vs wipe g h t = wiped r.places vs
  trail_move b vs (mark f) g h t = rw (append-nil vs) (changed b.places vs t (marked f) (λ e s. s) (λ e. refl))
  trail_move b vs (adopt x) g h t = rw (append-nil vs) t

  cursor-move : (b : Book R W N) (vs : List (Event W)) (m : Move R W N) → Good r b → Fits r b m → b.cursor ≡ behind r.ids (last_given issued_id vs) → (apply r b m).cursor ≡ behind r.ids (last_given issued_id (vs ++ tell m))
  unfolding or_else
  cursor-move b vs (rest y) g h c = rw (append-nil vs) c
  cursor-move b vs (pass u) g h c = rw (last_more issued_id vs (passed u)) c
  cursor-move b vs (join k e w p) g h c = rw (last_more issued_id vs (joined e.id w p)) c
  cursor-move b vs (issue k id w n d p) g h c =
      rw (last_more issued_id vs (issued id w d p))
      (turn-behind r.ids id ((good_move r b (issue k id w n d p) g h).low k _ (get_or-set_same b.places k (some (new_entry id w n d p)) none (rw g.long h.0))))
  cursor-move b vs (reply k e) g h c = rw (last_more issued_id vs (replied e.id e.parties)) c
  cursor-move b vs (expire k e) g h c = rw (last_more issued_id vs (expired e.id e.parties)) c
  cursor-move b vs (strike x) g h c = rw (last_more issued_id vs (left x)) c
  cursor-move b vs wipe g h c = rw (last_more issued_id vs lost) c
  cursor-move b vs (mark f) g h c = rw (append-nil vs) c
  cursor-move b vs (adopt x) g h c = rw (append-nil vs) c

  abbrev Tracked : Book R W N → List (Event W) → Type 0
  Tracked b vs = Trail b.places vs × (b.cursor ≡ behind r.ids (last_given issued_id vs))

  tracked_moves : (b : Book R W N) (vs : List (Event W)) (ms : List (Move R W N)) → Good r b → AllFit r b ms → Tracked b vs → Tracked (applies r b ms) (vs ++ tells ms)
  unfolding applies AllFit tells
  tracked_moves b vs [] g h t = rw (append-nil vs) t
  tracked_moves b vs (m ∷ ms) g h t =
      rw (← append_assoc vs (tell m) (tells ms))
      (tracked_moves (apply r b m) (vs ++ tell m) ms (good_move r b m g h.0) h.1 (trail_move b vs m g h.0 t.0, cursor-move b vs m g h.0 t.1))

  traced_by : (b : Book R W N) (vs : List (Event W)) → Tracked b vs → Traced r b vs
  traced_by b vs t = record {
    lives = λ id w c d. (
      λ x. let s = t.0.shows x.0 x.1 x.2 in (s.0, s.1 ∙ x.5, rw (← x.3, ← x.4, ← x.6) s.2),
      λ x.
          let l = live_where b.places id (t.0.alive id w d x.0 x.2) in
          let s = t.0.shows l.0 l.1 l.2 in
          let same = sym x.2 ∙ ap (λ (i : ℕ). last_of (touches i) vs) (sym l.3) ∙ s.2 in
          let whom = x.1 in
          let by = s.1 in
          (l.0, l.1, l.2, l.3, cc, cc, cc),
    );
    cursor = t.1;
  }

module _ {R : Type 0} {r : Rules R} {W N O : Type 0} {A : O → Type 0} {S : Type 0} (M : Follower r W N O A S) where
  tracked_calls : (os : List O) → Tracked r (M.book_of (after M M.start os)) (history M M.start os)
  unfolding state_after lines_of last_given
  tracked_calls = grown (λ os. Tracked r (M.book_of (after M M.start os)) (history M M.start os)) (rw M.begins (begun r.places, refl)) (λ os o t.
      let s = after M M.start os in
      let g = (always M os).good in
      let d = always_sound M os in
      subst₂ (Tracked r) (sym (ap M.book_of (after_one M M.start os o) ∙ M.follows s o d g)) (sym (history_one M M.start os o ∙ ap (λ vs. history M M.start os ++ vs) (M.honest s o d g)))
      (tracked_moves r (M.book_of s) (history M M.start os) (M.moves s o) g (M.fits s o d g) t))

  -- for any list of calls from the start the book is what the history says
  pub traced : (os : List O) → Traced r (M.book_of (after M M.start os)) (history M M.start os)
  traced os = traced_by r _ _ (tracked_calls os)
