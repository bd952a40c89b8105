-- Every move that fits keeps the ledger and the book together, and what it tells is fair.
-- Assumes nothing.
use Prim.Native.Nat.{ℕ, ◌+◌, ◌<◌}
use mathlib.Core.Path.{◌≡◌, refl, ap, sym, ◌∙◌}
use mathlib.Core.Logic.{⊎_elim}
use mathlib.Core.Bool.{false, not}
use mathlib.Core.Option.{some, none, some-injective}
use mathlib.Core.List.Memᴰ
use mathlib.Core.List.{List, [], ◌∷◌, ◌++◌, map-append, Memᴰ}
use native.Mathlib.Omega.{arith}
use lib.ListN.{length, get_or, set, replicate}
use lib.Seq.{get_or-set_same}
use borrow.Author.Tests.{eq-eqb, ne_eqb, eqb-true, eqb-false, not-true}
use Rattle.laws.specs.Lists.{filter}
use Rattle.laws.proofs.FilterLaws.{filter_none, filter_in, filter_idle, filter_swap, map-filter, filter_snoc, filter_snoc_no}
use Rattle.book.specs.Book.{Rules, Party, Live, Book, Move, Good, Fits, at, book, new_entry, apply, tell, live_in, has_id, without, added, struck, marked, is_of}
use Rattle.book.specs.Book.Move.{rest, pass, join, issue, reply, expire, strike, wipe, mark, adopt}
use Rattle.book.specs.Book.Event.{issued}
use Rattle.book.specs.Ledger.{Ticket, Ledger, post, posts, next, under, whose, parties_of, Alike, AllFair}
use Rattle.book.specs.Kept.{Latest, Waits, Kept}
use Rattle.book.proofs.PlaceLaws.{at_low, nothing_there, set_each, none_each, map_each, live_here, live_where, live_not, live_set, live_map}

-- the parties of an entry are those of the requests in w under its id, in order
abbrev Listed : {W N : Type 0} → List (Ticket W) → Live W N → Type 0
Listed w d = d.parties ≡ parties_of (filter (under d.id) w)

module _ {R W N : Type 0} (r : Rules R) (b : Book R W N) (l : Ledger W) where
  -- whoever waits under the id of an entry asked what it holds
  pub asked_same : Kept r b l → (k : ℕ) (e : Live W N) → at b k ≡ some e → (t : Ticket W) → Memᴰ t l.waiting → t.id ≡ e.id → t.what ≡ e.what
  asked_same c k e h t m q = some-injective t.what e.what (sym (c.waits t m).1 ∙ ap l.asked q ∙ (c.latest k e h).1)

  alike : Kept r b l → (id : ℕ) → Alike l id
  alike c id t m = let w = filter_in (under id) t l.waiting m in sym (ap l.asked (eqb-true t.id id w.1)) ∙ (c.waits t w.0).1

  -- nobody waits under an id that is not live
  none_yet : Kept r b l → (id : ℕ) → live_in b.places id ≡ false → filter (under id) l.waiting ≡ []
  none_yet c id f = filter_none (under id) l.waiting (λ t m. let w = live_where b.places t.id (c.waits t m).0 in ne_eqb t.id id (λ y. live_not b.places w.0 w.1 id f w.2 (w.3 ∙ y)))

  -- a request more under one id, seen under that id and under another
  one_more : (n : Ticket W) (ps : List Party) → ps ≡ parties_of (filter (under n.id) l.waiting) → ps ++ (n.party ∷ []) ≡ parties_of (filter (under n.id) (l.waiting ++ (n ∷ [])))
  one_more n ps q =
      ap (◌++ (n.party ∷ [])) q
      ∙ sym (ap parties_of (filter_snoc (under n.id) l.waiting n (eq-eqb n.id n.id refl)) ∙ map-append (λ (t : Ticket W). t.party) (filter (under n.id) l.waiting) (n ∷ []))

  none_more : (n : Ticket W) (id : ℕ) → (n.id ≡ id → ⊥) → parties_of (filter (under id) l.waiting) ≡ parties_of (filter (under id) (l.waiting ++ (n ∷ [])))
  none_more n id ne = sym (ap parties_of (filter_snoc_no (under id) l.waiting n (ne_eqb n.id id ne)))

  -- an entry is taken out, with all that wait under its id
  ended : Good r b → Kept r b l → (k : ℕ) (e : Live W N) → at b k ≡ some e
      → ((j : ℕ) (d : Live W N) → get_or (set b.places k none) j none ≡ some d → Listed (without (under e.id) l.waiting) d)
      × ((j : ℕ) (d : Live W N) → get_or (set b.places k none) j none ≡ some d → Latest (r.wait b.rule) l d)
      × ((t : Ticket W) → Memᴰ t (without (under e.id) l.waiting) → Waits (set b.places k none) l t)
  ended g c k e h =
      let ps = b.places in
      let z : k < length ps = at_low ps k e h in (
        none_each (Listed (without (under e.id) l.waiting)) ps k z (λ j d ne q.
            c.parties j d q
            ∙ ap parties_of (sym (filter_idle (under d.id) (λ t. not (under e.id t)) l.waiting
            (λ t u. ap not (ne_eqb t.id e.id (λ y. ne (g.differ j k d e q h (sym (eqb-true t.id d.id u) ∙ y)))))))),
        none_each (Latest (r.wait b.rule) l) ps k z (λ j d ne. c.latest j d),
        λ t m.
            let w = filter_in (λ t. not (under e.id t)) t l.waiting m in
            let s = c.waits t w.0 in
            let ne : e.id ≡ t.id → ⊥ = λ y. eqb-false t.id e.id (not-true (under e.id t) w.1) (sym y) in
            (live_set ps k none t.id (sym (ap (has_id t.id) h ∙ ne_eqb e.id t.id ne)) ∙ s.0, s.1, s.2),
      )

module _ {R W N : Type 0} (r : Rules R) where
  pub kept_fresh : (x : R) (c : ℕ) (l : Ledger W) → l.waiting ≡ [] → Kept r (book {W = W} {N = N} x (replicate r.places none) c l.now) l
  kept_fresh x c l w = record {
    clocks = refl;
    parties = λ k e q. absurd (nothing_there r.places k e q);
    latest = λ k e q. absurd (nothing_there r.places k e q);
    waits = λ t m. absurd (Memᴰ.not-nil (rw w at m));
  }

  pub kept_move : (b : Book R W N) (l : Ledger W) (m : Move R W N) → Good r b → Fits r b m → Kept r b l → Kept r (apply r b m) (posts l (tell m))
  unfolding posts
  kept_move b l (rest y) g h c = c
  kept_move b l (pass t) g h c = record {
    clocks = rw c.clocks refl;
    parties = c.parties;
    latest = λ k e q. let x = c.latest k e q in (x.0, x.1, x.2, omega (arith, x.3));
    waits = c.waits;
  }
  kept_move b l (join k e w p) g h c =
      let ps = b.places in
      let z : k < length ps = at_low ps k e h.0 in
      let n = next l e.id w p in
      let v = added p e in
      let x = c.latest k e h.0 in
      record {
        clocks = c.clocks;
        parties = set_each (Listed (l.waiting ++ (n ∷ []))) ps k v z (one_more r b l n e.parties (c.parties k e h.0))
            (λ j d ne q. c.parties j d q ∙ none_more r b l n d.id (λ y. ne (g.differ j k d e q h.0 (sym y))));
        latest = set_each (Latest (r.wait b.rule) l) ps k v z x (λ j d ne. c.latest j d);
        waits = λ t m. ⊎_elim
            (λ (o : Memᴰ t l.waiting). let s = c.waits t o in (live_set ps k (some v) t.id (sym (ap (has_id t.id) h.0)) ∙ s.0, s.1, s.2))
            (λ (o : Memᴰ t (n ∷ [])).
            rw (Memᴰ.eq_of_singleton o) (live_here (set ps k (some v)) k v e.id (get_or-set_same ps k (some v) none z) refl, x.1 ∙ ap some (sym h.3), x.3))
            (Memᴰ.append_cases l.waiting m);
      }
  kept_move b l (issue k id w nt dl p) g h c =
      let ps = b.places in
      let z : k < length ps = rw g.long h.0 in
      let n = next l id w p in
      let v = new_entry id w nt dl p in
      let f = h.2.free in
      record {
        clocks = c.clocks;
        parties = set_each (Listed (l.waiting ++ (n ∷ []))) ps k v z (one_more r b l n [] (ap parties_of (sym (none_yet r b l c id f))))
            (λ j d ne q. c.parties j d q ∙ none_more r b l n d.id (λ y. live_not ps j d id f q (sym y)));
        latest = set_each (Latest (r.wait b.rule) (post l (issued id w dl p))) ps k v z
            (rw (eq-eqb id id refl) (refl, refl, h.3 ∙ ap (λ (i : ℕ). i + r.wait b.rule) (sym c.clocks), omega arith))
            (λ j d ne q. rw (ne_eqb d.id id (live_not ps j d id f q)) (c.latest j d q));
        waits = λ t m. ⊎_elim
            (λ (o : Memᴰ t l.waiting).
            let s = c.waits t o in
            let y = live_where ps t.id s.0 in
            let ne : t.id ≡ id → ⊥ = λ q. live_not ps y.0 y.1 id f y.2 (y.3 ∙ q) in
            rw (ne_eqb t.id id ne) (live_set ps k (some v) t.id (ne_eqb id t.id (λ q. ne (sym q)) ∙ sym (ap (has_id t.id) h.1)) ∙ s.0, s.1, s.2))
            (λ (o : Memᴰ t (n ∷ [])).
            rw (Memᴰ.eq_of_singleton o) (rw (eq-eqb id id refl) (live_here (set ps k (some v)) k v id (get_or-set_same ps k (some v) none z) refl, refl, omega arith)))
            (Memᴰ.append_cases l.waiting m);
      }
  kept_move b l (reply k e) g h c = let w = ended r b l g c k e h in record { clocks = c.clocks; parties = w.0; latest = w.1; waits = w.2 }
  kept_move b l (expire k e) g h c = let w = ended r b l g c k e h.0 in record { clocks = c.clocks; parties = w.0; latest = w.1; waits = w.2 }
  kept_move b l (strike x) g h c = record {
    clocks = c.clocks;
    parties = map_each (Listed (without (whose (is_of x)) l.waiting)) b.places (struck x) (λ j e q.
        ap (without (is_of x)) (c.parties j e q)
        ∙ map-filter (λ (t : Ticket W). t.party) (λ y. not (is_of x y)) (filter (under e.id) l.waiting)
        ∙ ap parties_of (filter_swap (λ t. not (whose (is_of x) t)) (under e.id) l.waiting));
    latest = map_each (Latest (r.wait b.rule) l) b.places (struck x) c.latest;
    waits = λ t m.
        let s = c.waits t (filter_in (λ t. not (whose (is_of x) t)) t l.waiting m).0 in
        (live_map (struck x) b.places t.id (λ e. refl) ∙ s.0, s.1, s.2);
  }
  kept_move b l wipe g h c = record {
    clocks = c.clocks;
    parties = λ k e q. absurd (nothing_there r.places k e q);
    latest = λ k e q. absurd (nothing_there r.places k e q);
    waits = λ t m. absurd (Memᴰ.not-nil m);
  }
  kept_move b l (mark f) g h c = record {
    clocks = c.clocks;
    parties = map_each (Listed l.waiting) b.places (marked f) c.parties;
    latest = map_each (Latest (r.wait b.rule) l) b.places (marked f) c.latest;
    waits = λ t m. let s = c.waits t m in (live_map (marked f) b.places t.id (λ e. refl) ∙ s.0, s.1, s.2);
  }
  -- nothing is live, so no deadline is of another rule
  kept_move b l (adopt x) g h c = record { clocks = c.clocks; parties = c.parties; latest = λ k e q. absurd (h k e q); waits = c.waits }

  pub fair_move : (b : Book R W N) (l : Ledger W) (m : Move R W N) → Good r b → Fits r b m → Kept r b l → AllFair l (tell m)
  unfolding AllFair
  fair_move b l (rest y) g h c = tt
  fair_move b l (pass t) g h c = (tt, tt)
  fair_move b l (join k e w p) g h c = let x = c.latest k e h.0 in ((omega (arith, x.0, c.clocks, h.2), x.1 ∙ ap some (sym h.3)), tt)
  fair_move b l (issue k id w n d p) g h c = (none_yet r b l c id h.2.free, tt)
  fair_move b l (reply k e) g h c = ((c.parties k e h, alike r b l c e.id), tt)
  fair_move b l (expire k e) g h c = ((c.parties k e h.0, alike r b l c e.id, omega (arith, (c.latest k e h.0).0, c.clocks, h.1)), tt)
  fair_move b l (strike x) g h c = (tt, tt)
  fair_move b l wipe g h c = (tt, tt)
  fair_move b l (mark f) g h c = tt
  fair_move b l (adopt x) g h c = tt
