-- Every move that fits keeps the book good.
-- Assumes nothing.
use Prim.Native.Nat.{ℕ, ◌+◌, ◌≤◌, ◌<◌}
use mathlib.Core.Path.{◌≡◌, refl, ap, sym, ◌∙◌}
use mathlib.Core.Logic.{⊎_elim}
use mathlib.Core.Bool.{not}
use mathlib.Core.Option
use mathlib.Core.Option.{Option, some, none, some-injective}
use mathlib.Core.List.{List, [], ◌∷◌, map}
use native.Mathlib.Omega.{arith}
use lib.ListN.{length, get_or, set, replicate, length-set, length-map, length-append, length-replicate}
use Rattle.book.specs.Book.{Rules, Live, Book, Move, Good, Fits, at, book, new_entry, apply, added, struck, marked, is_of}
use Rattle.book.specs.Book.Move.{rest, pass, join, issue, reply, expire, strike, wipe, mark, adopt}
use Rattle.laws.proofs.CircleLaws.{turn_low}
use Rattle.laws.proofs.FilterLaws.{filter_le}
use Rattle.book.proofs.PlaceLaws.{at_low, set_cases, none_cases, map_cases, nothing_there, set_each, none_each, map_each, live_not}

module _ {R W N : Type 0} (r : Rules R) where
  -- the ids differ still where that of the changed place differs from all others
  differ-set : (l : List (Option (Live W N))) (k : ℕ) (v : Live W N) → k < length l
      → ((i j : ℕ) (d e : Live W N) → get_or l i none ≡ some d → get_or l j none ≡ some e → d.id ≡ e.id → i ≡ j)
      → ((j : ℕ) (e : Live W N) → (j ≡ k → ⊥) → get_or l j none ≡ some e → e.id ≡ v.id → ⊥)
      → (i j : ℕ) (d e : Live W N) → get_or (set l k (some v)) i none ≡ some d → get_or (set l k (some v)) j none ≡ some e → d.id ≡ e.id → i ≡ j
  differ-set l k v h a o i j d e p q z =
      ⊎_elim
      (λ x. ⊎_elim
      (λ y. x.0 ∙ sym y.0)
      (λ y. absurd (o j e y.0 y.1 (sym z ∙ ap (λ (u : Live W N). u.id) (sym (some-injective v d x.1)))))
      (set_cases l k (some v) j e h q))
      (λ x. ⊎_elim
      (λ y. absurd (o i d x.0 x.1 (z ∙ ap (λ (u : Live W N). u.id) (sym (some-injective v e y.1)))))
      (λ y. a i j d e x.1 y.1 z)
      (set_cases l k (some v) j e h q))
      (set_cases l k (some v) i d h p)

  -- an entry comes into a place, or changes there
  placed : (b : Book R W N) (k : ℕ) (v : Live W N) (c : ℕ) → Good r b → k < length b.places → c < r.ids → v.id < r.ids → length v.parties ≤ r.room
      → ((j : ℕ) (e : Live W N) → (j ≡ k → ⊥) → at b j ≡ some e → e.id ≡ v.id → ⊥) → Good r (book b.rule (set b.places k (some v)) c b.clock)
  placed b k v c g z cl il rm o =
      let l = b.places in
      record {
        long = length-set l k (some v) ∙ g.long;
        turned = cl;
        low = set_each (λ e. e.id < r.ids) l k v z il (λ j e n. g.low j e);
        room = set_each (λ e. length e.parties ≤ r.room) l k v z rm (λ j e n. g.room j e);
        differ = differ-set l k v z g.differ o;
      }

  -- an entry is taken out
  ended : (b : Book R W N) (k : ℕ) (e : Live W N) → Good r b → at b k ≡ some e → Good r (book b.rule (set b.places k none) b.cursor b.clock)
  ended b k e g h =
      let l = b.places in
      let z : k < length l = at_low l k e h in
      record {
        long = length-set l k none ∙ g.long;
        turned = g.turned;
        low = none_each (λ e. e.id < r.ids) l k z (λ j e n. g.low j e);
        room = none_each (λ e. length e.parties ≤ r.room) l k z (λ j e n. g.room j e);
        differ = λ i j d e p q. g.differ i j d e (none_cases l k i d z p).1 (none_cases l k j e z q).1;
      }

  -- every entry changes, and keeps its id and no more than its parties
  changed : (f : Live W N → Live W N) → ((e : Live W N) → (f e).id ≡ e.id) → ((e : Live W N) → length (f e).parties ≤ length e.parties)
      → (b : Book R W N) → Good r b → Good r (book b.rule (map (Option.map f) b.places) b.cursor b.clock)
  changed f fi fp b g =
      let l = b.places in
      record {
        long = length-map l (Option.map f) ∙ g.long;
        turned = g.turned;
        low = map_each (λ e. e.id < r.ids) l f (λ j e q. rw (fi e) (g.low j e q));
        room = map_each (λ e. length e.parties ≤ r.room) l f (λ j e q. let y = fp e in let z = g.room j e q in omega arith);
        differ = λ i j d e p q z.
            let v = map_cases f l i d p in
            let w = map_cases f l j e q in
            g.differ i j v.0 w.0 v.1 w.1 (sym (fi v.0) ∙ ap (λ (x : Live W N). x.id) v.2 ∙ z ∙ ap (λ (x : Live W N). x.id) (sym w.2) ∙ fi w.0);
      }

  -- the places, the ids and the cursor are all that counts
  good_same : (b : Book R W N) (x : R) (t : ℕ) → Good r b → Good r (book x b.places b.cursor t)
  good_same b x t g = record { long = g.long; turned = g.turned; low = g.low; room = g.room; differ = g.differ }

  pub good_fresh : (x : R) (c t : ℕ) → c < r.ids → Good r (book {W = W} {N = N} x (replicate r.places none) c t)
  good_fresh x c t h = record {
    long = length-replicate r.places none;
    turned = h;
    low = λ k e q. absurd (nothing_there r.places k e q);
    room = λ k e q. absurd (nothing_there r.places k e q);
    differ = λ i j d e p q z. absurd (nothing_there r.places i d p);
  }

  pub good_move : (b : Book R W N) (m : Move R W N) → Good r b → Fits r b m → Good r (apply r b m)
  good_move b (rest y) g h = g
  good_move b (pass t) g h = good_same b b.rule _ g
  good_move b (join k e w p) g h =
      placed b k (added p e) b.cursor g (at_low b.places k e h.0) g.turned (g.low k e h.0) (let a = length-append e.parties (p ∷ []) in let q = h.1 in omega arith)
      (λ j d n q t. n (g.differ j k d e q h.0 t))
  good_move b (issue k id w n d p) g h =
      let x = h.2 in
      let il : id < r.ids = rw x.here (turn_low r.ids (b.cursor + x.steps) (let a = g.turned in let c = x.near in omega arith)) in
      placed b k (new_entry id w n d p) _ g (rw g.long h.0) (omega (arith, turn_low r.ids (id + 1) (omega arith), g.turned)) il r.roomy
      (λ j e ne q t. live_not b.places j e id x.free q t)
  good_move b (reply k e) g h = ended b k e g h
  good_move b (expire k e) g h = ended b k e g h.0
  good_move b (strike c) g h = changed (struck c) (λ e. refl) (λ e. omega (arith, filter_le (λ p. not (is_of c p)) e.parties)) b g
  good_move b wipe g h = good_fresh b.rule _ b.clock (omega (arith, g.turned))
  good_move b (mark f) g h = changed (marked f) (λ e. refl) (λ e. omega arith) b g
  good_move b (adopt x) g h = good_same b x b.clock g
