-- The theorem: whatever the calls, the book and the history of a machine that follows its book agree, and every accepted request is accounted for.
-- Assumes nothing.
use Prim.Native.Nat.{ℕ, ◌+◌, ◌-◌, ◌≤◌, ◌<◌}
use mathlib.Core.Path.{◌≡◌, refl, ap, sym, ◌∙◌, subst, subst₂}
use mathlib.Core.Bool.{true}
use mathlib.Core.Logic.{⊎_elim}
use mathlib.Core.List.{List, [], ◌∷◌, ◌++◌, append-nil, append_assoc, Memᴰ}
use native.Mathlib.Omega.{arith}
use lib.ListN.{length}
use Rattle.laws.proofs.FilterLaws.{filter_all}
use Rattle.book.specs.Book.{Rules, Book, Event, Move, Good, Fits, apply, tell, fresh}
use Rattle.book.specs.Ledger.{Ticket, Ledger, Apart, empty, post, posts, AllFair, Moved, whose, many}
use Rattle.book.specs.Kept.{Kept, held}
use Rattle.book.specs.Follower.{Follower, tells, applies, AllFit, after, history, Accounted, state_after, lines_of}
use Rattle.book.specs.Desk.{Op, choose}
use Rattle.book.proofs.PlaceLaws.{live_where}
use Rattle.book.proofs.GoodLaws.{good_fresh, good_move}
use Rattle.book.proofs.KeptLaws.{kept_fresh, kept_move, fair_move, asked_same}
use Rattle.book.proofs.LedgerLaws.{posts_append, fair_append, shared, once, counted, moved}
use Rattle.book.proofs.SpacedLaws.{Spaced, spaced_move, spaced_fresh}
use Rattle.book.proofs.HeldLaws.{held_waiting, held_by_lem}
use Rattle.book.proofs.ChooseLaws.{choose_fits}

-- what every book and the ledger of its history have in common
record Truth {R W N : Type 0} (r : Rules R) (b : Book R W N) (l : Ledger W) : Type 0 where
  good : Good r b
  kept : Kept r b l
  spaced : Spaced r b l.issues

-- facts on numbers alone: where a record like `Truth` is in reach, `omega` reads its fields too, and takes seconds
sum : (a c d e f g h i j : ℕ) → a ≡ c + d + e + f + g → a ≡ 0 + h → c ≡ 0 + i → d ≡ 0 + j → h ≡ i + j + e + f + g
sum a c d e f g h i j p q u v = omega arith

later : (t d o n u : ℕ) → t < d → d ≡ o + n → o ≤ u → t < u + n
later t d o n u h k z = omega arith

module _ {R W N : Type 0} (r : Rules R) where
  truth_move : (b : Book R W N) (l : Ledger W) (m : Move R W N) → Fits r b m → Truth r b l → Truth r (apply r b m) (posts l (tell m))
  truth_move b l m h t = record { good = good_move r b m t.good h; kept = kept_move r b l m t.good h t.kept; spaced = spaced_move r b l m t.good h t.spaced }

  truth_moves : (b : Book R W N) (l : Ledger W) (ms : List (Move R W N)) → AllFit r b ms → Truth r b l → Truth r (applies r b ms) (posts l (tells ms)) × AllFair l (tells ms)
  unfolding applies AllFit posts AllFair tells
  truth_moves b l [] h t = (t, tt)
  truth_moves b l (m ∷ ms) h t =
      let i = truth_moves (apply r b m) (posts l (tell m)) ms h.1 (truth_move b l m h.0 t) in
      (rw (posts_append l (tell m) (tells ms)) i.0, fair_append l (tell m) (tells ms) (fair_move r b l m t.good h.0 t.kept) i.1)

  truth_fresh : (x : R) → Truth r (fresh {W = W} {N = N} r x) empty
  truth_fresh x = record { good = good_fresh r x 0 0 (let f = r.fewer in omega arith); kept = kept_fresh r x 0 empty refl; spaced = spaced_fresh r (fresh r x) }

  balanced : (b : Book R W N) (vs : List (Event W)) → Truth r b (posts empty vs)
      → length (posts empty vs).accepted ≡ length (posts empty vs).replied + length (posts empty vs).timed_out + length (posts empty vs).left + length (posts empty vs).lost + held r b
  balanced b vs t =
      let l = posts empty vs in
      let all : (ts : List (Ticket W)) → many (λ t. true) ts ≡ length ts = λ ts. ap length (filter_all ts) in
      sym (all l.accepted) ∙ shared (λ x. true) vs
      ∙ rw (all l.replied, all l.timed_out, all l.left, all l.lost, all l.waiting, held_waiting r b l t.kept t.good)

  accounted : (b : Book R W N) (vs : List (Event W)) → Truth r b (posts empty vs) → AllFair empty vs → Accounted r b vs (posts empty vs)
  accounted b vs t f =
      let l = posts empty vs in
      let c = counted empty vs f in
      record {
        tallies = sum _ _ _ _ _ _ _ _ _ (balanced b vs t) c.0 c.1 c.2;
        balance = balanced b vs t;
        balances = λ q. shared (whose q) vs ∙ rw (held_by_lem r b l t.kept t.good q);
        once = once vs;
        entries = t.kept.parties;
        deadlines = λ k e h. (t.kept.latest k e h).2;
        waits = λ x m.
            let w = live_where b.places x.id (t.kept.waits x m).0 in
            (w.0, w.1, w.2, w.3, (t.kept.latest w.0 w.1 w.2).2 ∙ ap (λ (i : ℕ). l.opened i + r.wait b.rule) w.3);
        asked = asked_same r b l t.kept;
        answers = f;
        good = t.good;
        drained = λ d x m.
            let s = t.kept.waits x m in
            let w = live_where b.places x.id s.0 in
            later b.clock w.1.deadline (l.opened x.id) (r.wait b.rule) x.time (d w.0 w.1 w.2)
            ((t.kept.latest w.0 w.1 w.2).2 ∙ ap (λ (i : ℕ). l.opened i + r.wait b.rule) w.3) s.2;
      }

truth_cast : {R W N : Type 0} (r : Rules R) (b b' : Book R W N) (l l' : Ledger W) → b ≡ b' → l ≡ l' → Truth r b' l' → Truth r b l
truth_cast r b b' l l' p q t = subst₂ (λ x y. Truth r x y) (sym p) (sym q) t

module _ {R : Type 0} {r : Rules R} {W N O : Type 0} {A : O → Type 0} {S : Type 0} (M : Follower r W N O A S) where
  run : (s : S) (l : Ledger W) (os : List O) → M.Sound s → Truth r (M.book_of s) l
      → Truth r (M.book_of (after M s os)) (posts l (history M s os)) × AllFair l (history M s os) × M.Sound (after M s os)
  unfolding state_after lines_of posts AllFair
  run s l [] d t = (t, tt, d)
  run s l (o ∷ os) d t =
      let s' = M.next s o in
      let vs = M.seen o (M.answer s o) in
      let ms = M.moves s o in
      let i = truth_moves r (M.book_of s) l ms (M.fits s o d t.good) t in
      let e = M.honest s o d t.good in
      let t' = truth_cast r (M.book_of s') (applies r (M.book_of s) ms) (posts l vs) (posts l (tells ms)) (M.follows s o d t.good) (ap (posts l) e) i.0 in
      let j = run s' (posts l vs) os (M.sound_next s o l d t.good t.kept) t' in
      let b' = M.book_of (after M s' os) in (
        truth_cast r b' b' (posts l (vs ++ history M s' os)) (posts (posts l vs) (history M s' os)) refl (posts_append l vs (history M s' os)) j.0,
        fair_append l vs (history M s' os) (subst (AllFair l) (sym e) i.1) j.1,
        j.2,
      )

  -- the state after some calls and then others, and after one more; and what calls say that come after others
  pub after_on : (s : S) (os us : List O) → after M s (os ++ us) ≡ after M (after M s os) us
  unfolding state_after
  after_on s [] us = refl
  after_on s (o ∷ os) us = after_on (M.next s o) os us

  pub after_one : (s : S) (os : List O) (o : O) → after M s (os ++ (o ∷ [])) ≡ M.next (after M s os) o
  unfolding state_after
  after_one s os o = after_on s os (o ∷ [])

  pub history_on : (s : S) (os us : List O) → history M s (os ++ us) ≡ history M s os ++ history M (after M s os) us
  unfolding state_after lines_of
  history_on s [] us = refl
  history_on s (o ∷ os) us = ap (λ vs. M.seen o (M.answer s o) ++ vs) (history_on (M.next s o) os us) ∙ sym (append_assoc (M.seen o (M.answer s o)) _ _)

  pub history_one : (s : S) (os : List O) (o : O) → history M s (os ++ (o ∷ [])) ≡ history M s os ++ M.seen o (M.answer (after M s os) o)
  unfolding lines_of
  history_one s os o = history_on s os (o ∷ []) ∙ ap (λ vs. history M s os ++ vs) (append-nil (M.seen o (M.answer (after M s os) o)))

  -- every line of a history is seen at one of its calls
  pub seen_at : (s : S) (os : List O) (e : Event W) → Memᴰ e (history M s os)
      → (xs : List O) × (o : O) × (ys : List O) × (os ≡ xs ++ o ∷ ys) × Memᴰ e (M.seen o (M.answer (after M s xs) o))
  unfolding state_after lines_of
  seen_at s [] e m = absurd (mathlib.Core.List.Memᴰ.not-nil m)
  seen_at s (o ∷ os) e m =
      ⊎_elim
      (λ (h : Memᴰ e (M.seen o (M.answer s o))). ([], o, os, refl, h))
      (λ (h : Memᴰ e (history M (M.next s o) os)). let i = seen_at (M.next s o) os e h in (o ∷ i.0, i.1, i.2, ap (o ∷◌) i.3, i.4))
      (mathlib.Core.List.Memᴰ.append_cases (M.seen o (M.answer s o)) m)

  from_the_start : (os : List O)
      → Truth r (M.book_of (after M M.start os)) (posts empty (history M M.start os)) × AllFair empty (history M M.start os) × M.Sound (after M M.start os)
  from_the_start os = run M.start empty os M.sound_start (rw M.begins (truth_fresh r M.made))

  -- for any list of calls from the start the history is accounted for
  pub always : (os : List O) → Accounted r (M.book_of (after M M.start os)) (history M M.start os) (posts empty (history M M.start os))
  always os = let i = from_the_start os in accounted r _ _ i.0 i.1

  -- and what the states are known to be holds of every state
  pub always_sound : (os : List O) → M.Sound (after M M.start os)
  always_sound os = (from_the_start os).2

  -- The distance of ids, for any number of ids and places: whatever the calls, between two issues of one id there are at least ids - places others.
  pub ids_come_round_late : (os : List O) → Apart (r.ids - r.places) (posts empty (history M M.start os)).issues
  ids_come_round_late os = (from_the_start os).0.spaced.apart

module _ {R W N : Type 0} (r : Rules R) (b : Book R W N) (vs : List (Event W)) (l : Ledger W) (a : Accounted r b vs l) where
  -- the list of every answer in the history is exactly the parties of the requests that it takes out of waiting, in order, and they go into its group; and so for a leaving and a lost link
  pub answers_exactly : (us : List (Event W)) (v : Event W) (ws : List (Event W)) → vs ≡ us ++ v ∷ ws → Moved (posts empty us) v (post (posts empty us) v)
  answers_exactly us v ws e = moved us v ws (subst (AllFair empty) e a.answers)

-- the desk is a machine that follows its book
unfoldable pub desk : {R W N : Type 0} (r : Rules R) → R → Follower r W N (Op R W N) (λ o. Move R W N) (Book R W N)
unfolding applies AllFit tells
desk r x = record {
  made = x;
  start = fresh r x;
  next = λ b o. apply r b (choose r b o);
  answer = choose r;
  seen = λ o m. tell m;
  Sound = λ b. Unit {0};
  book_of = λ b. b;
  moves = λ b o. choose r b o ∷ [];
  sound_start = tt;
  sound_next = λ b o l u g c. tt;
  begins = refl;
  follows = λ b o u g. refl;
  fits = λ b o u g. (choose_fits r b g o, tt);
  honest = λ b o u g. sym (append-nil (tell (choose r b o)));
}

pub desk_accounted : {R W N : Type 0} (r : Rules R) (x : R) (os : List (Op R W N))
    → Accounted r (after (desk r x) (fresh r x) os) (history (desk r x) (fresh r x) os) (posts empty (history (desk r x) (fresh r x) os))
unfolding desk
desk_accounted r x os = always (desk r x) os
