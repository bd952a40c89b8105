-- The ledger alone: whatever the events, every accepted request stands in one group, once; what leaves `waiting` goes into the group of its event and never comes back; and
-- a client that left is answered nothing that it asked before.
-- Assumes nothing.
use Prim.Native.Nat.{ℕ, ◌+◌, ◌≤◌, ◌<◌}
use mathlib.Core.Path.{◌≡◌, refl, ap, sym, ◌∙◌}
use mathlib.Core.Logic.{⊎_elim, ◌⊎◌, inl, inr}
use mathlib.Core.Bool.{Bool, true, false, cond, not, true≢false}
use mathlib.Core.List.Memᴰ
use mathlib.Core.List.{List, [], ◌∷◌, ◌++◌, Memᴰ}
use native.Mathlib.Omega.{arith}
use lib.ListN.{length, length-append, length-map}
use lib.Dec.{eqb, ltb}
use borrow.Author.Tests.{eq-eqb, ne_eqb, not-true, lt-ltb, le-ltb}
use Rattle.laws.specs.Lists.{filter}
use Rattle.laws.proofs.Choice.{true_or, eq_or, lt_or}
use Rattle.laws.proofs.FilterLaws.{filter_none, filter_in, filter_all, share, member_length, filter-count, filter_ext, filter-keep}
use Rattle.book.specs.Book.{Event, Party, is_of, without}
use Rattle.book.specs.Book.Event.{passed, joined, issued, replied, expired, left, lost}
use Rattle.book.specs.Ledger.{Ticket, Ledger, empty, post, posts, next, under, whose, numbered, parties_of, many, Fair, AllFair, tally, accepts, replies, timeouts, gone, Moved, Anew}
use Rattle.laws.proofs.CountLaws.{at_most_one}

plus : (a b c d e : ℕ) → a ≡ b + e → b ≡ c + d → a ≡ c + (d + e)
plus a b c d e h k = omega arith

module _ {W : Type 0} where
  -- what every event keeps, every list of events keeps
  pub posts-keep : (P : Ledger W → Type 0) → ((l : Ledger W) (v : Event W) → P l → P (post l v)) → (l : Ledger W) (vs : List (Event W)) → P l → P (posts l vs)
  unfolding posts
  posts-keep P f l [] h = h
  posts-keep P f l (v ∷ vs) h = posts-keep P f (post l v) vs (f l v h)

  pub posts_append : (l : Ledger W) (us vs : List (Event W)) → posts l (us ++ vs) ≡ posts (posts l us) vs
  unfolding posts
  posts_append l [] vs = refl
  posts_append l (u ∷ us) vs = posts_append (post l u) us vs

  pub fair_append : (l : Ledger W) (us vs : List (Event W)) → AllFair l us → AllFair (posts l us) vs → AllFair l (us ++ vs)
  unfolding posts AllFair
  fair_append l [] vs a c = c
  fair_append l (u ∷ us) vs a c = (a.0, fair_append (post l u) us vs a.1 c)

  fair_there : (l : Ledger W) (us : List (Event W)) (v : Event W) (vs : List (Event W)) → AllFair l (us ++ v ∷ vs) → Fair (posts l us) v
  unfolding posts AllFair
  fair_there l [] v vs a = a.0
  fair_there l (u ∷ us) v vs a = fair_there (post l u) us v vs a.1

  -- of the requests that pass a test as many were accepted as stand in the groups
  abbrev pub Shared : (Ticket W → Bool) → Ledger W → Type 0
  Shared q l = many q l.accepted ≡ many q l.replied + many q l.timed_out + many q l.left + many q l.lost + many q l.waiting

  shared_post : (q : Ticket W → Bool) (l : Ledger W) (v : Event W) → Shared q l → Shared q (post l v)
  unfolding filter
  shared_post q l (passed t) h = h
  shared_post q l (joined id w p) h = simp filter-count (omega arith)
  shared_post q l (issued id w d p) h = simp filter-count (omega arith)
  shared_post q l (replied id ps) h = simp filter-count (omega (arith, share q (under id) l.waiting))
  shared_post q l (expired id ps) h = simp filter-count (omega (arith, share q (under id) l.waiting))
  shared_post q l (left c) h = simp filter-count (omega (arith, share q (whose (is_of c)) l.waiting))
  shared_post q l lost h = simp filter-count (omega arith)

  pub shared : (q : Ticket W → Bool) (vs : List (Event W)) → Shared q (posts empty vs)
  unfolding filter
  shared q vs = posts-keep (Shared q) (shared_post q) empty vs (omega arith)

  -- the accepted are numbered from 0 on, and no number is given twice
  abbrev pub Numbered : Ledger W → Type 0
  Numbered l = (s : ℕ) → many (numbered s) l.accepted ≡ cond (ltb s (length l.accepted)) 1 0

  numbered_more : (l : Ledger W) (id : ℕ) (w : W) (p : Party) → Numbered l → (s : ℕ) → many (numbered s) (l.accepted ++ (next l id w p ∷ [])) ≡ cond (ltb s (length (l.accepted ++ (next l id w p ∷ [])))) 1 0
  unfolding filter
  numbered_more l id w p h s =
      let n = length l.accepted in
      let e : length (l.accepted ++ (next l id w p ∷ [])) ≡ n + 1 = length-append l.accepted (next l id w p ∷ []) in
      rw (filter-count (numbered s) l.accepted (next l id w p ∷ []), e, h s)
      (⊎_elim
      (λ (z : s < n). rw (lt-ltb s n z, lt-ltb s (n + 1) (omega arith), ne_eqb n s (λ y. omega arith)) (omega arith))
      (λ (z : n ≤ s). rw (le-ltb s n z)
      (⊎_elim
      (λ (y : n ≡ s). rw (eq-eqb n s y, lt-ltb s (n + 1) (omega arith)) (omega arith))
      (λ (y : n ≡ s → ⊥). rw (ne_eqb n s y, le-ltb s (n + 1) (omega (arith, y))) (omega arith))
      (eq_or n s)))
      (lt_or s n))

  numbered-post : (l : Ledger W) (v : Event W) → Numbered l → Numbered (post l v)
  numbered-post l (passed t) h = h
  numbered-post l (joined id w p) h = numbered_more l id w p h
  numbered-post l (issued id w d p) h = numbered_more l id w p h
  numbered-post l (replied id ps) h = h
  numbered-post l (expired id ps) h = h
  numbered-post l (left c) h = h
  numbered-post l lost h = h

  pub all_numbered : (vs : List (Event W)) → Numbered (posts empty vs)
  unfolding filter
  all_numbered vs = posts-keep Numbered numbered-post empty vs (λ s. rw (le-ltb s 0 (omega arith)))

  -- every number that was given is in one of the groups, and there once
  pub once : (vs : List (Event W)) (s : ℕ) → s < length (posts empty vs).accepted
      → many (numbered s) (posts empty vs).replied + many (numbered s) (posts empty vs).timed_out + many (numbered s) (posts empty vs).left + many (numbered s) (posts empty vs).lost + many (numbered s) (posts empty vs).waiting ≡ 1
  once vs s h = sym (shared (numbered s) vs) ∙ all_numbered vs s ∙ rw (lt-ltb s (length (posts empty vs).accepted) h)

  Distinct : List (Ticket W) → Type 0
  Distinct ts = (s : ℕ) → many (numbered s) ts ≤ 1

  distinct : (vs : List (Event W)) → Distinct (posts empty vs).waiting
  unfolding Distinct
  distinct vs s = omega (arith, shared (numbered s) vs, all_numbered vs s, at_most_one (ltb s (length (posts empty vs).accepted)))

  -- the groups are as long as the lines of the history say

  listed : (id : ℕ) (ps : List Party) (g w : List (Ticket W)) → ps ≡ parties_of (filter (under id) w) → length (g ++ filter (under id) w) ≡ length g + length ps
  listed id ps g w f = length-append g (filter (under id) w) ∙ ap (length g +◌) (sym (ap length f ∙ length-map (filter (under id) w) (λ (t : Ticket W). t.party)))

  abbrev pub Counted : Ledger W → Ledger W → (accepts replies timeouts : ℕ) → Type 0
  Counted l m a r t = (length m.accepted ≡ length l.accepted + a) × (length m.replied ≡ length l.replied + r) × (length m.timed_out ≡ length l.timed_out + t)

  counted-post : (l : Ledger W) (v : Event W) → Fair l v → Counted l (post l v) (accepts v) (replies v) (timeouts v)
  counted-post l (passed t) f = omega arith
  counted-post l (joined id w p) f = omega (arith, length-append l.accepted (next l id w p ∷ []))
  counted-post l (issued id w d p) f = omega (arith, length-append l.accepted (next l id w p ∷ []))
  counted-post l (replied id ps) f = omega (arith, listed id ps l.replied l.waiting f.0)
  counted-post l (expired id ps) f = omega (arith, listed id ps l.timed_out l.waiting f.0)
  counted-post l (left c) f = omega arith
  counted-post l lost f = omega arith

  pub counted : (l : Ledger W) (vs : List (Event W)) → AllFair l vs → Counted l (posts l vs) (tally accepts vs) (tally replies vs) (tally timeouts vs)
  unfolding posts tally AllFair
  counted l [] f = omega arith
  counted l (v ∷ vs) f =
      let a = counted-post l v f.0 in
      let i = counted (post l v) vs f.1 in
      (plus _ _ _ (accepts v) _ i.0 a.0, plus _ _ _ (replies v) _ i.1 a.1, plus _ _ _ (timeouts v) _ i.2 a.2)

  -- what is gone where the requests that pass a test are taken out
  gone-filter : (p : Ticket W → Bool) (ts : List (Ticket W)) → Distinct ts → filter (λ t. eqb (many (numbered t.serial) (without p ts)) 0) ts ≡ filter p ts
  unfolding Distinct
  gone-filter p ts d = filter_ext _ p ts (λ t m.
      let s = t.serial in
      let u = share (numbered s) p ts in
      ⊎_elim
      (λ (y : p t ≡ true).
      let o = member_length t _ (filter-keep (numbered s) t (filter p ts) (filter-keep p t ts m y) (eq-eqb s s refl)) in
      eq-eqb (many (numbered s) (without p ts)) 0 (omega (arith, d s)) ∙ sym y)
      (λ (y : p t ≡ false).
      let o = member_length t _ (filter-keep (numbered s) t (without p ts) (filter-keep (λ x. not (p x)) t ts m (ap not y)) (eq-eqb s s refl)) in
      ne_eqb (many (numbered s) (without p ts)) 0 (λ z. omega arith) ∙ sym y)
      (true_or (p t)))

  moved-post : (l : Ledger W) (v : Event W) → Distinct l.waiting → Fair l v → Moved l v (post l v)
  unfolding filter
  moved-post l (passed t) d f = (refl, refl, refl, refl)
  moved-post l (joined id w p) d f = (refl, refl, refl, refl)
  moved-post l (issued id w i p) d f = (refl, refl, refl, refl)
  moved-post l (replied id ps) d f = let g = gone-filter (under id) l.waiting d in (ap (l.replied ++◌) (sym g), refl, refl, refl, f.0 ∙ ap parties_of (sym g))
  moved-post l (expired id ps) d f = let g = gone-filter (under id) l.waiting d in (refl, ap (l.timed_out ++◌) (sym g), refl, refl, f.0 ∙ ap parties_of (sym g))
  moved-post l (left c) d f = let g = gone-filter (whose (is_of c)) l.waiting d in (refl, refl, ap (l.left ++◌) (sym g), refl, g)
  moved-post l lost d f = let g : gone l (post l lost) ≡ l.waiting = filter_all l.waiting in (refl, refl, refl, ap (l.lost ++◌) (sym g), g)

  -- of any event of a fair history: what it takes out of waiting goes into its own group, and an answer's list is exactly the parties of that, in order
  pub moved : (us : List (Event W)) (v : Event W) (vs : List (Event W)) → AllFair empty (us ++ v ∷ vs) → Moved (posts empty us) v (post (posts empty us) v)
  moved us v vs f = moved-post (posts empty us) v (distinct us) (fair_there empty us v vs f)

  -- from the ledger l on only requests with a property come to wait and are answered: those that wait in l have it, and all with numbers from n on
  record Only (P : Ticket W → Type 0) (n : ℕ) (l m : Ledger W) : Type 0 where
    long : n ≤ length m.accepted
    waits : (t : Ticket W) → Memᴰ t m.waiting → P t
    replied : (t : Ticket W) → Memᴰ t m.replied → Memᴰ t l.replied ⊎ P t
    timed_out : (t : Ticket W) → Memᴰ t m.timed_out → Memᴰ t l.timed_out ⊎ P t

  module _ (P : Ticket W → Type 0) (n : ℕ) (late : (t : Ticket W) → n ≤ t.serial → P t) (l : Ledger W) where
    waits_more : (m : Ledger W) (id : ℕ) (w : W) (p : Party) → Only P n l m → (t : Ticket W) → Memᴰ t (m.waiting ++ (next m id w p ∷ [])) → P t
    waits_more m id w p o t i = ⊎_elim (o.waits t) (λ j. late t (let e : t.serial ≡ length m.accepted = ap (λ (x : Ticket W). x.serial) (Memᴰ.eq_of_singleton j) in omega (arith, e, o.long))) (Memᴰ.append_cases m.waiting i)

    long_more : (m : Ledger W) (x : Ticket W) → Only P n l m → n ≤ length (m.accepted ++ (x ∷ []))
    long_more m x o = omega (arith, length-append m.accepted (x ∷ []), o.long)

    -- those that pass a test are put behind a group
    put : (m : Ledger W) (q : Ticket W → Bool) (g h : List (Ticket W)) → Only P n l m → ((t : Ticket W) → Memᴰ t h → Memᴰ t g ⊎ P t) → (t : Ticket W) → Memᴰ t (h ++ filter q m.waiting) → Memᴰ t g ⊎ P t
    put m q g h o f t i = ⊎_elim (f t) (λ j. inr (o.waits t (filter_in q t m.waiting j).0)) (Memᴰ.append_cases h i)

    -- those that pass a test wait still
    waits_less : (m : Ledger W) (q : Ticket W → Bool) → Only P n l m → (t : Ticket W) → Memᴰ t (filter q m.waiting) → P t
    waits_less m q o t i = o.waits t (filter_in q t m.waiting i).0

    only_post : (m : Ledger W) (v : Event W) → Only P n l m → Only P n l (post m v)
    only_post m (passed t) o = record { long = o.long; waits = o.waits; replied = o.replied; timed_out = o.timed_out }
    only_post m (joined id w p) o = record { long = long_more m (next m id w p) o; waits = waits_more m id w p o; replied = o.replied; timed_out = o.timed_out }
    only_post m (issued id w d p) o = record { long = long_more m (next m id w p) o; waits = waits_more m id w p o; replied = o.replied; timed_out = o.timed_out }
    only_post m (replied id ps) o = record { long = o.long; waits = waits_less m _ o; replied = put m (under id) l.replied m.replied o o.replied; timed_out = o.timed_out }
    only_post m (expired id ps) o = record { long = o.long; waits = waits_less m _ o; replied = o.replied; timed_out = put m (under id) l.timed_out m.timed_out o o.timed_out }
    only_post m (left c) o = record { long = o.long; waits = waits_less m _ o; replied = o.replied; timed_out = o.timed_out }
    only_post m lost o = record { long = o.long; waits = λ t i. absurd (Memᴰ.not-nil i); replied = o.replied; timed_out = o.timed_out }

    only : (vs : List (Event W)) → n ≤ length l.accepted → ((t : Ticket W) → Memᴰ t l.waiting → P t) → Only P n l (posts l vs)
    only vs h f = posts-keep (Only P n l) only_post l vs (record { long = h; waits = f; replied = λ t. inl; timed_out = λ t. inl })

  -- a request that does not wait never waits again
  pub never_again : (l : Ledger W) (vs : List (Event W)) (s : ℕ) → s < length l.accepted → many (numbered s) l.waiting ≡ 0 → many (numbered s) (posts l vs).waiting ≡ 0
  unfolding filter
  never_again l vs s h z =
      let o = only (λ t. t.serial ≡ s → ⊥) (s + 1) (λ t g e. omega arith) l vs (omega arith) (λ t m e.
      let y = member_length t _ (filter-keep (numbered s) t l.waiting m (eq-eqb t.serial s e)) in omega arith) in
      ap length (filter_none (numbered s) (posts l vs).waiting (λ t m. ne_eqb t.serial s (o.waits t m)))

  -- a client that leaves has nothing waiting
  pub left-nothing : (l : Ledger W) (c : ℕ) (t : Ticket W) → Memᴰ t (post l (left c)).waiting → t.party.client ≡ c → ⊥
  left-nothing l c t m e = true≢false (sym (eq-eqb t.party.client c e) ∙ not-true (whose (is_of c) t) (filter_in (λ x. not (whose (is_of c) x)) t l.waiting m).1)

  -- where nothing of a client waits, whoever has its number afterwards is answered nothing but what was accepted since
  anew : (l : Ledger W) (c : ℕ) (vs : List (Event W)) → ((t : Ticket W) → Memᴰ t l.waiting → t.party.client ≡ c → ⊥) → Anew c l (posts l vs)
  anew l c vs none =
      let n = length l.accepted in
      let o = only (λ t. t.party.client ≡ c → n ≤ t.serial) n (λ t h e. h) l vs (omega arith) (λ t m e. absurd (none t m e)) in
      record {
        replied = λ t m e. ⊎_elim inl (λ f. inr (f e)) (o.replied t m);
        timed_out = λ t m e. ⊎_elim inl (λ f. inr (f e)) (o.timed_out t m);
      }

  -- in any history: a client number that is used again after its client left, or after a lost link, gets nothing that its predecessor asked
  pub successor : (us : List (Event W)) (c : ℕ) (vs : List (Event W)) → Anew c (posts empty (us ++ left c ∷ [])) (posts empty (us ++ left c ∷ vs))
  unfolding posts
  successor us c vs = rw (posts_append empty us (left c ∷ []), posts_append empty us (left c ∷ vs)) (anew (post (posts empty us) (left c)) c vs (left-nothing (posts empty us) c))

  pub successor_of_lost : (us : List (Event W)) (c : ℕ) (vs : List (Event W)) → Anew c (posts empty (us ++ lost ∷ [])) (posts empty (us ++ lost ∷ vs))
  unfolding posts
  successor_of_lost us c vs = rw (posts_append empty us (lost ∷ []), posts_append empty us (lost ∷ vs)) (anew (post (posts empty us) lost) c vs (λ t m e. Memᴰ.not-nil m))
