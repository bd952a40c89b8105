-- A live entry is open exactly if nothing that spoils it was issued since its issue; so a read that is joined after a write was issued after it, and which entry a read joins the
-- lines of the history say.
-- Assumes nothing.
use Prim.Native.Nat.{ℕ, ◌≤◌, ◌<◌}
use mathlib.Core.Path.{◌≡◌, refl, ap, sym, ◌∙◌, subst₂}
use mathlib.Core.Logic.{⊎_elim, ◌⊎◌, ◌↔◌}
use mathlib.Core.Bool.{Bool, true, false, cond, or-false, or-true, true≢false}
use mathlib.Core.Option
use mathlib.Core.Option.{Option, some, none}
use mathlib.Core.List.{List, [], ◌∷◌, ◌++◌, map, append-nil, append_assoc}
use native.Mathlib.Omega.{arith}
use lib.ListN.{length, get_or, set}
use lib.Dec.{eqb}
use borrow.Author.Tests.{eq-eqb, ne_eqb}
use Rattle.numbers.specs.Numbers.{places}
use Rattle.laws.specs.Lists.{last_of}
use Rattle.laws.proofs.Choice.{true_or, or_left}
use Rattle.laws.proofs.ListLaws.{grown}
use Rattle.laws.proofs.LastLaws.{last_yes, last_no, last_behind, last_of_exactly}
use Rattle.settings.specs.Grammar.{Value}
use Rattle.pdu.specs.declared.What.{What}
use Rattle.pdu.specs.Spoiling.{spoils}
use Rattle.pdu.specs.declared.ProxyId.{ProxyId}
use Rattle.pdu.proofs.SpoilingLaws.{spoils_itself}
use Rattle.rewrite.specs.Legal.{fault_under, legal}
use Rattle.book.specs.Book.{Party, Live, Event, Move, Good, Fits, new_entry, live_in, added, struck, marked, at, apply, tell}
use Rattle.book.specs.Book.Move.{rest, pass, join, issue, reply as replies, expire, strike, wipe, mark, adopt}
use Rattle.book.specs.Book.Event.{passed, joined, issued, replied, expired, left}
use Rattle.book.specs.Desk.{due_place}
use Rattle.book.specs.Traced.{touches}
use Rattle.book.specs.Follower.{tells, applies, AllFit, state_after, lines_of}
use Rattle.book.proofs.PlaceLaws.{at_low, nothing_there, set_each, none_each, map_each, live_not}
use Rattle.book.proofs.GoodLaws.{good_move}
use Rattle.book.proofs.History.{always, after_one, history_one}
use Rattle.machine.specs.Machine.{Machine, Note, opened, Live_book, made, rules, settings, clocked}
use Rattle.machine.specs.Calls.{Call, Outcome}
use Rattle.machine.specs.Calls.Call.{attach, detach, request, reply, tick, link_lost}
use Rattle.machine.specs.Refusals.{refusal, entry_for}
use Rattle.machine.specs.Requests.{closing, can_join, exhausted, joining_place, hits, joined_to}
use Rattle.machine.specs.Outcomes.{outcome}
use Rattle.machine.specs.Spelled.{asking}
use Rattle.machine.specs.declared.Answer.TheVariants as answer
use Rattle.machine.specs.Closed.{closes, concerns_read, Unspoiled, Joinable, Meets}
use Rattle.machine.specs.Requested.{MayJoin}
use Rattle.machine.specs.Histories.{after_calls, told_by}
use Rattle.machine.specs.Cached.{NoHit}
use Rattle.machine.proofs.MeetsLaws.{spoils_in_bytes}
use Rattle.machine.proofs.RequestLaws.Comes.{faulty, hitting, joining, full, issuing}
use Rattle.machine.proofs.RequestLaws.{Comes, comes}
use Rattle.machine.proofs.AskLaws.{join_is}
use Rattle.machine.proofs.Follows.{Moves, joining as joins, missing, serving, ending, granted_moves, moves, follows, fits, honest}
use Rattle.machine.proofs.Histories.{product, in_force_lem, stocked}

abbrev Entries : Type 0
Entries = List (Option (Live What Note))

-- the entry is open exactly if nothing that spoils it was issued since its issue; and every entry
abbrev pub Marks : List (Event What) → Live What Note → Type 0
Marks vs e = (e.note.closed ≡ false) ↔ Unspoiled vs e.id e.what e.deadline

abbrev AllMark : Entries → List (Event What) → Type 0
AllMark ps vs = (k : ℕ) (e : Live What Note) → get_or ps k none ≡ some e → Marks vs e

module _ (ps : Entries) (vs : List (Event What)) (a : AllMark ps vs) where
  -- a line that neither begins nor ends a life nor closes anything
  quiet : (v : Event What) → ((id : ℕ) (r : What) → concerns_read id r v ≡ false) → AllMark ps (vs ++ (v ∷ []))
  quiet v f k e h = rw (last_no (concerns_read e.id e.what) vs v (f e.id e.what)) (a k e h)

  -- an entry ends by a line that ends its id's life alone
  ends : (k : ℕ) (e : Live What Note) → get_or ps k none ≡ some e → ((j : ℕ) (d : Live What Note) → get_or ps j none ≡ some d → d.id ≡ e.id → j ≡ k)
      → (v : Event What) → ((id : ℕ) (r : What) → concerns_read id r v ≡ eqb e.id id) → AllMark (set ps k none) (vs ++ (v ∷ []))
  ends k e h differ v only =
      none_each (Marks (vs ++ (v ∷ []))) ps k (at_low ps k e h)
      (λ j d ne q. rw (last_no (concerns_read d.id d.what) vs v (only d.id d.what ∙ ne_eqb e.id d.id (λ y. ne (differ j d q (sym y))))) (a j d q))

  -- a request is issued under an id that is not live, and closes what it spoils
  module _ (k id : ℕ) (w : What) (d : ℕ) (p : Party) where
    abbrev line : Event What
    line = issued id w d p

    older : (e : Live What Note) → (e.id ≡ id → ⊥) → Marks vs e → Marks (vs ++ (line ∷ [])) (marked (closing w) e)
    unfolding closing
    older e ne m =
        ⊎_elim
        (λ (t : spoils w e.what ≡ true). (
          λ z. absurd (true≢false (sym (rw t (or-true e.note.closed)) ∙ z)),
          λ u. let y = sym (last_yes (concerns_read e.id e.what) vs line (rw t (or-true (eqb id e.id)))) ∙ u.1 in let same : id ≡ e.id = cc in absurd (ne (sym same)),
        ))
        (λ (t : spoils w e.what ≡ false).
        rw (t, or-false e.note.closed, last_no (concerns_read e.id e.what) vs line (rw (t, ne_eqb id e.id (λ y. ne (sym y))))) m)
        (true_or (spoils w e.what))

    newest : Marks (vs ++ (line ∷ [])) (marked (closing w) (new_entry id w opened d p))
    unfolding closing
    newest = (λ z. (p, last_yes (concerns_read id w) vs line (rw (eq-eqb id id refl))), λ u. spoils_itself w)

    issues : k < length ps → live_in ps id ≡ false → AllMark (map (Option.map (marked (closing w))) (set ps k (some (new_entry id w opened d p)))) (vs ++ (line ∷ []))
    issues h free =
        map_each (Marks (vs ++ (line ∷ []))) (set ps k (some (new_entry id w opened d p))) (marked (closing w))
        (set_each (λ e. Marks (vs ++ (line ∷ [])) (marked (closing w) e)) ps k (new_entry id w opened d p) h newest (λ j e ne q. older e (live_not ps j e id free q) (a j e q)))

-- BY MOVES

-- the move neither issues nor marks; and moves each of whose issues is followed by the closing of what it spoils, and that mark nothing besides
abbrev Plain : Move Value What Note → Type 0
Plain (rest y) = Unit {0}
Plain (pass t) = Unit {0}
Plain (join k e w p) = Unit {0}
Plain (issue k id w n d p) = ⊥
Plain (replies k e) = Unit {0}
Plain (expire k e) = Unit {0}
Plain (strike c) = Unit {0}
Plain wipe = Unit {0}
Plain (mark f) = ⊥
Plain (adopt x) = Unit {0}

data Paired : Moves → Type 0 where
  done : Paired []
  plain : {x : Move Value What Note} {ms : Moves} → Plain x → Paired ms → Paired (x ∷ ms)
  closing_all : {k id : ℕ} {w : What} {d : ℕ} {p : Party} {ms : Moves} → Paired ms → Paired (issue k id w opened d p ∷ mark (closing w) ∷ ms)

mark_move : (b : Live_book) (vs : List (Event What)) (x : Move Value What Note) → Plain x → Good rules b → Fits rules b x → AllMark b.places vs → AllMark (apply rules b x).places (vs ++ tell x)
mark_move b vs (rest y) s g h a = rw (append-nil vs) a
mark_move b vs (pass t) s g h a = quiet b.places vs a (passed t) (λ id r. refl)
mark_move b vs (join k e w p) s g h a =
    quiet (set b.places k (some (added p e))) vs (set_each (Marks vs) b.places k (added p e) (at_low b.places k e h.0) (a k e h.0) (λ j d ne. a j d)) (joined e.id w p) (λ id r. refl)
mark_move b vs (issue k id w n d p) s g h a = absurd s
mark_move b vs (replies k e) s g h a = ends b.places vs a k e h (λ j d q. g.differ j k d e q h) (replied e.id e.parties) (λ id r. or-false (eqb e.id id))
mark_move b vs (expire k e) s g h a = ends b.places vs a k e h.0 (λ j d q. g.differ j k d e q h.0) (expired e.id e.parties) (λ id r. or-false (eqb e.id id))
mark_move b vs (strike c) s g h a = quiet (map (Option.map (struck c)) b.places) vs (map_each (Marks vs) b.places (struck c) a) (left c) (λ id r. refl)
mark_move b vs wipe s g h a = λ k e z. absurd (nothing_there places k e z)
mark_move b vs (mark f) s g h a = absurd s
mark_move b vs (adopt x) s g h a = rw (append-nil vs) a

mark_moves : (b : Live_book) (vs : List (Event What)) {ms : Moves} → Paired ms → Good rules b → AllFit rules b ms → AllMark b.places vs → AllMark (applies rules b ms).places (vs ++ tells ms)
unfolding applies AllFit tells
mark_moves b vs done g h a = rw (append-nil vs) a
mark_moves b vs (plain {x} {ms} s q) g h a =
    rw (← append_assoc vs (tell x) (tells ms)) (mark_moves (apply rules b x) (vs ++ tell x) q (good_move rules b x g h.0) h.1 (mark_move b vs x s g h.0 a))
mark_moves b vs (closing_all {k} {id} {w} {d} {p} {ms} q) g h a =
    let x : Move Value What Note = issue k id w opened d p in
    let y : Move Value What Note = mark (closing w) in
    rw (← append_assoc vs (tell x) (tells ms))
    (mark_moves (apply rules (apply rules b x) y) (vs ++ tell x) q (good_move rules (apply rules b x) y (good_move rules b x g h.0) tt) h.1.1
    (issues b.places vs a k id w d p (rw g.long h.0.0) h.0.2.free))

-- every call makes such moves
paired : (m : Machine) (x : Call) → Paired (moves m x)
unfolding moves granted_moves serving missing joins ending
paired m x = both (eqb (refusal m x) 0) (granted x) done
  where
    both : (t : Bool) {xs ys : Moves} → Paired xs → Paired ys → Paired (cond t xs ys)
    both true p q = p
    both false p q = q

    ended : (z : Live What Note → Move Value What Note) → ((e : Live What Note) → Plain (z e)) → (o : Option (Live What Note)) → Paired (ending z o)
    ended z s none = done
    ended z s (some e) = plain (s e) done

    joined : (n : Machine) (k c : ℕ) (f : List ℕ) (o : Option (Live What Note)) → Paired (joins n k c f o)
    joined n k c f none = done
    joined n k c f (some e) = plain tt done

    granted : (y : Call) → Paired (granted_moves m y)
    granted (attach c) = done
    granted (detach c) = plain tt done
    granted (request c t f o) =
        plain tt (both (eqb (fault_under (settings m).tags f) 0)
        (both (hits (clocked m t) f) done
        (both (can_join (clocked m t) f) (joined (clocked m t) (joining_place (clocked m t) f) c f (at (clocked m t).book (joining_place (clocked m t) f))) (both (exhausted (clocked m t) c) done (closing_all done))))
        done)
    granted (reply t f o l) = plain tt (ended _ (λ e. tt) (entry_for m f))
    granted (tick t o l) = plain tt (ended _ (λ e. tt) (at (clocked m t).book (due_place rules (clocked m t).book)))
    granted link_lost = plain tt done

-- Over any history a live entry is open exactly if nothing that spoils it was issued since its issue.
pub open_exactly : (v : Value) (xs : List Call) (k : ℕ) (e : Live What Note) → at (after_calls v xs).book k ≡ some e → Marks (told_by v xs) e
unfolding state_after lines_of
open_exactly v =
    let M = product v in
    grown (λ xs. AllMark (after_calls v xs).book.places (told_by v xs)) (λ k e z. absurd (nothing_there places k e z)) (λ xs x a.
    let m = after_calls v xs in
    let g = (always M xs).good in
    subst₂ (λ b vs. AllMark b.places vs)
    (sym (ap (λ (n : Machine). n.book) (after_one M (made v) xs x) ∙ follows m x))
    (sym (history_one M (made v) xs x ∙ ap (λ vs. told_by v xs ++ vs) (honest v m x g (in_force_lem v xs))))
    (mark_moves m.book (told_by v xs) (paired m x) g (fits m x g) a))

-- WHAT A READ JOINS

-- What is unspoiled was issued since whatever spoils it, and is outstanding since.
pub since : (before later : List (Event What)) (j : ℕ) (w : What) (d : ℕ) (p : Party) (id : ℕ) (r : What) (e : ℕ) → spoils w r ≡ true
    → Unspoiled (before ++ (issued j w d p ∷ later)) id r e → (d' : ℕ) × (p' : Party) × (last_of (touches id) later ≡ some (issued id r d' p'))
since before later j w d p id r e met (q, u) =
    let line = issued id r e q in
    ⊎_elim
    (λ z.
    let y = (last_of_exactly (concerns_read id r) later line).0 z in
    (e, q, (last_of_exactly (touches id) later line).1 (y.0, y.1, y.2, eq-eqb id id refl, λ x m. or_left (touches id x) (closes r x) (y.4 x m))))
    (λ (z : issued j w d p ≡ line). let same : w ≡ r = cc in absurd (true≢false (sym met ∙ ap (λ x. spoils x r) same ∙ spoils_itself r)))
    (last_behind (concerns_read id r) before (issued j w d p) later line (rw met (or-true (eqb j id))) u)

module _ (v : Value) (xs : List Call) where
  good : Good rules (after_calls v xs).book
  good = (always (product v) xs).good

  -- what is joined is unspoiled
  joined_unspoiled : (c t : ℕ) (f o : List ℕ) (i : ProxyId) → (outcome (after_calls v xs) (request c t f o)).says ≡ answer.Joined i → (d : ℕ) × Unspoiled (told_by v xs) i.0 (asking f) d
  joined_unspoiled c t f o i says =
      let y = join_is (after_calls v xs) c t f o good (stocked v xs) i says in
      let same : y.entry.id ≡ i.0 = cc y.says in
      (y.entry.deadline, rw (same, y.may.same) at ((open_exactly v xs y.place y.entry y.there).0 y.may.unclosed))

  -- A request was issued, and later one was joined that it spoils: what that joined was issued in between.
  pub not_stale : (before later : List (Event What)) (j : ℕ) (w : What) (d : ℕ) (p : Party) → told_by v xs ≡ before ++ (issued j w d p ∷ later)
      → (c t : ℕ) (f o : List ℕ) (i : ProxyId) → (outcome (after_calls v xs) (request c t f o)).says ≡ answer.Joined i → spoils w (asking f) ≡ true
      → (d' : ℕ) × (p' : Party) × (last_of (touches i.0) later ≡ some (issued i.0 (asking f) d' p'))
  not_stale before later j w d p told c t f o i says met =
      let u = joined_unspoiled c t f o i says in
      since before later j w d p i.0 (asking f) u.0 met (rw told at u.1)

  -- The same in bytes: the request that was issued is a legal frame g, and what it spoils is what it meets.
  pub not_stale_in_bytes : (before later : List (Event What)) (j : ℕ) (s : Value) (g : List ℕ) (d : ℕ) (p : Party) → legal s g ≡ true → told_by v xs ≡ before ++ (issued j (asking g) d p ∷ later)
      → (c t : ℕ) (f o : List ℕ) (i : ProxyId) → (outcome (after_calls v xs) (request c t f o)).says ≡ answer.Joined i → get_or g 6 0 ≡ get_or f 6 0 → Meets g f
      → (d' : ℕ) × (p' : Party) × (last_of (touches i.0) later ≡ some (issued i.0 (asking f) d' p'))
  not_stale_in_bytes before later j s g d p l told c t f o i says unit met =
      let y = join_is (after_calls v xs) c t f o good (stocked v xs) i says in
      not_stale before later j (asking g) d p told c t f o i says ((spoils_in_bytes s _ g f l y.is_legal).1 (unit, met))

  module _ (c t : ℕ) (f o : List ℕ) (h : refusal (after_calls v xs) (request c t f o) ≡ 0) (l : legal (settings (after_calls v xs)) f ≡ true)
      (reads : ((get_or f 7 0 ≡ 1) ⊎ (get_or f 7 0 ≡ 2)) ⊎ ((get_or f 7 0 ≡ 3) ⊎ (get_or f 7 0 ≡ 4))) (on : v.join ≡ 1) where
    abbrev Can : ℕ → Type 0
    Can id = Joinable (after_calls v xs).book (told_by v xs) t f id

    may_of : (id : ℕ) (j : Can id) → MayJoin (after_calls v xs) t f j.entry
    may_of id j = record {
      on = ap (λ (x : Value). x.join) (in_force_lem v xs) ∙ on;
      reads = reads;
      unclosed = (open_exactly v xs j.place j.entry j.there).1 (rw (j.named, j.same) j.unspoiled);
      same = j.same;
      fewer = j.fewer;
      later = j.later;
    }

    can_of : (k : ℕ) (e : Live What Note) → at (after_calls v xs).book k ≡ some e → MayJoin (after_calls v xs) t f e → Can e.id
    can_of k e there may = record {
      place = k;
      entry = e;
      there = there;
      named = refl;
      same = may.same;
      fewer = may.fewer;
      later = may.later;
      unspoiled = rw may.same at ((open_exactly v xs k e there).0 may.unclosed);
    }

    then_joins : {d : Outcome} → Comes (after_calls v xs) c t f o d → (i : ProxyId) → NoHit (after_calls v xs) t f → Can i.0 → ((id : ℕ) → Can id → i.0 ≤ id) → d.says ≡ answer.Joined i
    unfolding joined_to
    then_joins (faulty z) i q j least = absurd (true≢false (sym l ∙ z))
    then_joins (hitting z k e there same young) i q j least = absurd (q k e there same young)
    then_joins (joining z no_hit k e there may smallest) i q j least =
        let a = smallest j.place j.entry j.there (may_of i.0 j) in
        let b = least e.id (can_of k e there may) in
        let same : e.id ≡ i.0 = omega (arith, j.named) in
        ap (λ (n : ℕ). answer.Joined (record { 0 = n })) same
    then_joins (full z no_hit alone all) i q j least = absurd (alone j.place j.entry j.there (may_of i.0 j))
    then_joins (issuing z no_hit alone y) i q j least = absurd (alone j.place j.entry j.there (may_of i.0 j))

    -- A legal read, with joining on, that hits nothing joins exactly the smallest id that it may join by the lines of the history.
    pub joins_exactly : (i : ProxyId) → ((outcome (after_calls v xs) (request c t f o)).says ≡ answer.Joined i) ↔ (NoHit (after_calls v xs) t f × Can i.0 × ((id : ℕ) → Can id → i.0 ≤ id))
    joins_exactly i = (
      λ says.
          let y = join_is (after_calls v xs) c t f o good (stocked v xs) i says in
          let same : y.entry.id ≡ i.0 = cc y.says in
          (y.no_hit, rw same at (can_of y.place y.entry y.there y.may), λ id j. let a = y.smallest j.place j.entry j.there (may_of id j) in omega (arith, j.named)),
      λ w. then_joins (comes (after_calls v xs) c t f o good (stocked v xs).sorted h) i w.0 w.1 w.2,
    )
