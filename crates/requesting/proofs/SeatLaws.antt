-- From the columns to the machine: the place that a request joins or is issued into is the machine's, and what stands there afterwards.
-- Assumes nothing.
use Prim.Native.Nat.{ℕ, ◌+◌, ◌-◌, ◌≤◌, ◌<◌}
use mathlib.Core.Path.{◌≡◌, refl, ap, sym, ◌∙◌}
use mathlib.Core.Logic.{⊎_elim}
use mathlib.Core.Bool.{Bool, true, false, cond, not, ◌&&◌}
use mathlib.Core.Option as entries
use mathlib.Core.Option.{some}
use mathlib.Core.List.{List, [], ◌∷◌, map}
use native.Mathlib.Omega.{arith}
use lib.ListN.{length, get_or, set}
use lib.Dec.{eqb, ltb}
use borrow.Author.Tests.{not-true, eqb-true, eqb-false, ltb-true}
use Rattle.numbers.specs.Numbers.{ids, places, room, cache_places, device_failure}
use Rattle.laws.specs.Search.{best}
use Rattle.laws.specs.Circle.{turn}
use Rattle.laws.proofs.Choice.{and_left, and_right}
use Rattle.laws.proofs.SearchLaws.{best_in, best-some}
use Rattle.laws.proofs.CircleLaws.{turn_low}
use Rattle.wire.specs.Frame.{id_of}
use Rattle.settings.specs.Grammar.{Value}
use Rattle.pdu.specs.Requests.{checked_of}
use Rattle.pdu.specs.declared.What.{What}
use Rattle.pdu.specs.Words.{word_of, what_of, Proper}
use Rattle.pdu.specs.declared.Asked.{Asked}
use Rattle.pdu.specs.declared.ProxyId.{ProxyId}
use Rattle.pdu.proofs.RequestLaws.{legal-passed}
use Rattle.pdu.proofs.WordLaws.{word_back}
use Rattle.rewrite.specs.Rewriting.{with_counts}
use Rattle.rewrite.specs.Frames.{forwarded, under}
use Rattle.rewrite.specs.inner.Lent.{tags_of, Sent}
use Rattle.rewrite.proofs.RoomLaws.{legal_sent}
use Rattle.cache.specs.Cache.{in_cache, hit_place, dropped_by}
use Rattle.caching.specs.Kept.{cache_of, Word, Drops, SoundCache}
use Rattle.book.specs.Book.{entry, marked}
use Rattle.book.specs.Desk.{free_place}
use Rattle.machine.specs.Machine.{Machine, opened, rules}
use Rattle.machine.specs.Calls.{done}
use Rattle.machine.specs.Requests.{wanted, alike, closing, hitting_place, hit_on, joining_place, excepted, issued_to, missed, served}
use Rattle.machine.specs.declared.Answer.{Answer}
use Rattle.machine.specs.declared.Answer.TheVariants.{Joined, Issued}
use Rattle.table.specs.Columns.{Columns, party, table_of, SoundTable}
use Rattle.table.specs.inner.Changes.{Joined as OneMore}
use Rattle.table.specs.inner.Places.{is_free, is_open, is_lower, free_id_from}
use Rattle.table.proofs.FindLaws.{join_seat, free-place, free_id_lem}
use Rattle.table.proofs.EntryLaws.{held, live_at, with_parties}
use Rattle.table.proofs.ChangeLaws.{issue_is, join_is, join_sound}
use Rattle.proxy.specs.State.{state, value_in, machine_of}
use Rattle.proxy.specs.declared.KeptSettings.{KeptSettings}
use Rattle.requesting.specs.inner.Parts.{Asks, Came}
use Rattle.requesting.proofs.StepLaws.{was_hit, was_missed, was_joined, was_issued, was_full, issue_made}
use Rattle.laws.specs.Options.{place_or}
use Rattle.std.specs.Prelude.{Ok, Option, Some, None}

-- What a legal request asks may stand in a live entry, and comes back from its word,
pub asked_back : {f : List ℕ} {n : ℕ} → Asks f n → what_of n ≡ wanted f
asked_back {f} h = ap what_of h.same ∙ word_back (wanted f) h.proper

pub word_stands : {f : List ℕ} {n : ℕ} → Asks f n → Proper (what_of n) × (word_of (what_of n) ≡ n)
word_stands h = rw (asked_back h) (h.proper, sym h.same)

-- which is one that a search of the cache takes; and the word of what was asked is such.
pub word_sought : {f : List ℕ} {n : ℕ} → Asks f n → Word n
word_sought h = record { proper = (word_stands h).0; back = (word_stands h).1 }

pub asks_lem : {f : List ℕ} {n : ℕ} {w : What} → n ≡ word_of w → (w ≡ wanted f) × Proper (wanted f) → Asks f n
asks_lem e h = record { same = e ∙ ap word_of h.0; proper = h.1 }

-- A request may join its like by its own settings and what it asks.
pub may_join_own : (k : KeptSettings) (f : List ℕ) {a : Asked} {joining : Bool} → checked_of f ≡ Ok a
    → ((v : Value) (w : What) → v.join ≡ k.join → w.asked ≡ a → joining ≡ alike v w w) → joining ≡ alike (value_in k) (wanted f) (wanted f)
unfolding value_in
may_join_own k f {a} legal h = h (value_in k) (wanted f) refl (sym (legal-passed f a legal).asks)

-- The registers that a legal request carries are in its frame.
pub carries : (f : List ℕ) {a : Asked} → checked_of f ≡ Ok a → Proper (wanted f) → Sent a f
carries f {a} legal p = legal_sent f legal (rw (legal-passed f a legal).asks p.lawful)

-- A place that the scan for an open one found passes its test.
found : (joining : Bool) (test : ℕ → Bool) (beats : ℕ → ℕ → Bool) (none n r : ℕ) → r ≡ cond joining (best test beats none n) none → r < none → test r ≡ true
found true test beats none n r e l = ⊎_elim (λ z. absurd (omega arith)) (λ w. rw e w.1) (best_in test beats none n)
found false test beats none n r e l = absurd (omega arith)

-- Where a search found no place, what stands for none is not below that.
pub none_found : (n : ℕ) (r : Option ℕ) → ((k : ℕ) → r ≡ Some k → ⊥) → n ≤ place_or n r
none_found n None h = omega arith
none_found n (Some k) h = absurd (h k refl)

-- The lowest free place is free.
pub free-here : (is : List ℕ) {place : ℕ} → place ≡ best (is_free is) (λ j k. false) places places → place < places → get_or is place 0 ≡ 0
free-here is {place} e l = eqb-true (get_or is place 0) 0 (rw e (best-some (is_free is) (λ j k. false) places (rw e at l)))

-- what is known of a legal request after the scan: the place that it joins, and the place that it would be issued into
pub record Seated (k : KeptSettings) (c : Columns) (t : ℕ) (f : List ℕ) (joining : Bool) (word seat free : ℕ) : Type 0 where
  pub sound : SoundTable c
  pub asks : Asks f word
  pub may : joining ≡ alike (value_in k) (wanted f) (wanted f)
  pub scanned :
      (seat ≡ cond joining (best (is_open c.ids c.asked c.deadlines c.counts word t) (is_lower c.ids) places c.top) places)
      × (free ≡ best (is_free c.ids) (λ i j. false) places places)

module _ {k : KeptSettings} {c : Columns} {t : ℕ} {f : List ℕ} {joining : Bool} {word seat free : ℕ} (h : Seated k c t f joining word seat free) where
  -- An open place is live, and has room for one more party.
  pub open_here : seat < places → (get_or c.ids seat 0 ≡ 0 → ⊥) × (get_or c.counts seat 0 < room)
  open_here l =
      let live = not (eqb (get_or c.ids seat 0) 0) in
      let same = eqb (get_or c.asked seat 0) word in
      let roomy = ltb (get_or c.counts seat 0) room in
      let later = ltb t (get_or c.deadlines seat 0) in
      let w = found joining (is_open c.ids c.asked c.deadlines c.counts word t) (is_lower c.ids) places c.top seat h.scanned.0 l in (
        eqb-false (get_or c.ids seat 0) 0 (not-true _ (and_left live (same && (roomy && later)) w)),
        ltb-true (get_or c.counts seat 0) room (and_left roomy later (and_right same (roomy && later) (and_right live (same && (roomy && later)) w))),
      )

  -- Both places are the machine's, whatever its cursor and its cache are and whoever is attached.
  open_seat : (x a : ℕ) (n b : List ℕ) → seat ≡ joining_place (machine_of (state c x a t k n b)) f
  open_seat x a n b =
      h.scanned.0
      ∙ ap (λ (n : ℕ). cond joining (best (is_open c.ids c.asked c.deadlines c.counts n t) (is_lower c.ids) places c.top) places) h.asks.same
      ∙ join_seat (value_in k) c x t h.sound (wanted f) h.asks.proper joining h.may

  free_seat : (x a : ℕ) (n b : List ℕ) → free ≡ free_place rules (machine_of (state c x a t k n b)).book
  free_seat x a n b = h.scanned.1 ∙ free-place (value_in k) c x t h.sound

  -- One party more at the open place is the join.
  pub joined_there : {r : Answer} {x client : ℕ} {o ns cs os n b : List ℕ} → seat < places
      → (r ≡ Joined (record { 0 = get_or c.ids seat 0 - 1 })) × OneMore seat (party client (id_of f)) c.counts c.clients c.originals ns cs os
      → SoundCache n b → Came r k t b (with_parties c ns cs os) x n o (λ m. missed m client f o) c x n
  joined_there {x = x} {client = client} {o = o} {ns = ns} {cs = cs} {os = os} {n = n} {b = b} l w whole =
      let live = live_at c seat l (open_here l).0 in
      record {
        outcome =
            λ a.
            rw (w.0, join_is (value_in k) x t c h.sound seat (party client (id_of f)) ns cs os l w.1 (held c seat) (wanted f) live)
            (was_joined (machine_of (state c x a t k n b)) client f o seat (held c seat) (open_seat x a n b) l live);
        table = join_sound (value_in k) x t c h.sound seat (party client (id_of f)) ns cs os l w.1;
        cache = whole;
        cursor = λ q. q;
      }

  module _ (client : ℕ) (o : List ℕ) {r : Answer} {x : ℕ} {o' n b : List ℕ} (none : places ≤ seat) where
    -- Where no place is open, what is issued into the free place is what the request comes to,
    pub issued_next : {c' : Columns} {x' : ℕ} {n' : List ℕ} → free < places → Came r k t b c' x' n' o' (λ m. issued_to m client f o) c x n
        → Came r k t b c' x' n' o' (λ m. missed m client f o) c x n
    issued_next l i = record {
      outcome = λ a. was_issued (machine_of (state c x a t k n b)) client f o (rw (open_seat x a n b) at none) _ (rw (free_seat x a n b) at l) (i.outcome a);
      table = i.table;
      cache = i.cache;
      cursor = i.cursor;
    }

    -- and where no place is free either, exception 04.
    pub full_there : places ≤ free → ((m : Machine) → done r m o' [] ≡ excepted m device_failure f o) → SoundCache n b → Came r k t b c x n o' (λ m. missed m client f o) c x n
    full_there l e whole = record {
      outcome = λ a. was_full (machine_of (state c x a t k n b)) client f o (rw (open_seat x a n b) at none) _ (rw (free_seat x a n b) at l) (e (machine_of (state c x a t k n b)));
      table = h.sound;
      cache = whole;
      cursor = λ q. q;
    }

-- A new entry at the lowest free place, what it spoils closed and dropped, the cursor behind its id, and the frame sent on are the issue.
pub issued_there : (k : KeptSettings) (c : Columns) (client : ℕ) (o : List ℕ) (id : ProxyId) {x t word place original x' p v : ℕ} {f o' n n' b : List ℕ} {c' : Columns} {what : Asked}
    → SoundTable c → Asks f word → checked_of f ≡ Ok what → SoundTable c'
    → id.0 ≡ free_id_from c.ids c.top x → id.0 < ids → x' ≡ turn ids (id.0 + 1) → original ≡ id_of f → place ≡ best (is_free c.ids) (λ i j. false) places places
    → table_of c' ≡ map (entries.map (marked (closing (what_of word)))) (set (table_of c) place (some (entry id.0 (what_of word) client opened (t + k.timeout) (party client original ∷ []))))
    → with_counts p v o' ≡ under id.0 o (forwarded (tags_of k.tag_count k.tag_words) what f)
    → SoundCache n b → Drops (what_of word) n n'
    → Came (Issued id (length f) p v) k t b c' x' n' o' (λ m. issued_to m client f o) c x n
unfolding value_in
issued_there k c client o id {x} {t} {word} {place} {original} {x'} {p} {v} {f} {o'} {n} {n'} {b} {c'} {what} s w legal sound ei li ex eo ep et sent whole drops =
    record {
      outcome =
          λ a. rw ex
          (issue_made (machine_of (state c x a t k n b)) client f o id.0 place what p v o' _ _ (ei ∙ free_id_lem (value_in k) c x t s) (ep ∙ free-place (value_in k) c x t s)
          (legal-passed f what legal).asks sent
          (issue_is (value_in k) x t c s c' place id.0 word (t + k.timeout) client original et ∙ rw (asked_back w, eo))
          ((drops b whole).0 ∙ ap (λ (y : What). dropped_by y (cache_of n b)) (asked_back w)));
      table = sound;
      cache = (drops b whole).1;
      cursor = λ q. rw ex (turn_low ids (id.0 + 1) (omega arith));
    }

module _ (t : ℕ) {f : List ℕ} {word place : ℕ} {n b : List ℕ} (asks : Asks f word) {c : Columns} (sound : SoundTable c) (whole : SoundCache n b)
    (found : (shown : List ℕ) → SoundCache n shown → place ≡ hit_place t (what_of word) (cache_of n shown)) where
  -- The place that was looked for is the one that the request hits, whatever the cursor is and whoever is attached.
  hit_seat : (y : KeptSettings) (d : Columns) (x a : ℕ) → place ≡ hitting_place (machine_of (state d x a t y n b)) f
  hit_seat y d x a = found b whole ∙ ap (λ (w : What). hit_place t w (cache_of n b)) (asked_back asks)

  module _ (client : ℕ) (o : List ℕ) {r : Answer} {k : KeptSettings} {x : ℕ} {o' : List ℕ} where
    -- What is shown from a place that was found is what the request comes to,
    pub hit_there : place < cache_places → ((m : Machine) → done r m o' [] ≡ hit_on m f o (in_cache (cache_of n b) place)) → Came r k t b c x n o' (λ m. served m client f o) c x n
    hit_there l e = record {
      outcome = λ a. was_hit (machine_of (state c x a t k n b)) client f o place _ (hit_seat k c x a) l (e (machine_of (state c x a t k n b)));
      table = sound;
      cache = whole;
      cursor = λ q. q;
    }

    -- and where none was found, what it comes to without a cache.
    pub missed-next : {c' : Columns} {x' : ℕ} {n' : List ℕ} → cache_places ≤ place → Came r k t b c' x' n' o' (λ m. missed m client f o) c x n
        → Came r k t b c' x' n' o' (λ m. served m client f o) c x n
    missed-next l i = record {
      outcome = λ a. was_missed (machine_of (state c x a t k n b)) client f o _ (rw (hit_seat k c x a) at l) (i.outcome a);
      table = i.table;
      cache = i.cache;
      cursor = i.cursor;
    }
