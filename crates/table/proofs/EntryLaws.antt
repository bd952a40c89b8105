-- What a change of the columns makes of the table and that it keeps them sound: a new entry, other parties, a freed place, nothing left.
-- Assumes nothing.
use Prim.Native.Nat.{ℕ, zero, suc, ◌+◌, ◌*◌, ◌-◌, ◌≤◌, ◌<◌, max}
use mathlib.Core.Path.{◌≡◌, refl, ◌∙◌}
use mathlib.Core.Logic.{⊎_elim}
use mathlib.Core.Bool.{true, false}
use mathlib.Core.Option.{Option, some, none}
use mathlib.Core.List.{List, [], ◌∷◌}
use native.Mathlib.Nat.{add-zero}
use native.Mathlib.Numerals.{add-one}
use native.Mathlib.Omega.{arith}
use lib.ListN.{get_or, set, replicate, length-set, length-replicate}
use lib.Seq.{get_or-set_same, get_or-set_other}
use lib.Dec.{eqb}
use borrow.Author.Tests.{eq-eqb, ne_eqb, eqb-true}
use Rattle.numbers.specs.Numbers.{ids, places, room, party_places}
use Rattle.laws.specs.Lists.{tab}
use Rattle.laws.proofs.Choice.{true_or, eq_or, lt_or}
use Rattle.laws.proofs.ListLaws.{tab_ext, tab-set, get_d_tab, get_d_repeat, tab_repeat}
use Rattle.pdu.specs.declared.What.{What}
use Rattle.pdu.specs.Words.{word_of, what_of, closed_in, Proper}
use Rattle.book.specs.Book.{Live, entry}
use Rattle.pdu.proofs.WordLaws.{word_unclosed}
use Rattle.machine.specs.Machine.{Note, opened}
use Rattle.table.specs.Columns.{Columns, columns, party, parties_at, note_of, place_word, entry_at, table_of, SoundTable}
use Rattle.table.specs.inner.Changes.{Runs, reach, blank}
use Rattle.laws.proofs.StoreLaws.{set_each}
use Rattle.table.proofs.PartyLaws.{put_here, put_elsewhere, put_runs}

-- the party columns of sound columns
pub runs_of : (c : Columns) → SoundTable c → Runs c.counts c.clients c.originals
runs_of c s = record { counts_long = s.counts_long; clients-long = s.clients-long; originals_long = s.originals_long; roomy = s.roomy }

-- what stands at a place of the table
pub table_at : (c : Columns) (k : ℕ) → k < places → get_or (table_of c) k none ≡ entry_at c k
unfolding table_of
table_at c k h = get_d_tab places (entry_at c) k none h

-- the entry of a live place
abbrev pub held : Columns → ℕ → Live What Note
held c k =
    entry (get_or c.ids k 0 - 1) (what_of (get_or c.asked k 0)) (get_or c.callers k 0) (note_of (get_or c.asked k 0)) (get_or c.deadlines k 0)
    (parties_at c.counts c.clients c.originals k)

-- what stands at a live place of the table
pub live_at : (c : Columns) (k : ℕ) → k < places → (get_or c.ids k 0 ≡ 0 → ⊥) → get_or (table_of c) k none ≡ some (held c k)
live_at c k h live = table_at c k h ∙ rw (ne_eqb (get_or c.ids k 0) 0 live)

-- A word of what may be asked is that of an open request, and its place's word.
pub word_open : (n : ℕ) → Proper (what_of n) × (word_of (what_of n) ≡ n) → (note_of n ≡ opened) × (place_word (what_of n) (note_of n) ≡ n)
unfolding note_of place_word
word_open n w =
    let t : closed_in n ≡ false = rw w.1 at (word_unclosed (what_of n) w.0) in
    (rw t, rw t w.1)

-- two tables that agree but at one place
pub table-set : (c c' : Columns) (place : ℕ) (o : Option (Live What Note)) → place < places → entry_at c' place ≡ o → ((k : ℕ) → (k ≡ place → ⊥) → entry_at c' k ≡ entry_at c k)
    → table_of c' ≡ set (table_of c) place o
unfolding table_of
table-set c c' place o h here other = tab-set places place (entry_at c) (entry_at c') o h here (λ k l. other k)

-- a new entry with its first party
module _ (c : Columns) (s : SoundTable c) (place id word deadline client original : ℕ) (low : place < places) (short : id < ids) where
  abbrev pub issued_at : Columns
  issued_at =
      columns (set c.ids place (id + 1)) (set c.asked place word) (set c.callers place client) (set c.deadlines place deadline)
      (set c.counts place 1) (set c.clients (place * room) client) (set c.originals (place * room) original) (max c.top (place + 1))

  issued_parties : parties_at issued_at.counts issued_at.clients issued_at.originals place ≡ party client original ∷ []
  unfolding tab
  issued_parties = rw add-zero at (put_here place 0 client original c.counts c.clients c.originals (runs_of c s) low (omega arith))

  issued_elsewhere : (k : ℕ) → (k ≡ place → ⊥) → parties_at issued_at.counts issued_at.clients issued_at.originals k ≡ parties_at c.counts c.clients c.originals k
  issued_elsewhere = rw add-zero at (put_elsewhere place 0 client original c.counts c.clients c.originals (runs_of c s) low (omega arith))

  issued_runs : Runs issued_at.counts issued_at.clients issued_at.originals
  issued_runs = rw add-zero at (put_runs place 0 client original c.counts c.clients c.originals (runs_of c s) low (omega arith))

  issued_table : note_of word ≡ opened → table_of issued_at ≡ set (table_of c) place (some (entry id (what_of word) client opened deadline (party client original ∷ [])))
  issued_table unmarked =
      let a = s.ids-long in
      let b = s.asked_long in
      let n = s.callers_long in
      let d = s.deadlines_long in
      let back : id + 1 - 1 ≡ id = omega arith in
      table-set c issued_at place _ low
      (rw (
        get_or-set_same c.ids place (id + 1) 0 (omega arith),
        get_or-set_same c.asked place word 0 (omega arith),
        get_or-set_same c.callers place client 0 (omega arith),
        get_or-set_same c.deadlines place deadline 0 (omega arith),
        unmarked,
        issued_parties,
        ne_eqb (id + 1) 0 (λ z. omega arith),
        back,
      ))
      (λ k ne. rw (
        get_or-set_other c.ids place k (id + 1) 0 ne,
        get_or-set_other c.asked place k word 0 ne,
        get_or-set_other c.callers place k client 0 ne,
        get_or-set_other c.deadlines place k deadline 0 ne,
        issued_elsewhere k ne,
      ))

  issued_sound : Proper (what_of word) × (place_word (what_of word) (note_of word) ≡ word) → SoundTable issued_at
  issued_sound w =
      let a = s.ids-long in
      record {
        ids-long = length-set c.ids place (id + 1) ∙ s.ids-long;
        asked_long = length-set c.asked place word ∙ s.asked_long;
        callers_long = length-set c.callers place client ∙ s.callers_long;
        deadlines_long = length-set c.deadlines place deadline ∙ s.deadlines_long;
        counts_long = issued_runs.counts_long;
        clients-long = issued_runs.clients-long;
        originals_long = issued_runs.originals_long;
        within = let t = s.within in omega arith;
        low = set_each (λ k x. x ≤ ids) c.ids place (id + 1) (omega arith) (omega arith) (λ k ne. s.low k);
        above = set_each (λ k x. max c.top (place + 1) ≤ k → x ≡ 0) c.ids place (id + 1) (omega arith) (λ h. absurd (omega arith)) (λ k ne h. s.above k (omega arith));
        roomy = issued_runs.roomy;
        proper =
            λ k. ⊎_elim
            (λ (q : k ≡ place). rw (q, get_or-set_same c.asked place word 0 (let b = s.asked_long in omega arith)) (λ live. w))
            (λ (q : k ≡ place → ⊥). rw (get_or-set_other c.ids place k (id + 1) 0 q, get_or-set_other c.asked place k word 0 q) (s.proper k))
            (eq_or k place);
      }

  -- what is stored is a new entry, and the columns stay sound
  pub issued : Proper (what_of word) × (word_of (what_of word) ≡ word)
      → (table_of issued_at ≡ set (table_of c) place (some (entry id (what_of word) client opened deadline (party client original ∷ [])))) × SoundTable issued_at
  issued w = let u = word_open word w in (issued_table u.0, issued_sound (w.0, u.1))

-- other parties, everything else as it was
abbrev pub with_parties : Columns → List ℕ → List ℕ → List ℕ → Columns
with_parties c ns cs os = columns c.ids c.asked c.callers c.deadlines ns cs os c.top

-- other parties, no more than there is room for, keep the columns sound
pub parties_sound : (c : Columns) (ns cs os : List ℕ) → SoundTable c → Runs ns cs os → SoundTable (with_parties c ns cs os)
parties_sound c ns cs os s r = record {
  ids-long = s.ids-long;
  asked_long = s.asked_long;
  callers_long = s.callers_long;
  deadlines_long = s.deadlines_long;
  counts_long = r.counts_long;
  clients-long = r.clients-long;
  originals_long = r.originals_long;
  within = s.within;
  low = s.low;
  above = s.above;
  roomy = r.roomy;
  proper = s.proper;
}

-- below a free place the search for the last live place goes on
pub reach-turn : (is : List ℕ) (n : ℕ) → get_or is n 0 ≡ 0 → reach is n ≡ reach is (n + 1)
unfolding reach
reach-turn is n e = rw (add-one n, eq-eqb (get_or is n 0) 0 e)

-- and at a live place it ends
pub reach_end : (is : List ℕ) (n : ℕ) → (get_or is n 0 ≡ 0 → ⊥) → reach is (n + 1) ≡ n + 1
unfolding reach
reach_end is n e = rw (add-one n, ne_eqb (get_or is n 0) 0 e)

-- it ends no later than where it began
pub reach_le : (is : List ℕ) (n : ℕ) → reach is n ≤ n
unfolding reach
reach_le is zero = omega arith
reach_le is (suc n) = let i = reach_le is n in ⊎_elim (λ t. rw t (omega arith)) (λ t. rw t (omega arith)) (true_or (eqb (get_or is n 0) 0))

-- and what is behind its end is free
pub reach-behind : (is : List ℕ) (n k : ℕ) → reach is n ≤ k → k < n → get_or is k 0 ≡ 0
unfolding reach
reach-behind is zero k h l = absurd (omega arith)
reach-behind is (suc n) k h l =
    ⊎_elim
    (λ (t : eqb (get_or is n 0) 0 ≡ true).
    ⊎_elim
    (λ (q : k ≡ n). rw q (eqb-true (get_or is n 0) 0 t))
    (λ (q : k ≡ n → ⊥). reach-behind is n k (rw t at h) (omega (arith, q)))
    (eq_or k n))
    (λ (t : eqb (get_or is n 0) 0 ≡ false). absurd (let z : suc n ≤ k = rw t at h in omega arith))
    (true_or (eqb (get_or is n 0) 0))

-- a freed place
module _ (c : Columns) (s : SoundTable c) (place : ℕ) (low : place < places) where
  abbrev pub freed_at : Columns
  freed_at =
      columns (set c.ids place 0) c.asked c.callers c.deadlines c.counts c.clients c.originals (reach (set c.ids place 0) c.top)

  -- the table has nothing there, and the columns stay sound
  pub freed_table : table_of freed_at ≡ set (table_of c) place none
  freed_table =
      let a = s.ids-long in
      table-set c freed_at place none low (rw (get_or-set_same c.ids place 0 0 (omega arith))) (λ k ne. rw (get_or-set_other c.ids place k 0 0 ne))

  pub freed_sound : SoundTable freed_at
  freed_sound =
      let a = s.ids-long in
      let t = s.within in
      let r = reach_le (set c.ids place 0) c.top in
      record {
        ids-long = length-set c.ids place 0 ∙ s.ids-long;
        asked_long = s.asked_long;
        callers_long = s.callers_long;
        deadlines_long = s.deadlines_long;
        counts_long = s.counts_long;
        clients-long = s.clients-long;
        originals_long = s.originals_long;
        within = omega arith;
        low = set_each (λ k x. x ≤ ids) c.ids place 0 (omega arith) (omega arith) (λ k ne. s.low k);
        above =
            λ k h. ⊎_elim
            (λ l. reach-behind (set c.ids place 0) c.top k h l)
            (λ l. set_each (λ j x. c.top ≤ j → x ≡ 0) c.ids place 0 (omega arith) (λ m. refl) (λ j ne m. s.above j m) k l)
            (lt_or k c.top);
        roomy = s.roomy;
        proper =
            λ k. ⊎_elim
            (λ (q : k ≡ place). rw (q, get_or-set_same c.ids place 0 0 (omega arith)) (λ live. absurd (live refl)))
            (λ (q : k ≡ place → ⊥). rw (get_or-set_other c.ids place k 0 0 q) (s.proper k))
            (eq_or k place);
      }

-- zeros everywhere: nothing is live, and the columns are sound
pub blank-table : table_of blank ≡ replicate places none
unfolding table_of blank
blank-table = tab_ext places (entry_at blank) (λ k. none) (λ k l. rw (get_d_repeat {A = ℕ} places k 0)) ∙ tab_repeat places none

pub blank_sound : SoundTable blank
unfolding blank
blank_sound = record {
  ids-long = length-replicate {A = ℕ} places 0;
  asked_long = length-replicate {A = ℕ} places 0;
  callers_long = length-replicate {A = ℕ} places 0;
  deadlines_long = length-replicate {A = ℕ} places 0;
  counts_long = length-replicate {A = ℕ} places 0;
  clients-long = length-replicate {A = ℕ} party_places 0;
  originals_long = length-replicate {A = ℕ} party_places 0;
  within = omega arith;
  low = λ k. rw (get_d_repeat {A = ℕ} places k 0) (omega arith);
  above = λ k h. get_d_repeat {A = ℕ} places k 0;
  roomy = λ k. rw (get_d_repeat {A = ℕ} places k 0) (omega arith);
  proper = λ k live. absurd (live (get_d_repeat {A = ℕ} places k 0));
}
