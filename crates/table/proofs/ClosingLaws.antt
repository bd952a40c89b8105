-- Closing what an issued request spoils: of a word, one place at a time, and of the table.
-- Assumes nothing.
use Prim.Native.Nat.{ℕ, ◌+◌, ◌≤◌, ◌<◌}
use mathlib.Core.Path.{◌≡◌, refl, ap, sym, ◌∙◌}
use mathlib.Core.Logic.{⊎_elim}
use mathlib.Core.Bool.{true, false, not, or-true, or-false, and-false}
use mathlib.Core.Option
use mathlib.Core.List.{List, map}
use native.Mathlib.Omega.{arith}
use lib.ListN.{length, get_or, set, length-set}
use lib.Seq.{get_or-set_same, get_or-set_other}
use lib.Dec.{eqb}
use borrow.Author.Tests.{ne_eqb, eqb-false}
use Rattle.numbers.specs.Numbers.{places}
use Rattle.laws.specs.Bits.{has, with}
use Rattle.laws.proofs.Choice.{true_or, eq_or, lt_or, and_right}
use Rattle.laws.proofs.BitLaws.{with_there, in_with}
use Rattle.laws.proofs.ListLaws.{tab_ext, map-tab}
use Rattle.pdu.specs.Words.{word_of, what_of, closed_bit, closed_in, Proper}
use Rattle.pdu.specs.Spoiling.{spoils}
use Rattle.pdu.specs.Reads.{is_read}
use Rattle.pdu.proofs.WordLaws.{marked_back}
use Rattle.pdu.proofs.SpoilingLaws.{read_spoils_none, spoiled_reads}
use Rattle.book.specs.Book.{marked}
use Rattle.machine.specs.Requests.{closing}
use Rattle.table.specs.Columns.{columns, note_of, place_word, entry_at, table_of, SoundTable}
use Rattle.table.specs.inner.Changes.{word_after, Closes}

-- a word that a live place may have
abbrev pub Fit : ℕ → Type 0
Fit n = Proper (what_of n) × (place_word (what_of n) (note_of n) ≡ n)

-- such a word, marked, is the marked word of what it asks, whether it was marked before or not
marked_is : (n : ℕ) → Fit n → with (word_of (what_of n)) closed_bit ≡ with n closed_bit
unfolding note_of place_word closed_in
marked_is n f =
    ⊎_elim
    (λ (t : closed_in n ≡ true). (rw t at f.1) ∙ sym (with_there n closed_bit (and_right (is_read (what_of n).asked) (has n closed_bit) t)))
    (λ (t : closed_in n ≡ false). ap (λ (x : ℕ). with x closed_bit) (rw t at f.1))
    (true_or (closed_in n))

-- a read that the marked word asks as well is closed there
marked_closed : (n : ℕ) → what_of (with n closed_bit) ≡ what_of n → is_read (what_of n).asked ≡ true → closed_in (with n closed_bit) ≡ true
unfolding closed_in
marked_closed n a r = rw (a, r) (in_with n closed_bit closed_bit ∙ or-true (has n closed_bit))

-- and of a read the marked word asks the same, and is that of a closed one
marked_word : (n : ℕ) → Fit n → is_read (what_of n).asked ≡ true → (what_of (with n closed_bit) ≡ what_of n) × (note_of (with n closed_bit) ≡ record { closed = true }) × Fit (with n closed_bit)
unfolding note_of place_word
marked_word n f r =
    let e = marked_is n f in
    let a : what_of (with n closed_bit) ≡ what_of n = rw e at (marked_back (what_of n) f.0 r) in
    let t = marked_closed n a r in
    (a, rw t, (rw a f.0, rw (a, t) e))

-- the word m asks what n asked, and says besides what becomes of that once the request of `word` was issued
abbrev Becomes : (word n m : ℕ) → Type 0
Becomes word n m = (what_of m ≡ what_of n) × (note_of m ≡ closing (what_of word) (what_of n) (note_of n)) × Fit m

after_word : (word id n : ℕ) → eqb id 0 ≡ false → Fit n → Becomes word n (word_after word id n)
unfolding closing
after_word word id n live f =
    ⊎_elim
    (λ (t : spoils (what_of word) (what_of n) ≡ true). let m = marked_word n f (spoiled_reads (what_of word) (what_of n) t) in rw (live, t) (m.0, m.1 ∙ rw (or-true (note_of n).closed) refl, m.2))
    (λ (t : spoils (what_of word) (what_of n) ≡ false). rw (live, t) (refl, rw (or-false (note_of n).closed) refl, f))
    (true_or (spoils (what_of word) (what_of n)))

-- the places below k are closed, and from k on the column is as it was
pub record ClosedTo (k word : ℕ) (is ws₀ ws : List ℕ) : Type 0 where
  pub long : length ws ≡ length ws₀
  pub done : (p : ℕ) → p < k → p < length ws₀ → get_or ws p 0 ≡ word_after word (get_or is p 0) (get_or ws₀ p 0)
  pub rest : (p : ℕ) → k ≤ p → get_or ws p 0 ≡ get_or ws₀ p 0

-- no place is closed yet
pub closed_none : (word : ℕ) (is ws : List ℕ) → ClosedTo 0 word is ws ws
closed_none word is ws = record { long = refl; done = λ p h l. absurd (omega arith); rest = λ p h. refl }

-- a read closes none
pub closed_read : (k word : ℕ) (is ws : List ℕ) → is_read (what_of word).asked ≡ true → ClosedTo k word is ws ws
closed_read k word is ws e =
    record { long = refl; done = λ p h l. rw (read_spoils_none (what_of word) (what_of (get_or ws p 0)) e, and-false (not (eqb (get_or is p 0) 0))); rest = λ p h. refl }

-- the turn at the place k
pub closed_next : (k word : ℕ) (is ws₀ ws : List ℕ) → ClosedTo k word is ws₀ ws → ClosedTo (k + 1) word is ws₀ (set ws k (word_after word (get_or is k 0) (get_or ws k 0)))
closed_next k word is ws₀ ws c = record {
  long = length-set ws k _ ∙ c.long;
  done = λ p h l. ⊎_elim
      (λ (q : p ≡ k). rw q (get_or-set_same ws k _ 0 (let e = c.long in omega arith) ∙ ap (word_after word (get_or is k 0)) (c.rest k (omega arith))))
      (λ (q : p ≡ k → ⊥). get_or-set_other ws k p _ 0 q ∙ c.done p (omega (arith, q)) l)
      (eq_or p k);
  rest = λ p l. get_or-set_other ws k p _ 0 (λ z. omega arith) ∙ c.rest p (omega arith);
}

-- Once the places below top are closed, the table has every entry so marked, and the columns are sound.
module _ (word top : ℕ) (is ws₀ ws : List ℕ) (c : ClosedTo top word is ws₀ ws) (n d m e o : List ℕ) (s : SoundTable (columns is ws₀ n d m e o top)) where
  live_word : (k : ℕ) → eqb (get_or is k 0) 0 ≡ false → Becomes word (get_or ws₀ k 0) (get_or ws k 0)
  live_word k live =
      let held = eqb-false (get_or is k 0) 0 live in
      ⊎_elim
      (λ (l : k < top). rw (c.done k l (let b = s.asked_long in let t = s.within in omega arith)) (after_word word (get_or is k 0) (get_or ws₀ k 0) live (s.proper k held)))
      (λ (l : top ≤ k). absurd (held (s.above k l)))
      (lt_or k top)

  closed_entry : (k : ℕ) → entry_at (columns is ws n d m e o top) k ≡ Option.map (marked (closing (what_of word))) (entry_at (columns is ws₀ n d m e o top) k)
  closed_entry k =
      ⊎_elim
      (λ (t : eqb (get_or is k 0) 0 ≡ true). rw t)
      (λ (t : eqb (get_or is k 0) 0 ≡ false). let a = live_word k t in rw (t, a.0, a.1))
      (true_or (eqb (get_or is k 0) 0))

  closed_table : table_of (columns is ws n d m e o top) ≡ map (Option.map (marked (closing (what_of word)))) (table_of (columns is ws₀ n d m e o top))
  unfolding table_of
  closed_table = tab_ext places _ _ (λ k l. closed_entry k) ∙ sym (map-tab (Option.map (marked (closing (what_of word)))) places (entry_at (columns is ws₀ n d m e o top)))

  closed_sound : SoundTable (columns is ws n d m e o top)
  closed_sound = record {
    ids-long = s.ids-long;
    asked_long = c.long ∙ s.asked_long;
    callers_long = s.callers_long;
    deadlines_long = s.deadlines_long;
    counts_long = s.counts_long;
    clients-long = s.clients-long;
    originals_long = s.originals_long;
    within = s.within;
    low = s.low;
    above = s.above;
    roomy = s.roomy;
    proper = λ k live. (live_word k (ne_eqb (get_or is k 0) 0 live)).2;
  }

pub closed_all : (word top : ℕ) (is ws₀ ws : List ℕ) → ClosedTo top word is ws₀ ws → Closes word top is ws₀ ws
closed_all word top is ws₀ ws c n d m e o s = (closed_table word top is ws₀ ws c n d m e o s, closed_sound word top is ws₀ ws c n d m e o s)
