-- Each change of the columns is the book's move of that name, and keeps the columns sound.
-- Assumes nothing.
use Prim.Native.Nat.{ℕ, ◌+◌, ◌≤◌, ◌<◌}
use mathlib.Core.Path.{◌≡◌, ap, sym, ◌∙◌}
use mathlib.Core.Logic.{⊎_elim}
use mathlib.Core.Option
use mathlib.Core.Option.{some}
use mathlib.Core.List.{List, [], ◌∷◌, ◌++◌, map}
use lib.ListN.{get_or, set}
use lib.Dec.{eqb}
use Rattle.numbers.specs.Numbers.{ids, places}
use Rattle.laws.specs.Circle.{turn}
use Rattle.laws.proofs.Choice.{true_or, lt_or}
use Rattle.laws.proofs.ListLaws.{tab_ext, map-tab}
use Rattle.settings.specs.Grammar.{Value}
use Rattle.pdu.specs.declared.What.{What}
use Rattle.pdu.specs.Words.{what_of}
use Rattle.book.specs.Book.{Party, Live, book, entry, added, struck, marked, is_of, without, at, apply}
use Rattle.book.specs.Book.Move.{join, issue, reply, strike, mark}
use Rattle.machine.specs.Machine.{Note, opened, rules}
use Rattle.machine.specs.Requests.{closing}
use Rattle.table.specs.Columns.{Columns, columns, party, parties_at, entry_at, table_of, book_of, SoundTable}
use Rattle.table.specs.inner.Changes.{Joined, Struck, reach, blank}
use Rattle.table.proofs.EntryLaws.{table_at, table-set, with_parties, parties_sound, freed_at, freed_table, freed_sound, blank_sound}

-- other parties of one place: its entry has them, and is otherwise as it was
abbrev regrouped : (List Party → List Party) → Live What Note → Live What Note
regrouped g e = entry e.id e.what e.by e.note e.deadline (g e.parties)

regrouped_at : (g : List Party → List Party) (c : Columns) (ns cs os : List ℕ) (k : ℕ) → parties_at ns cs os k ≡ g (parties_at c.counts c.clients c.originals k)
    → entry_at (with_parties c ns cs os) k ≡ Option.map (regrouped g) (entry_at c k)
regrouped_at g c ns cs os k e = rw e (⊎_elim (λ t. rw t) (λ t. rw t) (true_or (eqb (get_or c.ids k 0) 0)))

module _ (v : Value) (x t : ℕ) (c : Columns) (s : SoundTable c) where
  -- A table with a new entry, and what that spoils closed, is the book after its issue and that closing, with the cursor behind its id.
  pub issue_is : (c' : Columns) (place id word deadline client original : ℕ)
      → table_of c' ≡ map (Option.map (marked (closing (what_of word)))) (set (table_of c) place (some (entry id (what_of word) client opened deadline (party client original ∷ []))))
      → book_of v c' (turn ids (id + 1)) t ≡ apply rules (apply rules (book_of v c x t) (issue place id (what_of word) opened deadline (party client original))) (mark (closing (what_of word)))
  issue_is c' place id word deadline client original e = ap (λ m. book v m (turn ids (id + 1)) t) e

  module _ (place : ℕ) (p : Party) (ns cs os : List ℕ) (low : place < places) (j : Joined place p c.counts c.clients c.originals ns cs os) where
    -- One party more at the place of a live entry is the book after the join.
    pub join_is : (e : Live What Note) (w : What) → at (book_of v c x t) place ≡ some e
        → book_of v (with_parties c ns cs os) x t ≡ apply rules (book_of v c x t) (join place e w p)
    join_is e w live =
        ap (λ m. book v m x t)
        (table-set c (with_parties c ns cs os) place (some (added p e)) low
        (regrouped_at (λ ps. ps ++ (p ∷ [])) c ns cs os place j.here ∙ ap (Option.map (added p)) (sym (table_at c place low) ∙ live))
        (λ k ne. rw (j.elsewhere k ne)))

    -- One party more keeps the columns sound.
    pub join_sound : SoundTable (with_parties c ns cs os)
    join_sound = parties_sound c ns cs os s j.runs

  module _ (place : ℕ) (is : List ℕ) (top : ℕ) (low : place < places) (f : (is ≡ set c.ids place 0) × (top ≡ reach is c.top)) where
    abbrev pub freed : Columns
    freed = columns is c.asked c.callers c.deadlines c.counts c.clients c.originals top

    freed_is : freed ≡ freed_at c s place low
    freed_is = rw (f.1, f.0)

    -- A freed place is the book after the reply to the entry that stood there.
    pub remove_is_reply : (e : Live What Note) → book_of v freed x t ≡ apply rules (book_of v c x t) (reply place e)
    remove_is_reply e = ap (λ m. book v m x t) (ap table_of freed_is ∙ freed_table c s place low)

    -- A freed place keeps the columns sound.
    pub remove_sound : SoundTable freed
    remove_sound = rw freed_is (freed_sound c s place low)

  module _ (client : ℕ) (ns cs os : List ℕ) (d : Struck c.top client c.counts c.clients c.originals ns cs os) where
    struck-at : (k : ℕ) → entry_at (with_parties c ns cs os) k ≡ Option.map (struck client) (entry_at c k)
    struck-at k =
        ⊎_elim
        (λ (l : k < c.top). regrouped_at (without (is_of client)) c ns cs os k (d.below k l))
        (λ (l : c.top ≤ k). rw (s.above k l))
        (lt_or k c.top)

    -- The client struck out of the places below top is the book after the strike.
    pub strike_is : book_of v (with_parties c ns cs os) x t ≡ apply rules (book_of v c x t) (strike client)
    unfolding table_of
    strike_is =
        ap (λ m. book v m x t) (tab_ext places _ _ (λ k l. struck-at k) ∙ sym (map-tab (Option.map (struck client)) places (entry_at c)))

    -- A strike keeps the columns sound.
    pub strike_sound : SoundTable (with_parties c ns cs os)
    strike_sound = parties_sound c ns cs os s d.runs

-- Columns of zeros are sound, whatever the columns were.
pub clear_sound : (c' : Columns) → c' ≡ blank → SoundTable c'
clear_sound c' e = rw e blank_sound
