-- What the changes of the columns do, place by place.
-- Assumes nothing.
use Rattle.std.specs.Prelude.{ℕ, zero, suc, ◌+◌, ◌≤◌, ◌<◌, ◌≡◌, cond, not, ◌&&◌, List, [], ◌∷◌, ◌++◌, map, length, get_or, replicate, eqb}
use Rattle.std.proofs.Math.Option
use Rattle.numbers.specs.Numbers.{places, room, party_places}
use Rattle.laws.specs.Bits.{with}
use Rattle.pdu.specs.Words.{what_of, closed_bit}
use Rattle.pdu.specs.Spoiling.{spoils}
use Rattle.book.specs.Book.{Party, is_of, without, marked}
use Rattle.machine.specs.Requests.{closing}
use Rattle.table.specs.Columns.{Columns, columns, run, parties_at, table_of, SoundTable}

-- the party columns have their lengths, and no place has more parties than there is room for
pub record Runs (ns cs os : List ℕ) : Type 0 where
  pub counts_long : length ns ≡ places
  pub clients-long : length cs ≡ party_places
  pub originals_long : length os ≡ party_places
  pub roomy : (k : ℕ) → get_or ns k 0 ≤ room

-- the place has one party more, and every other place the parties that it had
pub record Joined (place : ℕ) (p : Party) (ns cs os ns' cs' os' : List ℕ) : Type 0 where
  pub here : parties_at ns' cs' os' place ≡ parties_at ns cs os place ++ (p ∷ [])
  pub elsewhere : (k : ℕ) → (k ≡ place → ⊥) → parties_at ns' cs' os' k ≡ parties_at ns cs os k
  pub runs : Runs ns' cs' os'

-- both party columns have at i what they had
abbrev pub Alike : (cs os cs' os' : List ℕ) → ℕ → Type 0
Alike cs os cs' os' i = (get_or cs' i 0 ≡ get_or cs i 0) × (get_or os' i 0 ≡ get_or os i 0)

-- of the n parties from `base` on, those of other clients stand there without gaps and in their order, r of them; nothing else has changed
pub record StruckOut (base n client r : ℕ) (cs os cs' os' : List ℕ) : Type 0 where
  pub fewer : r ≤ n
  pub rest : run cs' os' base r ≡ without (is_of client) (run cs os base n)
  pub before : (i : ℕ) → i < base → Alike cs os cs' os' i
  pub behind : (i : ℕ) → base + n ≤ i → Alike cs os cs' os' i
  pub long : (length cs' ≡ length cs) × (length os' ≡ length os)

-- the client's parties are struck out of every place below top, the order of the rest stays, and every other place has the parties that it had
pub record Struck (top client : ℕ) (ns cs os ns' cs' os' : List ℕ) : Type 0 where
  pub below : (k : ℕ) → k < top → parties_at ns' cs' os' k ≡ without (is_of client) (parties_at ns cs os k)
  pub above : (k : ℕ) → top ≤ k → parties_at ns' cs' os' k ≡ parties_at ns cs os k
  pub runs : Runs ns' cs' os'

-- the word of a place with that id once the request of `word` was issued: with bit 32 where the place is live and what is asked there is spoiled, which only a read is
abbrev pub word_after : (word id held : ℕ) → ℕ
word_after word id held = cond (not (eqb id 0) && spoils (what_of word) (what_of held)) (with held closed_bit) held

-- the request of `word` closes what it spoils, whatever the other columns are: the table has each entry so marked, and sound columns stay sound
abbrev pub Closes : (word top : ℕ) (is ws ws' : List ℕ) → Type 0
Closes word top is ws ws' =
    (n d k c o : List ℕ) → SoundTable (columns is ws n d k c o top)
    → (table_of (columns is ws' n d k c o top) ≡ map (Option.map (marked (closing (what_of word)))) (table_of (columns is ws n d k c o top))) × SoundTable (columns is ws' n d k c o top)

-- one past the last live place below n
unfoldable pub reach : List ℕ → ℕ → ℕ
reach is zero = 0
reach is (suc n) = cond (eqb (get_or is n 0) 0) (reach is n) (suc n)

-- nothing live: zeros everywhere
unfoldable pub blank : Columns
blank =
    columns (replicate places 0) (replicate places 0) (replicate places 0) (replicate places 0) (replicate places 0) (replicate party_places 0)
    (replicate party_places 0) 0
