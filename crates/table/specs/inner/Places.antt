-- The tests by which the code picks a place, on the columns.
-- Assumes nothing.
use Rattle.std.specs.Prelude.{ℕ, zero, suc, ◌+◌, ◌≤◌, ◌≡◌, Bool, false, not, ◌&&◌, ◌||◌, List, get_or, eqb, ltb, leb}
use Rattle.numbers.specs.Numbers.{ids, places, room}
use Rattle.laws.specs.Search.{first}
use Rattle.laws.specs.Circle.{turn}

-- the place is free; it is live; it is live under that id
abbrev pub is_free : List ℕ → ℕ → Bool
is_free is k = eqb (get_or is k 0) 0

abbrev pub is_taken : List ℕ → ℕ → Bool
is_taken is k = not (is_free is k)

abbrev pub holds : List ℕ → ℕ → ℕ → Bool
holds is id k = eqb (get_or is k 0) (id + 1)

-- it is live, asks that word, has room for one more party, and its deadline is later than now
abbrev pub is_open : (ids asked deadlines counts : List ℕ) → (word time : ℕ) → ℕ → Bool
is_open is ws ds ns word time k =
    is_taken is k && (eqb (get_or ws k 0) word && (ltb (get_or ns k 0) room && ltb time (get_or ds k 0)))

-- it is live and its deadline is at or before now
abbrev pub is_due : (ids deadlines : List ℕ) → ℕ → ℕ → Bool
is_due is ds time k = is_taken is k && leb (get_or ds k 0) time

-- a smaller id; an earlier deadline, and of equal deadlines a smaller id
abbrev pub is_lower : List ℕ → ℕ → ℕ → Bool
is_lower is j k = ltb (get_or is j 0) (get_or is k 0)

abbrev pub is_sooner : (ids deadlines : List ℕ) → ℕ → ℕ → Bool
is_sooner is ds j k = ltb (get_or ds j 0) (get_or ds k 0) || (eqb (get_or ds j 0) (get_or ds k 0) && ltb (get_or is j 0) (get_or is k 0))

-- one of the places below n is live under that id
unfoldable pub live_id : List ℕ → ℕ → ℕ → Bool
live_id is zero id = false
live_id is (suc n) id = holds is id n || live_id is n id

-- the first id that is not live, from the cursor upward and past the last to 0
abbrev pub free_id_from : List ℕ → ℕ → ℕ → ℕ
free_id_from is top cursor = turn ids (cursor + first (λ j. not (live_id is top (turn ids (cursor + j)))) places)

-- where a scan may stop: no place from top on is live
pub record Topped (is : List ℕ) (top : ℕ) : Type 0 where
  pub within : top ≤ places
  pub above : (k : ℕ) → top ≤ k → get_or is k 0 ≡ 0
