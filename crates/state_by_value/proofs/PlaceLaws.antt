-- A place that was made of its numbers in the columns has these numbers where it is live; its word, where that is one that a live place may have. A free place has 0 in each.
-- Assumes nothing.
use Prim.Native.Nat.{ℕ, ◌≤◌}
use mathlib.Core.Path.{◌≡◌}
use mathlib.Core.Logic.{⊎_elim}
use mathlib.Core.Bool.{true, false}
use native.Mathlib.Omega.{arith}
use lib.Dec.{eqb}
use borrow.Author.Tests.{eqb-true, eqb-false, ne_eqb}
use Rattle.numbers.specs.Numbers.{ids}
use Rattle.laws.proofs.Choice.{true_or}
use Rattle.pdu.specs.Words.{entry_of}
use Rattle.pdu.proofs.WordLaws.{entry-what}
use Rattle.table.specs.Columns.{note_of}
use Rattle.table.proofs.ClosingLaws.{Fit}
use Rattle.state_by_value.specs.Places.{place_of, number_of, word_in, caller_of, deadline_of, count_of, id_in}

module _ (n w c d k : ℕ) where
  -- The number of ids comes back: 0 for a free place, else at most one more than the last id.
  pub number_back : n ≤ ids → number_of (place_of n w c d k) ≡ n
  unfolding number_of place_of entry_of id_in
  number_back h =
      ⊎_elim
      (λ (t : eqb n 0 ≡ true). let z = eqb-true n 0 t in rw z)
      (λ (t : eqb n 0 ≡ false). let z = eqb-false n 0 t in rw t (omega (arith, z)))
      (true_or (eqb n 0))

  -- No more parties wait than the columns say.
  pub count_within : count_of (place_of n w c d k) ≤ k
  unfolding place_of
  count_within = ⊎_elim (λ (t : eqb n 0 ≡ true). rw t (omega arith)) (λ (t : eqb n 0 ≡ false). rw t (omega arith)) (true_or (eqb n 0))

  -- a place that is not free
  module _ (live : n ≡ 0 → ⊥) where
    -- Its word comes back: that of what was asked, with bit 32 where it is a read that is closed.
    pub word_made : Fit w → word_in (place_of n w c d k) ≡ w
    unfolding word_in place_of note_of
    word_made f = rw (ne_eqb n 0 live, entry-what (id_in n) w d) f.1

    -- Its other numbers come back as they are.
    pub caller_back : caller_of (place_of n w c d k) ≡ c
    unfolding place_of
    caller_back = rw (ne_eqb n 0 live)

    pub deadline_back : deadline_of (place_of n w c d k) ≡ d
    unfolding place_of entry_of
    deadline_back = rw (ne_eqb n 0 live)

    pub count_back : count_of (place_of n w c d k) ≡ k
    unfolding place_of
    count_back = rw (ne_eqb n 0 live)
