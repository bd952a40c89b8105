-- The search for a free id: what it has passed, that it ends, and that it ends at the first id that is not live.
-- Assumes nothing.
use Prim.Native.Nat.{ℕ, zero, suc, ◌+◌, ◌≤◌, ◌<◌}
use mathlib.Core.Path.{◌≡◌, refl, ap, sym, ◌∙◌}
use mathlib.Core.Logic.{⊎_elim}
use mathlib.Core.Bool.{true, false, not, or-true, true≢false}
use mathlib.Core.List.{List}
use native.Mathlib.Omega.{arith}
use borrow.Author.Count.{below_more}
use lib.ListN.{get_or}
use borrow.Author.Tests.{eqb-true}
use Rattle.numbers.specs.Numbers.{ids, places}
use Rattle.laws.specs.Circle.{turn, gap}
use Rattle.laws.proofs.Choice.{true_or, eq_or, or_second}
use Rattle.laws.proofs.PigeonLaws.{crowd}
use Rattle.laws.proofs.CircleLaws.{turn_inj, turn_gap, gap-low, turn_low, gap-next}
use Rattle.table.specs.inner.Places.{holds, live_id, free_id_from}
use Rattle.laws.proofs.SearchLaws.{first_is}

-- An id that stands at a place is live.
pub live_yes : (is : List ℕ) (n id k : ℕ) → k < n → holds is id k ≡ true → live_id is n id ≡ true
unfolding live_id
live_yes is zero id k h t = absurd (omega arith)
live_yes is (suc n) id k h t =
    ⊎_elim
    (λ (q : k ≡ n). let e : holds is id n ≡ true = rw q at t in rw e)
    (λ (q : k ≡ n → ⊥). rw (live_yes is n id k (omega (arith, q)) t) (or-true (holds is id n)))
    (eq_or k n)

-- An id that stands at no place is not live.
pub live_no : (is : List ℕ) (n id : ℕ) → ((k : ℕ) → k < n → holds is id k ≡ false) → live_id is n id ≡ false
unfolding live_id
live_no is zero id h = refl
live_no is (suc n) id h = rw (h n (omega arith)) (live_no is n id (λ k l. h k (omega arith)))

-- A live id stands at a place.
pub live_place_lem : (is : List ℕ) (n id : ℕ) → live_id is n id ≡ true → (k : ℕ) × (k < n) × (get_or is k 0 ≡ id + 1)
unfolding live_id
live_place_lem is zero id t = absurd (true≢false (sym t))
live_place_lem is (suc n) id t =
    ⊎_elim
    (λ (e : holds is id n ≡ true). (n, omega arith, eqb-true _ _ e))
    (λ (e : holds is id n ≡ false). let w = live_place_lem is n id (or_second _ _ e t) in (w.0, omega (arith, w.1), w.2))
    (true_or (holds is id n))

-- the search stands at `id`, and every id from the cursor up to it is live
pub record Walk (is : List ℕ) (top cursor id : ℕ) : Type 0 where
  pub start : cursor < ids
  pub here : id < ids
  pub passed : (j : ℕ) → j < gap ids cursor id → live_id is top (turn ids (cursor + j)) ≡ true

module _ (is : List ℕ) (top cursor : ℕ) where
  -- As many live ids in a row as there are places, and no more.
  crowded : (n : ℕ) → cursor < ids → n ≤ ids → ((j : ℕ) → j < n → live_id is top (turn ids (cursor + j)) ≡ true) → n ≤ top
  crowded n h l b =
      crowd top n is (λ j. turn ids (cursor + j) + 1) (λ j z. live_place_lem is top _ (b j z))
      (λ i j p q e. turn_inj ids cursor i j h (omega arith) (omega arith) (omega arith))

  module _ {id : ℕ} (small : top ≤ places) (w : Walk is top cursor id) where
    -- It has passed no more ids than there are places.
    pub walk_near : gap ids cursor id ≤ top
    walk_near = crowded (gap ids cursor id) w.start (let l = gap-low ids cursor id w.start w.here in omega arith) w.passed

    module _ (live : live_id is top id ≡ true) where
      more : (j : ℕ) → j < gap ids cursor id + 1 → live_id is top (turn ids (cursor + j)) ≡ true
      more = below_more _ _ w.passed (rw (turn_gap ids cursor id w.start w.here) live)

      -- At a live id it has passed fewer than there are places.
      pub walk_nearer : gap ids cursor id < top
      walk_nearer =
          let l = gap-low ids cursor id w.start w.here in
          omega (arith, crowded (gap ids cursor id + 1) w.start (omega arith) more)

      -- From a live id it goes one on.
      pub walk_on : {next : ℕ} → next ≡ turn ids (id + 1) → Walk is top cursor next × (gap ids cursor next ≡ gap ids cursor id + 1)
      walk_on {next} e =
          let g : gap ids cursor next ≡ gap ids cursor id + 1 = ap (gap ids cursor) e ∙ gap-next ids cursor id w.start w.here (let l = walk_nearer in omega arith) in
          (record { start = w.start; here = rw e (turn_low ids (id + 1) (let h = w.here in omega arith)); passed = rw g more }, g)

    -- At an id that is not live it has found the first free one.
    pub walk_ends : live_id is top id ≡ false → id ≡ free_id_from is top cursor
    walk_ends free =
        let z = turn_gap ids cursor id w.start w.here in
        sym (ap (λ (s : ℕ). turn ids (cursor + s))
        (sym (first_is (λ j. not (live_id is top (turn ids (cursor + j)))) places (gap ids cursor id) (let l = walk_near in omega arith) (λ j h. rw (w.passed j h)) (λ l. rw (z, free))))
        ∙ z)
