-- An array that a loop fills place by place is, once every place is filled, the list that it is filled from.
-- Assumes nothing.
use Prim.Native.Nat.{ℕ, ◌+◌, ◌≤◌, ◌<◌}
use mathlib.Core.Path.{◌≡◌, sym, ◌∙◌}
use mathlib.Core.Logic.{⊎_elim}
use mathlib.Core.List.{List}
use native.Mathlib.Omega.{arith}
use lib.ListN.{length, get_or, set, length-set}
use lib.Seq.{get_or-set_same, get_or-set_other, ext_get_or}
use Rattle.laws.proofs.Choice.{eq_or}

module _ {A : Type 0} where
  -- n places, of which the first k are as in t; d is what no place holds
  pub record Filled (n : ℕ) (d : A) (t c : List A) (k : ℕ) : Type 0 where
    pub long : length c ≡ n
    pub same : (j : ℕ) → j < k → get_or c j d ≡ get_or t j d

  pub filled_none : (n : ℕ) (d : A) (t c : List A) → length c ≡ n → Filled n d t c 0
  filled_none n d t c l = record { long = l; same = λ j h. absurd (omega arith) }

  -- a store at the next place
  pub filled_more : (n : ℕ) (d : A) (t c : List A) (k : ℕ) (v : A) → k < n → Filled n d t c k → v ≡ get_or t k d → Filled n d t (set c k v) (k + 1)
  filled_more n d t c k v l f e =
      record {
        long = length-set c k v ∙ f.long;
        same = λ j h. ⊎_elim
            (λ (q : j ≡ k). rw q (get_or-set_same c k v d (omega (arith, f.long)) ∙ e))
            (λ (q : j ≡ k → ⊥). get_or-set_other c k j v d q ∙ f.same j (omega (arith, q)))
            (eq_or j k);
      }

  pub filled_all : (n : ℕ) (d : A) (t c : List A) (k : ℕ) → n ≤ k → length t ≡ n → Filled n d t c k → c ≡ t
  filled_all n d t c k h l f = ext_get_or d c t (f.long ∙ sym l) (λ i b. f.same i (omega (arith, f.long)))
