-- The lowest refusal of a list of rows: a row that applies is told, a row that does not is passed over, and the rows behind others are heard where none of those applies.
-- Assumes nothing.
use Prim.Native.Nat.{ℕ}
use mathlib.Core.Path.{◌≡◌, refl}
use mathlib.Core.Bool.{Bool, true, false, cond}
use mathlib.Core.List.{List, [], ◌∷◌, ◌++◌}
use lib.Dec.{eqb}
use borrow.Author.Tests.{ne_eqb}
use Rattle.machine.specs.Refusals.{Row, row, lowest}

-- A row that applies is the lowest; a row that does not is passed over; past the last row it is 0.
pub applies : (n : ℕ) {t : Bool} (rs : List Row) → t ≡ true → n ≡ lowest (row n t ∷ rs)
unfolding lowest
applies n rs e = rw e

pub none_left : 0 ≡ lowest []
unfolding lowest
none_left = refl

pub passes : {n : ℕ} (k : ℕ) {t : Bool} (rs : List Row) → t ≡ false → n ≡ lowest rs → n ≡ lowest (row k t ∷ rs)
unfolding lowest
passes k rs e l = rw e l

-- Where none is told, no row applies.
pub none-applies : (t : Bool) (n : ℕ) (rs : List Row) → (n ≡ 0 → ⊥) → lowest (row n t ∷ rs) ≡ 0 → (t ≡ false) × (lowest rs ≡ 0)
unfolding lowest
none-applies true n rs h e = absurd (h e)
none-applies false n rs h e = (refl, e)

-- The lowest refusal of a list, and of what stands behind it where none of it applies.
abbrev pub Splits : List Row → Type 0
Splits qs = (rs : List Row) → lowest (qs ++ rs) ≡ cond (eqb (lowest qs) 0) (lowest rs) (lowest qs)

pub split-none : Splits []
unfolding lowest
split-none rs = refl

pub split_more : (n : ℕ) (t : Bool) (qs : List Row) → (n ≡ 0 → ⊥) → Splits qs → Splits (row n t ∷ qs)
unfolding lowest
split_more n true qs h s rs = rw (ne_eqb n 0 h)
split_more n false qs h s rs = s rs
