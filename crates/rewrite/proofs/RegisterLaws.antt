-- Registers laid in a buffer and read from it: what was laid is read back, what was read changes nothing when laid, and every other byte stays.
-- Assumes nothing.
use Prim.Native.Nat.{ℕ, zero, suc, ◌+◌, ◌*◌, ◌/◌, ◌%◌, ◌≤◌, ◌<◌}
use mathlib.Core.Path.{◌≡◌, refl, ap, ◌∙◌}
use mathlib.Core.Logic.{⊎_elim, ◌⊎◌, inl, inr}
use mathlib.Core.Bool.{true}
use mathlib.Core.List.{List, [], ◌∷◌}
use native.Mathlib.Omega.{arith}
use lib.ListN.{length, get_or, set, take, drop}
use lib.Seq.{sets, get_or-set_other, length-sets}
use lib.Dec.{ltb}
use borrow.Author.Tests.{lt-ltb}
use Rattle.laws.specs.Bytes.{pair_at, put_at}
use Rattle.laws.specs.Digits.{below}
use Rattle.laws.proofs.ByteLaws.{length_put, pair_put, pair_put_other, put_put, put_comm, put_same}
use Rattle.laws.proofs.Choice.{and_right}
use Rattle.rewrite.specs.Registers.{registers_at, laid_at}
use Rattle.laws.proofs.StoreLaws.{set-sets, below_at}

-- Laying registers never changes the buffer's length.
pub length-laid : (k : ℕ) (rs d : List ℕ) → length (laid_at k rs d) ≡ length d
unfolding laid_at
length-laid k [] d = refl
length-laid k (r ∷ rs) d = length_put (laid_at (k + 2) rs d) k r ∙ length-laid (k + 2) rs d

-- As many registers are read as were asked for.
pub length-registers : (k n : ℕ) (d : List ℕ) → length (registers_at k n d) ≡ n
unfolding registers_at
length-registers k zero d = refl
length-registers k (suc n) d = ap suc (length-registers (k + 2) n d)

-- Registers read from bytes are 16 bits.
pub registers-below : (k n : ℕ) (d : List ℕ) → ((i : ℕ) → get_or d i 0 < 256) → below 65536 (registers_at k n d) ≡ true
unfolding registers_at below
registers-below k zero d b = refl
registers-below k (suc n) d b = rw (lt-ltb (pair_at d k) 65536 (omega (arith, b k, b (k + 1)))) (registers-below (k + 2) n d b)

-- The register at a place is the number in its two bytes.
pub register_at : (k n : ℕ) (d : List ℕ) (i : ℕ) → i < n → get_or (registers_at k n d) i 0 ≡ pair_at d (k + 2 * i)
unfolding registers_at
register_at k zero d i h = absurd (omega arith)
register_at k (suc n) d zero h = let e : k + 2 * 0 ≡ k = omega arith in rw e
register_at k (suc n) d (suc i) h = let e : k + 2 * suc i ≡ k + 2 + 2 * i = omega arith in rw e (register_at (k + 2) n d i (omega arith))

-- A part of the registers are the registers from further on.
pub registers_part : (k n : ℕ) (d : List ℕ) (j m : ℕ) → j + m ≤ n → take m (drop j (registers_at k n d)) ≡ registers_at (k + 2 * j) m d
unfolding registers_at
registers_part k n d zero zero h = refl
registers_part k zero d zero (suc m) h = absurd (omega arith)
registers_part k (suc n) d zero (suc m) h =
    let e : k + 2 * 0 ≡ k = omega arith in
    let f : k + 2 + 2 * 0 ≡ k + 2 = omega arith in
    rw e (ap (pair_at d k ∷◌) (rw f at (registers_part (k + 2) n d zero m (omega arith))))
registers_part k zero d (suc j) m h = absurd (omega arith)
registers_part k (suc n) d (suc j) m h =
    let e : k + 2 * suc j ≡ k + 2 + 2 * j = omega arith in
    rw e (registers_part (k + 2) n d j m (omega arith))

-- A byte before the registers or behind them stays.
pub laid_other : (k : ℕ) (rs d : List ℕ) (i : ℕ) → (i < k) ⊎ (k + 2 * length rs ≤ i) → get_or (laid_at k rs d) i 0 ≡ get_or d i 0
unfolding laid_at
laid_other k [] d i h = refl
laid_other k (r ∷ rs) d i h =
    get_or-set_other (set (laid_at (k + 2) rs d) k (r / 256)) (k + 1) i (r % 256) 0 (⊎_elim (λ b z. omega arith) (λ b z. omega arith) h)
    ∙ get_or-set_other (laid_at (k + 2) rs d) k i (r / 256) 0 (⊎_elim (λ b z. omega arith) (λ b z. omega arith) h)
    ∙ laid_other (k + 2) rs d i (⊎_elim (λ b. inl (omega arith)) (λ b. inr (omega arith)) h)

-- a register put into what was laid is stored in the list
put_laid : (k : ℕ) (rs d : List ℕ) (i v : ℕ) → i < length rs → put_at (laid_at k rs d) (k + 2 * i) v ≡ laid_at k (set rs i v) d
unfolding laid_at
put_laid k [] d i v h = absurd (omega arith)
put_laid k (r ∷ rs) d zero v h = let e : k + 2 * 0 ≡ k = omega arith in rw e (put_put (laid_at (k + 2) rs d) k r v)
put_laid k (r ∷ rs) d (suc i) v h =
    let e : k + 2 * suc i ≡ k + 2 + 2 * i = omega arith in
    rw e (put_comm (laid_at (k + 2) rs d) k r (k + 2 + 2 * i) v (omega arith) ∙ rw (put_laid (k + 2) rs d i v (omega arith)))

-- Registers laid over a part of what was laid are stored in the list.
pub laid_part : (k : ℕ) (ws rs d : List ℕ) (i : ℕ) → i + length ws ≤ length rs → laid_at (k + 2 * i) ws (laid_at k rs d) ≡ laid_at k (sets rs i ws) d
unfolding laid_at
laid_part k [] rs d i h = refl
laid_part k (w ∷ ws) rs d i h =
    let e : k + 2 * i + 2 ≡ k + 2 * suc i = omega arith in
    rw (e, laid_part k ws rs d (suc i) (omega arith))
    (put_laid k (sets rs (suc i) ws) d i w (rw (length-sets rs (suc i) ws) (omega arith)) ∙ rw (set-sets ws rs (suc i) i w (omega arith)))

-- What was read, laid where it stood, changes nothing.
pub laid-registers : (k n : ℕ) (d : List ℕ) → ((i : ℕ) → get_or d i 0 < 256) → laid_at k (registers_at k n d) d ≡ d
unfolding laid_at registers_at
laid-registers k zero d b = refl
laid-registers k (suc n) d b = rw (laid-registers (k + 2) n d b) (put_same d k (b (k + 1)))

registers_put : (j n : ℕ) (d : List ℕ) (k v : ℕ) → k + 1 < j → registers_at j n (put_at d k v) ≡ registers_at j n d
unfolding registers_at
registers_put j zero d k v h = refl
registers_put j (suc n) d k v h = rw (pair_put_other d k v j h, registers_put (j + 2) n d k v (omega arith))

-- What was laid is read back.
pub registers-laid : (k : ℕ) (rs d : List ℕ) → k + 2 * length rs ≤ length d → below 65536 rs ≡ true → registers_at k (length rs) (laid_at k rs d) ≡ rs
unfolding laid_at registers_at below
registers-laid k [] d h b = refl
registers-laid k (r ∷ rs) d h b =
    let l = length-laid (k + 2) rs d in
    rw (
      pair_put (laid_at (k + 2) rs d) k r (omega arith) (below_at 65536 (r ∷ rs) 0 b (omega arith)),
      registers_put (k + 2) (length rs) (laid_at (k + 2) rs d) k r (omega arith),
      registers-laid (k + 2) rs d (omega arith) (and_right (ltb r 65536) (below 65536 rs) b),
    )

laid_put : (j : ℕ) (rs d : List ℕ) (k v : ℕ) → k + 1 < j → laid_at j rs (put_at d k v) ≡ put_at (laid_at j rs d) k v
unfolding laid_at
laid_put j [] d k v h = refl
laid_put j (r ∷ rs) d k v h = rw (laid_put (j + 2) rs d k v (omega arith)) (put_comm (laid_at (j + 2) rs d) k v j r h)

-- Of two runs that are laid at one place the second stands there.
pub laid-laid : (k : ℕ) (rs rs' d : List ℕ) → length rs ≡ length rs' → laid_at k rs' (laid_at k rs d) ≡ laid_at k rs' d
unfolding laid_at
laid-laid k [] [] d e = refl
laid-laid k [] (r' ∷ rs') d e = absurd (omega arith)
laid-laid k (r ∷ rs) [] d e = absurd (omega arith)
laid-laid k (r ∷ rs) (r' ∷ rs') d e =
    rw (
      laid_put (k + 2) rs' (laid_at (k + 2) rs d) k r (omega arith),
      put_put (laid_at (k + 2) rs' (laid_at (k + 2) rs d)) k r r',
      laid-laid (k + 2) rs rs' d (omega arith),
    )
