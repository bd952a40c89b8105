-- Searches, counts and sums over the numbers below a bound.
-- Assumes nothing.
use Rattle.std.specs.Prelude.{ℕ, zero, suc, ◌+◌, Bool, cond, ◌&&◌, ◌||◌, eqb, ltb}

-- of the places 0 .. n - 1 that pass `test`, the one that beats all others (the first of those that tie), and `none` where no place passes
unfoldable pub best : (ℕ → Bool) → (ℕ → ℕ → Bool) → ℕ → ℕ → ℕ
best test beats none zero = none
best test beats none (suc k) =
    cond (test k && (eqb (best test beats none k) none || beats k (best test beats none k))) k
    (best test beats none k)

-- of the places 0 .. n - 1 that pass `test` the least f, and `most` where no place passes or none is below that
unfoldable pub least : (ℕ → Bool) → (ℕ → ℕ) → ℕ → ℕ → ℕ
least test f most zero = most
least test f most (suc k) = cond (test k && ltb (f k) (least test f most k)) (f k) (least test f most k)

-- the first of 0 .. n - 1 that passes, and n where none does
unfoldable pub first : (ℕ → Bool) → ℕ → ℕ
first test zero = 0
first test (suc n) = cond (test 0) 0 (suc (first (λ k. test (suc k)) n))

-- how many of 0 .. n - 1 pass
unfoldable pub count : (ℕ → Bool) → ℕ → ℕ
count test zero = 0
count test (suc n) = cond (test n) 1 0 + count test n

-- f 0 + f 1 + .. + f (n - 1)
unfoldable pub total : (ℕ → ℕ) → ℕ → ℕ
total f zero = 0
total f (suc n) = f n + total f n
