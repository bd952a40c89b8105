-- `bcd::pack` meets its contract: each product holds a quotient, one division takes the three, and with these it is the definition written out for four digits.
use Prim.Native.Nat.{ℕ, ◌+◌, ◌*◌, ◌/◌, ◌<◌}
use mathlib.Core.Path.{◌≡◌}
use native.Mathlib.Omega.{arith}
use Rattle.laws.specs.Digits.{digits, value}
use Rattle.bcd.specs.Bcd.{packed}
use Rattle.bcd.proofs.pack.Goals as goal

-- quotients that stand a nibble apart are taken together
apart : (t h k : ℕ) → (t + h * 524288 + k * 8388608) / 32768 ≡ t / 32768 + 16 * (h + 16 * k)
apart t h k = omega arith

-- a digit carries at 10 and a nibble at 16
heavier : (n tens hundreds thousands : ℕ) → n < 10000 → tens / 32768 ≡ n / 10 → hundreds ≡ n / 10 / 10 → thousands ≡ n / 10 / 10 / 10
    → n + 6 * ((tens + hundreds * 524288 + thousands * 8388608) / 32768) ≡ packed 4 n
unfolding packed digits value
heavier n tens hundreds thousands l e f g = rw (apart tens hundreds thousands, e, f, g) (omega arith)

pub returns : goal.returns
returns c = rw c.from-v.ensures (heavier c.args.n _ _ _ c.requires (omega arith) (omega arith) (omega arith))
