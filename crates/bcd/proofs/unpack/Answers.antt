-- `bcd::unpack` meets its contract: the definition written out for four nibbles.
use Prim.Native.Nat.{ℕ, ◌+◌, ◌*◌, ◌-◌, ◌/◌, ◌%◌, ◌<◌}
use mathlib.Core.Path.{◌≡◌}
use native.Mathlib.Omega.{arith}
use Rattle.laws.specs.Digits.{digits, value}
use Rattle.bcd.specs.Bcd.{unpacked}
use Rattle.bcd.proofs.unpack.Goals as goal

-- the upper nibble of each byte weighs 6 less, then the upper byte 156 less
lighter : (w p q r s : ℕ) → p < 16 → q < 16 → w ≡ p + 16 * (q + 16 * (r + 16 * s))
    → w - 6 * (q + 256 * s) - 156 * ((w - 6 * (q + 256 * s)) / 256) ≡ p + 10 * (q + 10 * (r + 10 * s))
lighter w p q r s l m e =
    let y : w - 6 * (q + 256 * s) ≡ p + 10 * q + 256 * (r + 10 * s) = omega arith in
    rw y (omega arith)

pub returns : goal.returns
unfolding unpacked digits value
returns c =
    let w = c.args.w in
    let top : w / 16 / 16 / 16 % 16 + 0 ≡ w / 16 / 16 / 16 = omega arith in
    rw top (lighter w (w % 16) (w / 16 % 16) (w / 16 / 16 % 16) (w / 16 / 16 / 16) (omega arith) (omega arith) (omega arith))
