use native.Mathlib.Omega.{arith}
use Prim.Native.Nat.{◌≤◌, min, max}
use mathlib.Core.Path.{◌≡◌}
use Rattle.parts.proofs.DigitLaws.{prefix_len_of_le}
use Rattle.parts.proofs.DigitLaws.{digit_count_le}
use Rattle.parts.proofs.digits.hex.Goals as goal
use Rattle.parts.proofs.digits.hex.Goals.{After-digit_count-k}

-- sixteen digits hold a u64
count_fits : (c : goal.After-digit_count-k) → c.digit_count-k.result ≤ 16
count_fits c = digit_count_le 16 c.clamp.result c.args.n c.digit_count-k.result 16 (omega arith) c.digit_count-k.ensures (omega arith) (omega arith)

pub write_digits-requires : goal.write_digits-requires
write_digits-requires c = omega (arith, count_fits (goal.at.write_digits-requires c).After-digit_count-k)

pub returns : goal.returns
returns c =
    let n = c.args.n in
    let least : c.clamp.result ≡ min (max c.args.width 1) 16 = omega arith in
    let fewest = rw least at c.digit_count-k.ensures in
    record { in_bounds = prefix_len_of_le _ _ (omega (arith, count_fits (goal.at.returns c).After-digit_count-k)); len = fewest; digits = c.write_digits.ensures.digits; rest = c.write_digits.ensures.rest }
