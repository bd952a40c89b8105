use native.Mathlib.Omega.{arith}
use Prim.Native.Nat.{◌≤◌}
use Rattle.parts.proofs.DigitLaws.{prefix_len_of_le}
use Rattle.parts.proofs.DigitLaws.{digit_count_le}
use Rattle.parts.proofs.digits.decimal.Goals as goal
use Rattle.parts.proofs.digits.decimal.Goals.{After-digit_count-k}

-- twenty digits hold a u64
count_fits : (c : goal.After-digit_count-k) → c.digit_count-k.result ≤ 20
count_fits c = digit_count_le 10 1 c.args.n c.digit_count-k.result 20 (omega arith) c.digit_count-k.ensures (omega arith) (omega arith)

pub write_digits-requires : goal.write_digits-requires
write_digits-requires c = omega (arith, count_fits (goal.at.write_digits-requires c).After-digit_count-k)

pub returns : goal.returns
returns c = record { in_bounds = prefix_len_of_le _ _ (omega (arith, count_fits (goal.at.returns c).After-digit_count-k)); len = c.digit_count-k.ensures; digits = c.write_digits.ensures.digits; rest = c.write_digits.ensures.rest }
