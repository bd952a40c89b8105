-- `bcd::value_of` meets its contract: a value in the range is a word.
use mathlib.Core.Logic.{⊎_elim}
use native.Mathlib.Omega.{arith}
use Prim.Native.Nat.{◌≤◌}
use Rattle.bcd.proofs.RoundTrip.{range_signed}
use Rattle.bcd.proofs.value_of.Goals as goal

pub overflow_cast-v : goal.overflow_cast-v
overflow_cast-v c =
    let v = c.args.v in
    record { fits = ⊎_elim (λ (l : v ≤ 999). omega arith) (λ (l : (64537 ≤ v) × (v ≤ 65535)). omega arith) ((range_signed v).0 c.requires) }
