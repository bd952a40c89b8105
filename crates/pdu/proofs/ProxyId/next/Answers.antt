-- `pdu::ProxyId::next` meets its contract: the last id turns to 0, any other to its successor.
use Prim.Native.Nat.{◌+◌}
use mathlib.Core.Logic.{⊎_elim}
use native.Mathlib.Omega.{arith}
use Rattle.numbers.specs.Numbers.{ids}
use Rattle.laws.proofs.CircleLaws.{turn_or}
use Rattle.pdu.proofs.ProxyId.next.Goals as goal

pub returns-then-self-eq-LAST_ID : goal.returns-then-self-eq-LAST_ID
returns-then-self-eq-LAST_ID c = ⊎_elim (λ w. omega (arith, w)) (λ w. omega (arith, w)) (turn_or ids (c.args.self.0 + 1))

pub returns : goal.returns
returns c = ⊎_elim (λ w. omega (arith, w)) (λ w. omega (arith, w)) (turn_or ids (c.args.self.0 + 1))
