-- `parts::digits::write_digits` meets its contract. The loop's invariant: the digits still to write, and then those written, are the digits of n.
use Rattle.std.proofs.Common.{◌≡◌, ◌++◌, drop}
use Rattle.std.proofs.Math.Seq.{slice}
use Rattle.parts.specs.Digits.{last_digits}
use Rattle.parts.proofs.digits.write_digits.Given as goal

abbrev pub invariant-loop-i : goal.invariant-loop-i
invariant-loop-i l = (last_digits l.base l.i l.rest ++ slice l.i l.k l.out ≡ last_digits l.base l.k l.n) × (drop l.k l.out ≡ drop l.k l.initial.out)
