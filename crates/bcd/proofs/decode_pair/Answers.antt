-- `bcd::decode_pair` meets its contract: the digits of the two registers are the digits of the pair.
use Prim.Native.Nat.{◌/◌}
use mathlib.Core.Path.{refl}
use Rattle.bcd.specs.Bcd.{decimal}
use Rattle.bcd.proofs.RegisterLaws.{pair_decoded, pair_refused}
use Rattle.bcd.proofs.decode_pair.Goals.{else-is_decimal-via-then-is_decimal+else-is_decimal-2, else-is_decimal-via-else-is_decimal}
use Rattle.bcd.proofs.decode_pair.Goals as goal

pub returns-then-is_decimal-2 : goal.returns-then-is_decimal-2
returns-then-is_decimal-2 c =
    rw (c.from.ensures, c.from-then-is_decimal-2.ensures)
    (pair_decoded 4 4 _ _ _ _ _ c.is_decimal.ensures c.is_decimal-then-is_decimal.ensures
    (rw (c.if-is_decimal.true, c.if-is_decimal-2.true)) c.unpack.ensures c.unpack-then-is_decimal-2.ensures)

pub returns-else-is_decimal : goal.returns-else-is_decimal
returns-else-is_decimal c =
    elim c.else-is_decimal.branch [
      | else-is_decimal-via-then-is_decimal+else-is_decimal-2 w ↦ pair_refused 4 4 _ _ _ c.is_decimal.ensures w.is_decimal-then-is_decimal.ensures (rw (w.if-is_decimal.true, w.if-is_decimal-2.false))
      | else-is_decimal-via-else-is_decimal w ↦ pair_refused 4 4 _ _ (decimal 4 (c.args.w / 65536)) c.is_decimal.ensures refl (rw w.if-is_decimal.false)
    ]
