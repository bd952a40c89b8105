-- `settingstext::reading::number_in` meets its contract: the digits so far are a number.
use Prim.Native.Nat.{◌+◌}
use Rattle.settingstext.proofs.PlaceLaws.{rest_from, counted_none, counted_end, counted-done, counted_asks, counted_wrong, counted_more, refused}
use Rattle.settingstext.proofs.reading.number_in.Goals as goal

pub loop-next-init : goal.loop-next-init
loop-next-init c = counted_none _

pub returns-then-byte-next : goal.returns-then-byte-next
returns-then-byte-next c = rw (rest_from (c.loop-next.next + 1) c.args.text.now) (counted-done _ _ _ c.loop-next.invariant c.loop-next-test.true c.if-byte-next.true)

pub returns-then-byte-number : goal.returns-then-byte-number
returns-then-byte-number c = refused _ (counted_wrong _ _ _ c.loop-next.invariant c.loop-next-test.true c.if-byte-next.false c.if-byte-number.true)

pub grown-number-requires : goal.grown-number-requires
grown-number-requires c = counted_asks _ _ _ c.loop-next.invariant c.loop-next-test.true c.if-byte-number.false

pub loop-next-preserved : goal.loop-next-preserved
loop-next-preserved c = rw c.grown-number.ensures (counted_more _ _ _ c.loop-next.invariant c.loop-next-test.true c.if-byte-number.false)

pub returns : goal.returns
returns c = refused _ (counted_end _ _ _ c.loop-next.invariant c.loop-next-test.false)
