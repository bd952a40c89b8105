-- `values::is_valid` meets its contract: the loop over the tags decides what the definition says of the value.
use native.Mathlib.Omega.{arith}
use Rattle.settings.proofs.ValueLaws.{checked_none, checked_more, refused, few, checked_all}
use Rattle.values.proofs.is_valid.Goals as goal

pub returns-then-not-head_right : goal.returns-then-not-head_right
returns-then-not-head_right c = refused _ c.head_right.ensures c.if-not-head_right.true

pub loop-k-init : goal.loop-k-init
loop-k-init c = (omega arith, few c.args.s.now c.head_right.ensures c.if-not-head_right.false, checked_none _)

pub loop-k-preserved : goal.loop-k-preserved
loop-k-preserved c =
    let l = c.loop-k in
    (omega arith, l.invariant.1, checked_more _ c.above-from.ensures.1 l.invariant.2 c.tag-tag.ensures c.tag_right-right.ensures c.above-from.ensures.0)

pub returns : goal.returns
returns c = checked_all _ c.head_right.ensures c.if-not-head_right.false (omega arith) c.loop-k.invariant.2
